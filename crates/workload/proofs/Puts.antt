-- Lines that are put at the end of a text, one behind another.
use Rattle.std.proofs.Common.{◌≡◌, ℕ, ◌+◌, ◌<◌, List, [], ◌∷◌, ◌++◌, length, min, map, take, drop, get_or, sym, ap, ◌∙◌, arith, refl}
use Rattle.std.specs.List.{zip}
use Rattle.std.proofs.lemmas.Grind.{flat_map-append}
use Rattle.std.proofs.lemmas.List.{append_assoc, append-nil, take_more, map-append, length-map, get_or-map, take-append-drop, take_all, length_push}
use Rattle.std.proofs.Math.Seq.{take-append_seam}
use Rattle.std.proofs.lemmas.Slice.Zip.{length-zip, get_or-zip}
use Rattle.workload.specs.Summary.{ended, told_reply}

-- a text that begins with so much begins with its front
pub begins_still : (front more so_far text : List ℕ) → so_far ≡ front ++ more → take (length so_far) text ≡ so_far → take (length front) text ≡ front
begins_still front more so_far text is begins =
    let rest = drop (length so_far) text in
    let whole : text ≡ front ++ (more ++ rest) = sym (take-append-drop (length so_far) text) ∙ ap (λ t. t ++ rest) (begins ∙ is) ∙ append_assoc front more rest in
    ap (take (length front)) whole ∙ take-append_seam front (more ++ rest)

-- one line more
pub ended_more : (before so_far text : List ℕ) (lines : List (List ℕ)) (line : List ℕ) → so_far ≡ before ++ ended lines → text ≡ so_far ++ (line ++ 10 ∷ [])
    → text ≡ before ++ ended (lines ++ line ∷ [])
ended_more before so_far text lines line is put =
    let more : ended (lines ++ line ∷ []) ≡ ended lines ++ (line ++ 10 ∷ []) =
    flat_map-append (λ l. l ++ 10 ∷ []) lines (line ∷ []) ∙ ap (λ t. ended lines ++ t) (append-nil (line ++ 10 ∷ [])) in
    put ∙ ap (λ t. t ++ (line ++ 10 ∷ [])) is ∙ append_assoc before (ended lines) (line ++ 10 ∷ []) ∙ ap (λ t. before ++ t) (sym more)

-- lines and replies in pairs, as texts
module _ {X Y : Type 0} (f : X → List ℕ) (g : Y → List ℕ) (xs : List X) (ys : List Y) where
  abbrev pairs : List (List ℕ × List ℕ)
  pairs = zip (map f xs) (map g ys)

  length-pairs : length pairs ≡ min (length xs) (length ys)
  length-pairs = length-zip (map f xs) (map g ys) ∙ rw (length-map xs f, length-map ys g) refl

  -- one pair more
  pairs_more : (i : ℕ) (x : X) (y : Y) → i < length xs → i < length ys → x ≡ get_or xs i x → y ≡ get_or ys i y → take (i + 1) pairs ≡ take i pairs ++ (f x, g y) ∷ []
  pairs_more i x y in_xs in_ys is_x is_y =
      let first : get_or (map f xs) i (f x) ≡ f x = get_or-map f xs i x (f x) in_xs ∙ ap f (sym is_x) in
      let second : get_or (map g ys) i (g y) ≡ g y = get_or-map g ys i y (g y) in_ys ∙ ap g (sym is_y) in
      let at : get_or pairs i (f x, g y) ≡ (f x, g y) =
      get_or-zip (map f xs) (map g ys) i (f x, g y) (omega (arith, length-map xs f)) (omega (arith, length-map ys g)) ∙ (λ j. (first j, second j)) in
      take_more pairs i (f x, g y) (omega (arith, length-pairs)) ∙ ap (λ p. take i pairs ++ p ∷ []) at

  -- the lines of so many pairs as were taken, where one more is
  pub replies_more : {P : Type 0} (taken : List P) (p : P) (x : X) (y : Y) → length taken < length xs → length taken < length ys → x ≡ get_or xs (length taken) x → y ≡ get_or ys (length taken) y
      → map told_reply (take (length (taken ++ p ∷ [])) pairs) ≡ map told_reply (take (length taken) pairs) ++ told_reply (f x, g y) ∷ []
  replies_more taken p x y in_xs in_ys is_x is_y =
      ap (λ n. map told_reply (take n pairs)) (length_push taken p) ∙ ap (map told_reply) (pairs_more (length taken) x y in_xs in_ys is_x is_y)
      ∙ map-append told_reply (take (length taken) pairs) ((f x, g y) ∷ [])

  -- all of them
  pub pairs_all : (n : ℕ) → n ≡ min (length xs) (length ys) → take n pairs ≡ pairs
  pairs_all n is = take_all n pairs (omega (arith, length-pairs))
