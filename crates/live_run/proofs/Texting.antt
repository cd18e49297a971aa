-- A text with one part more.
use Rattle.std.proofs.Common.{◌≡◌, ℕ, zero, suc, ◌+◌, ◌<◌, List, [], ◌∷◌, ◌++◌, length, take, get_or, map, sym, ap, ◌∙◌, arith}
use Rattle.std.specs.List.{flat_map}
use Rattle.std.proofs.Math.Seq.{take-suc}
use Rattle.std.proofs.lemmas.Grind.{flat_map-append}
use Rattle.std.proofs.lemmas.List.{append-nil, append_assoc, length-take-le, map-append, map-id, length-map}
use Rattle.std.proofs.lemmas.List.FromFn.{map-range_with_len_more}
use Rattle.causal_model.specs.Counts.{members}
use Rattle.live_run.specs.Texts.{told_line, told_lines, reply_lines}
use Rattle.live_run.specs.declared.told.Told.{Told}

take_next : {X : Type 0} (xs : List X) (i : ℕ) (x : X) → i < length xs → x ≡ get_or xs i x → take (i + 1) xs ≡ take i xs ++ x ∷ []
take_next xs i x inside is =
    let next : i + 1 ≡ suc i = omega arith in
    ap (λ k. take k xs) next ∙ take-suc xs i x inside ∙ ap (λ y. take i xs ++ y ∷ []) (sym is)

-- a part more, as the whole has it
part_more : (old out new part whole longer : List ℕ) → out ≡ old ++ whole → new ≡ out ++ part → longer ≡ whole ++ part → new ≡ old ++ longer
part_more old out new part whole longer is more same = more ∙ ap (λ o. o ++ part) is ∙ append_assoc old whole part ∙ ap (λ l. old ++ l) (sym same)

-- ---- what clients were told

told_lines_push : (c i : ℕ) (ts : List Told) (t : Told) → told_lines c i (ts ++ t ∷ []) ≡ told_lines c i ts ++ told_line c (i + length ts) t
told_lines_push c i [] t = let same : i ≡ i + 0 = omega arith in append-nil (told_line c i t) ∙ ap (λ k. told_line c k t) same
told_lines_push c i (x ∷ ts) t =
    let same : i + 1 + length ts ≡ i + length (x ∷ ts) = omega arith in
    ap (λ l. told_line c i x ++ l) (told_lines_push c (i + 1) ts t ∙ ap (λ k. told_lines c (i + 1) ts ++ told_line c k t) same)
    ∙ sym (append_assoc (told_line c i x) (told_lines c (i + 1) ts) (told_line c (i + length (x ∷ ts)) t))

pub told_more : (c i : ℕ) (told : List Told) (t : Told) (old out new : List ℕ) → i < length told → t ≡ get_or told i t
    → out ≡ old ++ told_lines c 1 (take i told) → new ≡ out ++ told_line c (i + 1) t → new ≡ old ++ told_lines c 1 (take (i + 1) told)
told_more c i told t old out new inside is before more =
    let place : 1 + length (take i told) ≡ i + 1 = omega (arith, length-take-le i told (omega (arith, inside))) in
    part_more old out new (told_line c (i + 1) t) (told_lines c 1 (take i told)) (told_lines c 1 (take (i + 1) told)) before more
    (ap (told_lines c 1) (take_next told i t inside is) ∙ told_lines_push c 1 (take i told) t ∙ ap (λ k. told_lines c 1 (take i told) ++ told_line c k t) place)

reply_lines_push : (c : ℕ) (lists : List (List Told)) (ts : List Told) → reply_lines c (lists ++ ts ∷ []) ≡ reply_lines c lists ++ told_lines (c + length lists) 1 ts
reply_lines_push c [] ts = let same : c ≡ c + 0 = omega arith in append-nil (told_lines c 1 ts) ∙ ap (λ k. told_lines k 1 ts) same
reply_lines_push c (first ∷ lists) ts =
    let same : c + 1 + length lists ≡ c + length (first ∷ lists) = omega arith in
    ap (λ l. told_lines c 1 first ++ l) (reply_lines_push (c + 1) lists ts ∙ ap (λ k. reply_lines (c + 1) lists ++ told_lines k 1 ts) same)
    ∙ sym (append_assoc (told_lines c 1 first) (reply_lines (c + 1) lists) (told_lines (c + length (first ∷ lists)) 1 ts))

pub replies_more : {X : Type 0} (f : X → List Told) (c : ℕ) (told : List X) (x : X) (old out new : List ℕ) → c < length told → x ≡ get_or told c x
    → out ≡ old ++ reply_lines 0 (map f (take c told)) → new ≡ out ++ told_lines c 1 (f x) → new ≡ old ++ reply_lines 0 (map f (take (c + 1) told))
replies_more f c told x old out new inside is before more =
    let place : 0 + length (map f (take c told)) ≡ c = omega (arith, length-map (take c told) f, length-take-le c told (omega (arith, inside))) in
    part_more old out new (told_lines c 1 (f x)) (reply_lines 0 (map f (take c told))) (reply_lines 0 (map f (take (c + 1) told))) before more
    (ap (λ l. reply_lines 0 (map f l)) (take_next told c x inside is) ∙ ap (reply_lines 0) (map-append f (take c told) (x ∷ []))
    ∙ reply_lines_push 0 (map f (take c told)) (f x) ∙ ap (λ k. reply_lines 0 (map f (take c told)) ++ told_lines k 1 (f x)) place)

-- ---- what is said of each member

members_push : (r : ℕ) → members (r + 1) ≡ members r ++ r ∷ []
members_push r = sym (map-id (members (r + 1))) ∙ map-range_with_len_more (λ (x : ℕ). x) 0 r r (omega arith) ∙ ap (λ l. l ++ r ∷ []) (map-id (members r))

pub member_more : (f : ℕ → List ℕ) (r : ℕ) (old out new : List ℕ) → out ≡ old ++ flat_map f (members r) → new ≡ out ++ f r → new ≡ old ++ flat_map f (members (r + 1))
member_more f r old out new before more =
    part_more old out new (f r) (flat_map f (members r)) (flat_map f (members (r + 1))) before more
    (ap (flat_map f) (members_push r) ∙ flat_map-append f (members r) (r ∷ []) ∙ ap (λ l. flat_map f (members r) ++ l) (append-nil (f r)))

pub value_at : {X Y : Type 0} (f : X → Y) (xs : List X) (i : ℕ) (x : X) (d : Y) → i < length xs → x ≡ get_or xs i x → f x ≡ get_or (map f xs) i d
value_at f [] i x d inside is = let no : ⊥ = omega (arith, inside) in absurd no
value_at f (y ∷ xs) zero x d inside is = ap f is
value_at f (y ∷ xs) (suc i) x d inside is = value_at f xs i x d (omega (arith, inside)) is
