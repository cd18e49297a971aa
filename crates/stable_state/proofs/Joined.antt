-- What an edit of one chunk does to all slots, and to what chunks have over half.
use Rattle.std.proofs.Common.{◌≡◌, ℕ, zero, suc, ◌+◌, ◌-◌, ◌<◌, ◌≤◌, List, [], ◌∷◌, ◌++◌, length, get_or, take, drop, set, All, refl, ap, sym, ◌∙◌, subst, arith, add-one, append_assoc, length-drop, length-take-le, length-set}
use Rattle.std.specs.List.{concat, insert, remove, remove_range}
use Rattle.std.proofs.Math.Seq.{take-append-add, drop-append-add}
use Rattle.std.proofs.lemmas.List.{set_split, set-get_or, drop-append-le, take-append-le, take-append-drop, take_all, take-set, drop-set-lt, get_or-set_same}
use Rattle.std.proofs.lemmas.List.Edits.{length-insert, insert-append_left, insert-append_right}
use Rattle.std.proofs.lemmas.List.Folds.{concat-append}
use Rattle.std.proofs.lemmas.List.Elements.{All-append, All-cons, All-nil, All-take, All-drop}
use Rattle.stable_state.specs.Chunks.{IsHome, opened}
use Rattle.stable_state.specs.OrderFields.{excess_of, IsOpen}

pub excess_append : (parts more : List (List ℕ)) → excess_of (parts ++ more) ≡ excess_of parts + excess_of more
excess_append [] more = omega arith
excess_append (part ∷ parts) more = omega (arith, excess_append parts more)

-- ---- chunks with one in use at least

pub concat_opened : (parts : List (List ℕ)) → concat (opened parts) ≡ concat parts
concat_opened [] = refl
concat_opened (part ∷ parts) = refl

pub excess_opened : (parts : List (List ℕ)) → excess_of (opened parts) ≡ excess_of parts
excess_opened [] = refl
excess_opened (part ∷ parts) = refl

pub length_opened : (parts : List (List ℕ)) → length (opened parts) ≡ length parts + (1 - length parts)
length_opened [] = omega arith
length_opened (part ∷ parts) = omega arith

-- those around one are as they were
pub before_open : (parts : List (List ℕ)) (k : ℕ) → k < length (opened parts) → All IsOpen parts → All IsOpen (take k (opened parts))
before_open [] zero l all = All-nil IsOpen
before_open [] (suc k) l all = absurd (omega (arith, l))
before_open (part ∷ parts) k l all = All-take IsOpen k (part ∷ parts) all

pub behind_open : (parts : List (List ℕ)) (k : ℕ) → All IsOpen parts → All IsOpen (drop (suc k) (opened parts))
behind_open [] zero all = All-nil IsOpen
behind_open [] (suc k) all = All-nil IsOpen
behind_open (part ∷ parts) k all = All-drop IsOpen (suc k) (part ∷ parts) all

pub short_opened : (parts : List (List ℕ)) → All IsOpen parts → All (λ part. length part < 256) (opened parts)
short_opened [] all = All-cons (λ part. length part < 256) [] [] (omega arith) (All-nil (λ part. length part < 256))
short_opened (part ∷ parts) all = λ k d l. (all k d l).short

-- ---- one chunk becomes another

module _ (parts : List (List ℕ)) (k : ℕ) (l : k < length parts) where
  set_parts : (part : List ℕ) → set parts k part ≡ take k parts ++ part ∷ drop (suc k) parts
  set_parts part = set_split parts k part l

  pub concat_set : (part : List ℕ) → concat (set parts k part) ≡ concat (take k parts) ++ (part ++ concat (drop (suc k) parts))
  concat_set part = ap concat (set_parts part) ∙ concat-append (take k parts) (part ∷ drop (suc k) parts)

  pub concat_is : concat parts ≡ concat (take k parts) ++ (get_or parts k [] ++ concat (drop (suc k) parts))
  concat_is = ap concat (sym (set-get_or parts k [])) ∙ concat_set (get_or parts k [])

  excess_with : (part : List ℕ) → excess_of (set parts k part) ≡ excess_of (take k parts) + ((length part - 128) + excess_of (drop (suc k) parts))
  excess_with part = ap excess_of (set_parts part) ∙ excess_append (take k parts) (part ∷ drop (suc k) parts)

  excess_is : excess_of parts ≡ excess_of (take k parts) + ((length (get_or parts k []) - 128) + excess_of (drop (suc k) parts))
  excess_is = ap excess_of (sym (set-get_or parts k [])) ∙ excess_with (get_or parts k [])

  pub excess_set : (part : List ℕ) → excess_of (set parts k part) + (length (get_or parts k []) - 128) ≡ excess_of parts + (length part - 128)
  excess_set part = omega (arith, excess_with part, excess_is)

  pub slots_put : (place slot : ℕ) → length (concat (take k parts)) ≤ place → place ≤ length (concat (take k parts)) + length (get_or parts k [])
      → concat (set parts k (insert (get_or parts k []) (place - length (concat (take k parts))) slot)) ≡ insert (concat parts) place slot
  slots_put place slot from to =
      let before = concat (take k parts) in
      let part = get_or parts k [] in
      let behind = concat (drop (suc k) parts) in
      let at = place - length before in
      concat_set (insert part at slot)
      ∙ ap (λ xs. before ++ xs) (sym (insert-append_left part behind at slot (omega (arith, to))))
      ∙ sym (insert-append_right before (part ++ behind) (length before) place slot refl from)
      ∙ ap (λ xs. insert xs place slot) (sym concat_is)

  pub slots_cut : (from to : ℕ) → from ≤ to → to ≤ length (get_or parts k [])
      → concat (set parts k (remove_range (get_or parts k []) from to)) ≡ remove_range (concat parts) (length (concat (take k parts)) + from) (length (concat (take k parts)) + to)
  slots_cut from to ordered within =
      let before = concat (take k parts) in
      let part = get_or parts k [] in
      let behind = concat (drop (suc k) parts) in
      let start = length before in
      let front : take (start + from) (before ++ (part ++ behind)) ≡ before ++ take from part =
      take-append-add before (part ++ behind) from ∙ ap (λ xs. before ++ xs) (take-append-le from part behind (omega (arith, ordered, within))) in
      let back : drop (start + to) (before ++ (part ++ behind)) ≡ drop to part ++ behind =
      drop-append-add before (part ++ behind) to ∙ drop-append-le to part behind within in
      concat_set (remove_range part from to)
      ∙ ap (λ xs. before ++ xs) (append_assoc (take from part) (drop to part) behind)
      ∙ sym (append_assoc before (take from part) (drop to part ++ behind))
      ∙ sym (ap (λ xs. xs ++ drop (start + to) (before ++ (part ++ behind))) front ∙ ap (λ xs. (before ++ take from part) ++ xs) back)
      ∙ ap (λ xs. remove_range xs (start + from) (start + to)) (sym concat_is)

  pub slots_run : (first : ℕ) → first ≤ length (get_or parts k [])
      → take (length (concat (take k parts)) + length (get_or parts k [])) (concat parts) ≡ take (length (concat (take k parts)) + first) (concat parts) ++ drop first (get_or parts k [])
  slots_run first within =
      front (length part) (omega arith)
      ∙ ap (λ xs. before ++ xs) (take_all (length part) part (omega arith) ∙ sym (take-append-drop first part))
      ∙ sym (append_assoc before (take first part) (drop first part)) ∙ ap (λ xs. xs ++ drop first part) (sym (front first within)) where
        before : List ℕ
        before = concat (take k parts)

        part : List ℕ
        part = get_or parts k []

        behind : List ℕ
        behind = concat (drop (suc k) parts)

        front : (n : ℕ) → n ≤ length part → take (length before + n) (concat parts) ≡ before ++ take n part
        front n le = ap (take (length before + n)) concat_is ∙ take-append-add before (part ++ behind) n ∙ ap (λ xs. before ++ xs) (take-append-le n part behind le)

  pub slots_split : (n : ℕ) → concat (take k parts ++ take n (get_or parts k []) ∷ drop n (get_or parts k []) ∷ drop (k + 1) parts) ≡ concat parts
  slots_split n =
      let before = concat (take k parts) in
      let part = get_or parts k [] in
      let behind = concat (drop (suc k) parts) in
      ap (λ j. concat (take k parts ++ take n part ∷ drop n part ∷ drop j parts)) (add-one k)
      ∙ concat-append (take k parts) (take n part ∷ drop n part ∷ drop (suc k) parts)
      ∙ ap (λ xs. before ++ xs) (sym (append_assoc (take n part) (drop n part) behind) ∙ ap (λ xs. xs ++ behind) (take-append-drop n part))
      ∙ sym concat_is

  pub excess_split : (n : ℕ) → excess_of (take k parts ++ take n (get_or parts k []) ∷ drop n (get_or parts k []) ∷ drop (k + 1) parts) + (length (get_or parts k []) - 128)
      ≡ excess_of parts + ((length (take n (get_or parts k [])) - 128) + (length (drop n (get_or parts k [])) - 128))
  excess_split n =
      let part = get_or parts k [] in
      omega (arith, ap (λ j. excess_of (take k parts ++ take n part ∷ drop n part ∷ drop j parts)) (add-one k), excess_append (take k parts) (take n part ∷ drop n part ∷ drop (suc k) parts), excess_is)

  pub slots_remove : get_or parts k [] ≡ [] → concat (remove parts k) ≡ concat parts
  slots_remove none =
      concat-append (take k parts) (drop (suc k) parts)
      ∙ ap (λ xs. concat (take k parts) ++ (xs ++ concat (drop (suc k) parts))) (sym none) ∙ sym concat_is

  pub excess_remove : get_or parts k [] ≡ [] → excess_of (remove parts k) ≡ excess_of parts
  excess_remove none = omega (arith, excess_append (take k parts) (drop (suc k) parts), excess_is, ap length none)

  pub remove_set : (part : List ℕ) → remove (set parts k part) k ≡ remove parts k
  remove_set part = ap (λ xs. xs ++ drop (suc k) (set parts k part)) (take-set parts k part) ∙ ap (λ xs. take k parts ++ xs) (drop-set-lt (suc k) parts k part (omega arith))

-- ---- a slot put into a chunk of those that may have been opened for it

module _ (parts : List (List ℕ)) (k : ℕ) (part : List ℕ) (l : k < length (opened parts)) (all : All IsOpen parts) where
  pub put_open : IsOpen part → All IsOpen (set (opened parts) k part)
  put_open open_part =
      subst (All IsOpen) (sym (set_split (opened parts) k part l))
      (All-append IsOpen (take k (opened parts)) (part ∷ drop (suc k) (opened parts)) (before_open parts k l all) (All-cons IsOpen part (drop (suc k) (opened parts)) open_part (behind_open parts k all)))

  pub split_open : (lower upper : List ℕ) → IsOpen lower → IsOpen upper → All IsOpen (take k (set (opened parts) k part) ++ lower ∷ upper ∷ drop (k + 1) (set (opened parts) k part))
  split_open lower upper low up =
      let front : take k (set (opened parts) k part) ≡ take k (opened parts) = take-set (opened parts) k part in
      let back : drop (k + 1) (set (opened parts) k part) ≡ drop (suc k) (opened parts) = drop-set-lt (k + 1) (opened parts) k part (omega arith) ∙ ap (λ j. drop j (opened parts)) (add-one k) in
      subst (All IsOpen) (sym (ap (λ xs. xs ++ lower ∷ upper ∷ drop (k + 1) (set (opened parts) k part)) front ∙ ap (λ xs. take k (opened parts) ++ lower ∷ upper ∷ xs) back))
      (All-append IsOpen (take k (opened parts)) (lower ∷ upper ∷ drop (suc k) (opened parts)) (before_open parts k l all)
      (All-cons IsOpen lower (upper ∷ drop (suc k) (opened parts)) low (All-cons IsOpen upper (drop (suc k) (opened parts)) up (behind_open parts k all))))

-- what is known once a slot is put in
pub record WasPut (parts : List (List ℕ)) (place slot k : ℕ) (new : List (List ℕ)) : Type 0 where
  pub within : k < length (opened parts)
  pub part : new ≡ set (opened parts) k (get_or new k [])
  pub some : 0 < length (get_or new k [])
  pub short : length (get_or new k []) ≤ 256
  pub slots : concat new ≡ insert (concat parts) place slot
  pub excess : excess_of new + (length (get_or new k []) - 129) ≡ excess_of parts + (length (get_or new k []) - 128)
  pub count : length new ≡ length parts + (1 - length parts)

pub was_put : (parts : List (List ℕ)) (place slot k : ℕ) (new : List (List ℕ)) → IsHome (opened parts) place k → All IsOpen parts
    → new ≡ set (opened parts) k (insert (get_or (opened parts) k []) (place - length (concat (take k (opened parts)))) slot) → WasPut parts place slot k new
was_put parts place slot k new home all is =
    let at = place - length (concat (take k (opened parts))) in
    let old = get_or (opened parts) k [] in
    let part : get_or new k [] ≡ insert old at slot = ap (λ ps. get_or ps k []) is ∙ get_or-set_same (opened parts) k (insert old at slot) [] home.within in
    let long : length (get_or new k []) ≡ length old + 1 = ap length part ∙ length-insert old at slot (omega (arith, home.ends)) in
    record {
      within = home.within;
      part = is ∙ ap (set (opened parts) k) (sym part);
      some = omega (arith, long);
      short = omega (arith, long, short_opened parts all k [] home.within);
      slots = ap concat is ∙ slots_put (opened parts) k home.within place slot home.begins home.ends ∙ ap (λ xs. insert xs place slot) (concat_opened parts);
      excess = omega (arith, excess_set (opened parts) k home.within (insert old at slot), ap excess_of is, excess_opened parts, long, ap length part);
      count = ap length is ∙ length-set (opened parts) k (insert old at slot) ∙ length_opened parts;
    }

-- and once the chunk that is full then is parted
pub split_excess : (parts : List (List ℕ)) (place slot k : ℕ) (new : List (List ℕ)) → WasPut parts place slot k new → length (get_or new k []) ≡ 256
    → excess_of (take k new ++ take 128 (get_or new k []) ∷ drop 128 (get_or new k []) ∷ drop (k + 1) new) + 127 ≡ excess_of parts
split_excess parts place slot k new put long =
    let part = get_or new k [] in
    let l : k < length new = omega (arith, put.within, ap length put.part, length-set (opened parts) k part) in
    omega (arith, put.excess, long, excess_split new k l 128, length-drop 128 part, length-take-le 128 part (omega (arith, long)))
