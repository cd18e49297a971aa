-- Lists that lie one behind the other, and the places at which they end.
use Rattle.std.proofs.Common.{◌≡◌, ℕ, zero, suc, ◌+◌, ◌-◌, ◌*◌, ◌<◌, ◌≤◌, List, [], ◌∷◌, ◌++◌, length, get_or, take, drop, map, set, true, false, ltb, All, refl, ap, sym, ◌∙◌, arith, inl, inr, add-zero, add-one, zero-add, length-append, length-drop, ◌^◌, ltb-true, ltb-false}
use Rattle.std.specs.List.{concat, insert, remove}
use Rattle.std.specs.Prelude.{Vec}
use Rattle.std.specs.List.Sorted.{IsPartitionPoint, IsPartitionedBy}
use Rattle.std.specs.declared.alloc.Global.{Global}
use Rattle.std.proofs.lemmas.List.{length-map, get_or-drop, set_split, drop_more, append_assoc, take_more_set, drop-set-lt, map-append, take-map, drop-map, take_all, get_or-map}
use Rattle.std.proofs.lemmas.List.Sorted.{IsPartitionedBy-ltb}
use Rattle.std.proofs.lemmas.Bool.{cases_lt}
use Rattle.std.proofs.lemmas.List.Elements.{All-head, All-tail, All-map, All-weaker}
use Rattle.stable_state.specs.Chunks.{Chunked, IsHome, ends_from}
use Rattle.stable_state.specs.ChunkFields.{parts_of, chunked, IsChunk, IsChunked}
use Rattle.stable_state.specs.declared.chunks.Chunks.TheInside.{Inside}

pub length_ends : (start : ℕ) (parts : List (List ℕ)) → length (ends_from start parts) ≡ length parts
length_ends start [] = refl
length_ends start (part ∷ parts) = ap suc (length_ends (start + length part) parts)

pub ends_append : (start : ℕ) (parts more : List (List ℕ)) → ends_from start (parts ++ more) ≡ ends_from start parts ++ ends_from (start + length (concat parts)) more
ends_append start [] more = ap (λ n. ends_from n more) (sym (add-zero start))
ends_append start (part ∷ parts) more =
    let sum : (start + length part) + length (concat parts) ≡ start + length (part ++ concat parts) = omega (arith, length-append part (concat parts)) in
    ap (λ ends. (start + length part) ∷ ends) (ends_append (start + length part) parts more ∙ ap (λ n. ends_from (start + length part) parts ++ ends_from n more) sum)

pub take_ends : (k start : ℕ) (parts : List (List ℕ)) → take k (ends_from start parts) ≡ ends_from start (take k parts)
take_ends zero start parts = refl
take_ends (suc k) start [] = refl
take_ends (suc k) start (part ∷ parts) = ap (λ ends. (start + length part) ∷ ends) (take_ends k (start + length part) parts)

pub drop_ends : (k start : ℕ) (parts : List (List ℕ)) → drop k (ends_from start parts) ≡ ends_from (start + length (concat (take k parts))) (drop k parts)
drop_ends zero start parts = ap (λ n. ends_from n parts) (sym (add-zero start))
drop_ends (suc k) start [] = refl
drop_ends (suc k) start (part ∷ parts) =
    let sum : (start + length part) + length (concat (take k parts)) ≡ start + length (part ++ concat (take k parts)) = omega (arith, length-append part (concat (take k parts))) in
    drop_ends k (start + length part) parts ∙ ap (λ n. ends_from n (drop k parts)) sum

pub raised_ends : (start : ℕ) (parts : List (List ℕ)) → map (λ end. end + 1) (ends_from start parts) ≡ ends_from (start + 1) parts
raised_ends start [] = refl
raised_ends start (part ∷ parts) =
    let sum : (start + length part) + 1 ≡ (start + 1) + length part = omega arith in
    ap (λ end. end ∷ map (λ e. e + 1) (ends_from (start + length part) parts)) sum
    ∙ ap (λ ends. ((start + 1) + length part) ∷ ends) (raised_ends (start + length part) parts ∙ ap (λ n. ends_from n parts) sum)

pub lowered_ends : (start by : ℕ) (parts : List (List ℕ)) → by ≤ start → map (λ end. end - by) (ends_from start parts) ≡ ends_from (start - by) parts
lowered_ends start by [] le = refl
lowered_ends start by (part ∷ parts) le =
    let sum : (start + length part) - by ≡ (start - by) + length part = omega (arith, le) in
    ap (λ end. end ∷ map (λ e. e - by) (ends_from (start + length part) parts)) sum
    ∙ ap (λ ends. ((start - by) + length part) ∷ ends) (lowered_ends (start + length part) by parts (omega (arith, le)) ∙ ap (λ n. ends_from n parts) sum)

pub end_at : (parts : List (List ℕ)) (start k d : ℕ) → k < length parts → get_or (ends_from start parts) k d ≡ start + length (concat (take k parts)) + length (get_or parts k [])
end_at [] start k d l = absurd (omega (arith, l))
end_at (part ∷ parts) start zero d l = omega arith
end_at (part ∷ parts) start (suc k) d l =
    omega (arith, end_at parts (start + length part) k d (omega (arith, l)), length-append part (concat (take k parts)))

-- the slots before the chunk behind one are those before it, and its own
pub start_more : (parts : List (List ℕ)) (k : ℕ) → k < length parts → length (concat (take (suc k) parts)) ≡ length (concat (take k parts)) + length (get_or parts k [])
start_more [] k l = absurd (omega (arith, l))
start_more (part ∷ parts) zero l = omega (arith, length-append part [])
start_more (part ∷ parts) (suc k) l =
    omega (arith, start_more parts k (omega (arith, l)), length-append part (concat (take k parts)), length-append part (concat (take (suc k) parts)))

pub start_le : (parts : List (List ℕ)) (k : ℕ) → length (concat (take k parts)) ≤ length (concat parts)
start_le parts zero = omega arith
start_le [] (suc k) = omega arith
start_le (part ∷ parts) (suc k) = omega (arith, start_le parts k, length-append part (concat (take k parts)), length-append part (concat parts))

pub slots_le : (parts : List (List ℕ)) → All (λ part. length part ≤ 256) parts → length (concat parts) ≤ 256 * length parts
slots_le [] short = omega arith
slots_le (part ∷ parts) short =
    omega (arith, All-head (λ p. length p ≤ 256) part parts short, slots_le parts (All-tail (λ p. length p ≤ 256) part parts short), length-append part (concat parts))

-- chunks begin no earlier than those before them
pub starts_rise : (parts : List (List ℕ)) (i j : ℕ) → i ≤ j → length (concat (take i parts)) ≤ length (concat (take j parts))
starts_rise parts zero j le = omega arith
starts_rise [] (suc i) j le = omega arith
starts_rise (part ∷ parts) (suc i) zero le = absurd (omega (arith, le))
starts_rise (part ∷ parts) (suc i) (suc j) le = omega (arith, starts_rise parts i j (omega (arith, le)), length-append part (concat (take i parts)), length-append part (concat (take j parts)))

-- a chunk ends where the next begins
pub end_is : (parts : List (List ℕ)) (k d : ℕ) → k < length parts → get_or (ends_from 0 parts) k d ≡ length (concat (take (suc k) parts))
end_is parts k d l = omega (arith, end_at parts 0 k d l, start_more parts k l)

pub last_end : (parts : List (List ℕ)) (d : ℕ) → 0 < length parts → get_or (ends_from 0 parts) (length parts - 1) d ≡ length (concat parts)
last_end parts d some =
    end_is parts (length parts - 1) d (omega (arith, some)) ∙ ap (λ ps. length (concat ps)) (take_all (suc (length parts - 1)) parts (omega (arith, some)))

pub ends_parted : (parts : List (List ℕ)) (place : ℕ) → IsPartitionedBy (λ end. ltb end place) (ends_from 0 parts)
ends_parted parts place = IsPartitionedBy-ltb (λ x. x) (ends_from 0 parts) place (λ i j d le l.
    let within : j < length parts = omega (arith, l, length_ends 0 parts) in
    omega (arith, end_is parts i d (omega (arith, le, within)), end_is parts j d within, starts_rise parts (suc i) (suc j) (omega (arith, le))))

pub home_is : (parts : List (List ℕ)) (place k : ℕ) → 0 < length parts → place ≤ length (concat parts) → k ≤ length parts
    → IsPartitionPoint (λ end. ltb end place ≡ true) (λ end. ltb end place ≡ false) (ends_from 0 parts) k → IsHome parts place k
home_is parts place zero some inside le point = record {
  within = some;
  begins = omega arith;
  begins_before = λ more. omega (arith, more);
  ends = omega (arith, ltb-false _ _ (point.1 0 0 (omega arith) (omega (arith, some, length_ends 0 parts))), end_at parts 0 0 0 some);
}
home_is parts place (suc k) some inside le point =
    let before : length (concat (take (suc k) parts)) < place = omega (arith, ltb-true _ _ (point.0 k 0 (omega arith) (omega arith)), end_is parts k 0 (omega (arith, le))) in
    let within : suc k < length parts = elim (cases_lt (suc k) (length parts)) [
      | inl less ↦ less
      | inr past ↦ absurd (omega (arith, before, inside, ap (λ ps. length (concat ps)) (take_all (suc k) parts past)))
    ] in
    record {
      within = within;
      begins = omega (arith, before);
      begins_before = λ _. before;
      ends = omega (arith, ltb-false _ _ (point.1 (suc k) 0 (omega arith) (omega (arith, within, length_ends 0 parts))), end_at parts 0 (suc k) 0 within);
    }

-- ---- what an edit of one chunk does to the ends

module _ (parts : List (List ℕ)) (k : ℕ) (l : k < length parts) where
  -- the ends from the chunk's on
  rest_is : drop k (ends_from 0 parts) ≡ (length (concat (take k parts)) + length (get_or parts k [])) ∷ ends_from (length (concat (take k parts)) + length (get_or parts k [])) (drop (k + 1) parts)
  rest_is = drop_ends k 0 parts ∙ ap (λ n. ends_from n (drop k parts)) (zero-add (length (concat (take k parts)))) ∙ ap (ends_from (length (concat (take k parts)))) (drop_more parts k [] l)

  -- the ends where others stand in its place
  ends_with : (more : List (List ℕ)) → ends_from 0 (take k parts ++ more) ≡ take k (ends_from 0 parts) ++ ends_from (length (concat (take k parts))) more
  ends_with more =
      ends_append 0 (take k parts) more ∙ ap (λ n. ends_from 0 (take k parts) ++ ends_from n more) (zero-add (length (concat (take k parts))))
      ∙ ap (λ ends. ends ++ ends_from (length (concat (take k parts))) more) (sym (take_ends k 0 parts))

  set_is : (part : List ℕ) (n : ℕ) → length (concat (take k parts)) + length part ≡ n → ends_from 0 (set parts k part) ≡ take k (ends_from 0 parts) ++ n ∷ ends_from n (drop (k + 1) parts)
  set_is part n at =
      ap (ends_from 0) (set_split parts k part l ∙ ap (λ j. take k parts ++ part ∷ drop j parts) (sym (add-one k))) ∙ ends_with (part ∷ drop (k + 1) parts)
      ∙ ap (λ m. take k (ends_from 0 parts) ++ m ∷ ends_from m (drop (k + 1) parts)) at

  pub ends_put : (part : List ℕ) → length part ≡ length (get_or parts k []) + 1 → take k (ends_from 0 parts) ++ map (λ e. e + 1) (drop k (ends_from 0 parts)) ≡ ends_from 0 (set parts k part)
  ends_put part long =
      let e = length (concat (take k parts)) + length (get_or parts k []) in
      ap (λ ends. take k (ends_from 0 parts) ++ map (λ e. e + 1) ends) rest_is
      ∙ ap (λ ends. take k (ends_from 0 parts) ++ (e + 1) ∷ ends) (raised_ends e (drop (k + 1) parts))
      ∙ sym (set_is part (e + 1) (omega (arith, long)))

  pub ends_cut : (part : List ℕ) (by : ℕ) → length part + by ≡ length (get_or parts k []) → take k (ends_from 0 parts) ++ map (λ e. e - by) (drop k (ends_from 0 parts)) ≡ ends_from 0 (set parts k part)
  ends_cut part by long =
      let e = length (concat (take k parts)) + length (get_or parts k []) in
      ap (λ ends. take k (ends_from 0 parts) ++ map (λ e. e - by) ends) rest_is
      ∙ ap (λ ends. take k (ends_from 0 parts) ++ (e - by) ∷ ends) (lowered_ends e by (drop (k + 1) parts) (omega (arith, long)))
      ∙ sym (set_is part (e - by) (omega (arith, long)))

  pub ends_split : (lower upper : List ℕ) (n : ℕ) → length lower + length upper ≡ length (get_or parts k []) → n ≡ length (concat (take k parts)) + length lower
      → insert (ends_from 0 parts) k n ≡ ends_from 0 (take k parts ++ lower ∷ upper ∷ drop (k + 1) parts)
  ends_split lower upper n long at =
      let e = length (concat (take k parts)) + length (get_or parts k []) in
      let up : e ≡ (length (concat (take k parts)) + length lower) + length upper = omega (arith, long) in
      ap (λ ends. take k (ends_from 0 parts) ++ n ∷ ends) (rest_is ∙ ap (λ m. m ∷ ends_from m (drop (k + 1) parts)) up)
      ∙ ap (λ m. take k (ends_from 0 parts) ++ m ∷ ((length (concat (take k parts)) + length lower) + length upper) ∷ ends_from ((length (concat (take k parts)) + length lower) + length upper) (drop (k + 1) parts)) at
      ∙ sym (ends_with (lower ∷ upper ∷ drop (k + 1) parts))

  pub ends_remove : get_or parts k [] ≡ [] → remove (ends_from 0 parts) k ≡ ends_from 0 (remove parts k)
  ends_remove none =
      let same : 0 + length (concat (take (suc k) parts)) ≡ length (concat (take k parts)) = omega (arith, start_more parts k l, ap length none) in
      ap (λ ends. take k (ends_from 0 parts) ++ ends) (drop_ends (suc k) 0 parts ∙ ap (λ n. ends_from n (drop (suc k) parts)) same)
      ∙ sym (ends_with (drop (suc k) parts))

-- ---- the same of chunks

-- one chunk that becomes two
pub two_for_one : {X : Type 0} (lists : List X) (k : ℕ) (lower upper : X) → k < length lists → insert (set lists k lower) (k + 1) upper ≡ take k lists ++ lower ∷ upper ∷ drop (k + 1) lists
two_for_one lists k lower upper l =
    ap (λ xs. xs ++ upper ∷ drop (k + 1) (set lists k lower)) (take_more_set lists k lower l)
    ∙ append_assoc (take k lists) (lower ∷ []) (upper ∷ drop (k + 1) (set lists k lower))
    ∙ ap (λ xs. take k lists ++ lower ∷ upper ∷ xs) (drop-set-lt (k + 1) lists k lower (omega arith))

-- the slots of a chunk that is read
pub part_is : (lists : List (Vec ℕ Global)) (k : ℕ) (list : Vec ℕ Global) → k < length lists → list ≡ get_or lists k list → list.items ≡ get_or (parts_of lists) k []
part_is lists k list l is = ap (λ v. v.items) is ∙ sym (get_or-map (λ v. v.items) lists k list [] l)

pub slots_few : (lists : List (Vec ℕ Global)) → All IsChunk lists → length (concat (parts_of lists)) ≤ 256 * length lists
slots_few lists chunks =
    omega (arith, slots_le (parts_of lists) (All-map (λ part. length part ≤ 256) (λ v. v.items) lists (All-weaker IsChunk (λ v. length v.items ≤ 256) (λ v chunk. chunk.short) lists chunks)), length-map lists (λ v. v.items))

pub ends_fit : (lists : List (Vec ℕ Global)) → All IsChunk lists → length lists ≤ 2 ^ 23 → All (λ end. end + 1 < 2 ^ 32) (ends_from 0 (parts_of lists))
ends_fit lists chunks few k d l =
    let within : k < length (parts_of lists) = omega (arith, l, length_ends 0 (parts_of lists)) in
    omega (arith, end_is (parts_of lists) k d within, start_le (parts_of lists) (suc k), slots_few lists chunks, few)

-- ---- where chunks stand in the fields

pub in_lists : (s : Inside) (v : Chunked) (k : ℕ) → chunked s ≡ v → k < length v.parts → k < length s.lists.items
in_lists s v k is l = omega (arith, l, ap (λ v. length v.parts) is, length-map s.lists.items (λ list. list.items))

pub in_ends : (s : Inside) (k : ℕ) → IsChunked s → k < length s.lists.items → k < length s.ends.items
in_ends s k held l = omega (arith, l, ap length held.ends, length_ends 0 (parts_of s.lists.items), length-map s.lists.items (λ list. list.items))

-- each end from a chunk on is at least as far as that chunk is long
pub ends_above : (parts : List (List ℕ)) (k by : ℕ) → k < length parts → by ≤ length (get_or parts k []) → All (λ end. by ≤ end) (drop k (ends_from 0 parts))
ends_above parts k by l short i d li =
    let within : k + i < length parts = omega (arith, li, length-drop k (ends_from 0 parts), length_ends 0 parts) in
    omega (arith, get_or-drop k (ends_from 0 parts) i d, end_is parts (k + i) d within, starts_rise parts (suc k) (suc (k + i)) (omega arith), start_more parts k l, short)

-- the parts of chunks one of which became two
pub parts_split : (lists : List (Vec ℕ Global)) (k : ℕ) (lower upper : Vec ℕ Global)
    → parts_of (take k lists ++ lower ∷ upper ∷ drop (k + 1) lists) ≡ take k (parts_of lists) ++ lower.items ∷ upper.items ∷ drop (k + 1) (parts_of lists)
parts_split lists k lower upper =
    map-append (λ v. v.items) (take k lists) (lower ∷ upper ∷ drop (k + 1) lists)
    ∙ ap (λ xs. xs ++ lower.items ∷ upper.items ∷ parts_of (drop (k + 1) lists)) (sym (take-map (λ v. v.items) k lists))
    ∙ ap (λ xs. take k (parts_of lists) ++ lower.items ∷ upper.items ∷ xs) (sym (drop-map (λ v. v.items) (k + 1) lists))
