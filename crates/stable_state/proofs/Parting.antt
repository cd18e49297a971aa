-- A test that parts lists one behind the other.
use Rattle.std.proofs.Common.{◌≡◌, ℕ, zero, suc, ◌+◌, ◌-◌, ◌<◌, ◌≤◌, Bool, true, false, List, [], ◌∷◌, ◌++◌, length, get_or, take, All, refl, ap, sym, ◌∙◌, inl, inr, arith, length-append}
use Rattle.std.specs.Prelude.{HoldsAt}
use Rattle.std.specs.List.{concat}
use Rattle.std.specs.List.Sorted.{IsPartitionPoint, IsPartitionedBy}
use Rattle.std.proofs.lemmas.Bool.{cases_lt, both_ways, false_from_ne_true}
use Rattle.std.proofs.lemmas.List.{get_or_append_left, get_or-append-add, get_or_default, take_all}
use Rattle.stable_state.specs.Chunks.{first_passes}
use Rattle.stable_state.proofs.Ends.{start_le, start_more, starts_rise}

-- a test that parts a list does so where the item ahead passes and the one there doesn't
pub point_at : {A : Type 0} (p : A → Bool) (xs : List A) (place : ℕ) → IsPartitionedBy p xs → place ≤ length xs
    → (0 < place → HoldsAt (λ x. p x ≡ true) xs (place - 1)) → (place < length xs → HoldsAt (λ x. p x ≡ false) xs place)
    → IsPartitionPoint (λ x. p x ≡ true) (λ x. p x ≡ false) xs place
point_at p xs place parted within ahead there = (
  λ k d from less. parted k (place - 1) d (omega (arith, less)) (omega (arith, less, within)) (ahead (omega (arith, less)) d),
  λ k d from less. false_from_ne_true (p (get_or xs k d)) (λ t. both_ways (p (get_or xs place d)) (there (omega (arith, from, less)) d) (parted place k d from less t)),
)

-- a search has come to two places: what stands ahead of the one passes, and what stands at the other fails
abbrev pub IsNarrowed : {A : Type 0} → (A → Bool) → List A → ℕ → ℕ → Type 0
IsNarrowed p xs from to = (0 < from → HoldsAt (λ x. p x ≡ true) xs (from - 1)) × (to < length xs → HoldsAt (λ x. p x ≡ false) xs to)

module _ {A : Type 0} (p : A → Bool) (xs : List A) (from to : ℕ) (narrowed : IsNarrowed p xs from to) where
  -- it goes on behind what passes
  pub narrowed_up : (middle : ℕ) → HoldsAt (λ x. p x ≡ true) xs middle → IsNarrowed p xs (middle + 1) to
  narrowed_up middle passes =
      let same : middle + 1 - 1 ≡ middle = omega arith in
      (λ some d. ap (λ k. p (get_or xs k d)) same ∙ passes d, narrowed.1)

  -- or up to what fails
  pub narrowed_down : (middle : ℕ) → HoldsAt (λ x. p x ≡ false) xs middle → IsNarrowed p xs from middle
  narrowed_down middle fails = (narrowed.0, λ less. fails)

  -- and ends where the two places meet
  pub narrowed_point : IsPartitionedBy p xs → to ≤ length xs → from ≡ to → IsPartitionPoint (λ x. p x ≡ true) (λ x. p x ≡ false) xs from
  narrowed_point parted within met =
      point_at p xs from parted (omega (arith, within, met)) narrowed.0
      (λ less d. ap (λ k. p (get_or xs k d)) met ∙ narrowed.1 (omega (arith, less, met)) d)

-- the slots of a chunk stand side by side
pub slot_at : (parts : List (List ℕ)) (k j d : ℕ) → k < length parts → j < length (get_or parts k []) → get_or (concat parts) (length (concat (take k parts)) + j) d ≡ get_or (get_or parts k []) j d
slot_at [] k j d l within = absurd (omega (arith, l))
slot_at (part ∷ parts) zero j d l within = ap (λ n. get_or (part ++ concat parts) n d) (none j) ∙ get_or_append_left part (concat parts) d j within where
  none : (j : ℕ) → 0 + j ≡ j
  none j = omega arith
slot_at (part ∷ parts) (suc k) j d l within =
    let sum : length (part ++ concat (take k parts)) + j ≡ length part + (length (concat (take k parts)) + j) = omega (arith, length-append part (concat (take k parts))) in
    ap (λ n. get_or (part ++ concat parts) n d) sum ∙ get_or-append-add part (concat parts) (length (concat (take k parts)) + j) d ∙ slot_at parts k j d (omega (arith, l)) within

pub first_at : (p : ℕ → Bool) (part : List ℕ) (d : ℕ) → 0 < length part → first_passes p part ≡ p (get_or part 0 d)
first_at p [] d some = absurd (omega (arith, some))
first_at p (slot ∷ part) d some = refl

some_parts : (parts : List (List ℕ)) → 0 < length (concat parts) → 0 < length parts
some_parts [] some = some
some_parts (part ∷ parts) some = omega arith

module _ (p : ℕ → Bool) (parts : List (List ℕ)) (some : All (λ part. 0 < length part) parts) where
  -- the first slot of a chunk, among all
  pub first_is : (k d : ℕ) → k < length parts → first_passes p (get_or parts k []) ≡ p (get_or (concat parts) (length (concat (take k parts))) d)
  first_is k d l =
      let start = length (concat (take k parts)) in
      let at : get_or (concat parts) (start + 0) d ≡ get_or (get_or parts k []) 0 d = slot_at parts k 0 d l (some k [] l) in
      let same : start + 0 ≡ start = omega arith in
      first_at p (get_or parts k []) d (some k [] l) ∙ ap p (sym at ∙ ap (λ n. get_or (concat parts) n d) same)

  -- a chunk begins within the slots
  pub start_within : (k : ℕ) → k < length parts → length (concat (take k parts)) < length (concat parts)
  start_within k l = omega (arith, start_more parts k l, start_le parts (suc k), some k [] l)

  -- the chunks are parted by their first slots
  pub firsts_parted : IsPartitionedBy p (concat parts) → IsPartitionedBy (first_passes p) parts
  firsts_parted parted i j d le less passes =
      let within : i < length parts = omega (arith, le, less) in
      ap (first_passes p) (get_or_default parts i d [] within) ∙ first_is i 0 within
      ∙ parted (length (concat (take i parts))) (length (concat (take j parts))) 0 (starts_rise parts i j le) (start_within j less)
      (sym (first_is j 0 less) ∙ sym (ap (first_passes p) (get_or_default parts j d [] less)) ∙ passes)

  -- where no first slot passes, none does
  pub none_passes : IsPartitionedBy p (concat parts) → ((k : ℕ) → k < length parts → first_passes p (get_or parts k []) ≡ false)
      → IsPartitionPoint (λ slot. p slot ≡ true) (λ slot. p slot ≡ false) (concat parts) 0
  none_passes parted fail = (
    λ k d from less. absurd (omega (arith, less)),
    λ k d from less.
        let first = some_parts parts (omega (arith, less)) in
        false_from_ne_true (p (get_or (concat parts) k d)) (λ t. both_ways (first_passes p (get_or parts 0 [])) (fail 0 first) (first_is 0 d first ∙ parted 0 k d (omega arith) less t)),
  )

  -- where the last chunk whose first slot passes is parted, all slots are
  pub point_is : (q r : ℕ) → IsPartitionedBy p (concat parts) → q < length parts → first_passes p (get_or parts q []) ≡ true
      → ((k : ℕ) → q < k → k < length parts → first_passes p (get_or parts k []) ≡ false)
      → r ≤ length (get_or parts q []) → IsPartitionPoint (λ slot. p slot ≡ true) (λ slot. p slot ≡ false) (get_or parts q []) r
      → IsPartitionPoint (λ slot. p slot ≡ true) (λ slot. p slot ≡ false) (concat parts) (length (concat (take q parts)) + r)
  point_is q r parted l passes fail le point =
      let start = length (concat (take q parts)) in
      let part = get_or parts q [] in
      let at : (k d : ℕ) → start ≤ k → k < start + length part → get_or (concat parts) k d ≡ get_or part (k - start) d = λ k d from less.
      let sum : k ≡ start + (k - start) = omega (arith, from) in
      ap (λ n. get_or (concat parts) n d) sum ∙ slot_at parts q (k - start) d l (omega (arith, from, less)) in (
        λ k d from less. elim (cases_lt k start) [
          | inl before ↦ parted k start d (omega (arith, before)) (start_within q l) (sym (first_is q d l) ∙ passes)
          | inr inside ↦ ap p (at k d inside (omega (arith, less, le))) ∙ point.0 (k - start) d (omega arith) (omega (arith, inside, less))
        ],
        λ k d from less. elim (cases_lt k (start + length part)) [
          | inl inside ↦ ap p (at k d (omega (arith, from)) inside) ∙ point.1 (k - start) d (omega (arith, from)) (omega (arith, from, inside))
          | inr behind ↦
              let next : length (concat (take (suc q) parts)) ≤ k = omega (arith, behind, start_more parts q l) in
              let more : suc q < length parts = elim (cases_lt (suc q) (length parts)) [
                | inl fewer ↦ fewer
                | inr past ↦ absurd (omega (arith, less, next, ap (λ ps. length (concat ps)) (take_all (suc q) parts past)))
              ] in
              false_from_ne_true (p (get_or (concat parts) k d)) (λ t. both_ways (first_passes p (get_or parts (suc q) [])) (fail (suc q) (omega arith) more)
              (first_is (suc q) d more ∙ parted (length (concat (take (suc q) parts))) k d next less t))
        ],
      )

  -- a chunk of parted slots is parted
  pub part_parted : (q : ℕ) → q < length parts → IsPartitionedBy p (concat parts) → IsPartitionedBy p (get_or parts q [])
  part_parted q l parted i j d le within t =
      let start = length (concat (take q parts)) in
      let inside : start + j < length (concat parts) = omega (arith, within, start_more parts q l, start_le parts (suc q)) in
      ap p (sym (slot_at parts q i d l (omega (arith, le, within)))) ∙ parted (start + i) (start + j) d (omega (arith, le)) inside (ap p (slot_at parts q j d l within) ∙ t)
