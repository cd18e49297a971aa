-- Lists that are linked in slots: their parts, that no slot stands in one twice, and what is left where one slot changes.
use Rattle.std.proofs.Common.{◌≡◌, ℕ, zero, suc, ◌≤◌, List, [], ◌∷◌, ◌++◌, length, Option, Some, None, refl, sym, ap, ◌∙◌, arith}
use Rattle.slab.specs.Slab.{Slab, get}
use Rattle.list_type.specs.Chained.{first_or, last_or, first_slot, last_slot}
use Rattle.list_type.specs.ChainFields.{with_slot, met, IsLinked, Relinks}
use Rattle.list_type.specs.declared.chain.Slot.{Slot}

module _ {T : Type 0} where
  -- a slot with these fields
  abbrev pub slot_of : ℕ → T → Option ℕ → Option ℕ → Slot T
  slot_of row value previous next = record { row = row; value = value; previous = previous; next = next }

  -- the slot behind what is in a slot
  abbrev next_in : Option (Slot T) → Option ℕ
  next_in None = None
  next_in (Some slot) = slot.next

  -- ---- parts of a list

  pub first_or-append : (xs ys : List (ℕ × T)) (other : Option ℕ) → first_or (xs ++ ys) other ≡ first_or xs (first_or ys other)
  first_or-append [] ys other = refl
  first_or-append (x ∷ xs) ys other = refl

  pub linked-left : (slots : Slab (Slot T)) (row : ℕ) (start end : Option ℕ) (xs ys : List (ℕ × T)) → IsLinked slots row start (xs ++ ys) end → IsLinked slots row start xs (first_or ys end)
  linked-left slots row start end [] ys linked = tt
  linked-left slots row start end (x ∷ xs) ys linked = (
    linked.0 ∙ ap (λ next. Some (slot_of row x.1 start next)) (first_or-append xs ys end),
    linked-left slots row (Some x.0) end xs ys linked.1,
  )

  pub linked-right : (slots : Slab (Slot T)) (row : ℕ) (start end : Option ℕ) (xs ys : List (ℕ × T)) → IsLinked slots row start (xs ++ ys) end → IsLinked slots row (last_or xs start) ys end
  linked-right slots row start end [] ys linked = linked
  linked-right slots row start end (x ∷ xs) ys linked = linked-right slots row (Some x.0) end xs ys linked.1

  pub linked-append : (slots : Slab (Slot T)) (row : ℕ) (start end : Option ℕ) (xs ys : List (ℕ × T)) → IsLinked slots row start xs (first_or ys end) → IsLinked slots row (last_or xs start) ys end → IsLinked slots row start (xs ++ ys) end
  linked-append slots row start end [] ys left right = right
  linked-append slots row start end (x ∷ xs) ys left right = (
    left.0 ∙ ap (λ next. Some (slot_of row x.1 start next)) (sym (first_or-append xs ys end)),
    linked-append slots row (Some x.0) end xs ys left.1 right,
  )

  -- what is met from the first slot on is the list
  pub met_is : (slots : Slab (Slot T)) (row : ℕ) (start : Option ℕ) (xs : List (ℕ × T)) (most : ℕ) → length xs ≤ most → IsLinked slots row start xs None → met slots (first_slot xs) most ≡ xs
  met_is slots row start [] most within linked = refl
  met_is slots row start (x ∷ xs) zero within linked = absurd (omega arith)
  met_is slots row start (x ∷ xs) (suc most) within linked =
      ap (λ found. with_slot x.0 found (λ next. met slots next most)) linked.0
      ∙ ap (λ rest. x ∷ rest) (met_is slots row (Some x.0) xs most (omega arith) linked.1)

  -- ---- no slot stands twice

  -- a slot, if it is one, isn't in a list
  abbrev pub IsApart : Option ℕ → List (ℕ × T) → Type 0
  IsApart slot [] = Unit {0}
  IsApart slot (x ∷ xs) = (slot ≡ Some x.0 → ⊥) × IsApart slot xs

  -- no slot of a list is in it twice
  abbrev pub AreApart : List (ℕ × T) → Type 0
  AreApart [] = Unit {0}
  AreApart (x ∷ xs) = IsApart (Some x.0) xs × AreApart xs

  pub apart_none : (xs : List (ℕ × T)) → IsApart None xs
  apart_none [] = tt
  apart_none (x ∷ xs) = (λ same. cc, apart_none xs)

  -- a slot is apart from a list where what it has isn't of the list's row
  pub apart_by : (slots : Slab (Slot T)) (row : ℕ) (start end slot : Option ℕ) (xs : List (ℕ × T)) → IsLinked slots row start xs end
      → ((k : ℕ) (had : Slot T) → slot ≡ Some k → get slots k ≡ Some had → had.row ≡ row → ⊥) → IsApart slot xs
  apart_by slots row start end slot [] linked other = tt
  apart_by slots row start end slot (x ∷ xs) linked other = (
    λ same. other x.0 (slot_of row x.1 start (first_or xs end)) same linked.0 refl,
    apart_by slots row (Some x.0) end slot xs linked.1 other,
  )

  pub apart-left : (slot : Option ℕ) (xs ys : List (ℕ × T)) → IsApart slot (xs ++ ys) → IsApart slot xs
  apart-left slot [] ys apart = tt
  apart-left slot (x ∷ xs) ys apart = (apart.0, apart-left slot xs ys apart.1)

  pub apart-right : (slot : Option ℕ) (xs ys : List (ℕ × T)) → IsApart slot (xs ++ ys) → IsApart slot ys
  apart-right slot [] ys apart = apart
  apart-right slot (x ∷ xs) ys apart = apart-right slot xs ys apart.1

  same_length : (slots : Slab (Slot T)) (row : ℕ) (start other : Option ℕ) (xs ys : List (ℕ × T)) → IsLinked slots row start xs None → IsLinked slots row other ys None → first_slot xs ≡ first_slot ys → length xs ≡ length ys
  same_length slots row start other [] [] linked linked' same = refl
  same_length slots row start other [] (y ∷ ys) linked linked' same = cc
  same_length slots row start other (x ∷ xs) [] linked linked' same = cc
  same_length slots row start other (x ∷ xs) (y ∷ ys) linked linked' same =
      let slot : x.0 ≡ y.0 = cc in
      let next : first_slot xs ≡ first_slot ys = ap next_in (sym linked.0 ∙ ap (get slots) slot ∙ linked'.0) in
      ap suc (same_length slots row (Some x.0) (Some y.0) xs ys linked.1 linked'.1 next)

  -- what comes behind a slot doesn't come back to it, since it would never end
  no_return : (slots : Slab (Slot T)) (row k : ℕ) (start other : Option ℕ) (xs ys : List (ℕ × T)) → next_in (get slots k) ≡ first_slot xs → IsLinked slots row start xs None → IsLinked slots row other ys None → length ys ≤ length xs → IsApart (Some k) ys
  no_return slots row k start other xs [] next linked linked' within = tt
  no_return slots row k start other xs (y ∷ ys) next linked linked' within = (
    λ same.
        let slot : k ≡ y.0 = cc in
        let back : first_slot ys ≡ first_slot xs = ap next_in (sym linked'.0) ∙ ap (λ j. next_in (get slots j)) (sym slot) ∙ next in
        omega (arith, same_length slots row (Some y.0) start ys xs linked'.1 linked back, within),
    no_return slots row k start (Some y.0) xs ys next linked linked'.1 (omega arith),
  )

  pub linked_apart : (slots : Slab (Slot T)) (row : ℕ) (start : Option ℕ) (xs : List (ℕ × T)) → IsLinked slots row start xs None → AreApart xs
  linked_apart slots row start [] linked = tt
  linked_apart slots row start (x ∷ xs) linked = (
    no_return slots row x.0 (Some x.0) (Some x.0) xs xs (ap next_in linked.0) linked.1 linked.1 (omega arith),
    linked_apart slots row (Some x.0) xs linked.1,
  )

  pub are_apart-left : (xs ys : List (ℕ × T)) → AreApart (xs ++ ys) → AreApart xs
  are_apart-left [] ys apart = tt
  are_apart-left (x ∷ xs) ys apart = (apart-left (Some x.0) xs ys apart.0, are_apart-left xs ys apart.1)

  pub are_apart-right : (xs ys : List (ℕ × T)) → AreApart (xs ++ ys) → AreApart ys
  are_apart-right [] ys apart = apart
  are_apart-right (x ∷ xs) ys apart = are_apart-right xs ys apart.1

  -- a slot is apart from what stands before it
  pub apart_before : (xs ys : List (ℕ × T)) (y : ℕ × T) → AreApart (xs ++ y ∷ ys) → IsApart (Some y.0) xs
  apart_before [] ys y apart = tt
  apart_before (x ∷ xs) ys y apart = (λ same. (apart-right (Some x.0) xs (y ∷ ys) apart.0).0 (sym same), apart_before xs ys y apart.1)

  -- the last slot of a list is apart from what stands behind it
  pub last_apart : (x : ℕ × T) (xs ys : List (ℕ × T)) → AreApart (x ∷ (xs ++ ys)) → IsApart (last_or xs (Some x.0)) ys
  last_apart x [] ys apart = apart.0
  last_apart x (y ∷ xs) ys apart = last_apart y xs ys apart.1

  -- the last slot of a list is none that isn't in it
  last_differs : (k : ℕ) (x : ℕ × T) (xs : List (ℕ × T)) → IsApart (Some k) (x ∷ xs) → last_or xs (Some x.0) ≡ Some k → ⊥
  last_differs k x [] apart same = apart.0 (sym same)
  last_differs k x (y ∷ xs) apart same = last_differs k y xs apart.1 same

  pub last_slot_differs : (k : ℕ) (xs : List (ℕ × T)) → IsApart (Some k) xs → last_slot xs ≡ Some k → ⊥
  last_slot_differs k [] apart same = cc
  last_slot_differs k (x ∷ xs) apart same = last_differs k x xs apart same

  pub first_slot_differs : (k : ℕ) (xs : List (ℕ × T)) → IsApart (Some k) xs → first_slot xs ≡ Some k → ⊥
  first_slot_differs k [] apart same = cc
  first_slot_differs k (x ∷ xs) apart same = apart.0 (sym same)

  -- a list that a slot was put in or taken out of
  pub apart-without : (slot : Option ℕ) (xs ys : List (ℕ × T)) (y : ℕ × T) → IsApart slot (xs ++ y ∷ ys) → IsApart slot (xs ++ ys)
  apart-without slot [] ys y apart = apart.1
  apart-without slot (x ∷ xs) ys y apart = (apart.0, apart-without slot xs ys y apart.1)

  pub are_apart-without : (xs ys : List (ℕ × T)) (y : ℕ × T) → AreApart (xs ++ y ∷ ys) → AreApart (xs ++ ys)
  are_apart-without [] ys y apart = apart.1
  are_apart-without (x ∷ xs) ys y apart = (apart-without (Some x.0) xs ys y apart.0, are_apart-without xs ys y apart.1)

  -- of two parts, neither has the slot at the other's end
  pub last_slot_apart : (xs ys : List (ℕ × T)) → AreApart (xs ++ ys) → IsApart (last_slot xs) ys
  last_slot_apart [] ys apart = apart_none ys
  last_slot_apart (x ∷ xs) ys apart = last_apart x xs ys apart

  pub first_slot_apart : (xs ys : List (ℕ × T)) → AreApart (xs ++ ys) → IsApart (first_slot ys) xs
  first_slot_apart xs [] apart = apart_none xs
  first_slot_apart xs (y ∷ ys) apart = apart_before xs ys y apart

  -- ---- one slot changes

  -- what is in each slot but one stays
  abbrev pub OthersStay : Slab (Slot T) → Slab (Slot T) → Option ℕ → Type 0
  OthersStay old new slot = (k : ℕ) → (slot ≡ Some k → ⊥) → get new k ≡ get old k

  pub linked_stays : (old new : Slab (Slot T)) (row : ℕ) (start end slot : Option ℕ) (xs : List (ℕ × T)) → OthersStay old new slot → IsApart slot xs → IsLinked old row start xs end → IsLinked new row start xs end
  linked_stays old new row start end slot [] others apart linked = tt
  linked_stays old new row start end slot (x ∷ xs) others apart linked =
      (others x.0 apart.0 ∙ linked.0, linked_stays old new row (Some x.0) end slot xs others apart.1 linked.1)

  relinked_last : (old new : Slab (Slot T)) (row : ℕ) (start end next : Option ℕ) (x : ℕ × T) (xs : List (ℕ × T)) → Relinks (λ had. record had { next = next }) old new (last_or xs (Some x.0)) → AreApart (x ∷ xs) → IsLinked old row start (x ∷ xs) end → IsLinked new row start (x ∷ xs) next
  relinked_last old new row start end next x [] relinks apart linked =
      (relinks.changed x.0 (slot_of row x.1 start end) refl linked.0, tt)
  relinked_last old new row start end next x (y ∷ xs) relinks apart linked = (
    relinks.others x.0 (last_differs x.0 y xs apart.0) ∙ linked.0,
    relinked_last old new row (Some x.0) end next y xs relinks apart.1 linked.1,
  )

  -- a list whose last slot is given another next ends there
  pub linked_to : (old new : Slab (Slot T)) (row : ℕ) (end next : Option ℕ) (xs : List (ℕ × T)) → Relinks (λ had. record had { next = next }) old new (last_slot xs) → AreApart xs → IsLinked old row None xs end → IsLinked new row None xs next
  linked_to old new row end next [] relinks apart linked = tt
  linked_to old new row end next (x ∷ xs) relinks apart linked = relinked_last old new row None end next x xs relinks apart linked

  -- a list whose first slot is given another previous begins there
  pub linked_from : (old new : Slab (Slot T)) (row : ℕ) (start previous : Option ℕ) (xs : List (ℕ × T)) → Relinks (λ had. record had { previous = previous }) old new (first_slot xs) → AreApart xs → IsLinked old row start xs None → IsLinked new row previous xs None
  linked_from old new row start previous [] relinks apart linked = tt
  linked_from old new row start previous (x ∷ xs) relinks apart linked = (
    relinks.changed x.0 (slot_of row x.1 start (first_slot xs)) refl linked.0,
    linked_stays old new row (Some x.0) None (Some x.0) xs relinks.others apart.0 linked.1,
  )
