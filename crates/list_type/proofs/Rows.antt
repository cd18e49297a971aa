-- Rows that are linked: what they are read as, and one row's change.
use Rattle.std.proofs.Common.{◌≡◌, ◌≢◌, ℕ, ◌+◌, ◌<◌, ◌≤◌, List, [], ◌∷◌, length, get_or, set, Option, Some, None, sym, ap, subst, ◌∙◌, inl, inr, arith}
use Rattle.std.specs.Prelude.{is_some}
use Rattle.std.specs.List.{count_by}
use Rattle.std.proofs.lemmas.List.Elements.{same_from_all_zip}
use Rattle.std.proofs.lemmas.Bool.{cases_eq}
use Rattle.std.proofs.lemmas.List.{length-map, get_or-map, map-set, length-set, get_or-set_same, get_or-set_other, ext_get_or}
use Rattle.std.proofs.lemmas.List.Sums.{sum_by-set, get_or-le-sum_by}
use Rattle.slab.specs.Slab.{Slab, get, ContainsKey, slab_len, IsSlotClone, IsSlabClone}
use Rattle.list_type.specs.Chained.{Chained, first_slot, last_slot, row_at, Stands, IsHeld}
use Rattle.list_type.specs.ChainFields.{met, rows_met, chained, IsLinked, head_of, AreLinked, IsChained, IsCopyOf}
use Rattle.list_type.specs.declared.chain.Chains.TheInside.{Inside}
use Rattle.list_type.specs.declared.chain.Row.{Row}
use Rattle.list_type.specs.declared.chain.Slot.{Slot}
use Rattle.list_type.proofs.Linked.{slot_of, linked-right, met_is}

module _ {T : Type 0} (slots : Slab (Slot T)) (heads : List Row) (rows : List (List (ℕ × T))) (are : AreLinked slots heads rows) where
  pub as_many : length heads ≡ length rows
  as_many = ap length are.headed ∙ length-map rows head_of

  -- a row has no more values than there are slots
  row_fits : (row : ℕ) → row < length rows → length (row_at rows row) ≤ slab_len slots
  row_fits row within = omega (arith, are.counted, get_or-le-sum_by length rows row [] within)

  -- a row's first slot and length
  pub head_is : (row : ℕ) (d : Row) → row < length rows → get_or heads row d ≡ head_of (row_at rows row)
  head_is row d within = ap (λ hs. get_or hs row d) are.headed ∙ get_or-map head_of rows row [] d within

  -- each row is met as it is
  pub rows_are_met : rows_met slots heads ≡ rows
  rows_are_met = ext_get_or [] (rows_met slots heads) rows (length-map heads reads ∙ as_many) (λ row l.
      let within : row < length rows = omega (arith, l, length-map heads reads, as_many) in
      let xs = row_at rows row in
      get_or-map reads heads row none [] (omega (arith, within, as_many))
      ∙ ap reads (head_is row none within)
      ∙ met_is slots row None xs (slab_len slots) (row_fits row within) (are.linked row within)) where
        none : Row
        none = record { first = None; len = 0 }

        reads : Row → List (ℕ × T)
        reads head = met slots head.first (slab_len slots)

  -- and so what is met is linked
  pub met_are_linked : AreLinked slots heads (rows_met slots heads)
  met_are_linked = subst (AreLinked slots heads) (sym rows_are_met) are

  pub head_at : (row at : ℕ) (head : Row) (xs : List (ℕ × T)) → at ≡ row → head ≡ get_or heads at head → row < length rows → row_at rows row ≡ xs → head ≡ head_of xs
  head_at row at head xs is read within here = read ∙ ap (λ r. get_or heads r head) is ∙ head_is row head within ∙ ap head_of here

  -- what a slot has that stands in a row
  pub held_is : (row : ℕ) (before : List (ℕ × T)) (slot : ℕ) (value : T) (after : List (ℕ × T)) → Stands rows row before slot value after → get slots slot ≡ Some (slot_of row value (last_slot before) (first_slot after))
  held_is row before slot value after stands =
      (linked-right slots row None None before ((slot, value) ∷ after) (subst (λ xs. IsLinked slots row None xs None) stands.here (are.linked row stands.within))).0

  -- one row's list is another now
  pub row_changes : (new : Slab (Slot T)) (row : ℕ) (xs : List (ℕ × T)) → row < length rows → IsLinked new row None xs None → ((other : ℕ) → other < length rows → other ≢ row → IsLinked new other None (row_at rows other) None)
      → slab_len new + length (row_at rows row) ≡ slab_len slots + length xs → slab_len new ≤ new.capacity → AreLinked new (set heads row (head_of xs)) (set rows row xs)
  row_changes new row xs within this others count fits = record {
    linked = λ r l.
        let inside : r < length rows = omega (arith, l, length-set rows row xs) in
        elim (cases_eq r row) [
          | inl same ↦
              subst (λ k. IsLinked new k None (row_at (set rows row xs) k) None) (sym same)
              (subst (λ list. IsLinked new row None list None) (sym (get_or-set_same rows row xs [] within)) this)
          | inr differs ↦ subst (λ list. IsLinked new r None list None) (sym (get_or-set_other rows row r xs [] differs)) (others r inside differs)
        ];
    headed = ap (λ hs. set hs row (head_of xs)) are.headed ∙ sym (map-set head_of rows row xs);
    counted = omega (arith, count, are.counted, sum_by-set length rows row xs [] within);
    fits = fits;
  }

-- ---- the fields

module _ {T : Type 0} where
  -- the rows that contracts see are linked
  pub are_rows : (s : Inside T) (v : Chained T) → chained s ≡ v → IsChained s → AreLinked s.slots s.rows.items v.rows
  are_rows s v is invariant = subst (AreLinked s.slots s.rows.items) (ap (λ shown. shown.rows) is) invariant

  module _ (s : Inside T) (v : Chained T) (is : chained s ≡ v) (invariant : IsChained s) where
    -- what is in a slot that stands in a row
    pub slot_is : (row : ℕ) (before : List (ℕ × T)) (slot : ℕ) (value : T) (after : List (ℕ × T)) (had : Slot T) → get s.slots slot ≡ Some had → Stands v.rows row before slot value after → had ≡ slot_of row value (last_slot before) (first_slot after)
    slot_is row before slot value after had at stands =
        let found = held_is s.slots s.rows.items v.rows (are_rows s v is invariant) row before slot value after stands in
        let same : Some had ≡ Some (slot_of row value (last_slot before) (first_slot after)) = sym at ∙ found in
        cc

    pub held_slot : (slot : ℕ) → IsHeld v.rows slot → ContainsKey s.slots slot
    held_slot slot held = ap is_some (held_is s.slots s.rows.items v.rows (are_rows s v is invariant) held.0 held.1 slot held.2 held.3 held.4)

  -- more room changes nothing else
  pub more_room : (old new : Slab (Slot T)) (heads : List Row) → old.capacity ≤ new.capacity → new ≡ record old { capacity = new.capacity } → AreLinked old heads (rows_met old heads) → AreLinked new heads (rows_met new heads)
  more_room old new heads more is are =
      subst (λ slots. AreLinked slots heads (rows_met slots heads)) (sym is)
      (record { linked = are.linked; headed = are.headed; counted = are.counted; fits = omega (arith, are.fits, more) })

  pub rows_stay : (old new : Slab (Slot T)) (heads : List Row) → new ≡ record old { capacity = new.capacity } → rows_met new heads ≡ rows_met old heads
  rows_stay old new heads is = ap (λ slots. rows_met slots heads) is

  -- ---- a copy

  -- slots whose values have equal clones are equal to their copies
  pub slots_copied : (is_clone : T → T → Type 0) → ((value copy : T) → is_clone value copy → copy ≡ value) → (slots copy : Slab (Slot T)) → IsSlabClone (IsCopyOf is_clone) slots copy → copy.slots ≡ slots.slots
  slots_copied is_clone equal slots copy cloned = same_from_all_zip (IsSlotClone (IsCopyOf is_clone)) slots.slots copy.slots cloned.slots same where
    same : (x y : Option (Slot T)) → IsSlotClone (IsCopyOf is_clone) x y → y ≡ x
    same None y is = is
    same (Some slot) None is = absurd is
    same (Some slot) (Some copied) is = ap Some (is.1 ∙ (λ i. record slot { value = equal slot.value copied.value is.0 i }))

  pub rows_copied : (slots copy : Slab (Slot T)) (heads copied : List Row) (rows : List (List (ℕ × T))) → AreLinked slots heads rows → copy.slots ≡ slots.slots → copied ≡ heads → slab_len copy ≤ copy.capacity → AreLinked copy copied rows
  rows_copied slots copy heads copied rows are same same_heads fits =
      subst (λ ss. AreLinked (record { slots = ss; vacant_key = copy.vacant_key; capacity = copy.capacity }) copied rows) (sym same)
      (record {
        linked = are.linked;
        headed = same_heads ∙ are.headed;
        counted = are.counted;
        fits = omega (arith, fits, ap (λ ss. count_by is_some ss) same);
      })
