-- The fields of rows of values in slots.
use Rattle.std.specs.Prelude.{◌≡◌, ℕ, zero, suc, ◌-◌, ◌<◌, ◌≤◌, List, [], ◌∷◌, map, length, Option, Some, None, vec_capacity}
use Rattle.std.specs.List.{sum_by}
use Rattle.slab.specs.Slab.{Slab, get, slab_len}
use Rattle.list_type.specs.Chained.{Chained, first_or, first_slot, row_at}
use Rattle.list_type.specs.declared.chain.Row.{Row}
use Rattle.list_type.specs.declared.chain.Slot.{Slot}
use Rattle.list_type.specs.declared.chain.Chains.TheInside.{Inside}

module _ {T : Type 0} where
  -- a list with the value in a slot ahead of the rest, where there is one
  abbrev pub with_slot : ℕ → Option (Slot T) → (Option ℕ → List (ℕ × T)) → List (ℕ × T)
  with_slot k None rest = []
  with_slot k (Some slot) rest = (k, slot.value) ∷ rest slot.next

  -- the slots that are met from one on, at most so many
  abbrev pub met : Slab (Slot T) → Option ℕ → ℕ → List (ℕ × T)
  met slots None most = []
  met slots (Some k) zero = []
  met slots (Some k) (suc most) = with_slot k (get slots k) (λ next. met slots next most)

  -- what each row has
  abbrev pub rows_met : Slab (Slot T) → List Row → List (List (ℕ × T))
  rows_met slots heads = map (λ head. met slots head.first (slab_len slots)) heads

  -- rows as contracts see them
  abbrev pub chained : Inside T → Chained T
  chained s = record {
    rows = rows_met s.slots s.rows.items;
    spare = s.slots.capacity - slab_len s.slots;
    row_spare = vec_capacity s.rows - length s.rows.items;
  }

  -- each value of a list is in its slot, which names the row, and the slots ahead and behind: these, where the list ends
  abbrev pub IsLinked : Slab (Slot T) → ℕ → Option ℕ → List (ℕ × T) → Option ℕ → Type 0
  IsLinked slots row start [] end = Unit {0}
  IsLinked slots row start (x ∷ xs) end =
      (get slots x.0 ≡ Some (record { row = row; value = x.1; previous = start; next = first_or xs end }))
      × IsLinked slots row (Some x.0) xs end

  -- a row's first slot, and how many it has
  abbrev pub head_of : List (ℕ × T) → Row
  head_of xs = record { first = first_slot xs; len = length xs }

  -- each row is linked, and no slot is in none
  pub record AreLinked (slots : Slab (Slot T)) (heads : List Row) (rows : List (List (ℕ × T))) : Type 0 where
    pub linked : (row : ℕ) → row < length rows → IsLinked slots row None (row_at rows row) None
    pub headed : heads ≡ map head_of rows
    pub counted : slab_len slots ≡ sum_by length rows
    pub fits : slab_len slots ≤ slots.capacity

  -- the rows that are met are linked
  abbrev pub IsChained : Inside T → Type 0
  IsChained s = AreLinked s.slots s.rows.items (rows_met s.slots s.rows.items)

  -- a slot's copy has a clone of its value, in the same place
  abbrev pub IsCopyOf : (T → T → Type 0) → Slot T → Slot T → Type 0
  IsCopyOf is_clone slot copy = is_clone slot.value copy.value × (copy ≡ record slot { value = copy.value })

  -- a slot, where there is one, was changed, and no other
  pub record Relinks (change : Slot T → Slot T) (old new : Slab (Slot T)) (slot : Option ℕ) : Type 0 where
    pub changed : (k : ℕ) (had : Slot T) → slot ≡ Some k → get old k ≡ Some had → get new k ≡ Some (change had)
    pub others : (k : ℕ) → (slot ≡ Some k → ⊥) → get new k ≡ get old k
    pub len : slab_len new ≡ slab_len old
    pub capacity : new.capacity ≡ old.capacity

-- the first slot of a row where the one behind a place is this and the one at the front was that
abbrev pub first_behind : Option ℕ → Option ℕ → Option ℕ → Option ℕ
first_behind None behind first = behind
first_behind (Some ahead) behind first = first
