-- Rows of values in slots, as contracts see them.
use Rattle.std.specs.Prelude.{◌≡◌, ℕ, ◌<◌, ◌==◌, if◌then◌else◌, Bool, List, [], ◌∷◌, ◌++◌, map, length, slice_index_or, Option, Some, None, refl}
use Rattle.std.specs.Coded.{Coded, code_by, coded×, coded_ℕ, coded_list}

-- each row's slots with their values, first to last, and how many values and how many rows more fit without memory
pub record Chained (T : Type 0) : Type 0 where
  pub rows : List (List (ℕ × T))
  pub spare : ℕ
  pub row_spare : ℕ

-- rows are stored as the tuple of their fields
abbrev pub chained_code : {T : Type 0} → Coded T → Coded (Chained T)
chained_code {T} code =
    code_by
    (List (List (ℕ × T)) × (ℕ × ℕ))
    (coded× (coded_list (coded_list (coded× coded_ℕ code))) (coded× coded_ℕ coded_ℕ))
    (λ s. (s.rows, (s.spare, s.row_spare)))
    (λ p. record { rows = p.0; spare = p.1.0; row_spare = p.1.1 })
    (λ _. refl)

module _ {T : Type 0} where
  -- the first slot of a list, or another where the list is empty
  abbrev pub first_or : List (ℕ × T) → Option ℕ → Option ℕ
  first_or [] other = other
  first_or (x ∷ xs) other = Some x.0

  -- the last slot of a list, or another where the list is empty
  abbrev pub last_or : List (ℕ × T) → Option ℕ → Option ℕ
  last_or [] other = other
  last_or (x ∷ xs) other = last_or xs (Some x.0)

  -- the first slot of a list, if there is one
  abbrev pub first_slot : List (ℕ × T) → Option ℕ
  first_slot xs = first_or xs None

  -- the last slot of a list, if there is one
  abbrev pub last_slot : List (ℕ × T) → Option ℕ
  last_slot xs = last_or xs None

  -- a list with another value in a slot
  abbrev pub list_with : ℕ → T → List (ℕ × T) → List (ℕ × T)
  list_with slot value xs = map (λ x. (x.0, if x.0 == slot then value else x.1)) xs

  -- rows with another value in a slot
  abbrev pub rows_with : List (List (ℕ × T)) → ℕ → T → List (List (ℕ × T))
  rows_with rows slot value = map (list_with slot value) rows

  -- those at the front of a list whose values pass, as far as each does
  abbrev pub passed : (T → Bool) → List (ℕ × T) → List (ℕ × T)
  passed p [] = []
  passed p (x ∷ xs) = if p x.1 then x ∷ passed p xs else []

  -- the rest
  abbrev pub from_unpassed : (T → Bool) → List (ℕ × T) → List (ℕ × T)
  from_unpassed p [] = []
  from_unpassed p (x ∷ xs) = if p x.1 then from_unpassed p xs else x ∷ xs

  -- a row's list
  abbrev pub row_at : List (List (ℕ × T)) → ℕ → List (ℕ × T)
  row_at rows row = slice_index_or rows row []

  -- a slot stands in a row with its value: these stand before it there, and those behind it
  pub record Stands (rows : List (List (ℕ × T))) (row : ℕ) (before : List (ℕ × T)) (slot : ℕ) (value : T) (after : List (ℕ × T)) : Type 0 where
    pub within : row < length rows
    pub here : row_at rows row ≡ before ++ (slot, value) ∷ after

  -- a slot stands in some row
  abbrev pub IsHeld : List (List (ℕ × T)) → ℕ → Type 0
  IsHeld rows slot =
      (row : ℕ) × (before : List (ℕ × T)) × (value : T) × (after : List (ℕ × T)) × Stands rows row before slot value after

  -- a fact of a slot, wherever it stands: of its row, what is before it there, its value, and what is behind
  abbrev pub OfSlot : List (List (ℕ × T)) → ℕ → (ℕ → List (ℕ × T) → T → List (ℕ × T) → Type 0) → Type 0
  OfSlot rows slot P =
      (row : ℕ) (before : List (ℕ × T)) (value : T) (after : List (ℕ × T)) → Stands rows row before slot value after → P row before value after

  -- a row falls into these and those behind them, and this is the last slot of these
  pub record IsParted (rows : List (List (ℕ × T))) (row : ℕ) (before : List (ℕ × T)) (ahead : Option ℕ) (after : List (ℕ × T)) : Type 0 where
    pub within : row < length rows
    pub here : row_at rows row ≡ before ++ after
    pub ahead_is : last_slot before ≡ ahead

  -- a row has this slot, or it is `None`, for the place at the row's front
  abbrev pub IsPlace : List (List (ℕ × T)) → ℕ → Option ℕ → Type 0
  IsPlace rows row ahead = (before : List (ℕ × T)) × (after : List (ℕ × T)) × IsParted rows row before ahead after

  -- a fact of a place in a row, of what is before it there and what is behind
  abbrev pub OfPlace : List (List (ℕ × T)) → ℕ → Option ℕ → (List (ℕ × T) → List (ℕ × T) → Type 0) → Type 0
  OfPlace rows row ahead P = (before after : List (ℕ × T)) → IsParted rows row before ahead after → P before after
