-- Matrices of timestamps: a row for each member, which is what the member is known to have.
use Rattle.std.specs.Prelude.{ℕ, List, [], map, length, slice_set}
use Rattle.std.specs.List.{slice_index_or}
use Rattle.op_base.specs.Timestamp.{entry}
use Rattle.causal_model.specs.Counts.{members}
use Rattle.causal_model.specs.Stability.{minimum}

-- a matrix: which member it is of, and the rows, members upwards
pub record Known : Type 0 where
  pub me : ℕ
  pub rows : List (List ℕ)

-- the row of a member
abbrev pub row_of : List (List ℕ) → ℕ → List ℕ
row_of rows member = slice_index_or rows member []

-- the entries of the rows at a member
abbrev pub column_of : List (List ℕ) → ℕ → List ℕ
column_of rows member = map (λ row. entry row member) rows

-- the least of each column
abbrev pub stable_of : List (List ℕ) → List ℕ
stable_of rows = map (λ member. minimum (column_of rows member)) (members (length rows))

-- the rows with one entry set
abbrev pub entry_set : ℕ → ℕ → ℕ → List (List ℕ) → List (List ℕ)
entry_set member at value rows = slice_set rows member (slice_set (row_of rows member) at value)

-- the rows after a message of an origin: the origin's row is its timestamp, and so is member me's own entry of the origin
abbrev pub noted : ℕ → ℕ → List ℕ → List (List ℕ) → List (List ℕ)
noted me origin tag rows = entry_set me origin (entry tag origin) (slice_set rows origin tag)
