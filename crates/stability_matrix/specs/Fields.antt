-- A matrix's fields: 16 rows of which the first n count, and the least of each column of those.
use Rattle.std.specs.Prelude.{◌≡◌, ℕ, ◌<◌, ◌≤◌, List, length, take, All}
use Rattle.stability_matrix.specs.Rows.{Known, stable_of}
use Rattle.stability_matrix.specs.declared.matrix.Matrix.TheInside.{Inside}

-- the rows of the members
abbrev pub rows_of : Inside → List (List ℕ)
rows_of m = take m.n m.rows

-- what contracts see
abbrev pub known_of : Inside → Known
known_of m = record { me = m.me; rows = rows_of m }

-- 1 to 16 members, each with a row of as many entries, and the least of each column
pub record IsKept (m : Inside) : Type 0 where
  pub some : 1 ≤ m.n
  pub few : m.n ≤ 16
  pub member : m.me < m.n
  pub room : length m.rows ≡ 16
  pub entries : All (λ row. length row ≡ m.n) (rows_of m)
  pub least : m.stable ≡ stable_of (rows_of m)
