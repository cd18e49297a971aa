-- Which of some entries are deletions, by groups of ids that are linked.
use Rattle.std.specs.Prelude.{◌≡◌, ℕ, ◌+◌, ◌*◌, ◌%◌, ◌<◌, ◌≤◌, Bool, true, false, ◌==◌, List, Option, Some, None, slice_get, slice_index}
use Rattle.op_base.specs.declared.message.Entry.{Entry}
use Rattle.op_base.specs.declared.operation.Act.{Act}
use Rattle.op_base.specs.declared.operation.Act.TheVariants.{Del}
use Rattle.op_base.specs.declared.tag.ElementId.{ElementId}
use Rattle.list_type.specs.declared.deletions.Deletions.{Deletions}

-- the group of an id, told from its member and its number
abbrev pub group_of : ElementId → ℕ
group_of id = (id.seq + 633 * id.origin) % 1024

-- whether an act is the deletion of an element of a group
abbrev pub is_in : ℕ → Act → Bool
is_in g (Del id) = group_of id == g
is_in g act = false

-- whether a group is this one, if there is one
abbrev pub is_group : Option ℕ → ℕ → Bool
is_group None g = false
is_group (Some other) g = other == g

-- whether there is an entry, and its act is the deletion of an element of a group
abbrev pub is_of : ℕ → Option Entry → Bool
is_of g None = false
is_of g (Some e) = is_in g e.update.act

-- a link is to the last deletion of a group among the first n entries: its place, counted from 1 on, or 0 where there is none
pub record IsLast (entries : List Entry) (n g link : ℕ) : Type 0 where
  pub within : link ≤ n
  pub of_group : (k : ℕ) → link ≡ k + 1 → is_of g (slice_get entries k) ≡ true
  pub none_behind : (k : ℕ) → link ≤ k → k < n → is_of g (slice_get entries k) ≡ false

-- deletions are those of the first n entries, linked
pub record AreLinked (deletions : Deletions) (entries : List Entry) (n : ℕ) : Type 0 where
  pub last : (g : ℕ) → g < 1024 → IsLast entries n g (slice_index deletions.last g)
  pub ahead : (k g : ℕ) → k < n → is_of g (slice_get entries k) ≡ true → IsLast entries k g (slice_index deletions.ahead k)
