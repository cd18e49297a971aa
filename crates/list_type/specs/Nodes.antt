-- Nodes in a row: a tree that is laid out, each node ahead of those below it.
use Rattle.std.specs.Prelude.{◌≡◌, ℕ, Bool, true, false, List, [], ◌∷◌, ◌++◌, Option}
use Rattle.list_type.specs.Chained.{IsParted}
use Rattle.list_type.specs.Depths.{leaves, pruned}
use Rattle.list_type.specs.declared.tree.Node.{Node}

module _ {T : Type 0} where
  -- how many nodes a slot's node stands below
  abbrev pub node_depth : ℕ × Node T → ℕ
  node_depth x = x.1.depth

  -- whether it was taken out
  abbrev pub node_gone : ℕ × Node T → Bool
  node_gone x = x.1.gone

  -- whether a node leaves, with this behind it: it is gone, and none stands below it
  abbrev pub node_leaves : ℕ × Node T → List (ℕ × Node T) → Bool
  node_leaves = leaves node_depth node_gone

  -- what is kept of a row
  abbrev pub nodes_kept : List (ℕ × Node T) → List (ℕ × Node T)
  nodes_kept = pruned node_depth node_gone

  -- a node that is gone
  abbrev pub gone_node : Node T → Node T
  gone_node node = record node { gone = true }

  -- a node stays in front of what stands behind it, if something does
  abbrev pub StaysBefore : ℕ × Node T → List (ℕ × Node T) → Type 0
  StaysBefore x [] = Unit {0}
  StaysBefore x (y ∷ ys) = node_leaves x (y ∷ ys) ≡ false

  -- each node of a list but the last stays, whatever comes behind the list
  abbrev pub StayUpToLast : List (ℕ × Node T) → Type 0
  StayUpToLast [] = Unit {0}
  StayUpToLast (x ∷ xs) = StaysBefore x xs × StayUpToLast xs

  -- nodes of a row leave, one after the other from this slot on to the front, until this is what is kept of it
  pub record IsTrimmed (rows : List (List (ℕ × Node T))) (row : ℕ) (at : Option ℕ) (aim : List (ℕ × Node T)) : Type 0 where
    pub before : List (ℕ × Node T)
    pub after : List (ℕ × Node T)
    pub parted : IsParted rows row before at after
    pub stay : StayUpToLast before
    pub whole : nodes_kept after ≡ after
    pub kept : nodes_kept (before ++ after) ≡ aim
