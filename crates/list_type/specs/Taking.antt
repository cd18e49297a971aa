-- Elements that leave a list.
use Rattle.std.specs.Prelude.{◌≡◌, ℕ, Bool, ◌||◌, false, List, map, Some}
use Rattle.op_base.specs.Object.{same_object}
use Rattle.op_base.specs.declared.name.ObjectId.{ObjectId}
use Rattle.op_base.specs.declared.tag.ElementId.{ElementId}
use Rattle.causal_model.specs.KeptElements.{KeptElement}
use Rattle.causal_model.specs.ListSteps.{pruned}
use Rattle.list_type.specs.Listed.{Listed}
use Rattle.list_type.specs.Nodes.{IsTrimmed}
use Rattle.list_type.specs.declared.lists.Content.{Content}
use Rattle.list_type.specs.declared.tree.Node.{Node}

-- an element, gone where its id passes
abbrev pub gone_where : (ElementId → Bool) → KeptElement → KeptElement
gone_where passes e = record { id = e.id; rank = e.rank; depth = e.depth; value = e.value; gone = e.gone || passes e.id }

-- what is kept of a list once those that pass are gone
abbrev pub kept_without_those : (ElementId → Bool) → List KeptElement → List KeptElement
kept_without_those passes kept = pruned (map (gone_where passes) kept)

-- a slot's node, gone where its id passes
abbrev pub node_gone_where : (ElementId → Bool) → ℕ × Node Content → ℕ × Node Content
node_gone_where passes x = (x.0, record x.1 { gone = x.1.gone || passes x.1.value.id })

-- the nodes of slots, each gone where its id passes
abbrev pub nodes_gone_where : (ElementId → Bool) → List (ℕ × Node Content) → List (ℕ × Node Content)
nodes_gone_where passes xs = map (node_gone_where passes) xs

-- nodes of some row leave from this slot on
abbrev pub IsTrimmedFrom : List (List (ℕ × Node Content)) → ℕ → Type 0
IsTrimmedFrom rows slot = (row : ℕ) × (aim : List (ℕ × Node Content)) × IsTrimmed rows row (Some slot) aim

-- of all lists only that of an object changed, to this
pub record OneChanged (object : ObjectId) (kept : List KeptElement) (old new : Listed) : Type 0 where
  pub here : new.kept object ≡ kept
  pub others : (other : ObjectId) → same_object other object ≡ false → new.kept other ≡ old.kept other
