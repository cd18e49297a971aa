-- The fields of lists: a row of slots for each object, and the slot of each element.
use Rattle.std.specs.Prelude.{◌≡◌, ℕ, ◌<◌, min, List, [], ◌∷◌, map, length, AllPairs, Option, Some, None, false}
use Rattle.std.specs.HashMap.{HashMap, get, spare}
use Rattle.op_base.specs.Object.{same_object}
use Rattle.op_base.specs.declared.name.Kind.TheVariants as kinds
use Rattle.op_base.specs.declared.name.ObjectId.{ObjectId}
use Rattle.op_base.specs.declared.tag.ElementId.{ElementId}
use Rattle.causal_model.specs.Elements.{same_element}
use Rattle.causal_model.specs.KeptElements.{KeptElement}
use Rattle.list_type.specs.Chained.{Chained, Stands, row_at}
use Rattle.list_type.specs.declared.lists.Content.{Content}
use Rattle.list_type.specs.declared.tree.Node.{Node}

-- the rank of an element
abbrev pub rank_in : Content → List ℕ
rank_in content = content.id.epoch ∷ content.sum ∷ content.id.origin ∷ []

-- the element of a node
abbrev pub element_in : Node Content → KeptElement
element_in node = record { id = node.value.id; rank = rank_in node.value; depth = node.depth; value = node.value.value; gone = node.gone }

-- the elements of slots
abbrev pub elements_in : List (ℕ × Node Content) → List KeptElement
elements_in slots = map (λ x. element_in x.1) slots

-- the elements of a row, or none where there is no row
abbrev pub elements_of_row : List (List (ℕ × Node Content)) → Option ℕ → List KeptElement
elements_of_row rows None = []
elements_of_row rows (Some row) = elements_in (row_at rows row)

-- how many more elements there is room for
abbrev pub spare_of : {R S : Type 0} → HashMap ObjectId ℕ R → HashMap ElementId ℕ S → Chained (Node Content) → ℕ
spare_of rows slots chains = min (min (spare rows) (spare slots)) (min chains.spare chains.row_spare)

module _ {R : Type 0} where
  -- an element stands in a slot of an object's row, with its node: these stand before it there, and those behind it
  pub record StandsIn (rows : HashMap ObjectId ℕ R) (chains : Chained (Node Content)) (object : ObjectId) (slot : ℕ) (id : ElementId) : Type 0 where
    pub row : ℕ
    pub before : List (ℕ × Node Content)
    pub node : Node Content
    pub after : List (ℕ × Node Content)
    pub of_object : get same_object rows object ≡ Some row
    pub stands : Stands chains.rows row before slot node after
    pub of_id : node.value.id ≡ id

module _ {R S : Type 0} where
  -- each list has a row of its own, each row is one of a list, and the slot of each element is found by its id
  pub record AreListed (rows : HashMap ObjectId ℕ R) (slots : HashMap ElementId ℕ S) (chains : Chained (Node Content)) : Type 0 where
    pub within : (object : ObjectId) (row : ℕ) → get same_object rows object ≡ Some row → row < length chains.rows
    pub apart : (a b : ObjectId) (row : ℕ) → get same_object rows a ≡ Some row → get same_object rows b ≡ Some row → a ≡ b
    pub named : (row : ℕ) → row < length chains.rows → ∥ ((object : ObjectId) × (object.kind ≡ kinds.List) × (get same_object rows object ≡ Some row)) ∥₁
    pub found : (row : ℕ) (before : List (ℕ × Node Content)) (slot : ℕ) (node : Node Content) (after : List (ℕ × Node Content))
        → Stands chains.rows row before slot node after → get same_element slots node.value.id ≡ Some slot
    pub held : (id : ElementId) (slot : ℕ) → get same_element slots id ≡ Some slot → ∥ ((object : ObjectId) × StandsIn rows chains object slot id) ∥₁
    pub once : (row : ℕ) → AllPairs (λ (a b : ℕ × Node Content). same_element a.1.value.id b.1.value.id ≡ false) (row_at chains.rows row)
