-- Where an element is put in.
use Rattle.std.specs.Prelude.{◌≡◌, ℕ, suc, Bool, false, List, ◌∷◌, ◌++◌, All, Option, Some, None}
use Rattle.std.specs.HashMap.{HashMap}
use Rattle.std.specs.Ordering.{is_lt}
use Rattle.op_base.specs.Order.{text_cmp}
use Rattle.op_base.specs.declared.message.Entry.{Entry}
use Rattle.op_base.specs.declared.name.Kind.TheVariants as kinds
use Rattle.op_base.specs.declared.name.ObjectId.{ObjectId}
use Rattle.op_base.specs.declared.tag.ElementId.{ElementId}
use Rattle.causal_model.specs.Elements.{same_element, element_of}
use Rattle.causal_model.specs.KeptElements.{KeptElement}
use Rattle.causal_model.specs.ListSteps.{put_down}
use Rattle.causal_model.specs.Log.{message_of}
use Rattle.list_type.specs.Chained.{Chained}
use Rattle.list_type.specs.Listed.{Listed}
use Rattle.list_type.specs.ListFields.{StandsIn, rank_in, element_in, elements_in}
use Rattle.list_type.specs.declared.lists.Content.{Content}
use Rattle.list_type.specs.declared.tree.Node.{Node}

-- no element has the id of the one that an entry of an epoch puts in
abbrev pub IsFresh : ℕ → Entry → Listed → Type 0
IsFresh epoch entry lists =
    (object : ObjectId) → object.kind ≡ kinds.List → All (λ e. same_element e.id (element_of (record { epoch = epoch; message = message_of entry })) ≡ false) (lists.kept object)

-- whether a node's element ranks above another
abbrev pub ranks_above : Content → Node Content → Bool
ranks_above content other = is_lt (text_cmp (rank_in content) (rank_in other.value))

module _ {R : Type 0} (rows : HashMap ObjectId ℕ R) (chains : Chained (Node Content)) (object : ObjectId) where
  -- a place of a list is this one: at the head, where nothing stands ahead, or behind the slot of its element; and an element
  -- there stands so deep
  abbrev pub IsAt : Option ElementId → Option ℕ → ℕ → Type 0
  IsAt None ahead depth = (ahead ≡ None) × (depth ≡ 1)
  IsAt (Some id) ahead depth = (slot : ℕ) × (s : StandsIn rows chains object slot id) × (ahead ≡ Some slot) × (depth ≡ suc s.node.depth)

  -- an element was put at the head of a list, or behind a slot of it, past those of higher rank
  abbrev pub IsPutBehind : Option ℕ → KeptElement → List KeptElement → List KeptElement → Type 0
  IsPutBehind None e old new = new ≡ put_down e old
  IsPutBehind (Some slot) e old new =
      (id : ElementId) (s : StandsIn rows chains object slot id) → new ≡ elements_in s.before ++ element_in s.node ∷ put_down e (elements_in s.after)

  -- nothing stands ahead, or a slot of the list
  abbrev pub IsAhead : Option ℕ → Type 0
  IsAhead None = Unit {0}
  IsAhead (Some slot) = (id : ElementId) × StandsIn rows chains object slot id
