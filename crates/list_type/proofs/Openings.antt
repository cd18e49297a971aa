-- Whether something can be put behind an element, told from the entries of its object.
use Rattle.std.proofs.Common.{◌≡◌, ℕ, true, false, not, ◌&&◌, ◌||◌, All, List, [], ◌∷◌, map, refl, sym, ap, ◌∙◌}
use Rattle.std.specs.Prelude.{IsTrue, Some}
use Rattle.std.specs.HashMap.{HashMap}
use Rattle.std.specs.List.{list_any}
use Rattle.std.proofs.lemmas.Bool.{and_parts, and_left}
use Rattle.std.proofs.lemmas.List.Elements.{All-head, All-tail, All-weaker}
use Rattle.std.proofs.lemmas.List.Folds.{list_any_none}
use Rattle.op_base.specs.Object.{same_object}
use Rattle.op_base.specs.declared.message.Entry.{Entry}
use Rattle.op_base.specs.declared.message.Message.{Message}
use Rattle.op_base.specs.declared.name.ObjectId.{ObjectId}
use Rattle.op_base.specs.declared.tag.ElementId.{ElementId}
use Rattle.causal_model.specs.Elements.{same_element, takes_out}
use Rattle.causal_model.specs.KeptElements.{KeptElement}
use Rattle.causal_model.specs.ListSteps.{had_seen, takes, is_open}
use Rattle.causal_model.specs.Log.{message_of}
use Rattle.causal_model.specs.Order.{happened_before}
use Rattle.causal_model.specs.Parts.{is_on}
use Rattle.list_type.specs.Chained.{Chained}
use Rattle.list_type.specs.Heads.{takes_by}
use Rattle.list_type.specs.ListFields.{AreListed, StandsIn}
use Rattle.list_type.specs.declared.lists.Content.{Content}
use Rattle.list_type.specs.declared.tree.Node.{Node}
use Rattle.list_type.proofs.Listings.{kept_in, there_unless_gone}

module _ (object : ObjectId) (epoch : ℕ) (m : Message) where
  -- where all entries are of the object, they take out what the object's messages do
  taken_by_own : (id : ElementId) (entries : List Entry) → All (λ e. IsTrue (is_on object (message_of e))) entries
      → list_any (λ d. takes object epoch d id && happened_before d m) (map message_of entries) ≡ list_any (λ e. takes_by epoch e id && happened_before (message_of e) m) entries
  taken_by_own id [] own = refl
  taken_by_own id (e ∷ entries) own =
      let Own = λ (x : Entry). IsTrue (is_on object (message_of x)) in
      let same = (and_parts (same_object e.update.object object) true (All-head Own e entries own)).0 in
      λ i. ((same i && takes_out id e.update.act) && had_seen epoch (message_of e) id && happened_before (message_of e) m) || taken_by_own id entries (All-tail Own e entries own) i

  -- nothing can be put behind an element that a list doesn't have
  pub closed_without : (id : ElementId) (log : List Message) (kept : List KeptElement) → All (λ e. same_element e.id id ≡ false) kept → is_open object epoch log m kept (Some id) ≡ false
  closed_without id log kept without =
      let passes = λ (e : KeptElement). same_element e.id id && not e.gone in
      let none = list_any_none passes kept (All-weaker (λ e. same_element e.id id ≡ false) (λ e. passes e ≡ false) (λ e other. and_left (same_element e.id id) (not e.gone) other) kept without) in
      ap (λ b. b && had_seen epoch m id && not (list_any (λ d. takes object epoch d id && happened_before d m) log)) none

  module _ {R S : Type 0} (rows : HashMap ObjectId ℕ R) (slots : HashMap ElementId ℕ S) (chains : Chained (Node Content)) (are : AreListed rows slots chains) where
    -- behind one that it has, where it isn't gone, was seen, and wasn't taken out by an entry that was seen
    pub open_behind : (slot : ℕ) (id : ElementId) (stands : StandsIn rows chains object slot id) (entries : List Entry) → All (λ e. IsTrue (is_on object (message_of e))) entries → (node : Node Content) → node ≡ stands.node
        → is_open object epoch (map message_of entries) m (kept_in rows chains object) (Some id)
        ≡ (not node.gone && had_seen epoch m node.value.id && not (list_any (λ e. takes_by epoch e node.value.id && happened_before (message_of e) m) entries))
    open_behind slot id stands entries own node is =
        let here = there_unless_gone rows slots chains are object slot id stands ∙ ap (λ n. not n.gone) (sym is) in
        let named : id ≡ node.value.id = sym (ap (λ n. n.value.id) is ∙ stands.of_id) in
        let taken = taken_by_own id entries own ∙ ap (λ other. list_any (λ e. takes_by epoch e other && happened_before (message_of e) m) entries) named in
        λ i. here i && had_seen epoch m (named i) && not (taken i)
