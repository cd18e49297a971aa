use Rattle.std.proofs.Common.{◌≡◌, ℕ, ap}
use Rattle.std.specs.HashMap.{HashMap, get, IsClone}
use Rattle.std.specs.Map.{lookup}
use Rattle.std.proofs.lemmas.List.Elements.{same_from_all_zip}
use Rattle.op_base.specs.Object.{same_object}
use Rattle.op_base.specs.declared.name.ObjectId.{ObjectId}
use Rattle.op_base.specs.declared.tag.ElementId.{ElementId}
use Rattle.causal_model.specs.Elements.{same_element}
use Rattle.list_type.proofs.Listings.{stay_listed, stay_shown}
use Rattle.list_type.proofs.lists.Lists.copy.Goals as goal

-- a map whose keys and numbers have equal clones has equal entries
entries_copied : {K R : Type 0} (is_clone : K → K → Type 0) (m n : HashMap K ℕ R) → ((p q : K) → is_clone p q → q ≡ p) → IsClone is_clone (λ (k l : ℕ). l ≡ k) m n → n.entries ≡ m.entries
entries_copied is_clone m n equal cloned = same_from_all_zip (λ p q. is_clone p.0 q.0 × (q.1 ≡ p.1)) m.entries n.entries cloned (λ p q is. λ i. (equal p.0 q.0 is.0 i, is.1 i))

rows_copied : {R : Type 0} (m n : HashMap ObjectId ℕ R) → IsClone (λ (a b : ObjectId). b ≡ a) (λ (k l : ℕ). l ≡ k) m n → (object : ObjectId) → get same_object n object ≡ get same_object m object
rows_copied m n cloned object = ap (lookup (same_object object)) (entries_copied (λ a b. b ≡ a) m n (λ a b is. is) cloned)

slots_copied : {R : Type 0} (m n : HashMap ElementId ℕ R) → IsClone (λ (a b : ElementId). b ≡ a) (λ (k l : ℕ). l ≡ k) m n → (id : ElementId) → get same_element n id ≡ get same_element m id
slots_copied m n cloned id = ap (lookup (same_element id)) (entries_copied (λ a b. b ≡ a) m n (λ a b is. is) cloned)

pub invariant_of-result : goal.invariant_of-result
invariant_of-result c =
    let old = c.args.self.now in
    let rows = rows_copied old.rows c.in_ok-clone.field-0 c.in_ok-clone.ensures.cases in
    let slots = slots_copied old.slots c.in_ok-clone-2.field-0 c.in_ok-clone-2.ensures.cases in
    record { listed = stay_listed _ _ _ _ _ _ rows slots c.in_ok-copy.ensures old.listed }

pub returns : goal.returns
returns c =
    let old = c.args.self.now in
    stay_shown old.rows c.in_ok-clone.field-0 old.chains c.in_ok-copy.field-0 (rows_copied old.rows c.in_ok-clone.field-0 c.in_ok-clone.ensures.cases) c.in_ok-copy.ensures
