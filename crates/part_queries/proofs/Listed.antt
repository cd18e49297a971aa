-- The values that finds list: those that are in by their marks.
use Rattle.std.proofs.Common.{◌≡◌, ◌↔◌, ℕ, Bool, IsTrue, Contains, List, refl, sym, subst, ◌∙◌}
use Rattle.std.specs.Prelude.{Some, Result, Ok, Err, IfOk}
use Rattle.std.specs.List.{list_any}
use Rattle.std.specs.Cmp.Lexicographic.{bytes_decides}
use Rattle.op_base.specs.Name.{same_text}
use Rattle.op_base.specs.declared.name.ObjectId.{ObjectId}
use Rattle.op_base.specs.declared.message.Message.{Message}
use Rattle.op_base.specs.declared.outcome.Item.{Item}
use Rattle.causal_model.specs.History.{History, events, is_history}
use Rattle.causal_model.specs.Items.{cell_in}
use Rattle.causal_model.specs.Query.{TextsRise, values_that}
use Rattle.causal_model.specs.Parts.{has, has_by_parts, ArePartsOf}
use Rattle.causal_model.proofs.Theory.Elements.{item_from_list_any, list_any-from_item}
use Rattle.causal_model.proofs.Answers.ObjectParts.{has_from_parts}
use Rattle.causal_model.proofs.Answers.Values.{values_rise, values_are_exact, only_named_are_in, one_list_of_texts}

-- ---- a rising list of what is in by an object's part of a history is the answer over the history

module _ (object : ObjectId) (log : List Message) (items : List Item) (values : List (List ℕ)) (rising : TextsRise values)
    (exact : (v : List ℕ) → (Contains values v ↔ IsTrue (has_by_parts object.kind object (cell_in items object (Some v)) log (Some v)))) where
  pub answer_of_parts : (w : ℕ) (h : History) → IsTrue (is_history w h) → ArePartsOf h object log items → values ≡ values_that (λ v. has object.kind object (events h) (Some v)) object (events h)
  answer_of_parts w h t parts =
      let there : List ℕ → Bool = λ v. has object.kind object (events h) (Some v) in
      let listed = values_are_exact there object (events h) (only_named_are_in object (events h)) in
      let same : (v : List ℕ) → there v ≡ has_by_parts object.kind object (cell_in items object (Some v)) log (Some v) = λ v. has_from_parts w h object log items t parts (Some v) in
      one_list_of_texts values (values_that there object (events h)) rising (values_rise there object (events h)) (λ v. (
        λ c. (listed v).1 (same v ∙ (exact v).0 c),
        λ c. (exact v).1 (sym (same v) ∙ (listed v).0 c),
      ))

-- a list has what a test for it finds
contains_found : (values : List (List ℕ)) (v : List ℕ) → (Contains values v ↔ IsTrue (list_any (λ value. same_text value v) values))
contains_found values v = (
  λ c. list_any-from_item (λ value. same_text value v) values v c ((bytes_decides v v).1 refl),
  λ t. let one = item_from_list_any (λ value. same_text value v) values t in subst (Contains values) ((bytes_decides one.0 v).0 one.1.1) one.1.0,
)

module _ {E : Type 0} (object : ObjectId) (log : List Message) (items : List Item) (test : List ℕ → Bool) (same : (v : List ℕ) → test v ≡ has_by_parts object.kind object (cell_in items object (Some v)) log (Some v)) where
  pub listed_by_parts : (result : Result (List (List ℕ)) E) → IfOk result (λ values. (v : List ℕ) → list_any (λ value. same_text value v) values ≡ test v)
      → IfOk result (λ values. (v : List ℕ) → (Contains values v ↔ IsTrue (has_by_parts object.kind object (cell_in items object (Some v)) log (Some v))))
  listed_by_parts (Ok values) exact = λ v. (
    λ c. sym (same v) ∙ sym (exact v) ∙ (contains_found values v).0 c,
    λ t. (contains_found values v).1 (exact v ∙ same v ∙ t),
  )
  listed_by_parts (Err e) exact = tt

-- so it is the answer over the history
pub answer_of_listed : {E : Type 0} (object : ObjectId) (log : List Message) (items : List Item) (result : Result (List (List ℕ)) E) → IfOk result (λ values. TextsRise values)
    → IfOk result (λ values. (v : List ℕ) → (Contains values v ↔ IsTrue (has_by_parts object.kind object (cell_in items object (Some v)) log (Some v))))
    → IfOk result (λ values. (w : ℕ) (h : History) → IsTrue (is_history w h) → ArePartsOf h object log items → values ≡ values_that (λ v. has object.kind object (events h) (Some v)) object (events h))
answer_of_listed object log items (Ok values) rising exact = answer_of_parts object log items values rising exact
answer_of_listed object log items (Err e) rising exact = tt
