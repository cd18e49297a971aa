-- What an update covers, as a part of the items.
use Rattle.std.proofs.Common.{◌≡◌, ℕ, Bool, true, false, ◌&&◌, ◌||◌, List, Option, Some, None, refl, sym, ◌∙◌, subst}
use Rattle.std.specs.Ordering.{is_eq}
use Rattle.std.specs.Option.{option_cmp}
use Rattle.std.specs.Cmp.Lexicographic.{texts_ties}
use Rattle.std.proofs.lemmas.Bool.{false≢true}
use Rattle.op_base.specs.Object.{same_object}
use Rattle.op_base.specs.Order.{text_cmp}
use Rattle.op_base.specs.declared.name.Kind.{Kind}
use Rattle.op_base.specs.declared.name.Kind.TheVariants.{AwSet, RwSet}
use Rattle.op_base.specs.declared.name.ObjectId.{ObjectId}
use Rattle.op_base.specs.declared.operation.Act.{Act}
use Rattle.op_base.specs.declared.operation.Act.TheVariants.{Add, Rmv, Write}
use Rattle.op_base.specs.declared.operation.Op.TheVariants as op
use Rattle.op_base.specs.declared.operation.Update.{Update}
use Rattle.op_base.specs.declared.outcome.Item.{Item}
use Rattle.causal_model.specs.Acts.{is_clear, value_of, same_value}
use Rattle.causal_model.specs.CellSteps.{covers_place, covers_value}
use Rattle.causal_model.proofs.Cells.KindCells.{place_parts}
use Rattle.causal_model.proofs.Answers.Rules.{object_from_same}
use Rattle.stable_state.specs.Picked.{ArePicked, is_place, is_set}

-- where two tests agree, the same items pass
picked_alike : (p q : ObjectId → Option (List ℕ) → Bool) (items : List Item) (from to : ℕ) → ((object : ObjectId) (value : Option (List ℕ)) → q object value ≡ p object value) → ArePicked p items from to → ArePicked q items from to
picked_alike p q items from to alike picked = record {
  ordered = picked.ordered;
  within = picked.within;
  before = λ k d l h. alike _ _ ∙ picked.before k d l h;
  inside = λ k d l h. alike _ _ ∙ picked.inside k d l h;
  after = λ k d l h. alike _ _ ∙ picked.after k d l h;
}

same_after : (a b c : Bool) → (a ≡ true → b ≡ c) → (a && b) ≡ (a && c)
same_after true b c same = same refl
same_after false b c same = refl

is_value : (v : List ℕ) (value : Option (List ℕ)) → same_value (Some v) value ≡ is_eq (option_cmp text_cmp (Some v) value)
is_value v None = refl
is_value v (Some w) = texts_ties v w

-- an act with a value is no clear
names_value : (act : Act) (v : List ℕ) → value_of act ≡ Some v → is_clear act ≡ false
names_value (Add w) v is = refl
names_value (Rmv w) v is = refl
names_value (Write w) v is = refl
names_value act v is = cc

-- in a set an act with a value covers what is of that value
module _ (u : Update) (v : List ℕ) (named : value_of u.act ≡ Some v) where
  in_set : (kind : Kind) (value : Option (List ℕ)) → is_set kind ≡ true → covers_value kind u.act value ≡ (is_clear u.act || same_value (value_of u.act) value)
  in_set AwSet value t = refl
  in_set RwSet value t = refl
  in_set kind value t = absurd (false≢true t)

  pub covers_own : is_set u.object.kind ≡ true → (object : ObjectId) (value : Option (List ℕ)) → covers_place (op.Update u) object value ≡ is_place u.object (Some v) object value
  covers_own set object value =
      same_after (same_object u.object object) (covers_value object.kind u.act value) (is_eq (option_cmp text_cmp (Some v) value)) (λ t.
      let same : u.object ≡ object = object_from_same u.object object t in
      in_set object.kind value (subst (λ (o : ObjectId). is_set o.kind ≡ true) same set)
      ∙ (λ i. names_value u.act v named i || same_value (named i) value) ∙ is_value v value)
      ∙ sym (place_parts u.object object (Some v) value)

  pub value_is_covered : is_set u.object.kind ≡ true → (items : List Item) (from to : ℕ) → ArePicked (is_place u.object (Some v)) items from to → ArePicked (covers_place (op.Update u)) items from to
  value_is_covered set items from to = picked_alike (is_place u.object (Some v)) (covers_place (op.Update u)) items from to (covers_own set)
