-- Which entries of a log a message leaves.
use Rattle.std.proofs.Common.{◌≡◌, ℕ, ◌≤◌, Bool, true, false, not, ◌&&◌, List, [], ◌∷◌, ◌++◌, length, take, drop, IsTrue, inl, inr, refl, sym, ap, ◌∙◌, arith}
use Rattle.std.specs.List.{filter}
use Rattle.std.proofs.lemmas.Bool.{false≢true}
use Rattle.std.proofs.lemmas.List.Filters.{length-filter_both}
use Rattle.op_base.specs.Object.{same_object}
use Rattle.op_base.specs.declared.message.Entry.{Entry}
use Rattle.op_base.specs.declared.message.Message.{Message}
use Rattle.op_base.specs.declared.operation.Op.{Op}
use Rattle.op_base.specs.declared.operation.Op.TheVariants as op
use Rattle.op_base.specs.declared.operation.Update.{Update}
use Rattle.causal_model.specs.Log.{is_covered_by, message_of}
use Rattle.causal_model.specs.Order.{happened_before}
use Rattle.causal_model.proofs.Answers.Rules.{object_from_same}
use Rattle.polog.specs.Marks.{Reaches}
use Rattle.polog.specs.Order.{Each}
use Rattle.polog.specs.Value.{is_of, stays}
use Rattle.polog.specs.declared.reach.Reach.TheVariants as reaches
use Rattle.polog.proofs.Laid.{joined}
use Rattle.polog.proofs.Orders.{filter-all, filter-join, told}

pub each-any : {A : Type 0} (P : A → Type 0) → ((x : A) → P x) → (xs : List A) → Each P xs
each-any P all [] = tt
each-any P all (x ∷ xs) = (all x, each-any P all xs)

module _ (covers : Update → Update → Bool) (m : Message) where
  uncovered-stays : (e : Entry) → is_covered_by covers (op.Update e.update) m.op ≡ false → stays covers m e ≡ true
  uncovered-stays e not_covered = ap (λ b. not (b && happened_before (message_of e) m)) not_covered

  -- the no-op covers nothing
  pub noop-leaves-all : m.op ≡ op.NoOp → (es : List Entry) → filter (stays covers m) es ≡ es
  noop-leaves-all noop es = filter-all (stays covers m) es (each-any (λ e. stays covers m e ≡ true) (λ e. uncovered-stays e (ap (is_covered_by covers (op.Update e.update)) noop)) es)

  -- nor does an operation cover one of another object
  pub other-stays : (u : Update) → m.op ≡ op.Update u → ((earlier : Update) → IsTrue (covers u earlier) → IsTrue (same_object u.object earlier.object))
      → (e : Entry) → is_of u.object e ≡ false → stays covers m e ≡ true
  other-stays u is one_object e other = uncovered-stays e (ap (is_covered_by covers (op.Update e.update)) is ∙ elim (told (covers u e.update)) [
    | inl t ↦
        let same = one_object e.update t in
        let one : u.object ≡ e.update.object = object_from_same u.object e.update.object same in
        absurd (false≢true (sym other ∙ (λ i. same_object (sym one i) (one i)) ∙ same))
    | inr t ↦ t
  ])

-- an operation that reaches nothing covers nothing
pub nothing-leaves-all : (covers : Update → Update → Bool) (m : Message) → Reaches reaches.Nothing covers m.op → (es : List Entry) → filter (stays covers m) es ≡ es
nothing-leaves-all covers m nothing es = filter-all (stays covers m) es (each-any (λ e. stays covers m e ≡ true) (λ e. uncovered-stays covers m e (uncovered m.op e.update nothing)) es) where
  uncovered : (o : Op) (u : Update) → Reaches reaches.Nothing covers o → is_covered_by covers (op.Update u) o ≡ false
  uncovered op.NoOp u none = refl
  uncovered (op.Update later) u none = elim (told (covers later u)) [ inl t ↦ absurd (none u t) | inr t ↦ t ]

-- what stays as far as a place was put first, and all from the place on stays
pub swept-is-filtered : {A : Type 0} (p : A → Bool) (old swept : List A) (kept to : ℕ) → take kept swept ≡ filter p (take to old) → drop to swept ≡ drop to old
    → Each (λ x. p x ≡ true) (drop to old) → take kept swept ++ drop to swept ≡ filter p old
swept-is-filtered p old swept kept to front behind after =
    (λ t. front t ++ behind t) ∙ ap (λ xs. filter p (take to old) ++ xs) (sym (filter-all p (drop to old) after))
    ∙ sym (filter-join p (take to old) (drop to old)) ∙ ap (filter p) (joined to old)

pub length-filter-le : {A : Type 0} (p : A → Bool) (xs : List A) → length (filter p xs) ≤ length xs
length-filter-le p xs = let both = length-filter_both p (λ x. not (p x)) (λ x. refl) xs in omega (arith, both)
