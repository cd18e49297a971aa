-- One pass less is out.
use Rattle.std.proofs.Common.{◌≡◌, ℕ, ◌+◌, ◌-◌, ◌<◌, ◌==◌, false, List, ◌∷◌, length, get_or, slice_set, inl, inr, refl, sym, ap, ◌∙◌, zero-add, arith}
use Rattle.std.proofs.lemmas.Bool.{cases_eq, eq-eqb, ne_eqb, cond-true, cond-false}
use Rattle.std.proofs.lemmas.List.{length-set, get_or-set_same, get_or-set_other, get_or_default}
use Rattle.causal_model.specs.declared.note.Note.{Note}
use Rattle.turn_lock.specs.Turns.{LockState, after_join, PassState}
use Rattle.replica_lock.specs.declared.pass.Settings.{Settings}
use Rattle.live_run.specs.Joining.{left_at, AreOut, NodeOpener, take_back}
use Rattle.live_run.specs.declared.joining.Back.{Back}

-- a pass that came back
abbrev pub pass_of : Back → PassState (List Note) Settings
pass_of b = record { lock = b.pass.lock; number = b.pass.number; in_turn = false; seen = b.pass.seen; own = b.pass.own }

pub one_back : (nodes : List (LockState Settings)) (openers : List NodeOpener) (back : Back) (rest : List Back) (old : NodeOpener) (pass : PassState (List Note) Settings) (new : NodeOpener) → back.at < length nodes
    → new ≡ after_join (get_or openers back.at old) pass → AreOut nodes openers (back ∷ rest) → AreOut nodes (slice_set openers back.at new) rest
one_back nodes openers back rest old pass new inside joined are =
    let at = back.at in
    let low : at < length openers = omega (arith, inside, are.of_each) in
    record {
      of_each = length-set openers at new ∙ are.of_each;
      of = λ r d e l. elim (cases_eq r at) [
        | inl same ↦
            ap (λ (o : NodeOpener). o.lock) (ap (λ k. get_or (slice_set openers at new) k e) same ∙ get_or-set_same openers at new e low ∙ joined)
            ∙ are.of at d old inside ∙ ap (λ k. get_or nodes k d) (sym same)
        | inr other ↦ ap (λ (o : NodeOpener). o.lock) (get_or-set_other openers at r new e (λ e. other e)) ∙ are.of r d e l
      ];
      out = λ r e l. elim (cases_eq r at) [
        | inl same ↦
            let now : (get_or (slice_set openers at new) r e).out ≡ (get_or openers at old).out - 1 = ap (λ (o : NodeOpener). o.out) (ap (λ k. get_or (slice_set openers at new) k e) same ∙ get_or-set_same openers at new e low ∙ joined) in
            let was : (get_or openers at old).out ≡ 1 + left_at at rest = are.out at old inside ∙ ap (λ (n : ℕ). n + left_at at rest) (cond-true (at == at) 1 0 (eq-eqb at at refl)) in
            now ∙ omega (arith, was) ∙ ap (λ k. left_at k rest) (sym same)
        | inr other ↦
            ap (λ (o : NodeOpener). o.out) (get_or-set_other openers at r new e (λ e. other e)) ∙ are.out r e l
            ∙ ap (λ (n : ℕ). n + left_at r rest) (cond-false (at == r) 1 0 (ne_eqb at r (λ e. other (sym e)))) ∙ zero-add (left_at r rest)
      ];
    }

-- and the openers are those that took it back
pub one_taken : (nodes : List (LockState Settings)) (openers : List NodeOpener) (back : Back) (rest : List Back) (old : NodeOpener) (new : NodeOpener) → back.at < length nodes
    → new ≡ after_join (get_or openers back.at old) (pass_of back) → AreOut nodes openers (back ∷ rest)
    → (r : ℕ) (e : NodeOpener) → r < length nodes → get_or (slice_set openers back.at new) r e ≡ take_back r back (get_or openers r e)
one_taken nodes openers back rest old new inside joined are r e l =
    let at = back.at in
    let low : at < length openers = omega (arith, inside, are.of_each) in
    elim (cases_eq r at) [
      | inl same ↦
          ap (λ k. get_or (slice_set openers at new) k e) same ∙ get_or-set_same openers at new e low ∙ joined
          ∙ ap (λ o. after_join o (pass_of back)) (get_or_default openers at old e low ∙ ap (λ k. get_or openers k e) (sym same))
          ∙ sym (cond-true (at == r) (after_join (get_or openers r e) (pass_of back)) (get_or openers r e) (eq-eqb at r (sym same)))
      | inr other ↦ get_or-set_other openers at r new e (λ e. other e) ∙ sym (cond-false (at == r) (after_join (get_or openers r e) (pass_of back)) (get_or openers r e) (ne_eqb at r (λ e. other (sym e))))
    ]
