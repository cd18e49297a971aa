use Rattle.std.proofs.Common.{ap, unwrap_or, IsTrue, sym, subst, ◌∙◌, arith}
use Rattle.std.proofs.Math.Logic.{∥∥₁_map}
use Rattle.op_base.specs.Message.{fits, id_of}
use Rattle.op_base.specs.declared.outcome.Step.TheVariants as step
use Rattle.causal_model.specs.Receiving.{crook_after}
use Rattle.stability_matrix.specs.Rows.{stable_of}
use Rattle.stability_matrix.specs.Standing.{StableAfter}
use Rattle.replica_core.specs.Rules.{fields_of}
use Rattle.replica_core.specs.Steps.{state_without, IsStepOf}
use Rattle.replica_core.proofs.Stands.{length-rows_in, length-held_in, of_me_in}
use Rattle.replica_core.proofs.Takes.{not_crooked, is_crooked, check_tells, delivered_is_state, is_step_of_delivered, is_step_of_dropped, next_fits_in, next_entries_in, next_member_in, next_is_of_other_in, length-stable_in}
use Rattle.replica_core.proofs.replica.Replica.take.Goals as goal
use Rattle.replica_core.proofs.replica.Replica.take.Goals.{After-counts_after-stable}

pub id-id-requires : goal.id-id-requires
id-id-requires c = omega (arith, next_member_in c.args.self.now c.args.message.now c.requires.next, next_entries_in c.args.self.now c.args.message.now c.requires.next)

pub row_at-last-requires : goal.row_at-last-requires
row_at-last-requires c =
    let r = c.args.self.now in
    omega (arith, next_member_in r c.args.message.now c.requires.next, length-rows_in (fields_of r) r.stands)

pub stable_moved-moved-requires-clause-origin : goal.stable_moved-moved-requires-clause-origin
stable_moved-moved-requires-clause-origin c =
    let r = c.args.self.now in
    omega (arith, next_member_in r c.args.message.now c.requires.next, length-rows_in (fields_of r) r.stands)

pub stable_moved-moved-requires-clause-other : goal.stable_moved-moved-requires-clause-other
stable_moved-moved-requires-clause-other c =
    let r = c.args.self.now in
    λ own. next_is_of_other_in r c.args.message.now c.requires.next (own ∙ of_me_in (fields_of r) r.stands)

pub stable_moved-moved-requires-clause-entries : goal.stable_moved-moved-requires-clause-entries
stable_moved-moved-requires-clause-entries c =
    let r = c.args.self.now in
    omega (arith, next_entries_in r c.args.message.now c.requires.next, length-rows_in (fields_of r) r.stands)

-- what the checks see as stable is what is so with the message
told_after : (c : After-counts_after-stable) → StableAfter c.args.message.now.origin c.args.message.now.tag c.args.self.now.matrix c.counts_after-stable.result.now
told_after c = subst (StableAfter c.args.message.now.origin c.args.message.now.tag c.args.self.now.matrix) (sym c.counts_after-stable.ensures) c.stable_moved-moved.ensures.known

pub check-requires-clause-fits : goal.check-requires-clause-fits
check-requires-clause-fits c =
    let r = c.args.self.now in
    subst (λ n. IsTrue (fits n c.args.message.now)) (sym (length-held_in (fields_of r) r.stands)) (next_fits_in r c.args.message.now c.requires.next)

pub check-requires-clause-last : goal.check-requires-clause-last
check-requires-clause-last c =
    let r = c.args.self.now in
    omega (arith, c.row_at-last.ensures.entries, length-rows_in (fields_of r) r.stands, length-held_in (fields_of r) r.stands)

pub check-requires-clause-stable : goal.check-requires-clause-stable
check-requires-clause-stable c =
    let r = c.args.self.now in
    let long = length-stable_in r c.args.message.now c.requires.next c.counts_after-stable.result.now (told_after (goal.at.check-requires-clause-stable c).After-counts_after-stable) in
    omega (arith, long, length-held_in (fields_of r) r.stands)

pub step-requires-clause-next : goal.step-requires-clause-next
step-requires-clause-next c =
    let r = c.args.self.now in
    let m = c.args.message.now in
    ∥∥₁_map c.requires.next (λ x.
    let told = check_tells r m x.0 x.1 _ c.row_at-last.result.now c.counts_after-stable.result.now c.row_at-last.ensures.known (told_after (goal.at.step-requires-clause-next c).After-counts_after-stable) c.in-Ok.ensures.told in
    let right = not_crooked (crook_after r.w x.0.history m) _ told in
    (state_without (id_of m) x.0, x.1.left, delivered_is_state r m x.0 x.1 right))

pub step-requires-clause-sender : goal.step-requires-clause-sender
step-requires-clause-sender c = (next_is_of_other_in c.args.self.now c.args.message.now c.requires.next, ap (λ moved. unwrap_or moved (stable_of c.args.self.now.matrix.rows)) c.as_ref.ensures.value ∙ c.stable_moved-moved.ensures.least)

pub returns-in-Ok-clause-step : goal.returns-in-Ok-clause-step
returns-in-Ok-clause-step c = λ s is.
    let r = c.args.self.now in
    let m = c.args.message.now in
    let told = check_tells r m s is _ c.row_at-last.result.now c.counts_after-stable.result.now c.row_at-last.ensures.known (told_after (goal.at.returns-in-Ok-clause-step c).After-counts_after-stable) c.in-Ok.ensures.told in
    let right = not_crooked (crook_after r.w s.history m) _ told in
    subst (λ i. IsStepOf r.w s (step.Took i) c.step.new.self) (sym c.id-id.ensures)
    (is_step_of_delivered r m s is right c.step.new.self (c.step.ensures.stands (state_without (id_of m) s) is.left (delivered_is_state r m s is right)))

pub returns-in-Err-clause-step : goal.returns-in-Err-clause-step
returns-in-Err-clause-step c = λ s is.
    let r = c.args.self.now in
    let m = c.args.message.now in
    let told = check_tells r m s is _ c.row_at-last.result.now c.counts_after-stable.result.now c.row_at-last.ensures.known (told_after (goal.at.returns-in-Err-clause-step c).After-counts_after-stable) c.in-Err.ensures.told in
    let dropped = is_step_of_dropped r m s is c.in-Err.crook (is_crooked (crook_after r.w s.history m) c.in-Err.crook told) in
    record {
      message = dropped.message;
      next = dropped.next;
      is = ap (λ i. step.Crook i c.in-Err.crook) c.id-id.ensures ∙ dropped.is;
      stands = dropped.stands;
    }
