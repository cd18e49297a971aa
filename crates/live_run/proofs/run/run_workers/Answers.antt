use Rattle.std.proofs.Common.{◌≡◌, ℕ, ◌<◌, ◌≤◌, List, [], length, map, All, rules, subst, sym, ◌∙◌, arith}
use Rattle.std.specs.List.{slice_index_or}
use Rattle.mailboxes.specs.declared.mailbox.Mailbox.{Mailbox}
use Rattle.replica_lock.specs.declared.pass.Settings.{Settings}
use Rattle.script_lang.specs.Ranges.{LiveLineIsWithin}
use Rattle.turn_lock.specs.Turns.{LockState}
use Rattle.live_run.specs.Ended.{AreLocks, HasEnded}
use Rattle.live_run.specs.Inputs.{commands_in}
use Rattle.live_run.specs.Joining.{NodeOpener}
use Rattle.live_run.specs.Returned.{HaveWorked}
use Rattle.live_run.specs.declared.input.NumberedLine.{NumberedLine}
use Rattle.live_run.specs.declared.letter.Letter.{Letter}
use Rattle.live_run.proofs.Places.{kept}
use Rattle.live_run.proofs.Running.{has_ended}
use Rattle.live_run.proofs.Working.{replica_below}
use Rattle.live_run.proofs.run.run_workers.Goals as goal

pub close_joined-requires-clause-backs : goal.close_joined-requires-clause-backs
close_joined-requires-clause-backs g c =
    let nodes = c.in_ok-nodes.nodes.items in
    let mailboxes = c.in_ok-mailboxes.mailboxes.items in
    let told = map (λ ts. ts.items) c.in_ok-told.field-0.told.items in
    let backs = c.in_ok-told.field-0.backs.items in
    let n_is = c.in_ok-nodes.ensures.locks.of_each in
    let locks = subst (λ k. AreLocks k c.args.w nodes) (sym n_is) c.in_ok-nodes.ensures.locks in
    let worked = subst (λ (p : List (LockState Settings) × List (Mailbox Letter)). AreLocks (length p.0) c.args.w p.0 → HaveWorked p.0 p.1 c.args.lines.now c.args.w c.args.plan.now.clients told backs c.work_opened.new.firsts)
    (λ i. (c.deref.ensures.value i, c.deref-2.ensures.value i)) (c.in_ok-told.ensures.worked c.args.w) locks in
    worked.returned.backs_of

pub close_joined-requires-clause-fresh : goal.close_joined-requires-clause-fresh
close_joined-requires-clause-fresh g c =
    let nodes = c.in_ok-nodes.nodes.items in
    let new = c.work_opened.new.openers in
    let same : c.in_ok-nodes.openers.len ≡ length new = search rules in
    subst (λ (openers : List NodeOpener). (r : ℕ) (e : NodeOpener) → r < length nodes → (slice_index_or openers r e).own ≡ []) (sym (kept new c.in_ok-nodes.openers.items c.in_ok-nodes.openers.len same))
    (subst (λ (ns : List (LockState Settings)). (r : ℕ) (e : NodeOpener) → r < length ns → (slice_index_or new r e).own ≡ []) c.deref.ensures.value c.in_ok-told.ensures.fresh)

pub returns : goal.returns
returns g c =
    let nodes = c.in_ok-nodes.nodes.items in
    let mailboxes = c.in_ok-mailboxes.mailboxes.items in
    let told = map (λ ts. ts.items) c.in_ok-told.field-0.told.items in
    let backs = c.in_ok-told.field-0.backs.items in
    let n_is = c.in_ok-nodes.ensures.locks.of_each in
    let locks = subst (λ k. AreLocks k c.args.w nodes) (sym n_is) c.in_ok-nodes.ensures.locks in
    let worked = subst (λ (p : List (LockState Settings) × List (Mailbox Letter)). AreLocks (length p.0) c.args.w p.0 → HaveWorked p.0 p.1 c.args.lines.now c.args.w c.args.plan.now.clients told backs c.work_opened.new.firsts)
    (λ i. (c.deref.ensures.value i, c.deref-2.ensures.value i)) (c.in_ok-told.ensures.worked c.args.w) locks in
    let within = subst (λ k. All (λ (l : NumberedLine). LiveLineIsWithin k c.args.plan.now.clients l.line) c.args.lines.now) (sym n_is) c.requires.within in
    let some : 1 ≤ length nodes = omega (arith, n_is, c.requires.some) in
    let boxes_are : length mailboxes ≡ length nodes = c.in_ok-mailboxes.ensures.of_each ∙ sym n_is in
    subst (λ k. HasEnded k c.args.w c.args.plan.now.clients (commands_in c.args.lines.now) told c.in_ok-nodes-2.nodes.items) n_is
    (has_ended nodes mailboxes c.args.lines.now c.args.w c.args.plan.now.clients told worked.rows backs worked.returned some (omega (arith, n_is, c.requires.few)) locks (λ k l. replica_below (length nodes) c.args.plan.now.clients k c.args.lines.now some within)
    c.work_opened.new.firsts worked.firsts_of_each boxes_are worked.met c.in_ok-nodes-2.nodes.items c.in_ok-nodes-2.ensures)
