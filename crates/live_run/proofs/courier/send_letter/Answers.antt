use Rattle.std.proofs.Common.{◌+◌, sym, subst}
use Rattle.causal_model.specs.declared.note.Note.TheVariants as note
use Rattle.std.specs.Prelude.{Contains}
use Rattle.replica_lock.specs.Turns.{notes_in}
use Rattle.live_run.proofs.Couriers.{slice_are_mails, slice_done}
use Rattle.live_run.proofs.courier.send_letter.Goals as goal

pub post_at-requires-clause-mails : goal.post_at-requires-clause-mails
post_at-requires-clause-mails g c = (
  c.args.node.now.key.me + 1,
  notes_in c.args.round.now.done.pass.seen,
  slice_are_mails c.args.node.now c.args.mailboxes.now c.args.round.now.done c.requires.done c.as_mut_slice-mails.result.now c.as_mut_slice-mails.ensures.value,
)

pub returns-clause-done : goal.returns-clause-done
returns-clause-done g c =
    let notes = notes_in c.args.round.now.done.pass.seen in
    slice_done c.args.node.now c.args.mailboxes.now c.args.round.now.done c.requires.done c.as_mut_slice-mails.result.now c.as_mut_slice-mails.ensures.value c.post_at.new.mails
    (c.post_at.ensures.kept (c.args.node.now.key.me + 1) notes (subst (λ m. Contains notes (note.Sent m)) (sym c.in_ok-copy.ensures.copy) c.requires.to_post.was_sent)) c.post_at.ensures.grow
