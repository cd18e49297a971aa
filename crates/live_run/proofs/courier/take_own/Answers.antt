use Rattle.std.proofs.Common.{◌+◌, ◌∙◌}
use Rattle.replica_lock.specs.Turns.{notes_in}
use Rattle.live_run.proofs.Couriers.{slice_are_mails, slice_done, was_posted_back}
use Rattle.live_run.proofs.courier.take_own.Goals as goal

pub take_at-requires-clause-mails : goal.take_at-requires-clause-mails
take_at-requires-clause-mails g c = (
  c.args.node.now.key.me + 1,
  notes_in c.args.round.now.done.pass.seen,
  slice_are_mails c.args.node.now c.args.mailboxes.now c.args.round.now.done c.requires.done c.as_mut_slice-mails.result.now c.as_mut_slice-mails.ensures.value,
)

pub returns-clause-done : goal.returns-clause-done
returns-clause-done g c =
    slice_done c.args.node.now c.args.mailboxes.now c.args.round.now.done c.requires.done c.as_mut_slice-mails.result.now c.as_mut_slice-mails.ensures.value c.take_at.new.mails (c.take_at.ensures.kept (c.args.node.now.key.me + 1) (notes_in c.args.round.now.done.pass.seen)) c.take_at.ensures.grow

pub returns-clause-posted : goal.returns-clause-posted
returns-clause-posted g c =
    was_posted_back c.args.node.now c.args.mailboxes.now c.args.round.now.done c.requires.done c.as_mut_slice-mails.result.now c.as_mut_slice-mails.ensures.value c.take_at.new.mails (c.take_at.ensures.kept (c.args.node.now.key.me + 1) (notes_in c.args.round.now.done.pass.seen))
    c.from.result c.take_at.result (c.from.ensures ∙ c.requires.of.of_member) c.take_at.ensures.posted
