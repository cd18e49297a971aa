use Rattle.std.proofs.Common.{◌≡◌, subst}
use Rattle.op_base.specs.declared.message.Message.{Message}
use Rattle.causal_model.specs.Journal.{receive_notes}
use Rattle.causal_model.specs.Receiving.{is_accepted, receive_rule}
use Rattle.causal_model.specs.declared.outcome.Receive.TheVariants as receive
use Rattle.replica_node.specs.Rules.{noting}
use Rattle.world_model.specs.World.{wants_frame}
use Rattle.world.proofs.Follow.{comes_where}
use Rattle.world_model.proofs.Commands.{frame_is_carried}
use Rattle.world.proofs.Givings.{accepted_is_read}
use Rattle.world.proofs.Replies.{Notes}
use Rattle.world.proofs.giving.offer_frame.Goals as goal

pub receive-requires-clause-carried : goal.receive-requires-clause-carried
receive-requires-clause-carried c = (frame_is_carried c.args.node.now.inner.n c.args.node.now.inner.epoch c.args.node.now.inner.limit c.args.frame.now c.in-Ok.message c.in-Ok.ensures.found).1

pub returns-in-Ok-clause-answer : goal.returns-in-Ok-clause-answer
returns-in-Ok-clause-answer c = λ m is ns there.
    let node = c.args.node.now in
    let follows = subst (λ (x : Message). Notes receive.NoMemory is_accepted (noting node.first (receive_notes x) (receive_rule node.inner.w x)) node.journal.notes c.receive.result c.receive.new.self.journal.notes) (c.in-Ok.ensures.only m is.is) c.receive.ensures.answer in
    comes_where receive.NoMemory is_accepted wants_frame (noting node.first (receive_notes m) (receive_rule node.inner.w m) ns) ns c.receive.result (λ left. c.receive.new.self.journal.notes ≡ left) accepted_is_read (follows ns there)
