use Rattle.std.proofs.Common.{◌≡◌, ℕ, ◌<◌, get_or}
use Rattle.op_base.specs.declared.message.Message.{Message}
use Rattle.op_base.specs.declared.operation.Op.TheVariants as op
use Rattle.outbox.proofs.outbox.make_husks.Given as goal

abbrev pub invariant-loop-message : goal.invariant-loop-message
invariant-loop-message l = (k : ℕ) (d : Message) → k < l.message-index → (get_or l.messages k d).op ≡ op.NoOp
