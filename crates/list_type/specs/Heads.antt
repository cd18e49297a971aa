-- The heads of messages, which tell what their senders had seen.
use Rattle.std.specs.Prelude.{ℕ, Bool, ◌&&◌}
use Rattle.op_base.specs.declared.message.Entry.{Entry}
use Rattle.op_base.specs.declared.message.Message.{Message}
use Rattle.op_base.specs.declared.operation.Op.TheVariants as op
use Rattle.op_base.specs.declared.tag.ElementId.{ElementId}
use Rattle.causal_model.specs.Elements.{takes_out}
use Rattle.causal_model.specs.ListSteps.{had_seen}
use Rattle.causal_model.specs.Log.{message_of}
use Rattle.list_type.specs.declared.head.Head.{Head}

-- a message of this head
abbrev pub head_of : Head → Message
head_of head = record { origin = head.origin; tag = head.tag; op = op.NoOp }

-- whether an entry of an epoch takes the element of an id out, where both are of one object
abbrev pub takes_by : ℕ → Entry → ElementId → Bool
takes_by epoch e id = takes_out id e.update.act && had_seen epoch (message_of e) id
