-- The note of a message.
use Rattle.std.specs.Prelude.{ℕ, List}
use Rattle.op_base.specs.declared.message.Message.{Message}
use Rattle.op_base.specs.declared.operation.Op.{Op}
use Rattle.causal_model.specs.declared.note.Note.{Note}
use Rattle.causal_model.specs.declared.note.Note.TheVariants as notes
use Rattle.replica_node.specs.declared.noting.NotedAs.{NotedAs}
use Rattle.replica_node.specs.declared.noting.NotedAs.TheVariants as as_what

-- a message as it is noted
abbrev pub noted_as : NotedAs → Message → Note
noted_as as_what.Sent m = notes.Sent m
noted_as as_what.Kept m = notes.Kept m

-- a message by its parts
abbrev pub message_of : ℕ → List ℕ → Op → Message
message_of origin tag op = record { origin = origin; tag = tag; op = op }
