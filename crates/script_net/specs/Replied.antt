-- What is replied to what the calls of a world answer.
use Rattle.std.specs.Prelude.{◌≡◌, ◌<◌, length, List, All, Option, Some, None, Result, Ok, IsErr, IfOk, OnOk}
use Rattle.op_base.specs.declared.memory.NoMemory.{NoMemory}
use Rattle.op_base.specs.declared.message.Message.{Message}
use Rattle.script_lang.specs.declared.command.Command.{Command}
use Rattle.script_lang.specs.declared.reply.Reply.{Reply}
use Rattle.replica_keeper.specs.Worlds.{Shown}
use Rattle.replica_keeper.specs.declared.keep_world.KeepWorld.{KeepWorld}
use Rattle.world.specs.Answers.{ShowsPlain}
use Rattle.world.specs.declared.world.World.{World}
use Rattle.world_model.specs.Stops.{PlainKeep}
use Rattle.world_model.specs.World.{PlainWorld}
use Rattle.script_net.specs.Commands.{command_at, keep_command_at}

-- the reply of a rule was told, and its effect was made; unless memory ran out
abbrev pub IsTold : {Q W : Type 0} → (Q → W → Type 0) → Option Reply × W → Result Reply NoMemory → Q → Type 0
IsTold Shows made result new = IfOk result (λ reply. made.0 ≡ Some reply) × OnOk result (Shows new made.1)

-- so it was of a command in a plain world, and in a plain keep world
abbrev pub Told : PlainWorld → Command → Result Reply NoMemory → World → Type 0
Told plain command result new = IsTold ShowsPlain (command_at command plain) result new

abbrev pub KeepTold : PlainKeep → Command → Result Reply NoMemory → KeepWorld → Type 0
KeepTold keep command result new = IsTold Shown (keep_command_at command keep) result new

-- this was replied, or there was no memory where there is no reply
abbrev pub IsReply : Option Reply → Result Reply NoMemory → Type 0
IsReply (Some reply) result = result ≡ Ok reply
IsReply None result = IsErr result

-- messages have numbers of their origins
abbrev pub HaveNumbers : List Message → Type 0
HaveNumbers messages = All (λ m. m.origin < length m.tag) messages
