-- What one command of a client makes of its pass.
use Rattle.std.specs.Prelude.{◌≡◌, ◌<◌, true, List, [], ◌∷◌, ◌++◌, length, All}
use Rattle.op_base.specs.Message.{number}
use Rattle.causal_model.specs.declared.outcome.Local.{Local}
use Rattle.causal_model.specs.declared.outcome.Local.TheVariants as local
use Rattle.replica_lock.specs.Held.{Held}
use Rattle.replica_lock.specs.Turns.{notes_in}
use Rattle.script_lang.specs.declared.live.LiveCommand.{LiveCommand}
use Rattle.script_lang.specs.declared.reply.Reply.{Reply}
use Rattle.script_lang.specs.declared.reply.Reply.TheVariants as reply
use Rattle.turn_lock.specs.Turns.{StartsWith}
use Rattle.live_run.specs.Told.{IsTold, is_ok, ok_number, sent_numbers}
use Rattle.live_run.specs.Workers.{IsSentNote}
use Rattle.live_run.specs.declared.told.Told.{Told}

-- what a call of `local` is told as, but for want of memory
abbrev pub local_told : Local → List Reply
local_told (local.Sent m) = reply.Sent (number m) ∷ []
local_told local.Busy = reply.Busy ∷ []
local_told local.End = reply.End ∷ []
local_told local.NoMemory = []

-- a command was made, and this was told
pub record Made (old new : Held) (command : LiveCommand) (told : Told) : Type 0 where
  pub lock : new.lock ≡ old.lock
  pub front : StartsWith new.seen old.seen
  pub is_told : IsTold old.lock.key.n old.lock.key.w old.lock.key.me (notes_in new.seen) command told
  pub place : told.place ≡ length (notes_in new.seen)
  pub rises : is_ok told.reply ≡ true → length (notes_in old.seen) < told.place
  pub sent : sent_numbers (notes_in new.own) ≡ sent_numbers (notes_in old.own) ++ ok_number told.reply
  pub only_sent : All IsSentNote (notes_in old.own) → All IsSentNote (notes_in new.own)
