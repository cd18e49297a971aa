-- What holds of logs that stand for a history. Each statement is the contract of a function of laws.rt.
use Rattle.std.specs.Prelude.{◌≡◌, ℕ, ◌*◌, ◌<◌, ◌≤◌, Bool, false, List, [], ◌∷◌, ◌++◌, length, IsTrue}
use Rattle.op_base.specs.declared.message.Message.{Message}
use Rattle.op_base.specs.declared.operation.Update.{Update}
use Rattle.causal_model.specs.Chapter.{is_chapter}
use Rattle.causal_model.specs.Log.{is_kept}
use Rattle.causal_model.specs.Stability.{stable_vector}
use Rattle.polog.specs.Value.{Log}
use Rattle.polog.specs.Standing.{IsPruned, IsLogged, IsStripping}

-- a message that isn't kept leaves the pruned log as it is
abbrev pub UnkeptIsLogged : Type 0
UnkeptIsLogged = (keeps : Update → Bool) (covers : Update → Update → Bool) (n me : ℕ) (ms : List Message) (m : Message) (log : Log)
    → is_kept keeps m.op ≡ false → IsPruned keeps covers n me ms m log → IsLogged keeps covers n me ms m log

-- where the room is a window for each member, the pruned log has room for a next message that is kept
abbrev pub PrunedHasRoom : Type 0
PrunedHasRoom = (keeps : Update → Bool) (covers : Update → Update → Bool) (n w me : ℕ) (ms : List Message) (m : Message) (log : Log)
    → me < n → 1 ≤ w → IsTrue (is_chapter n w me (ms ++ m ∷ [])) → IsTrue (is_kept keeps m.op) → IsPruned keeps covers n me ms m log
    → log.room ≡ n * w → length log.entries < log.room

-- where these are the stable counts with the message, a log that has it can be stripped entry by entry
abbrev pub LoggedIsStripping : Type 0
LoggedIsStripping = (keeps : Update → Bool) (covers : Update → Update → Bool) (n w me : ℕ) (ms : List Message) (m : Message)
    (stable : List ℕ) (log : Log)
    → IsTrue (is_chapter n w me (ms ++ m ∷ [])) → stable ≡ stable_vector n me (ms ++ m ∷ [])
    → IsLogged keeps covers n me ms m log → IsStripping keeps covers n me ms m stable log
