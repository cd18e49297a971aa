-- What a replica has by the rules: its history, and the messages that wait.
use Rattle.std.specs.Prelude.{ℕ, List, []}
use Rattle.op_base.specs.declared.message.Message.{Message}
use Rattle.causal_model.specs.Counts.{counts}
use Rattle.causal_model.specs.History.{History, with_message, no_history}

-- a history, and the early messages: those of the present epoch that were accepted and are not yet delivered, by origin and
-- then by number, at most one of an id
pub record State : Type 0 where
  pub history : History
  pub early : List Message

-- the state of member me of n members before anything was sent or received
abbrev pub start : ℕ → ℕ → State
start n me = record { history = no_history n me; early = [] }

-- how many messages of each member were delivered in the present epoch
abbrev pub counted : History → List ℕ
counted h = counts h.present.n h.present.messages

-- the state after an own message: it is delivered at once
abbrev pub with_own : State → Message → State
with_own s m = record { history = with_message s.history m; early = s.early }
