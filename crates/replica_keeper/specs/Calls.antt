-- The list of a call: the groups that the journal had before it, and behind them the group that the rules give for this call.
use Rattle.std.specs.Prelude.{List}
use Rattle.op_base.specs.declared.message.Message.{Message}
use Rattle.op_base.specs.declared.operation.Update.{Update}
use Rattle.causal_model.specs.Journal.{replay, local_notes, beat_notes, receive_notes}
use Rattle.causal_model.specs.Receiving.{receive_rule}
use Rattle.causal_model.specs.Sending.{local_rule, beat_rule}
use Rattle.causal_model.specs.State.{State}
use Rattle.causal_model.specs.declared.note.Note.{Note}
use Rattle.world_model.specs.Records.{Settings}
use Rattle.replica_keeper.specs.Keeping.{groups_of, with_group}

-- the state that a journal of a first epoch gives
abbrev pub state_then : Settings → List Note → State
state_then of notes = replay of.n of.me notes

abbrev pub local_list : Settings → List Note → Update → List (List Note)
local_list of notes update = with_group (groups_of notes) (local_notes (local_rule of.w of.limit update (state_then of notes)).0)

abbrev pub beat_list : Settings → List Note → List (List Note)
beat_list of notes = with_group (groups_of notes) (beat_notes (beat_rule of.w of.limit (state_then of notes)).0)

abbrev pub receive_list : Settings → List Note → Message → List (List Note)
receive_list of notes m = with_group (groups_of notes) (receive_notes m (receive_rule of.w m (state_then of notes)).0)
