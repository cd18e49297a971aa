-- Causally stable: the sense of Baquero, Almeida and Shoker (arXiv 1710.04469), over all that may come.
use Rattle.std.specs.Prelude.{ℕ, List, [], ◌∷◌, ◌++◌, ◌==◌, length, map, drop, IsTrue, All, if◌then◌else◌}
use Rattle.causal_model.specs.History.{Event, epoch_of, is_before}
use Rattle.causal_model.specs.Laws.Events.{present_event}
use Rattle.world_model.specs.Commands.{WorldCommand, CanRunAll, after_command}
use Rattle.world_model.specs.Honest.{history_of, delivered_by}
use Rattle.world_model.specs.World.{PlainWorld}

-- what replica r delivered between a world and a later one of the same epoch, its own messages among it
abbrev pub newly_delivered : ℕ → PlainWorld → PlainWorld → List Event
newly_delivered r world after =
    if epoch_of (history_of after r) == epoch_of (history_of world r)
    then map (present_event (history_of after r)) (drop (length (delivered_by world r)) (delivered_by after r))
    else []

-- what it delivers in commands
abbrev pub delivered_in : ℕ → PlainWorld → List WorldCommand → List Event
delivered_in r world [] = []
delivered_in r world (command ∷ commands) = newly_delivered r world (after_command world command) ++ delivered_in r (after_command world command) commands

-- an event is causally stable at replica r: whatever commands follow, bytes among them, each message that r delivers in
-- them happened after it
abbrev pub IsCausallyStable : PlainWorld → ℕ → Event → Type 0
IsCausallyStable world r e = (commands : List WorldCommand) → CanRunAll world commands → All (λ later. IsTrue (is_before e later)) (delivered_in r world commands)
