use Rattle.std.proofs.Common.{◌≡◌, ◌+◌, ◌≤◌, ◌++◌, map, take, length}
use Rattle.causal_model.specs.Journal.{step_note}
use Rattle.replica_node.specs.Nodes.{IsCount}
use Rattle.replica_node.proofs.node.put_steps.Given as goal

abbrev pub invariant-loop-step : goal.invariant-loop-step
invariant-loop-step g l =
    (g.R.Recorder.notes l.journal ≡ g.R.Recorder.notes l.fn.journal ++ map step_note (take l.step-index l.steps))
    × (length l.steps ≤ g.R.Recorder.spare l.journal + l.step-index)
    × IsCount l.length (g.R.Recorder.notes l.journal)
    × (l.length ≡ l.fn.length + l.step-index)
    × (g.R.Recorder.asked l.journal ≡ g.R.Recorder.asked l.fn.journal)
