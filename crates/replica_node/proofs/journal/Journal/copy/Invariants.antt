use Rattle.std.proofs.Common.{◌≡◌, ◌+◌, ◌≤◌, length, take}
use Rattle.replica_node.proofs.journal.Journal.copy.Given as goal

abbrev pub invariant-loop-note : goal.invariant-loop-note
invariant-loop-note l = (l.copy.notes ≡ take l.note-index l.note-items) × (length l.note-items ≤ l.copy.spare + l.note-index)
