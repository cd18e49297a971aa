use Rattle.std.proofs.Common.{◌≡◌, ℕ, ◌<◌, length}
use Rattle.std.specs.List.{slice_index_or}
use Rattle.replica_lock.specs.declared.pass.Settings.{Settings}
use Rattle.turn_lock.specs.Turns.{LockState, opened}
use Rattle.live_run.specs.Joining.{NodeOpener}
use Rattle.live_run.specs.Workers.{settings_of}
use Rattle.live_run.proofs.opening.open_nodes.Given as goal

abbrev pub invariant-loop-me : goal.invariant-loop-me
invariant-loop-me l = record {
  nodes : length l.nodes.items ≡ l.me;
  openers : length l.openers.items ≡ l.me;
  keys : (r : ℕ) (d : LockState Settings) → r < length l.nodes.items → (slice_index_or l.nodes.items r d).key ≡ settings_of l.n l.w r;
  opened_are : (r : ℕ) (d : LockState Settings) (e : NodeOpener) → r < length l.nodes.items → slice_index_or l.openers.items r e ≡ opened (slice_index_or l.nodes.items r d);
}
