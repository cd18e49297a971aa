use Rattle.std.proofs.Common.{◌≡◌}
use Rattle.live_run.proofs.Making.{HasWaited}
use Rattle.live_run.proofs.client.send.Given as goal

abbrev pub invariant-loop : goal.invariant-loop
invariant-loop g l =
    HasWaited l.initial.desk.done.pass l.desk.done.pass × (l.desk.done.pass.lock ≡ l.node) × (l.desk.done.told ≡ l.initial.desk.done.told)
