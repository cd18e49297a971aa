use Rattle.std.proofs.Common.{IsTrue, subst, sym}
use Rattle.causal_model.specs.Counts.{is_carried}
use Rattle.world_model.proofs.Commands.{frame_is_carried}
use Rattle.replica_tests.proofs.failing.hears.Goals as goal

pub receive-requires-clause-carried : goal.receive-requires-clause-carried
receive-requires-clause-carried c =
    let m = c.in-Ok.message in
    subst (λ limit. IsTrue (is_carried limit m)) (sym c.if-replica-ne10000.false) (frame_is_carried _ _ _ _ m c.in-Ok.ensures.found).1
