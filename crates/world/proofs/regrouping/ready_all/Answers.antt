use Rattle.std.proofs.Common.{arith}
use Rattle.world.proofs.Entrants.{one_is_as_before, one_readied}
use Rattle.world.proofs.regrouping.ready_all.Goals as goal

pub returns-in_err-ready-clause-same : goal.returns-in_err-ready-clause-same
returns-in_err-ready-clause-same c =
    one_is_as_before _ c.loop-q.nodes.items c.loop-q.q c.index_mut.result.now c.ready.new.self (omega arith) c.index_mut.ensures.value c.ready.ensures.inner c.ready.ensures.first c.ready.ensures.kept c.loop-q.invariant.0.same

pub loop-q-preserved : goal.loop-q-preserved
loop-q-preserved c = (
  one_readied _ c.loop-q.nodes.items c.loop-q.q c.index_mut.result.now c.ready.new.self (omega arith) c.index_mut.ensures.value c.ready.ensures.inner c.ready.ensures.first c.ready.ensures.kept c.loop-q.invariant.0
      (record { room = c.in_ok-ready.ensures.room; few = c.in_ok-ready.ensures.few }),
  c.loop-q.invariant.1,
)
