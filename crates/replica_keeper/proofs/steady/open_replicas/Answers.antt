use Rattle.std.proofs.Common.{ap}
use Rattle.store_io.specs.MemoryKeeping.{KeeperState}
use Rattle.replica_keeper.proofs.KeepStops.{one_new_more, started_new}
use Rattle.replica_keeper.proofs.steady.open_replicas.Goals as goal

pub loop-me-preserved : goal.loop-me-preserved
loop-me-preserved c =
    let it = c.in-Ok.it in
    one_new_more c.args.n c.args.w c.args.limit c.loop-me.me c.loop-me.list.items c.push.new.self.items it c.loop-me.invariant c.in_ok-push.ensures.items
    (started_new c.args.n c.loop-me.me c.args.w c.args.limit it c.new-keeper.result.held (ap (λ (k : KeeperState). k.held) c.new-keeper.ensures) c.in-Ok.ensures.settings c.in-Ok.ensures.open c.in-Ok.ensures.groups c.in-Ok.ensures.synced)
