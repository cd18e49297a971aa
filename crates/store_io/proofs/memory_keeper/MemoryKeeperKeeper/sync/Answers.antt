use Rattle.store_io.proofs.MemoryMoments.{sync_goes}
use Rattle.store_io.proofs.memory_keeper.MemoryKeeperKeeper.sync.Goals as goal

pub returns-clause-time : goal.returns-clause-time
returns-clause-time c = sync_goes c.args.self.now c.fails.new.self c.sync_all.new.self c.sync_all.ensures.within c.fails.ensures.counted c.sync_all.ensures.after
