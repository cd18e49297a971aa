use Rattle.store_io.proofs.MemoryMoments.{cut_goes}
use Rattle.store_io.proofs.memory_keeper.MemoryKeeperKeeper.cut.Goals as goal

pub returns-clause-time : goal.returns-clause-time
returns-clause-time c = cut_goes c.args.self.now c.fails.new.self c.keep.new.self c.args.len c.fails.ensures.counted c.keep.ensures
