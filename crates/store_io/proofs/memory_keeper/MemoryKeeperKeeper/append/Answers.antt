use Rattle.std.proofs.Common.{◌/◌, length, take, drop, sym}
use Rattle.std.proofs.lemmas.List.{take-append-drop}
use Rattle.store_io.proofs.MemoryMoments.{append_goes}
use Rattle.store_io.proofs.memory_keeper.MemoryKeeperKeeper.append.Goals as goal

pub returns-then-fails-clause-time : goal.returns-then-fails-clause-time
returns-then-fails-clause-time c =
    let half = length c.args.piece.now / 2 in
    append_goes c.args.self.now c.fails.new.self c.put.new.self (take half c.args.piece.now) (drop half c.args.piece.now) c.args.piece.now c.fails.ensures.counted c.put.ensures (sym (take-append-drop half c.args.piece.now))
