use Rattle.std.proofs.Common.{length, ap, arith}
use Rattle.replica_keeper.proofs.Told.{frame_short}
use Rattle.replica_keeper.proofs.record.record.Goals as goal

pub overflow_cast-len : goal.overflow_cast-len
overflow_cast-len c = omega (arith, frame_short c.args.n c.args.message.now c.requires.few c.requires.fits c.requires.valid, ap length c.in_ok-frame.ensures.spelled)

pub overflow_add-len-2 : goal.overflow_add-len-2
overflow_add-len-2 c = omega (arith, frame_short c.args.n c.args.message.now c.requires.few c.requires.fits c.requires.valid, ap length c.in_ok-frame.ensures.spelled)
