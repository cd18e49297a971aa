use Rattle.std.proofs.Common.{◌-◌, sym, ap, arith}
use Rattle.world.specs.FrameRows.{begin_of}
use Rattle.world.proofs.FrameRows.{begins_behind}
use Rattle.world.proofs.frames.begin_of.Goals as goal

pub returns-then-place-eq0 : goal.returns-then-place-eq0
returns-then-place-eq0 c = ap (begin_of 0 c.args.ends.now) (sym c.if-place-eq0.true)

pub returns-else-place-eq0 : goal.returns-else-place-eq0
returns-else-place-eq0 c = sym (begins_behind 0 (c.args.place - 1) c.args.place c.args.ends.now (omega (arith, c.if-place-eq0.false)))
