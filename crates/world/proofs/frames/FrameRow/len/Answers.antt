use Rattle.std.proofs.Common.{length, ap, arith}
use Rattle.world.specs.FrameRows.{Frames}
use Rattle.world.proofs.FrameRows.{as_many}
use Rattle.world.proofs.frames.FrameRow.len.Goals as goal

pub returns : goal.returns
returns c = omega (arith, c.len.ensures, c.self.inside.ends.ok, as_many 0 c.self.inside.ends.items c.self.inside.bytes.items, ap (λ (row : Frames). length row.items) c.self.view_is)
