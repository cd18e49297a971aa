use Rattle.std.proofs.Common.{arith}
use Rattle.polog.proofs.Tables.{as_many}
use Rattle.polog.proofs.rows.Rows.len.Goals as goal

pub returns : goal.returns
returns c =
    let inside = c.self.inside in
    let many = as_many inside.room inside.stamps.items inside.entries.items c.args.self.now c.self.invariant.0 c.self.view_is in
    omega (arith, many, c.len.ensures, inside.entries.ok.0)
