use Rattle.std.proofs.Common.{◌≡◌, length, ap, arith}
use Rattle.polog.specs.Rows.{live_rows, arrived}
use Rattle.polog.proofs.Laid.{length-arrived}
use Rattle.polog.proofs.polog.Polog.len.Goals as goal

pub returns : goal.returns
returns c =
    let rows = live_rows c.self.inside.rows.rows in
    let seen : length (arrived rows) ≡ length c.args.self.now.entries = ap (λ log. length log.entries) c.self.view_is in
    omega (arith, c.self.invariant.4, length-arrived rows, seen)
