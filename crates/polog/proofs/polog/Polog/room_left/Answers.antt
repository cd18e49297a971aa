use Rattle.std.proofs.Common.{◌≡◌, length, ap, arith}
use Rattle.polog.specs.Rows.{is_live, live_rows, arrived}
use Rattle.polog.proofs.Laid.{length-arrived}
use Rattle.polog.proofs.Prunes.{length-filter-le}
use Rattle.polog.proofs.polog.Polog.room_left.Goals as goal

pub returns : goal.returns
returns c =
    let all = c.self.inside.rows.rows in
    let rows = live_rows all in
    let seen : length (arrived rows) ≡ length c.args.self.now.entries = ap (λ log. length log.entries) c.self.view_is in
    let room : c.self.inside.rows.room ≡ c.args.self.now.room = ap (λ log. log.room) c.self.view_is in
    omega (arith, c.room.ensures, c.self.invariant.4, c.self.invariant.5, length-filter-le is_live all, length-arrived rows, seen, room)

pub overflow_sub-result : goal.overflow_sub-result
overflow_sub-result c = omega (arith, c.room.ensures, c.self.invariant.4, c.self.invariant.5, length-filter-le is_live c.self.inside.rows.rows)
