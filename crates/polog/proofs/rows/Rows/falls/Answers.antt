use Rattle.std.proofs.Common.{ℕ, ◌<◌, ◌≤◌, suc, length, get_or, ap, subst, arith}
use Rattle.op_base.specs.declared.message.Entry.{Entry}
use Rattle.polog.specs.declared.marks.Stamp.{Stamp}
use Rattle.polog.proofs.Moves.{falls-from}
use Rattle.polog.proofs.Tables.{as_many, row-seen}
use Rattle.polog.proofs.rows.Rows.falls.Goals as goal

pub returns : goal.returns
returns c holds =
    let inside = c.self.inside in
    let many = as_many inside.room inside.stamps.items inside.entries.items c.args.self.now c.self.invariant.0 c.self.view_is in
    falls-from c.args.self.now.rows (λ k d l.
    let s : Stamp = record { number = d.0; mark = 0 } in
    let seen = λ (i : ℕ). ap (λ (r : ℕ × Entry). r.0) (row-seen inside.room inside.stamps.items inside.entries.items c.args.self.now i s d.1 c.self.invariant.0 c.self.view_is) in
    let inside_stamps : suc k < length c.deref.result.now = omega (arith, l, many, c.self.invariant.0, ap length c.deref.ensures.value) in
    let falls = subst (λ ss. (get_or ss (suc k) s).number ≤ (get_or ss k s).number) c.deref.ensures.value (c.are_falling.ensures holds k s inside_stamps) in
    omega (arith, seen (suc k), seen k, falls))
