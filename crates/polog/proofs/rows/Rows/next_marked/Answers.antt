use Rattle.std.proofs.Common.{◌≡◌, ℕ, ◌<◌, length, get_or, sym, ap, ◌∙◌, arith}
use Rattle.op_base.specs.declared.message.Entry.{Entry}
use Rattle.polog.specs.Marks.{mark_of}
use Rattle.polog.specs.declared.marks.Stamp.{Stamp}
use Rattle.polog.proofs.Stamps.{mark-at}
use Rattle.polog.proofs.Tables.{as_many, row-seen}
use Rattle.polog.proofs.rows.Rows.next_marked.Goals as goal

pub next_marked-requires-clause-places : goal.next_marked-requires-clause-places
next_marked-requires-clause-places c =
    let inside = c.self.inside in
    let many = as_many inside.room inside.stamps.items inside.entries.items c.args.self.now c.self.invariant.0 c.self.view_is in
    omega (arith, many, c.requires.places, c.self.invariant.0, ap length c.deref.ensures.value)

-- the mark of a stamp is that of the row at its place
mark-seen : (c : goal.After-next_marked) (k : ℕ) (d : ℕ × Entry) → k < c.args.to → (get_or c.deref.result.now k (record { number = d.0; mark = 0 })).mark ≡ mark_of (get_or c.args.self.now.rows k d).1.update.act
mark-seen c k d below =
    let inside = c.self.inside in
    let s : Stamp = record { number = d.0; mark = 0 } in
    let many = as_many inside.room inside.stamps.items inside.entries.items c.args.self.now c.self.invariant.0 c.self.view_is in
    let row = row-seen inside.room inside.stamps.items inside.entries.items c.args.self.now k s d.1 c.self.invariant.0 c.self.view_is in
    ap (λ ss. (get_or ss k s).mark) c.deref.ensures.value
    ∙ mark-at inside.stamps.items inside.entries.items c.self.invariant.3 k s d.1 (omega (arith, below, c.requires.places, many))
    ∙ sym (ap (λ r. mark_of r.1.update.act) row)

pub returns-clause-passed : goal.returns-clause-passed
returns-clause-passed c k d from below is =
    c.next_marked.ensures.passed k (record { number = d.0; mark = 0 }) from below (mark-seen c k d (omega (arith, below, c.next_marked.ensures.most)) ∙ is)

pub returns-clause-marked : goal.returns-clause-marked
returns-clause-marked c d below = sym (mark-seen c c.next_marked.result d below) ∙ c.next_marked.ensures.marked (record { number = d.0; mark = 0 }) below
