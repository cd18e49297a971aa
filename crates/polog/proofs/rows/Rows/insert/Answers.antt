use Rattle.std.proofs.Common.{ℕ, List, ap, ◌∙◌, arith}
use Rattle.op_base.specs.declared.message.Entry.{Entry}
use Rattle.polog.specs.Order.{rows}
use Rattle.polog.specs.Rows.{Table, with_rows}
use Rattle.std.specs.List.{insert}
use Rattle.polog.proofs.Stamps.{as_long, marked-insert}
use Rattle.polog.proofs.Tables.{as_many, fewer, rows-insert}
use Rattle.polog.proofs.rows.Rows.insert.Goals as goal

pub put-requires-clause-place : goal.put-requires-clause-place
put-requires-clause-place c =
    let inside = c.self.inside in
    let many = as_many inside.room inside.stamps.items inside.entries.items c.args.self.now c.self.invariant.0 c.self.view_is in
    omega (arith, many, c.requires.place, inside.entries.ok.0)

pub put-requires-clause-room : goal.put-requires-clause-room
put-requires-clause-room c =
    let inside = c.self.inside in
    let free = fewer inside.room inside.stamps.items inside.entries.items c.args.self.now c.self.invariant.0 c.self.view_is c.requires.room in
    omega (arith, free, c.self.invariant.1, inside.entries.ok.0)

pub put-requires-2-clause-place : goal.put-requires-2-clause-place
put-requires-2-clause-place c =
    let inside = c.self.inside in
    let many = as_many inside.room inside.stamps.items inside.entries.items c.args.self.now c.self.invariant.0 c.self.view_is in
    omega (arith, many, c.requires.place, c.self.invariant.0, inside.stamps.ok.0)

pub put-requires-2-clause-room : goal.put-requires-2-clause-room
put-requires-2-clause-room c =
    let inside = c.self.inside in
    let free = fewer inside.room inside.stamps.items inside.entries.items c.args.self.now c.self.invariant.0 c.self.view_is c.requires.room in
    omega (arith, free, c.self.invariant.2, c.self.invariant.0, inside.stamps.ok.0)

pub invariant_of-self : goal.invariant_of-self
invariant_of-self c =
    let inside = c.self.inside in
    let marked = marked-insert inside.stamps.items c.put-2.new.items.items inside.entries.items c.put.new.items.items c.self.invariant.3 c.args.at c.args.stamp c.args.entry c.requires.mark c.put-2.ensures.items c.put.ensures.items in (
      as_long c.put-2.new.items.items c.put.new.items.items marked,
      omega (arith, c.self.invariant.1, c.put.ensures.capacity),
      omega (arith, c.self.invariant.2, c.put-2.ensures.capacity),
      marked,
    )

pub returns : goal.returns
returns c =
    let inside = c.self.inside in
    let made : List (ℕ × Entry) → Table = λ rs. record { room = inside.room; rows = rs } in
    ap made ((λ t. rows (c.put-2.ensures.items t) (c.put.ensures.items t)) ∙ rows-insert c.args.at inside.stamps.items inside.entries.items c.args.stamp c.args.entry c.self.invariant.0)
    ∙ ap (λ t. with_rows t (insert t.rows c.args.at (c.args.stamp.number, c.args.entry))) c.self.view_is
