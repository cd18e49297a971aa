use Rattle.std.proofs.Common.{ℕ, List, set, refl, ap, ◌∙◌, arith}
use Rattle.op_base.specs.declared.message.Entry.{Entry}
use Rattle.polog.specs.Rows.{Table, with_rows}
use Rattle.polog.proofs.Stamps.{as_long, marked-set}
use Rattle.polog.proofs.Tables.{as_many, rows-set}
use Rattle.polog.proofs.rows.Rows.set.Goals as goal

pub index_mut-requires : goal.index_mut-requires
index_mut-requires c =
    let inside = c.self.inside in
    let many = as_many inside.room inside.stamps.items inside.entries.items c.args.self.now c.self.invariant.0 c.self.view_is in
    omega (arith, many, c.requires.place, inside.entries.ok.0)

pub index_mut-requires-2 : goal.index_mut-requires-2
index_mut-requires-2 c =
    let inside = c.self.inside in
    let many = as_many inside.room inside.stamps.items inside.entries.items c.args.self.now c.self.invariant.0 c.self.view_is in
    omega (arith, many, c.requires.place, c.self.invariant.0, inside.stamps.ok.0)

pub invariant_of-self : goal.invariant_of-self
invariant_of-self c =
    let ss = c.self.inside.stamps.items in
    let es = c.self.inside.entries.items in
    let marked = marked-set ss (set ss c.args.at c.args.stamp) es (set es c.args.at c.args.entry) c.self.invariant.3 c.args.at c.args.stamp c.args.entry c.requires.mark refl refl in
    (as_long (set ss c.args.at c.args.stamp) (set es c.args.at c.args.entry) marked, c.self.invariant.1, c.self.invariant.2, marked)

pub returns : goal.returns
returns c =
    let inside = c.self.inside in
    let made : List (ℕ × Entry) → Table = λ rs. record { room = inside.room; rows = rs } in
    ap made (rows-set c.args.at inside.stamps.items inside.entries.items c.args.stamp c.args.entry)
    ∙ ap (λ t. with_rows t (set t.rows c.args.at (c.args.stamp.number, c.args.entry))) c.self.view_is
