use Rattle.std.proofs.Common.{◌≡◌, ℕ, List, sym, ap, ◌∙◌, arith}
use Rattle.op_base.specs.declared.message.Entry.{Entry}
use Rattle.polog.specs.Order.{rows}
use Rattle.polog.specs.Rows.{Table, with_rows}
use Rattle.std.specs.List.{swap}
use Rattle.polog.proofs.Stamps.{as_long, marked-swap}
use Rattle.polog.proofs.Tables.{as_many, rows-swap, swap-itself}
use Rattle.polog.proofs.rows.Rows.swap.Goals as goal

pub swap-requires-clause-i_in_bounds : goal.swap-requires-clause-i_in_bounds
swap-requires-clause-i_in_bounds c =
    let inside = c.self.inside in
    let many = as_many inside.room inside.stamps.items inside.entries.items c.args.self.now c.self.invariant.0 c.self.view_is in
    omega (arith, many, c.requires.first, inside.entries.ok.0)

pub swap-requires-clause-j_in_bounds : goal.swap-requires-clause-j_in_bounds
swap-requires-clause-j_in_bounds c =
    let inside = c.self.inside in
    let many = as_many inside.room inside.stamps.items inside.entries.items c.args.self.now c.self.invariant.0 c.self.view_is in
    omega (arith, many, c.requires.second, inside.entries.ok.0)

pub swap-requires-then-a-b-clause-i_in_bounds : goal.swap-requires-then-a-b-clause-i_in_bounds
swap-requires-then-a-b-clause-i_in_bounds c =
    let inside = c.self.inside in
    let many = as_many inside.room inside.stamps.items inside.entries.items c.args.self.now c.self.invariant.0 c.self.view_is in
    omega (arith, many, c.requires.first, c.self.invariant.0, inside.stamps.ok.0)

pub swap-requires-then-a-b-clause-j_in_bounds : goal.swap-requires-then-a-b-clause-j_in_bounds
swap-requires-then-a-b-clause-j_in_bounds c =
    let inside = c.self.inside in
    let many = as_many inside.room inside.stamps.items inside.entries.items c.args.self.now c.self.invariant.0 c.self.view_is in
    omega (arith, many, c.requires.second, c.self.invariant.0, inside.stamps.ok.0)

pub invariant_of-self : goal.invariant_of-self
invariant_of-self c =
    let inside = c.self.inside in
    let marked = marked-swap inside.stamps.items c.swap-then-a-b.new.self.items inside.entries.items c.swap.new.self.items c.self.invariant.3 c.args.a c.args.b c.swap-then-a-b.ensures.items c.swap.ensures.items in (
      as_long c.swap-then-a-b.new.self.items c.swap.new.self.items marked,
      omega (arith, c.self.invariant.1, c.swap.ensures.capacity),
      omega (arith, c.self.invariant.2, c.swap-then-a-b.ensures.capacity),
      marked,
    )

pub returns-then-a-b : goal.returns-then-a-b
returns-then-a-b c =
    let inside = c.self.inside in
    let made : List (ℕ × Entry) → Table = λ rs. record { room = inside.room; rows = rs } in
    ap made ((λ t. rows (c.swap-then-a-b.ensures.items t) (c.swap.ensures.items t)) ∙ rows-swap c.args.a c.args.b inside.stamps.items inside.entries.items c.self.invariant.0)
    ∙ ap (λ t. with_rows t (swap t.rows c.args.a c.args.b)) c.self.view_is

pub returns-else-a-b : goal.returns-else-a-b
returns-else-a-b c =
    let old = c.args.self.now.rows in
    let same : c.args.a ≡ c.args.b = omega (arith, c.if-a-b.false) in
    ap (with_rows c.args.self.now) (sym (swap-itself c.args.a old) ∙ ap (swap old c.args.a) same)
