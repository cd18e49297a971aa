use Rattle.std.proofs.Common.{◌≡◌, ◌++◌, ℕ, List, take, drop, sym, ap, ◌∙◌, arith}
use Rattle.op_base.specs.declared.message.Entry.{Entry}
use Rattle.polog.specs.Order.{rows}
use Rattle.polog.specs.Rows.{Table, with_rows}
use Rattle.polog.proofs.Laid.{joined}
use Rattle.polog.proofs.Stamps.{as_long, marked-cut}
use Rattle.polog.proofs.Tables.{as_many, rows-cut}
use Rattle.polog.proofs.rows.Rows.cut.Goals as goal

pub drain-requires-clause-in_bounds : goal.drain-requires-clause-in_bounds
drain-requires-clause-in_bounds c =
    let inside = c.self.inside in
    let many = as_many inside.room inside.stamps.items inside.entries.items c.args.self.now c.self.invariant.0 c.self.view_is in
    omega (arith, many, c.requires.places, inside.entries.ok.0)

pub drain-requires-then-from-to-clause-in_bounds : goal.drain-requires-then-from-to-clause-in_bounds
drain-requires-then-from-to-clause-in_bounds c =
    let inside = c.self.inside in
    let many = as_many inside.room inside.stamps.items inside.entries.items c.args.self.now c.self.invariant.0 c.self.view_is in
    omega (arith, many, c.requires.places, c.self.invariant.0, inside.stamps.ok.0)

pub invariant_of-self : goal.invariant_of-self
invariant_of-self c =
    let inside = c.self.inside in
    let entries = c.drop.ensures.items ∙ c.drain.ensures.kept in
    let stamps = c.drop-then-from-to.ensures.items ∙ c.drain-then-from-to.ensures.kept in
    let marked = marked-cut inside.stamps.items c.drop-then-from-to.new.self.0.items inside.entries.items c.drop.new.self.0.items c.self.invariant.3 c.args.from c.args.to stamps entries in (
      as_long c.drop-then-from-to.new.self.0.items c.drop.new.self.0.items marked,
      omega (arith, c.self.invariant.1, c.drop.ensures.capacity, c.drain.ensures.capacity),
      omega (arith, c.self.invariant.2, c.drop-then-from-to.ensures.capacity, c.drain-then-from-to.ensures.capacity),
      marked,
    )

pub returns-then-from-to : goal.returns-then-from-to
returns-then-from-to c =
    let inside = c.self.inside in
    let from = c.args.from in
    let to = c.args.to in
    let entries = c.drop.ensures.items ∙ c.drain.ensures.kept in
    let stamps = c.drop-then-from-to.ensures.items ∙ c.drain-then-from-to.ensures.kept in
    let made : List (ℕ × Entry) → Table = λ rs. record { room = inside.room; rows = rs } in
    ap made ((λ t. rows (stamps t) (entries t)) ∙ rows-cut from to inside.stamps.items inside.entries.items c.self.invariant.0)
    ∙ ap (λ t. with_rows t (take from t.rows ++ drop to t.rows)) c.self.view_is

pub returns-else-from-to : goal.returns-else-from-to
returns-else-from-to c =
    let rows = c.args.self.now.rows in
    let same : c.args.from ≡ c.args.to = omega (arith, c.requires.order, c.if-from-to.false) in
    ap (with_rows c.args.self.now) (sym (joined c.args.from rows) ∙ ap (λ k. take c.args.from rows ++ drop k rows) same)
