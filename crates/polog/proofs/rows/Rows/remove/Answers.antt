use Rattle.std.proofs.Common.{◌<◌, ℕ, suc, List, length, sym, ap, ◌∙◌, arith}
use Rattle.op_base.specs.declared.message.Entry.{Entry}
use Rattle.polog.specs.Order.{rows}
use Rattle.polog.specs.Rows.{Table, with_rows}
use Rattle.std.specs.List.{remove}
use Rattle.std.proofs.lemmas.List.{get_or_read}
use Rattle.polog.proofs.Stamps.{as_long, marked-cut}
use Rattle.polog.proofs.Tables.{as_many, row-seen, rows-cut}
use Rattle.polog.proofs.rows.Rows.remove.Goals as goal

pub remove-requires : goal.remove-requires
remove-requires c =
    let inside = c.self.inside in
    let many = as_many inside.room inside.stamps.items inside.entries.items c.args.self.now c.self.invariant.0 c.self.view_is in
    omega (arith, many, c.requires, c.self.invariant.0, inside.stamps.ok.0)

pub invariant_of-self : goal.invariant_of-self
invariant_of-self c =
    let inside = c.self.inside in
    let marked = marked-cut inside.stamps.items c.remove.new.self.items inside.entries.items c.remove-2.new.self.items c.self.invariant.3 c.args.at (suc c.args.at) c.remove.ensures.items c.remove-2.ensures.items in (
      as_long c.remove.new.self.items c.remove-2.new.self.items marked,
      omega (arith, c.self.invariant.1, c.remove-2.ensures.capacity),
      omega (arith, c.self.invariant.2, c.remove.ensures.capacity),
      marked,
    )

pub returns-clause-entry : goal.returns-clause-entry
returns-clause-entry c d =
    let inside = c.self.inside in
    let there : c.args.at < length inside.entries.items = omega (arith, as_many inside.room inside.stamps.items inside.entries.items c.args.self.now c.self.invariant.0 c.self.view_is, c.requires) in
    get_or_read inside.entries.items c.args.at c.remove-2.result there c.remove-2.ensures.value d.1
    ∙ sym (ap (λ r. r.1) (row-seen inside.room inside.stamps.items inside.entries.items c.args.self.now c.args.at (record { number = d.0; mark = 0 }) d.1 c.self.invariant.0 c.self.view_is))

pub returns-clause-others : goal.returns-clause-others
returns-clause-others c =
    let inside = c.self.inside in
    let made : List (ℕ × Entry) → Table = λ rs. record { room = inside.room; rows = rs } in
    ap made ((λ t. rows (c.remove.ensures.items t) (c.remove-2.ensures.items t)) ∙ rows-cut c.args.at (suc c.args.at) inside.stamps.items inside.entries.items c.self.invariant.0)
    ∙ ap (λ t. with_rows t (remove t.rows c.args.at)) c.self.view_is
