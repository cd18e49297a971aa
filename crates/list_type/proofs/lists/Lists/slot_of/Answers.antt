use Rattle.std.proofs.Common.{◌≡◌, Some, sym, ap, subst, ◌∙◌}
use Rattle.list_type.specs.Chained.{Stands}
use Rattle.list_type.proofs.Options.{if_none}
use Rattle.list_type.proofs.Listings.{held_as, none_in}
use Rattle.list_type.proofs.lists.Lists.slot_of.Goals as goal

pub returns-in_err-slot-clause-none : goal.returns-in_err-slot-clause-none
returns-in_err-slot-clause-none c =
    let now = c.args.self.now in
    let none = none_in now.rows now.slots now.chains now.listed c.args.object.now c.in_ok-row.row c.args.id (sym c.in_ok-row.ensures) (λ before slot node after stands at. cc (at, c.in_err-slot.ensures.value)) in
    if_none c.from_residual-in_err-slot.result _ none

pub row-requires : goal.row-requires
row-requires c =
    let now = c.args.self.now in
    let held = held_as now.rows now.slots now.chains now.listed c.args.id c.in_ok-slot.field-0.now (sym c.in_ok-slot.ensures.value) in
    (held.row, held.before, held.node, held.after, held.stands)

pub returns-then-row-clause-some : goal.returns-then-row-clause-some
returns-then-row-clause-some c =
    let now = c.args.self.now in
    let held = held_as now.rows now.slots now.chains now.listed c.args.id c.in_ok-slot.field-0.now (sym c.in_ok-slot.ensures.value) in
    let here = c.row.ensures held.row held.before held.node held.after held.stands in
    record {
      row = held.row;
      before = held.before;
      node = held.node;
      after = held.after;
      of_object = sym c.in_ok-row.ensures ∙ ap Some (sym c.if-row.true ∙ here);
      stands = held.stands;
      of_id = held.of_id;
    }

pub returns-else-row-clause-none : goal.returns-else-row-clause-none
returns-else-row-clause-none c =
    let now = c.args.self.now in
    none_in now.rows now.slots now.chains now.listed c.args.object.now c.in_ok-row.row c.args.id (sym c.in_ok-row.ensures) (λ before slot node after stands at.
    let same : slot ≡ c.in_ok-slot.field-0.now = cc (at, c.in_ok-slot.ensures.value) in
    c.if-row.false (c.row.ensures c.in_ok-row.row before node after (subst (λ k. Stands now.chains.rows c.in_ok-row.row before k node after) same stands)))
