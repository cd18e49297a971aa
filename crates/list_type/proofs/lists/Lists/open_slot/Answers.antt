use Rattle.std.proofs.Common.{map, sym, ◌∙◌}
use Rattle.causal_model.specs.Log.{message_of}
use Rattle.list_type.specs.Heads.{head_of}
use Rattle.list_type.proofs.Openings.{closed_without, open_behind}
use Rattle.list_type.proofs.Options.{if_none}
use Rattle.list_type.proofs.lists.Lists.open_slot.Goals as goal

pub returns-in_err-slot-clause-closed : goal.returns-in_err-slot-clause-closed
returns-in_err-slot-clause-closed c =
    if_none c.from_residual.result _ (closed_without c.args.object.now c.args.head.now.epoch (head_of c.args.head.now) c.args.id (map message_of c.args.entries.now) _ c.in_err-slot.ensures.none)

pub returns-then-is_open-clause-open : goal.returns-then-is_open-clause-open
returns-then-is_open-clause-open c =
    let now = c.args.self.now in
    let s = c.in_ok-slot.ensures.some in
    open_behind c.args.object.now c.args.head.now.epoch (head_of c.args.head.now) now.rows now.slots now.chains now.listed c.in_ok-slot.slot c.args.id s c.args.entries.now c.requires.own
    c.get.result.now (c.get.ensures s.row s.before s.node s.after s.stands)
    ∙ sym c.is_open.ensures ∙ c.if-is_open.true

pub returns-else-is_open-clause-closed : goal.returns-else-is_open-clause-closed
returns-else-is_open-clause-closed c =
    let now = c.args.self.now in
    let s = c.in_ok-slot.ensures.some in
    open_behind c.args.object.now c.args.head.now.epoch (head_of c.args.head.now) now.rows now.slots now.chains now.listed c.in_ok-slot.slot c.args.id s c.args.entries.now c.requires.own
    c.get.result.now (c.get.ensures s.row s.before s.node s.after s.stands)
    ∙ sym c.is_open.ensures ∙ c.if-is_open.false
