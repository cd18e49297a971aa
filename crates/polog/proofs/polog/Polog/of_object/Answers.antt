use Rattle.std.proofs.Common.{◌≡◌, ◌-◌, take, drop, filter, map, sym, ap, ◌∙◌}
use Rattle.causal_model.specs.Log.{message_of}
use Rattle.polog.specs.Order.{items_of}
use Rattle.polog.specs.Rows.{live_rows}
use Rattle.polog.specs.Value.{is_of}
use Rattle.polog.proofs.Gaps.{own-entries}
use Rattle.polog.proofs.Laid.{of-object, items-take, items-drop}
use Rattle.polog.proofs.Orders.{items-filter}
use Rattle.polog.proofs.Standing.{of-object-is}
use Rattle.polog.proofs.polog.Polog.of_object.Goals as goal

pub returns-clause-entries : goal.returns-clause-entries
returns-clause-entries c =
    let object = c.args.object.now in
    let rows = c.self.inside.rows.rows in
    let stand = c.stand_of-from.result in
    let many = stand.end - stand.from in
    let part : take many (drop stand.from c.entries.result.now) ≡ items_of (take many (drop stand.from rows)) =
    ap (λ es. take many (drop stand.from es)) c.entries.ensures ∙ ap (take many) (items-drop stand.from rows) ∙ items-take many (drop stand.from rows) in
    part ∙ ap items_of (sym (own-entries object rows stand c.stand_of-from.ensures.stand)) ∙ sym (items-filter (is_of object) (live_rows rows))
    ∙ of-object object (live_rows rows) c.self.invariant.2.grouped
    ∙ ap (λ log. filter (is_of object) log.entries) c.self.view_is

pub returns-clause-of : goal.returns-clause-of
returns-clause-of c keeps covers n me ms stands =
    ap (map message_of) (returns-clause-entries c) ∙ of-object-is keeps covers n me ms c.args.object.now c.args.self.now stands
