use Rattle.std.proofs.Common.{sym, ap, ◌∙◌}
use Rattle.polog.specs.Order.{items_of}
use Rattle.polog.proofs.Tables.{items-rows}
use Rattle.polog.proofs.rows.Rows.entries.Goals as goal

pub returns : goal.returns
returns c =
    let inside = c.self.inside in
    c.deref.ensures.value ∙ sym (items-rows inside.stamps.items inside.entries.items c.self.invariant.0) ∙ ap (λ table. items_of table.rows) c.self.view_is
