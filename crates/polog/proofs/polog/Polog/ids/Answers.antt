use Rattle.std.proofs.Common.{◌≡◌, ◌<◌, length, map, IsTrue, IfOk, sym, ap, subst, ◌∙◌}
use Rattle.op_base.specs.Message.{fits, id_of}
use Rattle.causal_model.specs.Log.{message_of}
use Rattle.polog.specs.Order.{in_order}
use Rattle.polog.specs.Rows.{live_rows}
use Rattle.polog.proofs.Fitting.{fits-origin}
use Rattle.polog.proofs.Orders.{each-weaker}
use Rattle.polog.proofs.Items.{items-in-order, apart-items}
use Rattle.polog.proofs.Laid.{apart-from-laid}
use Rattle.polog.proofs.Moves.{Apart}
use Rattle.polog.proofs.polog.Polog.ids.Goals as goal

pub sort-requires : goal.sort-requires
sort-requires c =
    let rows = live_rows c.self.inside.rows.rows in
    subst Apart (sym c.in_ok-numbered.ensures) (apart-items (λ e. id_of (message_of e)) rows (apart-from-laid rows c.self.invariant.2.grouped))

pub returns : goal.returns
returns c =
    let rows = live_rows c.self.inside.rows.rows in
    let sorted = c.deref.ensures.value ∙ c.in_ok-sort.ensures.ok ∙ ap in_order c.in_ok-numbered.ensures in
    let found = ap (map (λ r. r.1)) sorted ∙ items-in-order (λ e. id_of (message_of e)) rows ∙ ap (λ log. map (λ e. id_of (message_of e)) log.entries) c.self.view_is in
    subst (λ is. IfOk c.without_numbers.result (λ ids. ids ≡ is)) found c.without_numbers.ensures

pub numbered_ids-requires : goal.numbered_ids-requires
numbered_ids-requires c =
    each-weaker (λ r. IsTrue (fits c.self.inside.n (message_of r.1))) (λ r. r.1.origin < length r.1.tag)
    (λ r h. fits-origin c.self.inside.n (message_of r.1) h) c.self.inside.rows.rows c.self.invariant.3.fit
