use Rattle.std.proofs.Common.{ap, sym, ◌∙◌}
use Rattle.std.specs.Prelude.{slice_get}
use Rattle.std.proofs.lemmas.Option.{get_or_from_slice_get}
use Rattle.causal_model.specs.Items.{cell_in}
use Rattle.stable_state.specs.Picked.{replaced}
use Rattle.stable_state.specs.Settling.{put_in_by}
use Rattle.stable_state.proofs.Changes.{cell_replaced}
use Rattle.stable_state.proofs.Marks.{other_is_loose, settled_there, settled_already}
use Rattle.stable_state.proofs.items.Items.settle_at.Goals as goal

pub returns-then-not-waits-clause-cells : goal.returns-then-not-waits-clause-cells
returns-then-not-waits-clause-cells c =
    let old = c.args.self.now in
    let items = old.shelf.items in
    let place = c.args.place in
    let item = c.at_near-item.result.now in
    let is = c.spot_at-spot.ensures in
    let at = get_or_from_slice_get items place item item (ap (slice_get items) (sym is) ∙ c.at_near-item.ensures) in
    let pending = put_in_by c.args.entries.now in
    settled_there pending items place item old.rise c.requires.within at c.without_pending-cell.result c.replace.new.self.shelf.items
    (c.without_pending-cell.ensures ∙ other_is_loose pending item (sym c.does_wait-waits.ensures.waits ∙ c.if-not-waits.true))
    (λ object value. ap (λ xs. cell_in xs object value) (c.replace.ensures.items ∙ ap (λ k. replaced k c.without_pending-cell.result items) is) ∙ cell_replaced items place item old.rise c.requires.within at c.without_pending-cell.result object value)

pub returns-else-not-waits-clause-cells : goal.returns-else-not-waits-clause-cells
returns-else-not-waits-clause-cells c =
    let old = c.args.self.now in
    let items = old.shelf.items in
    let item = c.at_near-item.result.now in
    settled_already (put_in_by c.args.entries.now) items c.args.place item old.rise c.requires.within
    (get_or_from_slice_get items c.args.place item item (ap (slice_get items) (sym c.spot_at-spot.ensures) ∙ c.at_near-item.ensures))
    (sym c.does_wait-waits.ensures.waits ∙ c.if-not-waits.false)
