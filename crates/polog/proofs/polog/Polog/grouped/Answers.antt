use Rattle.std.proofs.Common.{◌≡◌, Bool, true, false, ◌&&◌, filter, refl, sym, ap, subst, ◌∙◌}
use Rattle.std.specs.List.{list_any}
use Rattle.std.specs.Ordering.{is_le}
use Rattle.op_base.specs.Order.{object_cmp}
use Rattle.op_base.specs.declared.message.Entry.{Entry}
use Rattle.causal_model.specs.Log.{message_of}
use Rattle.causal_model.proofs.Theory.Elements.{list_any-map}
use Rattle.polog.specs.Order.{Each, Pairwise, items_of}
use Rattle.polog.specs.Rows.{is_live, live_rows, arrived}
use Rattle.polog.specs.Standing.{FailsOnIdle}
use Rattle.polog.specs.Value.{is_of}
use Rattle.polog.proofs.Gaps.{pairwise-items, filter-within, any-within, filter-both}
use Rattle.polog.proofs.Laid.{of-object, any-arrived}
use Rattle.polog.proofs.Orders.{each-weaker, items-filter}
use Rattle.polog.proofs.polog.Polog.grouped.Goals as goal
use Rattle.polog.proofs.polog.Polog.grouped.Goals.{After-entries-2}

never : (b : Bool) → (b && false) ≡ false
never true = refl
never false = refl

module _ (c : After-entries-2) where
  -- a test that fails on idle acts fails on free rows
  fails : (p : Entry → Bool) → FailsOnIdle p → Each (λ r. is_live r ≡ false → p r.1 ≡ false) c.self.inside.rows.rows
  fails p none = each-weaker _ (λ r. is_live r ≡ false → p r.1 ≡ false) (λ r idle free. none r.1 (idle free)) c.self.inside.rows.rows c.self.invariant.3.idle

pub returns-clause-members : goal.returns-clause-members
returns-clause-members c object passes none =
    let rows = c.self.inside.rows.rows in
    let P : Entry → Bool = λ e. is_of object e && passes e in
    ap (filter P) c.entries-2.ensures ∙ items-filter P rows
    ∙ ap items_of (filter-within (λ r. P r.1) is_live rows (fails c P (λ e idle. ap (λ b. is_of object e && b) (none e idle) ∙ never (is_of object e)))) ∙ sym (items-filter P (live_rows rows))
    ∙ filter-both (is_of object) passes (items_of (live_rows rows)) ∙ ap (filter passes) (of-object object (live_rows rows) c.self.invariant.2.grouped)
    ∙ sym (filter-both (is_of object) passes (arrived (live_rows rows))) ∙ ap (λ log. filter P log.entries) c.self.view_is

pub returns-clause-of : goal.returns-clause-of
returns-clause-of c keeps covers n me ms passes none stands =
    let rows = c.self.inside.rows.rows in
    let p : Entry → Bool = λ e. passes (message_of e) in
    list_any-map passes message_of c.entries-2.result.now
    ∙ ap (list_any p) c.entries-2.ensures ∙ any-within p rows (fails c p none) ∙ any-arrived p (live_rows rows) ∙ ap (λ log. list_any p log.entries) c.self.view_is
    ∙ sym (list_any-map passes message_of c.args.self.now.entries) ∙ ap (list_any passes) stands.holds

pub returns-clause-by_object : goal.returns-clause-by_object
returns-clause-by_object c =
    let R : Entry → Entry → Type 0 = λ a b. is_le (object_cmp a.update.object b.update.object) ≡ true in
    subst (Pairwise R) (sym c.entries-2.ensures) (pairwise-items R c.self.inside.rows.rows c.self.invariant.3.ordered)
