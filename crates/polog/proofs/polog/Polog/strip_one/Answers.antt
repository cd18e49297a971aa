use Rattle.std.proofs.Common.{◌≡◌, ℕ, ◌-◌, ◌≤◌, List, length, get_or, reverse, find, None, Some, sym, ap, subst, ◌∙◌, arith}
use Rattle.std.specs.List.{remove}
use Rattle.std.proofs.lemmas.List.Edits.{length-remove}
use Rattle.op_base.specs.declared.message.Entry.{Entry}
use Rattle.polog.specs.Order.{items_of}
use Rattle.polog.specs.Rows.{Table, IsFirst, IsLaid, IsSpread, is_live, live_rows, arrived, with_rows}
use Rattle.polog.specs.Value.{Log, with_entries, without_first, is_stable_entry}
use Rattle.polog.proofs.Firsts.{none-arrived, first-arrived}
use Rattle.polog.proofs.Gaps.{spread-filter, spread-remove, live-again, live-removed}
use Rattle.polog.proofs.Laid.{apart-from-laid, laid-remove}
use Rattle.polog.proofs.Moves.{Apart}
use Rattle.polog.proofs.Prunes.{length-filter-le}
use Rattle.polog.proofs.Standing.{keeps-stripping}
use Rattle.polog.proofs.polog.Polog.strip_one.Goals as goal

pub returns-in_err-at-clause-taken : goal.returns-in_err-at-clause-taken
returns-in_err-at-clause-taken c =
    let p = is_stable_entry c.args.stable.now in
    let first = subst (λ (t : Table). IsFirst (λ r. p r.1) t.rows None) c.close.ensures c.in_err-at.ensures in
    c.from_residual.ensures ∙ sym (none-arrived p (live_rows c.self.inside.rows.rows) first).0 ∙ ap (λ log. find p log.entries) c.self.view_is

-- what is seen of a log by its rows
abbrev seen_by : ℕ → ℕ → List Entry → Table → Log
seen_by n pushed stripped t = record { n = n; room = t.room; pushed = pushed; entries = arrived (live_rows t.rows); stripped = stripped }

-- a log whose rows were closed is the same
closed : (n pushed : ℕ) (stripped : List Entry) (old new : Table) → new ≡ with_rows old (live_rows old.rows) → seen_by n pushed stripped new ≡ seen_by n pushed stripped old
closed n pushed stripped old new is = ap (seen_by n pushed stripped) is ∙ ap (λ rows. record { n = n; room = old.room; pushed = pushed; entries = arrived rows; stripped = stripped }) (live-again old.rows)

pub returns-in_err-at-clause-others : goal.returns-in_err-at-clause-others
returns-in_err-at-clause-others c =
    let p = is_stable_entry c.args.stable.now in
    let rows = live_rows c.self.inside.rows.rows in
    let first = subst (λ (t : Table). IsFirst (λ r. p r.1) t.rows None) c.close.ensures c.in_err-at.ensures in
    let seen : arrived rows ≡ c.args.self.now.entries = ap (λ log. log.entries) c.self.view_is in
    closed c.self.inside.n c.self.inside.next (reverse (items_of c.self.inside.leaving.rows)) c.self.inside.rows c.close.new.rows c.close.ensures ∙ c.self.view_is
    ∙ ap (with_entries c.args.self.now) (sym seen ∙ sym (none-arrived p rows first).1 ∙ ap (without_first p) seen)

pub invariant_of-self : goal.invariant_of-self
invariant_of-self c =
    let rows = c.self.inside.rows.rows in
    let I : Table → Type 0 = λ t. (1 ≤ c.self.inside.n) × (c.self.inside.n ≤ 16) × IsLaid c.self.inside.n c.self.inside.next (live_rows t.rows) × IsSpread c.self.inside.n t.rows
    × (c.self.inside.live ≡ length (live_rows t.rows)) × (length t.rows ≤ t.room) × (t.room ≤ c.self.inside.leaving.room) in
    subst I (sym c.close.ensures) (
      c.self.invariant.0,
      c.self.invariant.1,
      subst (IsLaid c.self.inside.n c.self.inside.next) (sym (live-again rows)) c.self.invariant.2,
      spread-filter c.self.inside.n is_live rows c.self.invariant.3,
      c.self.invariant.4 ∙ sym (ap length (live-again rows)),
      omega (arith, length-filter-le is_live rows, c.self.invariant.5),
      c.self.invariant.6,
    )

module _ (c : goal.After-remove) where
  abbrev rs : List (ℕ × Entry)
  rs = live_rows c.self.inside.rows.rows

  abbrev at : ℕ
  at = c.in_ok-at.at

  first : IsFirst (λ r. is_stable_entry c.args.stable.now r.1) rs (Some at)
  first = subst (λ (t : Table). IsFirst (λ r. is_stable_entry c.args.stable.now r.1) t.rows (Some at)) c.close.ensures c.in_ok-at.ensures

  removed : c.remove.new.self ≡ with_rows c.self.inside.rows (remove rs at)
  removed = c.remove.ensures.others ∙ ap (λ (t : Table). with_rows t (remove t.rows at)) c.close.ensures

  apart : Apart rs
  apart = apart-from-laid rs c.self.invariant.2.grouped

  entry : (d : ℕ × Entry) → c.remove.result ≡ (get_or rs at d).1
  entry d = c.remove.ensures.entry d ∙ ap (λ (t : Table). (get_or t.rows at d).1) c.close.ensures

pub returns-clause-taken : goal.returns-clause-taken
returns-clause-taken c =
    let p = is_stable_entry c.args.stable.now in
    let d : ℕ × Entry = (0, c.remove.result) in
    ap (λ x. Some x) (entry c d)
    ∙ sym (first-arrived p (rs c) (at c) d (apart c) (first c)).0
    ∙ ap (λ log. find p log.entries) c.self.view_is

pub returns-clause-others : goal.returns-clause-others
returns-clause-others c =
    let p = is_stable_entry c.args.stable.now in
    let d : ℕ × Entry = (0, c.remove.result) in
    let made : Table → Log = λ t. record { n = c.self.inside.n; room = t.room; pushed = c.self.inside.next; entries = arrived (live_rows t.rows); stripped = reverse (items_of c.self.inside.leaving.rows) } in
    let whole : Log = made c.self.inside.rows in
    ap made (removed c) ∙ ap (λ rows. with_entries whole (arrived rows)) (live-removed c.self.inside.rows.rows (at c))
    ∙ ap (with_entries whole) (sym (first-arrived p (rs c) (at c) d (apart c) (first c)).1)
    ∙ ap (λ log. with_entries log (without_first p log.entries)) c.self.view_is

pub returns-in_err-at-clause-of : goal.returns-in_err-at-clause-of
returns-in_err-at-clause-of c =
    keeps-stripping c.args.stable.now c.from_residual.result c.args.self.now _ (returns-in_err-at-clause-taken c) (returns-in_err-at-clause-others c)

pub returns-clause-of : goal.returns-clause-of
returns-clause-of c = keeps-stripping c.args.stable.now _ c.args.self.now _ (returns-clause-taken c) (returns-clause-others c)

pub invariant_of-self-2 : goal.invariant_of-self-2
invariant_of-self-2 c =
    let n = c.self.inside.n in
    let all = c.self.inside.rows.rows in
    let d : ℕ × Entry = (0, c.remove.result) in
    let inside = (first c).0 in
    let less = length-remove (live_rows all) c.in_ok-at.at inside in
    let I : Table → Type 0 = λ t. (1 ≤ n) × (n ≤ 16) × IsLaid n c.self.inside.next (live_rows t.rows) × IsSpread n t.rows
    × (c.self.inside.live - 1 ≡ length (live_rows t.rows)) × (length t.rows ≤ t.room) × (t.room ≤ c.self.inside.leaving.room) in
    subst I (sym (removed c)) (
      c.self.invariant.0,
      c.self.invariant.1,
      subst (IsLaid n c.self.inside.next) (sym (live-removed all c.in_ok-at.at)) (laid-remove n c.self.inside.next c.in_ok-at.at (live_rows all) d inside c.self.invariant.2),
      spread-remove n c.in_ok-at.at (live_rows all) d inside (spread-filter n is_live all c.self.invariant.3),
      omega (arith, ap length (live-removed all c.in_ok-at.at), less, c.self.invariant.4),
      omega (arith, less, length-filter-le is_live all, c.self.invariant.5),
      c.self.invariant.6,
    )
