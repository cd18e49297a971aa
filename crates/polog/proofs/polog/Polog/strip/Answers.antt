use Rattle.std.proofs.Common.{◌≡◌, ℕ, ◌≤◌, Bool, true, false, not, ◌&&◌, List, [], length, length-take-le, reverse, take, drop, filter, IsTrue, sym, ap, subst, ◌∙◌, arith}
use Rattle.std.specs.List.Sorted.{IsPermutation}
use Rattle.std.proofs.lemmas.List.{length-map}
use Rattle.std.proofs.lemmas.List.Sorted.{length_permutation}
use Rattle.op_base.specs.Message.{fits}
use Rattle.op_base.specs.declared.message.Entry.{Entry}
use Rattle.causal_model.specs.Log.{message_of}
use Rattle.polog.specs.Order.{Each, items_of, in_order}
use Rattle.polog.specs.Rows.{Table, IsLaid, IsSpread, is_live, live_rows, idle_of, arrived, with_rows}
use Rattle.polog.specs.Standing.{IsStripped}
use Rattle.polog.specs.Value.{without_stable, is_stable_entry}
use Rattle.polog.proofs.Gaps.{filter-both, spread-filter, kept-live, kept-many, live-front, live-rest}
use Rattle.polog.proofs.Kept.{kept-moved}
use Rattle.polog.proofs.Laid.{apart-from-laid, laid-filter, arrived-filter}
use Rattle.polog.proofs.Moves.{Apart}
use Rattle.polog.proofs.Orders.{each-weaker, filter-all, filter-none, not-false}
use Rattle.polog.proofs.Standing.{stripped-is}
use Rattle.polog.proofs.Strips.{all-wait, none-waits, moved-apart, waits}
use Rattle.polog.proofs.Sweeps.{any-none}
use Rattle.polog.proofs.Vacated.{none-passes, spread-vacated}
use Rattle.polog.proofs.polog.Polog.strip.Goals as goal
use Rattle.polog.proofs.polog.Polog.strip.Goals.{After-keep_unstable-kept, After-take_tail, After-take_all}

pub keep_unstable-kept-requires : goal.keep_unstable-kept-requires
keep_unstable-kept-requires c =
    subst (λ n. Each (λ r. IsTrue (fits n (message_of r.1))) c.self.inside.rows.rows) (ap (λ log. log.n) c.self.view_is ∙ sym c.requires.tag) c.self.invariant.3.fit

module _ (c : After-keep_unstable-kept) where
  abbrev rs : List (ℕ × Entry)
  rs = c.self.inside.rows.rows

  abbrev ss : List (ℕ × Entry)
  ss = c.keep_unstable-kept.new.rows.rows

  abbrev k : ℕ
  k = c.keep_unstable-kept.result

  abbrev p : Entry → Bool
  p = is_stable_entry c.args.stable.now

  as_many : length ss ≡ length rs
  as_many = length_permutation rs ss c.keep_unstable-kept.ensures.moved

  few : k ≤ length ss
  few = omega (arith, c.keep_unstable-kept.ensures.some, as_many)

  moved : IsPermutation (live_rows rs) (live_rows ss)
  moved = kept-moved is_live rs ss c.keep_unstable-kept.ensures.moved

  apart : Apart (live_rows rs)
  apart = apart-from-laid (live_rows rs) c.self.invariant.2.grouped

  front : take k (live_rows ss) ≡ filter (λ r. not (p r.1)) (live_rows rs)
  front = live-front (λ r. not (p r.1)) rs ss k c.keep_unstable-kept.ensures.kept few

  rest : drop k (live_rows ss) ≡ live_rows (drop k ss)
  rest = live-rest (λ r. not (p r.1)) rs ss k c.keep_unstable-kept.ensures.kept few

  own-apart : Apart (reverse (live_rows (drop k ss)))
  own-apart = subst (λ xs. Apart (reverse xs)) rest (moved-apart p (live_rows rs) (live_rows ss) k moved apart front)

  goes : reverse (items_of (reverse (in_order (reverse (live_rows (drop k ss)))))) ≡ filter p (arrived (live_rows rs))
  goes = ap (λ xs. reverse (items_of (reverse (in_order (reverse xs))))) (sym rest) ∙ waits p (live_rows rs) (live_rows ss) k moved apart front

  left : live_rows (take k ss) ≡ filter (λ r. not (p r.1)) (live_rows rs)
  left = kept-live (λ r. not (p r.1)) rs ss k c.keep_unstable-kept.ensures.kept few

  many : length (live_rows (take k ss)) ≡ k
  many = kept-many (λ r. not (p r.1)) rs ss k c.keep_unstable-kept.ensures.kept few

pub take_tail-requires-clause-place : goal.take_tail-requires-clause-place
take_tail-requires-clause-place c = few (goal.at.take_tail-requires-clause-place c).After-keep_unstable-kept

pub take_tail-requires-clause-empty : goal.take_tail-requires-clause-empty
take_tail-requires-clause-empty c = none-waits c.self.inside.leaving.rows (ap (λ log. log.stripped) c.self.view_is ∙ c.requires.handed_out)

pub take_tail-requires-clause-room : goal.take_tail-requires-clause-room
take_tail-requires-clause-room c =
    let same = as_many (goal.at.take_tail-requires-clause-room c).After-keep_unstable-kept in
    omega (arith, c.self.invariant.5, c.self.invariant.6, same)

pub take_tail-requires-clause-apart : goal.take_tail-requires-clause-apart
take_tail-requires-clause-apart c = own-apart (goal.at.take_tail-requires-clause-apart c).After-keep_unstable-kept

-- the rows that stay, and the log then
kept-rows : (c : After-take_tail) → c.take_tail.new.rows ≡ with_rows c.self.inside.rows (take c.keep_unstable-kept.result c.keep_unstable-kept.new.rows.rows)
kept-rows c = c.take_tail.ensures.left ∙ (λ t. record { room = c.keep_unstable-kept.ensures.room t; rows = take c.keep_unstable-kept.result c.keep_unstable-kept.new.rows.rows })

taken : (c : After-take_tail) (before : After-keep_unstable-kept) → live_rows (take c.keep_unstable-kept.result c.keep_unstable-kept.new.rows.rows) ≡ filter (λ r. not (is_stable_entry c.args.stable.now r.1)) (live_rows c.self.inside.rows.rows)
    → reverse (items_of (reverse (in_order (reverse (live_rows (drop c.keep_unstable-kept.result c.keep_unstable-kept.new.rows.rows)))))) ≡ filter (is_stable_entry c.args.stable.now) (arrived (live_rows c.self.inside.rows.rows))
    → record { n = c.self.inside.n; room = c.take_tail.new.rows.room; pushed = c.self.inside.next; entries = arrived (live_rows c.take_tail.new.rows.rows); stripped = reverse (items_of c.take_tail.new.self.rows) }
    ≡ without_stable c.args.self.now c.args.stable.now
taken c before left goes =
    let p = is_stable_entry c.args.stable.now in
    let rs = c.self.inside.rows.rows in
    let stays = ap (λ (t : Table). arrived (live_rows t.rows)) (kept-rows c) ∙ ap arrived left ∙ arrived-filter (λ e. not (p e)) (live_rows rs) in
    let out = ap (λ (t : Table). reverse (items_of t.rows)) c.take_tail.ensures.taken ∙ goes in
    (λ t. record { n = c.self.inside.n; room = (kept-rows c t).room; pushed = c.self.inside.next; entries = stays t; stripped = out t })
    ∙ ap (λ log. without_stable log c.args.stable.now) c.self.view_is

pub invariant_of-self-2 : goal.invariant_of-self-2
invariant_of-self-2 c =
    let before = (goal.at.invariant_of-self-2 c).After-keep_unstable-kept in
    let here = (goal.at.invariant_of-self-2 c).After-take_tail in
    let rs = c.self.inside.rows.rows in
    let ss = c.keep_unstable-kept.new.rows.rows in
    let k = c.keep_unstable-kept.result in
    let q : ℕ × Entry → Bool = λ r. not (is_stable_entry c.args.stable.now r.1) in
    let I : Table → Type 0 = λ t. (1 ≤ c.self.inside.n) × (c.self.inside.n ≤ 16) × IsLaid c.self.inside.n c.self.inside.next (live_rows t.rows) × IsSpread c.self.inside.n t.rows
    × (k ≡ length (live_rows t.rows)) × (length t.rows ≤ t.room) × (t.room ≤ c.take_tail.new.self.room) in
    subst I (sym (kept-rows here)) (
      c.self.invariant.0,
      c.self.invariant.1,
      subst (IsLaid c.self.inside.n c.self.inside.next) (sym (left before)) (laid-filter c.self.inside.n c.self.inside.next q (live_rows rs) c.self.invariant.2),
      subst (IsSpread c.self.inside.n) (sym c.keep_unstable-kept.ensures.kept) (spread-filter c.self.inside.n (λ r. is_live r && q r) rs c.self.invariant.3),
      sym (many before),
      omega (arith, length-take-le k ss (few before), c.keep_unstable-kept.ensures.some, c.self.invariant.5),
      omega (arith, c.self.invariant.6, ap (λ (t : Table). t.room) c.take_tail.ensures.taken),
    )

pub returns-clause-taken : goal.returns-clause-taken
returns-clause-taken c =
    let before = (goal.at.returns-clause-taken c).After-keep_unstable-kept in
    taken (goal.at.returns-clause-taken c).After-take_tail before (left before) (goes before)

pub returns-clause-stripped : goal.returns-clause-stripped
returns-clause-stripped c keeps covers n w me ms m chapter now stands =
    subst (IsStripped keeps covers n me ms m 0) (sym (returns-clause-taken c)) (stripped-is keeps covers n me ms w m c.args.self.now c.args.stable.now chapter now stands)

-- ---- where all go

pub take_all-requires-clause-empty : goal.take_all-requires-clause-empty
take_all-requires-clause-empty c = none-waits c.self.inside.leaving.rows (ap (λ log. log.stripped) c.self.view_is ∙ c.requires.handed_out)

pub take_all-requires-clause-apart : goal.take_all-requires-clause-apart
take_all-requires-clause-apart c = apart-from-laid (live_rows c.self.inside.rows.rows) c.self.invariant.2.grouped

module _ (c : After-take_all) where
  abbrev stable : Entry → Bool
  stable = is_stable_entry c.args.stable.now

  abbrev entries : List (ℕ × Entry)
  entries = live_rows c.self.inside.rows.rows

  none-stays : filter (λ r. not (stable r.1)) entries ≡ []
  none-stays =
      let rows = c.self.inside.rows.rows in
      let q : ℕ × Entry → Bool = λ r. is_live r && not (stable r.1) in
      sym (filter-both is_live (λ r. not (stable r.1)) rows) ∙ filter-none q rows (any-none q rows (c.do_all_go.ensures ∙ ap not c.if-do_all_go.true))

  all-go : filter (λ r. stable r.1) entries ≡ entries
  all-go = filter-all (λ r. stable r.1) entries
      (each-weaker (λ r. not (stable r.1) ≡ false) (λ r. stable r.1 ≡ true) (λ r. not-false (stable r.1)) entries (none-passes (λ r. not (stable r.1)) entries none-stays))

  stays : arrived (live_rows c.take_all.new.rows.rows) ≡ filter (λ e. not (stable e)) (arrived entries)
  stays = ap arrived (c.take_all.ensures.free ∙ sym none-stays) ∙ arrived-filter (λ e. not (stable e)) entries

  out : reverse (items_of c.take_all.new.self.rows) ≡ filter stable (arrived entries)
  out = ap (λ (t : Table). reverse (items_of t.rows)) c.take_all.ensures.taken ∙ all-wait entries ∙ ap arrived (sym all-go) ∙ arrived-filter stable entries

  all-taken : record { n = c.self.inside.n; room = c.take_all.new.rows.room; pushed = c.self.inside.next; entries = arrived (live_rows c.take_all.new.rows.rows); stripped = reverse (items_of c.take_all.new.self.rows) }
      ≡ without_stable c.args.self.now c.args.stable.now
  all-taken =
      (λ t. record { n = c.self.inside.n; room = c.take_all.ensures.room t; pushed = c.self.inside.next; entries = stays t; stripped = out t })
      ∙ ap (λ log. without_stable log c.args.stable.now) c.self.view_is

pub invariant_of-self : goal.invariant_of-self
invariant_of-self c =
    let old = c.self.inside.rows in
    let new = c.take_all.new.rows in
    let many = sym (length-map new.rows (λ r. idle_of r.1)) ∙ ap length c.take_all.ensures.places ∙ length-map old.rows (λ r. idle_of r.1) in (
      c.self.invariant.0,
      c.self.invariant.1,
      subst (IsLaid c.self.inside.n c.self.inside.next) (sym c.take_all.ensures.free) (record { grouped = tt; below = tt; fit = tt }),
      spread-vacated c.self.inside.n old.rows new.rows c.take_all.ensures.places c.take_all.ensures.free c.take_all.ensures.idle c.self.invariant.3,
      sym (ap length c.take_all.ensures.free),
      omega (arith, many, c.take_all.ensures.room, c.self.invariant.5),
      omega (arith, c.take_all.ensures.room, c.self.invariant.6, ap (λ (t : Table). t.room) c.take_all.ensures.taken),
    )

pub returns-then-do_all_go-clause-taken : goal.returns-then-do_all_go-clause-taken
returns-then-do_all_go-clause-taken c = all-taken (goal.at.returns-then-do_all_go-clause-taken c).After-take_all

pub returns-then-do_all_go-clause-stripped : goal.returns-then-do_all_go-clause-stripped
returns-then-do_all_go-clause-stripped c keeps covers n w me ms m chapter now stands =
    subst (IsStripped keeps covers n me ms m 0) (sym (returns-then-do_all_go-clause-taken c)) (stripped-is keeps covers n me ms w m c.args.self.now c.args.stable.now chapter now stands)
