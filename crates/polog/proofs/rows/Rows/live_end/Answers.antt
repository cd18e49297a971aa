use Rattle.std.proofs.Common.{◌≡◌, ℕ, ◌<◌, ◌≤◌, ◌-◌, true, false, List, length, get_or, inl, inr, sym, ap, ◌∙◌, arith}
use Rattle.std.proofs.lemmas.Bool.{cases_lt, false≢true}
use Rattle.op_base.specs.declared.message.Entry.{Entry}
use Rattle.polog.specs.Rows.{is_live, is_used}
use Rattle.polog.specs.declared.marks.Stamp.{Stamp}
use Rattle.polog.proofs.Orders.{told, not-true, not-false}
use Rattle.polog.proofs.Places.{get-other, any-of}
use Rattle.polog.proofs.Tables.{as_many, row-seen}
use Rattle.polog.proofs.rows.Rows.live_end.Goals as goal
use Rattle.polog.proofs.rows.Rows.live_end.Goals.{After-deref, then-from-to-via-then-from-to, then-from-to-via-else-from-to+then-not-is_free}

-- free rows stand behind the others from one place up to another
abbrev AreBehind : List (ℕ × Entry) → ℕ → ℕ → Type 0
AreBehind rs from to = (j k : ℕ) (d : ℕ × Entry) → from ≤ j → j < k → k < to → is_live (get_or rs k d) ≡ true → is_live (get_or rs j d) ≡ true

module _ (rs : List (ℕ × Entry)) (from to : ℕ) (places : to ≤ length rs) (behind : AreBehind rs from to) where
  live-before : (i : ℕ) (e : ℕ × Entry) → i < to → is_live (get_or rs i e) ≡ true → (k : ℕ) (d : ℕ × Entry) → from ≤ k → k ≤ i → is_live (get_or rs k d) ≡ true
  live-before i e inside live k d l m =
      let here : is_live (get_or rs i d) ≡ true = ap is_live (get-other rs i d e (omega (arith, inside, places))) ∙ live in
      elim (cases_lt k i) [
        | inl less ↦ behind k i d l less inside here
        | inr more ↦ let one : i ≡ k = omega (arith, more, m) in ap (λ j. is_live (get_or rs j d)) (sym one) ∙ here
      ]

  free-behind : (i : ℕ) (e : ℕ × Entry) → from ≤ i → is_live (get_or rs i e) ≡ false → (k : ℕ) (d : ℕ × Entry) → i ≤ k → k < to → is_live (get_or rs k d) ≡ false
  free-behind i e l free k d m inside = elim (told (is_live (get_or rs k d))) [
    | inl live ↦ absurd (false≢true (sym free ∙ live-before k d inside live i e l m))
    | inr none ↦ none
  ]

pub returns-then-from-to-clause-live : goal.returns-then-from-to-clause-live
returns-then-from-to-clause-live c k d l m = elim c.then-from-to.branch [
  | then-from-to-via-then-from-to w ↦ absurd (omega (arith, w.if-from-to.true, l, m))
  | then-from-to-via-else-from-to+then-not-is_free w ↦
      live-before c.args.self.now.rows c.args.from c.args.to c.requires.places c.requires.behind (c.args.to - 1) d (omega (arith, l, m))
      (not-false _ (sym (w.is_free.ensures d) ∙ w.if-not-is_free.true)) k d l (omega (arith, m))
]

pub returns-then-is_free-clause-live : goal.returns-then-is_free-clause-live
returns-then-is_free-clause-live c k d l m =
    live-before c.args.self.now.rows c.args.from c.args.to c.requires.places c.requires.behind (c.args.guess - 1) d (omega (arith, c.if-guess-to.true))
    (not-false _ (sym (c.is_free-then-guess-to.ensures d) ∙ c.if-not-is_free-2.true)) k d l (omega (arith, m))

pub returns-then-is_free-clause-free : goal.returns-then-is_free-clause-free
returns-then-is_free-clause-free c k d l m =
    free-behind c.args.self.now.rows c.args.from c.args.to c.requires.places c.requires.behind c.args.guess d (omega (arith, c.if-from-guess.true))
    (not-true _ (sym (c.is_free-then-not-is_free-2.ensures d) ∙ c.if-is_free.true)) k d l m

module _ (c : After-deref) where
  many : length c.args.self.now.rows ≡ length c.deref.result.now
  many =
      let inside = c.self.inside in
      as_many inside.room inside.stamps.items inside.entries.items c.args.self.now c.self.invariant.0 c.self.view_is ∙ sym c.self.invariant.0 ∙ sym (ap length c.deref.ensures.value)

  -- a stamp tells whether the row at its place is free
  used-seen : (k : ℕ) (s : Stamp) (d : ℕ × Entry) → k < length c.deref.result.now → is_used (get_or c.deref.result.now k s) ≡ is_live (get_or c.args.self.now.rows k d)
  used-seen k s d l =
      let inside = c.self.inside in
      let t : Stamp = record { number = d.0; mark = 0 } in
      let row = row-seen inside.room inside.stamps.items inside.entries.items c.args.self.now k t d.1 c.self.invariant.0 c.self.view_is in
      ap is_used (get-other c.deref.result.now k s t l) ∙ ap (λ ss. is_used (get_or ss k t)) c.deref.ensures.value ∙ sym (ap is_live row)

pub first_free-requires-clause-places : goal.first_free-requires-clause-places
first_free-requires-clause-places c = let same = many (goal.at.first_free-requires-clause-places c).After-deref in omega (arith, same, c.requires.places)

pub first_free-requires-clause-behind : goal.first_free-requires-clause-behind
first_free-requires-clause-behind c j k s l m n used =
    let here = (goal.at.first_free-requires-clause-behind c).After-deref in
    let same = many here in
    let d : ℕ × Entry = any-of c.args.self.now.rows (omega (arith, c.requires.places, n)) in
    used-seen here j s d (omega (arith, same, c.requires.places, m, n)) ∙ c.requires.behind j k d l m n (sym (used-seen here k s d (omega (arith, same, c.requires.places, n))) ∙ used)

pub returns-clause-live : goal.returns-clause-live
returns-clause-live c k d l m =
    let here = (goal.at.returns-clause-live c).After-deref in
    let same = many here in
    let s : Stamp = record { number = 0; mark = 0 } in
    sym (used-seen here k s d (omega (arith, same, c.requires.places, m, c.first_free.ensures.most))) ∙ c.first_free.ensures.used k s l m

pub returns-clause-free : goal.returns-clause-free
returns-clause-free c k d l m =
    let here = (goal.at.returns-clause-free c).After-deref in
    let same = many here in
    let s : Stamp = record { number = 0; mark = 0 } in
    sym (used-seen here k s d (omega (arith, same, c.requires.places, m))) ∙ c.first_free.ensures.free k s l m
