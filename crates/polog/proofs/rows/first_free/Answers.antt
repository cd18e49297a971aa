use Rattle.std.proofs.Common.{rules, of_calls, ◌≡◌, ℕ, ◌+◌, ◌-◌, ◌<◌, ◌≤◌, true, List, length, take, drop, length-take, length-drop, get_or, get_or-take, get_or-drop, inl, inr, sym, ap, ◌∙◌, arith}
use Rattle.std.proofs.lemmas.Bool.{cases_lt}
use Rattle.std.proofs.lemmas.Fn.{always_returns_same}
use Rattle.polog.specs.Rows.{is_used}
use Rattle.polog.specs.declared.marks.Stamp.{Stamp}
use Rattle.polog.proofs.rows.first_free.Goals as goal

module _ (c : goal.After-partition_point) where
  abbrev part : List Stamp
  part = take (c.args.to - c.args.from) (drop c.args.from c.args.stamps.now)

  seen : (k : ℕ) (d : Stamp) → c.args.from + k < c.args.to → get_or part k d ≡ get_or c.args.stamps.now (c.args.from + k) d
  seen k d l = get_or-take (c.args.to - c.args.from) (drop c.args.from c.args.stamps.now) k d (omega (arith, l)) ∙ get_or-drop c.args.from c.args.stamps.now k d

  long : length part ≡ c.args.to - c.args.from
  long = omega (arith, length-take (c.args.to - c.args.from) (drop c.args.from c.args.stamps.now), length-drop c.args.from c.args.stamps.now, c.requires.places)

  rises : (i j : ℕ) (d : Stamp) → i ≤ j → j < length part → is_used (get_or part j d) ≡ true → is_used (get_or part i d) ≡ true
  rises i j d l m used =
      let at = seen j d (omega (arith, m, long, c.requires.order)) in
      elim (cases_lt i j) [
        | inl less ↦ ap is_used (seen i d (omega (arith, less, m, long, c.requires.order)))
            ∙ c.requires.behind (c.args.from + i) (c.args.from + j) d (omega arith) (omega (arith, less)) (omega (arith, m, long, c.requires.order)) (sym (ap is_used at) ∙ used)
        | inr more ↦ let one : j ≡ i = omega (arith, more, l) in ap (λ k. is_used (get_or part k d)) (sym one) ∙ used
      ]

pub returns-clause-used : goal.returns-clause-used
returns-clause-used c k d l m =
    let point = c.partition_point.ensures.partitioned is_used (always_returns_same _ _ _ (λ a r f k. search (rules, of_calls))) (rises c) in
    let there : c.args.from + (k - c.args.from) ≡ k = omega (arith, l) in
    let many = long c in
    sym (ap is_used (seen c (k - c.args.from) d (omega (arith, there, m, many, c.partition_point.ensures.bound, c.requires.order)) ∙ ap (λ j. get_or c.args.stamps.now j d) there))
    ∙ point.0 (k - c.args.from) d (omega arith) (omega (arith, l, m))

pub returns-clause-free : goal.returns-clause-free
returns-clause-free c k d l m =
    let point = c.partition_point.ensures.partitioned is_used (always_returns_same _ _ _ (λ a r f k. search (rules, of_calls))) (rises c) in
    let there : c.args.from + (k - c.args.from) ≡ k = omega (arith, l) in
    let many = long c in
    sym (ap is_used (seen c (k - c.args.from) d (omega (arith, there, m)) ∙ ap (λ j. get_or c.args.stamps.now j d) there))
    ∙ point.1 (k - c.args.from) d (omega (arith, l)) (omega (arith, l, m, many))
