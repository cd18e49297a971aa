use Rattle.std.proofs.Common.{rules, arith, ◌≡◌, ℕ, ◌+◌, List, [], ◌∷◌, ◌++◌}
use Rattle.std.specs.List.{sum_by}
use Rattle.std.proofs.lemmas.List.Sums.{sum_by-append}
use Rattle.turn_lock.specs.declared.view.TurnEntry.{TurnEntry}
use Rattle.turn_lock.specs.Turns.{turn}
use Rattle.thread_tests.proofs.locks.add.Goals as goal

-- the sum after a turn that added
added : (turns : List (TurnEntry ℕ)) (number x sum more : ℕ) → sum ≡ sum_by (λ t. t.what) turns → more ≡ sum + x → more ≡ sum_by (λ t. t.what) (turns ++ turn number x ∷ [])
added turns number x sum more was is = omega (arith, was, is, sum_by-append (λ t. t.what) turns (turn number x ∷ []))

pub act-requires-clause-fits : goal.act-requires-clause-fits
act-requires-clause-fits g c = (c.args.x, added c.enter-sum.new.pass.seen _ c.args.x c.enter-sum.result _ c.enter-sum.ensures.fits (search rules))

pub returns-in-Some-clause-lock : goal.returns-in-Some-clause-lock
returns-in-Some-clause-lock g c = let after = c.act.ensures.pass c.args.x (added c.enter-sum.new.pass.seen _ c.args.x c.enter-sum.result _ c.enter-sum.ensures.fits (search rules)) in search rules

pub returns-in-Some-clause-idle : goal.returns-in-Some-clause-idle
returns-in-Some-clause-idle g c = let after = c.act.ensures.pass c.args.x (added c.enter-sum.new.pass.seen _ c.args.x c.enter-sum.result _ c.enter-sum.ensures.fits (search rules)) in search rules
