use Rattle.std.proofs.Common.{◌≡◌, ℕ, Bool, List}
use Rattle.std.specs.Fn.{FnReturnsAt}
use Rattle.list_type.specs.Chained.{IsParted, IsPlace}
use Rattle.list_type.proofs.Walks.{IsWalked}
use Rattle.list_type.proofs.walk.past.Given as goal

abbrev pub invariant-loop : goal.invariant-loop
invariant-loop g l =
    IsPlace l.chains.rows l.row l.at
    × ((p : g.row.T.Denot → Bool) → ((value : g.row.T.Denot) (answer : Bool) → FnReturnsAt g.P.Fn l.test value answer → answer ≡ p value)
    → (before after : List (ℕ × g.row.T.Denot)) → IsParted l.chains.rows l.row before l.fn.ahead after → IsWalked p l.chains.rows l.row before after l.at l.counter)
