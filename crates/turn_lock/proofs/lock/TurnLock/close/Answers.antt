use Rattle.std.proofs.Common.{rules, ◌≡◌, Some, IsSome, List, refl, ap, sym, subst, ◌∙◌}
use mathlib.Core.Option.{some-injective}
use Rattle.std.specs.List.{All}
use Rattle.turn_lock.specs.Turns.{OpenerState, StartsWith}
use Rattle.turn_lock.specs.declared.view.TurnEntry.{TurnEntry}
use Rattle.turn_lock.proofs.Sharing.{closes}
use Rattle.turn_lock.proofs.TurnLists.{rearranged}
use Rattle.turn_lock.proofs.lock.TurnLock.close.Goals as goal

pub unwrap-value-requires : goal.unwrap-value-requires
unwrap-value-requires g c = let none = c.opener.invariant.out ∙ (ap (λ o. o.out) c.opener.view_is ∙ c.requires.none) in
    let t = closes g.P.Story.fits _ _ _ _ _ c.opener.invariant.opens none c.close_with-closed.ensures.values.2 in
    subst IsSome (some-injective (Some t.0) _ (sym t.1 ∙ c.take.ensures.value)) refl

pub returns-clause-fits : goal.returns-clause-fits
returns-clause-fits g c = let none = c.opener.invariant.out ∙ (ap (λ o. o.out) c.opener.view_is ∙ c.requires.none) in
    let t = closes g.P.Story.fits _ _ _ _ _ c.opener.invariant.opens none c.close_with-closed.ensures.values.2 in
    let key = ap (λ o. o.lock.key) c.opener.view_is ∙ ap (λ l. l.key) c.requires.lock in
    let seen = ap (λ o. o.seen) c.opener.view_is in
    let is : Some t.0 ≡ c.take.result = some-injective (Some t.0) _ (sym t.1 ∙ c.take.ensures.value) in
    let same : t.0 ≡ c.unwrap-value.result = search rules in
    subst (λ (y : g.row.K.Denot × List (TurnEntry g.row.E.Denot) × g.row.X.Denot). g.P.Story.fits y.0 y.1 y.2) (λ i. (key i, seen i, same i)) t.2

pub returns-clause-fronts : goal.returns-clause-fronts
returns-clause-fronts g c = let none = c.opener.invariant.out ∙ (ap (λ o. o.out) c.opener.view_is ∙ c.requires.none) in
    let t = closes g.P.Story.fits _ _ _ _ _ c.opener.invariant.opens none c.close_with-closed.ensures.values.2 in
    subst (λ (o : OpenerState g.row.E.Denot g.row.K.Denot). All (StartsWith o.seen) o.fronts) c.opener.view_is t.4

pub returns-clause-order : goal.returns-clause-order
returns-clause-order g c = let none = c.opener.invariant.out ∙ (ap (λ o. o.out) c.opener.view_is ∙ c.requires.none) in
    let t = closes g.P.Story.fits _ _ _ _ _ c.opener.invariant.opens none c.close_with-closed.ensures.values.2 in search (rules, t.3)

pub returns-clause-turns : goal.returns-clause-turns
returns-clause-turns g c = rearranged c.args.opener.own c.args.opener.seen (returns-clause-order g c)
