use Rattle.std.proofs.Common.{rules, ◌∷◌, Some, ap, sym, ◌∙◌}
use Rattle.atomic_table.specs.Table.{rest}
use Rattle.turn_lock.proofs.Turning.{draws}
use Rattle.turn_lock.proofs.lock.TurnLock.enter.Goals as goal

pub fetch_add-pass-inside-requires : goal.fetch_add-pass-inside-requires
fetch_add-pass-inside-requires g c = (search rules, search rules, draws g.P.Story.fits _ _ _ _ c.pass.invariant.live (search rules))

pub exchange-requires : goal.exchange-requires
exchange-requires g c = let found = c.await_turn.ensures.found in let is = ap (λ m. m.1) found.4 in
    (search rules, (Some found.1, is ∙ ap (λ l. (0, Some found.1) ∷ rest l) (sym is)))
