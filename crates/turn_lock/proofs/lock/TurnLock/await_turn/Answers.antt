use Rattle.std.proofs.Common.{rules, ap, ◌∙◌}
use mathlib.Core.Option.{none}
use Rattle.atomic_table.specs.Table.{step}
use Rattle.turn_lock.proofs.Turning.{looks, found}
use Rattle.turn_lock.proofs.lock.TurnLock.await_turn.Goals as goal

pub load-requires : goal.load-requires
load-requires g c = let same = c.loop-2.invariant.1 ∙ c.loop.invariant.1 in
    (search rules, search rules, looks g.P.Story.fits _ _ _ _ (ap (λ m. m.0.draws) same ∙ c.requires.waits.0) (ap (λ m. m.0.serves) same ∙ c.requires.waits.1))

pub returns-then-load-ticket-clause-found : goal.returns-then-load-ticket-clause-found
returns-then-load-ticket-clause-found g c = found g.P.Story.fits c.self.inside.table.shared.key (step c.self.inside.table.shared.table_id.slots 1 0 0 none) _ _ _ _ _ c.load.ensures.2 (c.loop-2.invariant.1 ∙ c.loop.invariant.1) c.if-load-ticket.true c.requires.ticket
