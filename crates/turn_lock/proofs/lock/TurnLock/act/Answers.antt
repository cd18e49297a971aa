use Rattle.std.proofs.Common.{rules, ◌≡◌, subst, sym}
use Rattle.turn_lock.specs.declared.view.View.{View}
use Rattle.turn_lock.specs.Turns.{turns_of}
use Rattle.turn_lock.proofs.TurnLists.{one_more}
use Rattle.turn_lock.proofs.Turning.{records}
use Rattle.turn_lock.proofs.lock.TurnLock.act.Goals as goal

pub store-requires : goal.store-requires
store-requires g c = (search rules, search rules, records g.P.Story.fits _ _ _ _ c.args.value c.requires.fits.0 _ (search rules) (search rules) (search rules) (search rules) (search rules))

pub returns-clause-own : goal.returns-clause-own
returns-clause-own g c = let told = c.store.ensures.2 in let v = c.exchange.new.seat.me.0 in
    subst (λ (w : View g.row.E.Denot g.row.K.Denot). turns_of w.number w.seen ≡ w.own) (sym told.4) (one_more v.number told.0 v.seen v.own (search rules))
