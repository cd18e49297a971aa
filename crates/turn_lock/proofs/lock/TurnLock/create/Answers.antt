use Rattle.std.proofs.Common.{rules, ◌≡◌, ◌∷◌, [], List, Option, Some, sym, subst}
use Rattle.atomic_table.specs.Table.{opening}
use Rattle.turn_lock.specs.Rule.{Ticketed, opening_view}
use Rattle.turn_lock.proofs.Sharing.{begins}
use Rattle.turn_lock.proofs.lock.TurnLock.create.Goals as goal

pub new-requires : goal.new-requires
new-requires g c = let is : c.push_reserved.new.self.items ≡ Some c.args.value ∷ [] = search rules in
    subst (λ (l : List (Option g.row.X.Denot)). Ticketed (g.P.Story.fits c.args.key.now) c.args.key.now (opening (0 ∷ 0 ∷ []) l (opening_view c.args.key.now))) (sym is) (begins g.P.Story.fits c.args.key.now c.args.value c.requires)
