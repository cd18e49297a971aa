use Rattle.std.proofs.Common.{sym, subst}
use Rattle.replica_lock.specs.Turns.{IsNodeOf}
use Rattle.replica_lock.proofs.Ends.{fits_with, acted}
use Rattle.replica_lock.proofs.shared.SharedNode.put_back.Goals as goal

pub act-requires-clause-fits : goal.act-requires-clause-fits
act-requires-clause-fits c =
    let is = subst (λ l. IsNodeOf l.key c.args.node) (sym c.self.view_is) c.requires.is_node in
    (c.requires.grows.0, fits_with _ c.args.pass.now.seen c.args.pass.now.number c.args.node is c.requires.grows.0 c.requires.grows.1)

pub returns-then-place-before-clause-turn : goal.returns-then-place-before-clause-turn
returns-then-place-before-clause-turn c =
    let is = subst (λ l. IsNodeOf l.key c.args.node) (sym c.self.view_is) c.requires.is_node in
    acted _ c.args.pass.now.seen c.args.pass.now.number c.args.node is c.args.before c.places-place.result c.requires.counted c.places-place.ensures c.args.pass.now c.act.new.pass c.if-place-before.true c.act.ensures.pass
