use Rattle.world.proofs.Entrants.{one_entrant_more}
use Rattle.world.proofs.regrouping.next_entrants.Goals as goal

pub loop-i-preserved : goal.loop-i-preserved
loop-i-preserved c =
    one_entrant_more c.args.n c.args.nodes.now c.loop-i.i c.loop-i.entrants.items c.push.new.self.items c.in_ok-next_entrant.field-0 c.loop-i.invariant c.in_ok-push.ensures.items c.in_ok-next_entrant.ensures
