use Rattle.std.proofs.Common.{subst}
use Rattle.world.specs.Entrants.{AreAsBefore, AreNext}
use Rattle.world.proofs.Entrants.{next_stays}
use Rattle.world.proofs.regrouping.change_nodes.Goals as goal

pub returns-clause-next : goal.returns-clause-next
returns-clause-next c =
    let now = c.ready_all.new.nodes.items in
    let same = subst (λ nodes. AreAsBefore nodes now) c.in_ok-reserve.ensures.items c.in_ok-ready_all.ensures.same in
    next_stays c.args.n c.args.nodes.now.items now c.requires.some same c.enter_all.new.nodes.items (subst (λ nodes. AreNext c.args.n nodes c.enter_all.new.nodes.items) c.truncate.ensures.items c.enter_all.ensures)
