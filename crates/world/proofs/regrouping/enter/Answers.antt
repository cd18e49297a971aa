use Rattle.std.proofs.Common.{slice_index_or, slice_set, sym, subst}
use Rattle.world.specs.Entrants.{CanEnter, EntersAs}
use Rattle.world.specs.Shows.{NotedNode}
use Rattle.world.specs.declared.regrouping.Entrant.{Entrant}
use Rattle.world.proofs.Entrants.{noted_is_next, stands_there}
use Rattle.world.proofs.regrouping.enter.Goals as goal

pub returns-in-Stays-clause-here : goal.returns-in-Stays-clause-here
returns-in-Stays-clause-here c e =
    let nodes = c.args.nodes.now.items in
    let place = subst (CanEnter nodes c.args.q) c.in-Stays.is c.requires.place in
    let node : NotedNode = c.index_mut.result.now in
    let next : NotedNode = c.turn.new.self in
    let room = c.in-Stays.room in
    let made = c.turn.ensures in
    subst (λ (entering : Entrant). EntersAs nodes c.args.q entering (slice_index_or (slice_set nodes c.args.q next) c.args.q e)) (sym c.in-Stays.is)
    (λ d. stands_there nodes c.args.q room.n room.me node next d e place.0 c.index_mut.ensures.value (noted_is_next node next room.n room.me made.w made.limit made.first made.noted))
