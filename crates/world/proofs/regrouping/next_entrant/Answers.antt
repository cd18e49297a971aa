use Rattle.std.proofs.Common.{IsTrue, rules}
use Rattle.replica_core.specs.Numbers.{are_numbers}
use Rattle.world.specs.Shows.{NotedNode}
use Rattle.world.proofs.Entrants.{can_go_on}
use Rattle.world.proofs.regrouping.next_entrant.Goals as goal

pub returns-in_ok-room : goal.returns-in_ok-room
returns-in_ok-room c =
    let node : NotedNode = c.index-nodes-q.result in
    let made = c.in_ok-room.ensures in
    let numbers : IsTrue (are_numbers c.args.q c.args.n node.inner.w node.inner.limit) = search rules in
    can_go_on c.args.n c.args.q c.args.nodes.now node c.in_ok-room.field-0 c.if-q-nodes.true c.index-nodes-q.is c.requires.settled c.requires.early numbers made.me made.n made.empty
