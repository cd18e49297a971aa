use Rattle.replica_node.proofs.Regroups.{is_next_of}
use Rattle.replica_node.proofs.node.Node.next.Goals as goal

pub returns-clause-next : goal.returns-clause-next
returns-clause-next g c =
    let node = c.args.self.now in
    let made = c.in_ok-next.ensures in
    is_next_of node.first (g.R.Recorder.notes node.journal) node.inner c.in_ok-next.next c.args.me c.args.n node.stands c.requires.early c.requires.settled made.w made.limit made.me made.n made.stands
