use Rattle.std.proofs.Common.{◌≡◌, length, subst}
use Rattle.replica_core.specs.Rules.{fields_of}
use Rattle.replica_core.specs.declared.replica.Replica.{Replica}
use Rattle.replica_core.proofs.Stands.{length-counts_in}
use Rattle.peer.proofs.peer.Peer.seen.Goals as goal

pub returns-clause-members : goal.returns-clause-members
returns-clause-members c =
    let r = c.self.inside.replica in
    subst (λ (x : Replica). length r.counts ≡ x.n) c.self.view_is (length-counts_in (fields_of r) r.stands)
