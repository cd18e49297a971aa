use Rattle.std.proofs.Common.{◌≡◌, length, ap, subst, ◌∙◌}
use denote.Struct.Props.{props}
use Rattle.std.proofs.Math.Logic.{∥∥₁_elim}
use Rattle.std.proofs.lemmas.List.FromFn.{length-map-range_with_len}
use Rattle.causal_model.specs.Stability.{stable_count}
use Rattle.replica_core.specs.declared.replica.Replica.{Replica}
use Rattle.peer.proofs.peer.Peer.stable.Goals as goal

pub returns-clause-members : goal.returns-clause-members
returns-clause-members c =
    let r = c.self.inside.replica in
    let tag = c.stable.result in
    let all : length tag ≡ r.n = ∥∥₁_elim r.stands (search props) (λ x.
    ap length (c.stable.ensures.known r.n r.me x.0.history.present.messages x.1.matrix) ∙ length-map-range_with_len (stable_count r.n r.me x.0.history.present.messages) 0 r.n) in
    subst (λ (x : Replica). length tag ≡ x.n) c.self.view_is all
