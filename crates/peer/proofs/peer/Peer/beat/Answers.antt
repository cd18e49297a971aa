use Rattle.std.proofs.Common.{sym, subst}
use Rattle.causal_model.specs.Follows.{Follows}
use Rattle.replica_core.specs.Rules.{StandsFor}
use Rattle.replica_core.specs.declared.replica.Replica.{Replica}
use Rattle.peer.specs.Calls.{is_beat_framed}
use Rattle.peer.specs.Rules.{peer_beat_rule}
use Rattle.peer.specs.declared.answers.Beat.{Beat}
use Rattle.peer.specs.declared.answers.Beat.TheVariants as beat
use Rattle.peer.proofs.Sends.{beat_follows, lacking_beat_follows}
use Rattle.replica_core.proofs.Bounds.{is_bounded}
use Rattle.peer.proofs.peer.Peer.beat.Goals as goal
use Rattle.peer.proofs.peer.Peer.beat.Goals.{in-Ok-send, in-Err-send}

pub returns-in-Err-clause-bounded : goal.returns-in-Err-clause-bounded
returns-in-Err-clause-bounded c = is_bounded _

pub returns-clause-answer : goal.returns-clause-answer
returns-clause-answer c =
    let r = c.self.inside.replica in
    let new = c.send.new.replica in
    let m = c.in-Ok.message in
    let told = c.in-Ok.ensures.answer in
    subst (λ (r : Replica). Follows StandsFor beat.NoMemory is_beat_framed (peer_beat_rule r.n r.w r.limit) r c.match-send.result new) c.self.view_is
    (elim c.match-send.branch [
      | in-Ok-send w ↦ subst (λ (x : Beat). Follows StandsFor beat.NoMemory is_beat_framed (peer_beat_rule r.n r.w r.limit) r x new) (sym w.result-is)
          (beat_follows r new m w.in-Ok-send.frame told w.in-Ok-send.ensures.frame w.in-Ok-send.ensures.stands)
      | in-Err-send w ↦ subst (λ (x : Beat). Follows StandsFor beat.NoMemory is_beat_framed (peer_beat_rule r.n r.w r.limit) r x new) (sym w.result-is)
          (lacking_beat_follows r new m told w.in-Err-send.ensures.refused)
    ])

pub returns-clause-bounded : goal.returns-clause-bounded
returns-clause-bounded c = is_bounded _
