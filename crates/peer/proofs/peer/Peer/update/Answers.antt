use Rattle.std.proofs.Common.{sym, subst}
use Rattle.causal_model.specs.Follows.{Follows}
use Rattle.replica_core.specs.Rules.{StandsFor}
use Rattle.replica_core.specs.declared.replica.Replica.{Replica}
use Rattle.peer.specs.Calls.{is_framed}
use Rattle.peer.specs.Rules.{update_rule}
use Rattle.peer.specs.declared.answers.Updated.{Updated}
use Rattle.peer.specs.declared.answers.Updated.TheVariants as updated
use Rattle.peer.proofs.Sends.{unsent_follows, sent_follows, lacking_follows}
use Rattle.replica_core.proofs.Bounds.{is_bounded}
use Rattle.peer.proofs.peer.Peer.update.Goals as goal
use Rattle.peer.proofs.peer.Peer.update.Goals.{in-Ok-send, in-Err-send}

pub returns-in-Err-clause-answer : goal.returns-in-Err-clause-answer
returns-in-Err-clause-answer c =
    let r = c.self.inside.replica in
    let update = c.args.update.now in
    subst (λ (r : Replica). Follows StandsFor updated.NoMemory is_framed (update_rule r.n r.w r.limit update) r c.unsent.result r) c.self.view_is
    (subst (λ (x : Updated). Follows StandsFor updated.NoMemory is_framed (update_rule r.n r.w r.limit update) r x r) (sym (c.unsent.ensures r.n))
    (unsent_follows r update c.in-Err.answer c.in-Err.ensures.unsent c.in-Err.ensures.answer))

pub returns-in-Err-clause-bounded : goal.returns-in-Err-clause-bounded
returns-in-Err-clause-bounded c = is_bounded _

pub returns-clause-answer : goal.returns-clause-answer
returns-clause-answer c =
    let r = c.self.inside.replica in
    let new = c.send.new.replica in
    let update = c.args.update.now in
    let m = c.in-Ok.message in
    let told = c.in-Ok.ensures.answer in
    subst (λ (r : Replica). Follows StandsFor updated.NoMemory is_framed (update_rule r.n r.w r.limit update) r c.match-send.result new) c.self.view_is
    (elim c.match-send.branch [
      | in-Ok-send w ↦ subst (λ (x : Updated). Follows StandsFor updated.NoMemory is_framed (update_rule r.n r.w r.limit update) r x new) (sym w.result-is)
          (sent_follows r new update m w.in-Ok-send.frame told w.in-Ok-send.ensures.frame w.in-Ok-send.ensures.stands)
      | in-Err-send w ↦ subst (λ (x : Updated). Follows StandsFor updated.NoMemory is_framed (update_rule r.n r.w r.limit update) r x new) (sym w.result-is)
          (lacking_follows r new update m told w.in-Err-send.ensures.refused)
    ])

pub returns-clause-bounded : goal.returns-clause-bounded
returns-clause-bounded c = is_bounded _
