use Rattle.std.proofs.Common.{sym, ap, subst, ◌∙◌}
use Rattle.causal_model.specs.Follows.{Follows}
use Rattle.replica_core.specs.Rules.{StandsFor, Unchanged}
use Rattle.replica_core.specs.declared.replica.Replica.{Replica}
use Rattle.peer.specs.Calls.{is_read, is_taken}
use Rattle.peer.specs.Rules.{hear_rule}
use Rattle.peer.specs.declared.answers.Heard.{Heard}
use Rattle.peer.specs.declared.answers.Heard.TheVariants as heard
use Rattle.peer.proofs.Hears.{frame_is_carried, heard_follows, taken_is_accepted}
use Rattle.replica_core.proofs.Bounds.{is_bounded}
use Rattle.peer.proofs.peer.Peer.hear.Goals as goal

pub returns-in-Err-Frame-clause-bounded : goal.returns-in-Err-Frame-clause-bounded
returns-in-Err-Frame-clause-bounded c = is_bounded _

pub returns-in-Err-NoMemory-clause-bounded : goal.returns-in-Err-NoMemory-clause-bounded
returns-in-Err-NoMemory-clause-bounded c = is_bounded _

pub receive-requires-clause-carried : goal.receive-requires-clause-carried
receive-requires-clause-carried c =
    let r = c.self.inside.replica in
    frame_is_carried r.n r.limit c.args.bytes.now c.in-Ok.message c.in-Ok.ensures.found c.operations_are_valid.ensures

pub returns-clause-answer : goal.returns-clause-answer
returns-clause-answer c =
    let r = c.self.inside.replica in
    let bytes = c.args.bytes.now in
    subst (λ (r : Replica). Follows StandsFor heard.NoMemory is_read (hear_rule r.n r.w r.limit bytes) r c.heard_of.result c.receive.new.self) c.self.view_is
    (subst (λ (x : Heard). Follows StandsFor heard.NoMemory is_read (hear_rule r.n r.w r.limit bytes) r x c.receive.new.self) (sym c.heard_of.ensures)
    (heard_follows r c.receive.new.self bytes c.in-Ok.message c.receive.result c.in-Ok.ensures.found c.receive.ensures.answer))

pub returns-clause-refused : goal.returns-clause-refused
returns-clause-refused c = λ refused.
    subst (λ (r : Replica). Unchanged r c.receive.new.self) c.self.view_is
    (c.receive.ensures.refused (sym (taken_is_accepted c.receive.result) ∙ ap is_taken (sym c.heard_of.ensures) ∙ refused))
