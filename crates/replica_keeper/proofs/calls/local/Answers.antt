use Rattle.std.proofs.Common.{[], ◌∷◌, ◌++◌, Contains, refl, sym, ap, subst, ◌∙◌}
use Rattle.std.proofs.lemmas.List.Elements.{All-nil, All-cons, Contains-push}
use Rattle.causal_model.specs.Journal.{local_notes}
use Rattle.causal_model.specs.Sending.{is_sent, local_rule}
use Rattle.causal_model.specs.declared.note.Note.TheVariants as notes
use Rattle.causal_model.specs.declared.outcome.Local.TheVariants as local
use Rattle.replica_node.proofs.Noted.{told_follows, unsent_notes_nothing}
use Rattle.replica_keeper.specs.Calls.{state_then, local_list}
use Rattle.replica_keeper.specs.Keeping.{groups_of, AreSentWithin, IsFrontOf}
use Rattle.replica_keeper.specs.Open.{settings_by}
use Rattle.replica_keeper.proofs.Kept.{groups_more}
use Rattle.replica_keeper.proofs.Lists.{left_list, local_list_sent}
use Rattle.replica_keeper.proofs.Moments.{started}
use Rattle.replica_keeper.proofs.Outboxes.{sent_within}
use Rattle.replica_keeper.proofs.calls.local.Goals as goal

pub returns-in-Err-clause-answer : goal.returns-in-Err-clause-answer
returns-in-Err-clause-answer g c =
    let node = c.args.node.now in
    told_follows local.NoMemory is_sent local_notes (local_rule node.inner.w node.inner.limit c.args.update.now) node.first node.journal.notes node.journal.notes node.inner c.in-Err.answer node.stands c.in-Err.ensures.answer
    (unsent_notes_nothing c.in-Err.answer c.in-Err.ensures.unsent) refl

pub returns-in-Err-clause-any_moment : goal.returns-in-Err-clause-any_moment
returns-in-Err-clause-any_moment g c =
    let node = c.args.node.now in let k = c.args.keeper.now in let of = settings_by node in
    started g.K.Keeper.moment g.K.Keeper.left_since k (IsFrontOf of (local_list of node.journal.notes c.args.update.now) (g.K.Keeper.synced k))
    (λ left since. left_list of node.journal.notes (local_notes (local_rule of.w of.limit c.args.update.now (state_then of node.journal.notes)).0) (g.K.Keeper.held k) (g.K.Keeper.synced k) left c.requires.keeps (g.met.K.Keeper.only_now k left since))

pub returns-in-Ok-send-clause-list : goal.returns-in-Ok-send-clause-list
returns-in-Ok-send-clause-list g c =
    let node = c.args.node.now in
    λ _. ap groups_of c.in-Ok-send.ensures.noted ∙ groups_more node.journal.notes (notes.Sent c.in-Ok.message ∷ []) refl ∙ sym (local_list_sent node c.requires.first c.args.update.now c.in-Ok.message c.in-Ok.ensures.answer)

pub returns-in-Ok-send-clause-out : goal.returns-in-Ok-send-clause-out
returns-in-Ok-send-clause-out g c =
    let node = c.args.node.now in
    let m = c.in-Ok-send.message in
    let there = subst (λ ns. Contains ns (notes.Sent m)) (sym (c.in-Ok-send.ensures.noted ∙ ap (λ x. node.journal.notes ++ notes.Sent x ∷ []) (sym c.in-Ok-send.ensures.sent))) (Contains-push node.journal.notes (notes.Sent m)) in
    let all = All-cons (λ x. Contains c.send.new.node.journal.notes (notes.Sent x)) m [] there (All-nil (λ x. Contains c.send.new.node.journal.notes (notes.Sent x))) in
    subst (λ n. AreSentWithin n (g.K.Keeper.synced c.send.new.keeper) c.send.new.node.journal.notes (m ∷ [])) c.send.ensures.settings.n
    (sent_within c.send.new.node (g.K.Keeper.held c.send.new.keeper) (g.K.Keeper.synced c.send.new.keeper) (m ∷ []) c.in-Ok-send.ensures.kept all)
