use Rattle.std.proofs.Common.{[], ◌∷◌, ◌++◌, Contains, inl, refl, sym, ap, subst, ◌∙◌}
use Rattle.std.proofs.lemmas.List.Elements.{All-nil, All-cons, Contains-push}
use Rattle.causal_model.specs.Journal.{beat_notes}
use Rattle.causal_model.specs.Sending.{is_beat, beat_rule}
use Rattle.causal_model.specs.declared.note.Note.TheVariants as notes
use Rattle.causal_model.specs.declared.outcome.Beat.TheVariants as beat
use Rattle.replica_node.specs.Nodes.{state_by}
use Rattle.replica_node.proofs.Noted.{told_follows, unbeaten_notes_nothing}
use Rattle.replica_keeper.specs.Calls.{state_then, beat_list}
use Rattle.replica_keeper.specs.Keeping.{groups_of, AreSentWithin, IsFrontOf}
use Rattle.replica_keeper.specs.Open.{settings_by}
use Rattle.replica_keeper.proofs.Kept.{groups_more}
use Rattle.replica_keeper.proofs.Lists.{left_list, noted, beat_list_by}
use Rattle.replica_keeper.proofs.Moments.{started}
use Rattle.replica_keeper.proofs.Outboxes.{sent_within}
use Rattle.replica_keeper.proofs.calls.beat.Goals as goal

pub returns-in-Err-clause-answer : goal.returns-in-Err-clause-answer
returns-in-Err-clause-answer g c =
    let node = c.args.node.now in
    told_follows beat.NoMemory is_beat beat_notes (beat_rule node.inner.w node.inner.limit) node.first node.journal.notes node.journal.notes node.inner c.in-Err.answer node.stands
    (λ s stands. inl (c.in-Err.ensures.answer s stands, stands)) (unbeaten_notes_nothing c.in-Err.answer c.in-Err.ensures.unsent) refl

pub returns-in-Err-clause-any_moment : goal.returns-in-Err-clause-any_moment
returns-in-Err-clause-any_moment g c =
    let node = c.args.node.now in let k = c.args.keeper.now in let of = settings_by node in
    started g.K.Keeper.moment g.K.Keeper.left_since k (IsFrontOf of (beat_list of node.journal.notes) (g.K.Keeper.synced k))
    (λ left since. left_list of node.journal.notes (beat_notes (beat_rule of.w of.limit (state_then of node.journal.notes)).0) (g.K.Keeper.held k) (g.K.Keeper.synced k) left c.requires.keeps (g.met.K.Keeper.only_now k left since))

pub returns-in-Ok-send-clause-answer : goal.returns-in-Ok-send-clause-answer
returns-in-Ok-send-clause-answer g c =
    let node = c.args.node.now in
    let s = state_by node.first node.journal.notes in
    noted beat.NoMemory is_beat beat_notes (beat_rule node.inner.w node.inner.limit) node.first node.journal.notes c.send.new.node.journal.notes (beat.Sent c.in-Ok-send.message)
    (ap beat.Sent c.in-Ok-send.ensures.sent ∙ c.in-Ok.ensures.answer s node.stands)
    (c.in-Ok-send.ensures.noted ∙ ap (λ m. node.journal.notes ++ notes.Sent m ∷ []) (sym c.in-Ok-send.ensures.sent))

pub returns-in-Ok-send-clause-list : goal.returns-in-Ok-send-clause-list
returns-in-Ok-send-clause-list g c =
    let node = c.args.node.now in
    λ _. ap groups_of c.in-Ok-send.ensures.noted ∙ groups_more node.journal.notes (notes.Sent c.in-Ok.message ∷ []) refl ∙ sym (beat_list_by node c.requires.first (beat.Sent c.in-Ok.message) c.in-Ok.ensures.answer)

pub returns-in-Ok-send-clause-out : goal.returns-in-Ok-send-clause-out
returns-in-Ok-send-clause-out g c =
    let node = c.args.node.now in
    let m = c.in-Ok-send.message in
    let there = subst (λ ns. Contains ns (notes.Sent m)) (sym (c.in-Ok-send.ensures.noted ∙ ap (λ x. node.journal.notes ++ notes.Sent x ∷ []) (sym c.in-Ok-send.ensures.sent))) (Contains-push node.journal.notes (notes.Sent m)) in
    let all = All-cons (λ x. Contains c.send.new.node.journal.notes (notes.Sent x)) m [] there (All-nil (λ x. Contains c.send.new.node.journal.notes (notes.Sent x))) in
    subst (λ n. AreSentWithin n (g.K.Keeper.synced c.send.new.keeper) c.send.new.node.journal.notes (m ∷ [])) c.send.ensures.settings.n
    (sent_within c.send.new.node (g.K.Keeper.held c.send.new.keeper) (g.K.Keeper.synced c.send.new.keeper) (m ∷ []) c.in-Ok-send.ensures.kept all)
