use Rattle.std.proofs.Common.{◌≡◌, [], ◌∷◌, ◌++◌, map, None, refl, sym, ap, subst, ◌∙◌}
use Rattle.causal_model.specs.Journal.{step_note, receive_notes}
use Rattle.causal_model.specs.Receiving.{is_accepted, accepted, receive_by, receive_rule, refusal_of}
use Rattle.causal_model.specs.declared.note.Note.TheVariants as notes
use Rattle.causal_model.specs.declared.outcome.Receive.TheVariants as receive
use Rattle.causal_model.proofs.States.Outcomes.{notes_of_refused, notes_of_accepted}
use Rattle.replica_node.specs.Nodes.{state_by}
use Rattle.replica_node.proofs.Noted.{unnoted_follows}
use Rattle.store_io.specs.Keeping.{LeavesOnly}
use Rattle.replica_keeper.specs.Calls.{state_then, receive_list}
use Rattle.replica_keeper.specs.Keeping.{groups_of, IsFrontOf}
use Rattle.replica_keeper.specs.Open.{settings_by}
use Rattle.replica_keeper.proofs.Kept.{kept_opens, groups_more}
use Rattle.replica_keeper.proofs.Lists.{left_list, noted, receive_list_accepted}
use Rattle.replica_keeper.proofs.Moments.{started}
use Rattle.replica_keeper.proofs.calls.receive.Goals as goal

pub returns-in-Some-clause-answer : goal.returns-in-Some-clause-answer
returns-in-Some-clause-answer g c =
    let node = c.args.node.now in
    let s = state_by node.first node.journal.notes in
    let m = c.args.message in
    let told = c.answer.ensures ∙ ap (λ o. (receive_by node.inner.w m s o).0) (c.in-Some.ensures s node.stands) in
    let none = ap (receive_notes m) c.answer.ensures ∙ notes_of_refused m c.in-Some.refusal in
    unnoted_follows receive.NoMemory is_accepted (receive_notes m) (receive_rule node.inner.w m) node.first node.journal.notes _ c.answer.result told none refl

pub returns-in-Some-clause-any_moment : goal.returns-in-Some-clause-any_moment
returns-in-Some-clause-any_moment g c =
    let node = c.args.node.now in let k = c.args.keeper.now in let of = settings_by node in
    started g.K.Keeper.moment g.K.Keeper.left_since k (IsFrontOf of (receive_list of node.journal.notes c.args.message) (g.K.Keeper.synced k))
    (λ left since. left_list of node.journal.notes (receive_notes c.args.message (receive_rule of.w c.args.message (state_then of node.journal.notes)).0) (g.K.Keeper.held k) (g.K.Keeper.synced k) left c.requires.open.keeps (g.met.K.Keeper.only_now k left since))

pub returns-in-Ok-clause-answer : goal.returns-in-Ok-clause-answer
returns-in-Ok-clause-answer g c =
    let node = c.args.node.now in
    let s = state_by node.first node.journal.notes in
    let m = c.args.message in
    let unrefused : refusal_of node.inner.w s m ≡ None = sym (c.refusal.ensures s node.stands) ∙ c.in_default.is in
    noted receive.NoMemory is_accepted (receive_notes m) (receive_rule node.inner.w m) node.first node.journal.notes c.accept.new.node.journal.notes c.accepted.result
    (c.accepted.ensures ∙ ap accepted c.in-Ok.ensures.steps ∙ sym (ap (λ o. (receive_by node.inner.w m s o).0) unrefused))
    (c.in-Ok.ensures.noted ∙ ap (λ notes. node.journal.notes ++ notes) (sym (ap (receive_notes m) c.accepted.ensures ∙ notes_of_accepted m c.in-Ok.steps)))

pub returns-in-Ok-clause-list : goal.returns-in-Ok-clause-list
returns-in-Ok-clause-list g c =
    let node = c.args.node.now in
    let m = c.args.message in
    let unrefused : refusal_of node.inner.w (state_by node.first node.journal.notes) m ≡ None = sym (c.refusal.ensures (state_by node.first node.journal.notes) node.stands) ∙ c.in_default.is in
    λ _. ap groups_of c.in-Ok.ensures.noted ∙ groups_more node.journal.notes (notes.Kept m ∷ map step_note c.in-Ok.steps) (kept_opens m c.in-Ok.steps)
    ∙ ap (λ made. groups_of node.journal.notes ++ (notes.Kept m ∷ map step_note made) ∷ []) c.in-Ok.ensures.steps ∙ sym (receive_list_accepted node c.requires.open.first m unrefused)

pub returns-in-Ok-clause-any_moment : goal.returns-in-Ok-clause-any_moment
returns-in-Ok-clause-any_moment g c =
    let node = c.args.node.now in
    let unrefused : refusal_of node.inner.w (state_by node.first node.journal.notes) c.args.message ≡ None = sym (c.refusal.ensures (state_by node.first node.journal.notes) node.stands) ∙ c.in_default.is in
    subst (λ groups. LeavesOnly g.K.Keeper.moment g.K.Keeper.left_since c.args.keeper.now c.accept.new.keeper (IsFrontOf (settings_by node) groups (g.K.Keeper.synced c.args.keeper.now)))
    (sym (receive_list_accepted node c.requires.open.first c.args.message unrefused)) c.accept.ensures.any_moment

pub returns-in-Err-NoMemory-clause-any_moment : goal.returns-in-Err-NoMemory-clause-any_moment
returns-in-Err-NoMemory-clause-any_moment g c =
    let node = c.args.node.now in
    let unrefused : refusal_of node.inner.w (state_by node.first node.journal.notes) c.args.message ≡ None = sym (c.refusal.ensures (state_by node.first node.journal.notes) node.stands) ∙ c.in_default.is in
    subst (λ groups. LeavesOnly g.K.Keeper.moment g.K.Keeper.left_since c.args.keeper.now c.accept.new.keeper (IsFrontOf (settings_by node) groups (g.K.Keeper.synced c.args.keeper.now)))
    (sym (receive_list_accepted node c.requires.open.first c.args.message unrefused)) c.accept.ensures.any_moment

pub returns-in-Err-Failed-clause-any_moment : goal.returns-in-Err-Failed-clause-any_moment
returns-in-Err-Failed-clause-any_moment g c =
    let node = c.args.node.now in
    let unrefused : refusal_of node.inner.w (state_by node.first node.journal.notes) c.args.message ≡ None = sym (c.refusal.ensures (state_by node.first node.journal.notes) node.stands) ∙ c.in_default.is in
    subst (λ groups. LeavesOnly g.K.Keeper.moment g.K.Keeper.left_since c.args.keeper.now c.accept.new.keeper (IsFrontOf (settings_by node) groups (g.K.Keeper.synced c.args.keeper.now)))
    (sym (receive_list_accepted node c.requires.open.first c.args.message unrefused)) c.accept.ensures.any_moment
