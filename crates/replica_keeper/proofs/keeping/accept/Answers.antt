use Rattle.std.proofs.Common.{[], ◌∷◌, ◌++◌, map, refl, ap, ◌∙◌}
use Rattle.causal_model.specs.Journal.{step_note}
use Rattle.causal_model.specs.Receiving.{steps, with_early}
use Rattle.causal_model.specs.declared.note.Note.TheVariants as notes
use Rattle.replica_node.specs.Nodes.{state_by}
use Rattle.replica_keeper.specs.Keeping.{groups_of, IsFrontOf}
use Rattle.replica_keeper.specs.Open.{settings_by}
use Rattle.world_model.specs.Records.{record_of}
use Rattle.replica_keeper.proofs.Kept.{kept_opens}
use Rattle.replica_keeper.proofs.Moments.{begun, roomy, longer}
use Rattle.replica_keeper.proofs.Opened.{accepted_noted, opened_left, opened_kept}
use Rattle.replica_keeper.proofs.keeping.accept.Goals as goal

pub returns-in_err-bytes-clause-any_moment : goal.returns-in_err-bytes-clause-any_moment
returns-in_err-bytes-clause-any_moment g c =
    let node = c.args.node.now in let k = c.args.keeper.now in let made = (steps node.inner.w (with_early (state_by node.first node.journal.notes) c.args.message)).0 in let group = notes.Kept c.args.message ∷ map step_note made in
    let told = accepted_noted node c.requires.open.first c.args.message c.requires.fits c.requires.carried c.requires.unrefused in
    begun g.K.Keeper.held g.K.Keeper.synced g.K.Keeper.moment g.K.Keeper.left_since g.met.K.Keeper.only_now k (record_of node.inner.n group) (IsFrontOf (settings_by node) (groups_of node.journal.notes ++ group ∷ []) (g.K.Keeper.synced k))
    (opened_left node (g.K.Keeper.held k) (g.K.Keeper.synced k) group c.requires.open told)

pub returns-in_err-reserve-clause-any_moment : goal.returns-in_err-reserve-clause-any_moment
returns-in_err-reserve-clause-any_moment g c =
    let node = c.args.node.now in let k = c.args.keeper.now in let made = (steps node.inner.w (with_early (state_by node.first node.journal.notes) c.args.message)).0 in let group = notes.Kept c.args.message ∷ map step_note made in
    let told = accepted_noted node c.requires.open.first c.args.message c.requires.fits c.requires.carried c.requires.unrefused in
    roomy g.K.Keeper.held g.K.Keeper.synced g.K.Keeper.moment g.K.Keeper.left_since g.met.K.Keeper.only_now k (record_of node.inner.n group) (IsFrontOf (settings_by node) (groups_of node.journal.notes ++ group ∷ []) (g.K.Keeper.synced k))
    (opened_left node (g.K.Keeper.held k) (g.K.Keeper.synced k) group c.requires.open told) c.reserve.new.self c.reserve.ensures.time

pub returns-in_err-steps-clause-any_moment : goal.returns-in_err-steps-clause-any_moment
returns-in_err-steps-clause-any_moment g c =
    let node = c.args.node.now in let k = c.args.keeper.now in let made = (steps node.inner.w (with_early (state_by node.first node.journal.notes) c.args.message)).0 in let group = notes.Kept c.args.message ∷ map step_note made in
    let told = accepted_noted node c.requires.open.first c.args.message c.requires.fits c.requires.carried c.requires.unrefused in
    roomy g.K.Keeper.held g.K.Keeper.synced g.K.Keeper.moment g.K.Keeper.left_since g.met.K.Keeper.only_now k (record_of node.inner.n group) (IsFrontOf (settings_by node) (groups_of node.journal.notes ++ group ∷ []) (g.K.Keeper.synced k))
    (opened_left node (g.K.Keeper.held k) (g.K.Keeper.synced k) group c.requires.open told) c.reserve.new.self c.reserve.ensures.time

pub returns-in_err-append-clause-any_moment : goal.returns-in_err-append-clause-any_moment
returns-in_err-append-clause-any_moment g c =
    let node = c.args.node.now in let k = c.args.keeper.now in let made = (steps node.inner.w (with_early (state_by node.first node.journal.notes) c.args.message)).0 in let group = notes.Kept c.args.message ∷ map step_note made in
    let told = accepted_noted node c.requires.open.first c.args.message c.requires.fits c.requires.carried c.requires.unrefused in
    longer g.K.Keeper.held g.K.Keeper.synced g.K.Keeper.moment g.K.Keeper.left_since g.met.K.Keeper.only_now k (record_of node.inner.n group) (IsFrontOf (settings_by node) (groups_of node.journal.notes ++ group ∷ []) (g.K.Keeper.synced k))
    (opened_left node (g.K.Keeper.held k) (g.K.Keeper.synced k) group c.requires.open told) c.reserve.new.self c.append.new.self c.as_slice.result.now c.reserve.ensures.time c.reserve.ensures.held c.reserve.ensures.synced
    (c.as_slice.ensures.value ∙ c.in_ok-bytes.ensures) c.append.ensures.time

pub returns-clause-any_moment : goal.returns-clause-any_moment
returns-clause-any_moment g c =
    let node = c.args.node.now in let k = c.args.keeper.now in let made = (steps node.inner.w (with_early (state_by node.first node.journal.notes) c.args.message)).0 in let group = notes.Kept c.args.message ∷ map step_note made in
    let told = accepted_noted node c.requires.open.first c.args.message c.requires.fits c.requires.carried c.requires.unrefused in
    longer g.K.Keeper.held g.K.Keeper.synced g.K.Keeper.moment g.K.Keeper.left_since g.met.K.Keeper.only_now k (record_of node.inner.n group) (IsFrontOf (settings_by node) (groups_of node.journal.notes ++ group ∷ []) (g.K.Keeper.synced k))
    (opened_left node (g.K.Keeper.held k) (g.K.Keeper.synced k) group c.requires.open told) c.reserve.new.self c.append.new.self c.as_slice.result.now c.reserve.ensures.time c.reserve.ensures.held c.reserve.ensures.synced
    (c.as_slice.ensures.value ∙ c.in_ok-bytes.ensures) c.append.ensures.time

pub returns-clause-kept : goal.returns-clause-kept
returns-clause-kept g c =
    let node = c.args.node.now in let k = c.args.keeper.now in let made = (steps node.inner.w (with_early (state_by node.first node.journal.notes) c.args.message)).0 in let group = notes.Kept c.args.message ∷ map step_note made in
    let told = accepted_noted node c.requires.open.first c.args.message c.requires.fits c.requires.carried c.requires.unrefused in
    let piece = c.as_slice.ensures.value ∙ c.in_ok-bytes.ensures in
    opened_kept node c.accept.new.self group (g.K.Keeper.held k) (g.K.Keeper.held c.append.new.self) (g.K.Keeper.synced k) (g.K.Keeper.synced c.append.new.self) c.requires.open told (kept_opens c.args.message made) refl
    c.accept.ensures.settings c.accept.ensures.first (c.in_ok-steps.ensures.noted ∙ ap (λ made. node.journal.notes ++ notes.Kept c.args.message ∷ map step_note made) c.in_ok-steps.ensures.steps)
    (c.in_ok-append.ensures.appended ∙ ap (λ p. g.K.Keeper.held c.reserve.new.self ++ p) piece ∙ ap (λ h. h ++ record_of node.inner.n group) c.reserve.ensures.held) (c.append.ensures.synced ∙ c.reserve.ensures.synced)
