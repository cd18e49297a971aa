use Rattle.std.proofs.Common.{[], ◌∷◌, ◌++◌, refl, ap, ◌∙◌}
use Rattle.causal_model.specs.declared.note.Note.TheVariants as notes
use Rattle.replica_core.proofs.Own.{draft_fits}
use Rattle.replica_keeper.specs.Keeping.{groups_of, IsFrontOf}
use Rattle.replica_keeper.specs.Open.{settings_by}
use Rattle.world_model.specs.Records.{record_of}
use Rattle.replica_keeper.proofs.Moments.{begun, roomy, grown}
use Rattle.replica_keeper.proofs.Opened.{draft_noted, opened_left, opened_synced}
use Rattle.replica_keeper.proofs.keeping.send.Goals as goal

pub record-requires-clause-fits : goal.record-requires-clause-fits
record-requires-clause-fits g c = draft_fits c.args.node.now.inner c.args.message c.requires.draft

pub returns-in_err-bytes-clause-any_moment : goal.returns-in_err-bytes-clause-any_moment
returns-in_err-bytes-clause-any_moment g c =
    let node = c.args.node.now in let k = c.args.keeper.now in let group = notes.Sent c.args.message ∷ [] in
    begun g.K.Keeper.held g.K.Keeper.synced g.K.Keeper.moment g.K.Keeper.left_since g.met.K.Keeper.only_now k (record_of node.inner.n group) (IsFrontOf (settings_by node) (groups_of node.journal.notes ++ group ∷ []) (g.K.Keeper.synced k))
    (opened_left node (g.K.Keeper.held k) (g.K.Keeper.synced k) group c.requires.open (draft_noted node c.requires.open.first c.args.message c.requires.draft))

pub returns-in_err-sent-clause-any_moment : goal.returns-in_err-sent-clause-any_moment
returns-in_err-sent-clause-any_moment g c =
    let node = c.args.node.now in let k = c.args.keeper.now in let group = notes.Sent c.args.message ∷ [] in
    begun g.K.Keeper.held g.K.Keeper.synced g.K.Keeper.moment g.K.Keeper.left_since g.met.K.Keeper.only_now k (record_of node.inner.n group) (IsFrontOf (settings_by node) (groups_of node.journal.notes ++ group ∷ []) (g.K.Keeper.synced k))
    (opened_left node (g.K.Keeper.held k) (g.K.Keeper.synced k) group c.requires.open (draft_noted node c.requires.open.first c.args.message c.requires.draft))

pub returns-in_err-reserve-clause-any_moment : goal.returns-in_err-reserve-clause-any_moment
returns-in_err-reserve-clause-any_moment g c =
    let node = c.args.node.now in let k = c.args.keeper.now in let group = notes.Sent c.args.message ∷ [] in
    roomy g.K.Keeper.held g.K.Keeper.synced g.K.Keeper.moment g.K.Keeper.left_since g.met.K.Keeper.only_now k (record_of node.inner.n group) (IsFrontOf (settings_by node) (groups_of node.journal.notes ++ group ∷ []) (g.K.Keeper.synced k))
    (opened_left node (g.K.Keeper.held k) (g.K.Keeper.synced k) group c.requires.open (draft_noted node c.requires.open.first c.args.message c.requires.draft)) c.reserve.new.self c.reserve.ensures.time

pub returns-in_err-commit-clause-any_moment : goal.returns-in_err-commit-clause-any_moment
returns-in_err-commit-clause-any_moment g c =
    let node = c.args.node.now in let k = c.args.keeper.now in let group = notes.Sent c.args.message ∷ [] in
    roomy g.K.Keeper.held g.K.Keeper.synced g.K.Keeper.moment g.K.Keeper.left_since g.met.K.Keeper.only_now k (record_of node.inner.n group) (IsFrontOf (settings_by node) (groups_of node.journal.notes ++ group ∷ []) (g.K.Keeper.synced k))
    (opened_left node (g.K.Keeper.held k) (g.K.Keeper.synced k) group c.requires.open (draft_noted node c.requires.open.first c.args.message c.requires.draft)) c.reserve.new.self c.reserve.ensures.time

pub returns-in_err-append_synced-clause-any_moment : goal.returns-in_err-append_synced-clause-any_moment
returns-in_err-append_synced-clause-any_moment g c =
    let node = c.args.node.now in let k = c.args.keeper.now in let group = notes.Sent c.args.message ∷ [] in
    grown g.K.Keeper.held g.K.Keeper.synced g.K.Keeper.moment g.K.Keeper.left_since g.met.K.Keeper.only_now k (record_of node.inner.n group) (IsFrontOf (settings_by node) (groups_of node.journal.notes ++ group ∷ []) (g.K.Keeper.synced k))
    (opened_left node (g.K.Keeper.held k) (g.K.Keeper.synced k) group c.requires.open (draft_noted node c.requires.open.first c.args.message c.requires.draft)) c.reserve.new.self c.append_synced.new.keeper c.as_slice.result.now c.reserve.ensures.time c.reserve.ensures.held c.reserve.ensures.synced
    (c.as_slice.ensures.value ∙ c.in_ok-bytes.ensures) c.append_synced.ensures.any_moment

pub returns-clause-any_moment : goal.returns-clause-any_moment
returns-clause-any_moment g c =
    let node = c.args.node.now in let k = c.args.keeper.now in let group = notes.Sent c.args.message ∷ [] in
    grown g.K.Keeper.held g.K.Keeper.synced g.K.Keeper.moment g.K.Keeper.left_since g.met.K.Keeper.only_now k (record_of node.inner.n group) (IsFrontOf (settings_by node) (groups_of node.journal.notes ++ group ∷ []) (g.K.Keeper.synced k))
    (opened_left node (g.K.Keeper.held k) (g.K.Keeper.synced k) group c.requires.open (draft_noted node c.requires.open.first c.args.message c.requires.draft)) c.reserve.new.self c.append_synced.new.keeper c.as_slice.result.now c.reserve.ensures.time c.reserve.ensures.held c.reserve.ensures.synced
    (c.as_slice.ensures.value ∙ c.in_ok-bytes.ensures) c.append_synced.ensures.any_moment

pub returns-clause-kept : goal.returns-clause-kept
returns-clause-kept g c =
    let node = c.args.node.now in let k = c.args.keeper.now in
    let piece = c.as_slice.ensures.value ∙ c.in_ok-bytes.ensures in
    opened_synced node c.commit.new.self (notes.Sent c.args.message ∷ []) (g.K.Keeper.held k) (g.K.Keeper.held c.append_synced.new.keeper) (g.K.Keeper.synced k) (g.K.Keeper.synced c.append_synced.new.keeper) c.requires.open
    (draft_noted node c.requires.open.first c.args.message c.requires.draft) refl c.commit.ensures.settings c.commit.ensures.first c.in_ok-commit.ensures.noted
    (c.in_ok-append_synced.ensures.held ∙ ap (λ p. g.K.Keeper.held c.reserve.new.self ++ p) piece ∙ ap (λ h. h ++ record_of node.inner.n (notes.Sent c.args.message ∷ [])) c.reserve.ensures.held) c.in_ok-append_synced.ensures.synced
