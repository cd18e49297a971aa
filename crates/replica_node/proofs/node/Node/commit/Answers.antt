use Rattle.std.proofs.Common.{◌++◌, ◌∷◌, [], ap, sym, subst, ◌∙◌}
use Rattle.causal_model.specs.declared.note.Note.TheVariants.{Sent}
use Rattle.replica_core.proofs.Own.{draft_is_state_of}
use Rattle.replica_core.proofs.Stands.{unchanged_stands}
use Rattle.replica_node.specs.Nodes.{state_by, IsCount}
use Rattle.replica_node.proofs.Calls.{goes_on, nothing_goes_on}
use Rattle.replica_node.proofs.Given.{draft_fits, draft_is_carried, draft_is_group}
use Rattle.replica_node.proofs.node.Node.commit.Goals as goal

pub returns-in_err-room-clause-fits : goal.returns-in_err-room-clause-fits
returns-in_err-room-clause-fits g c =
    let node = c.args.self.now in
    draft_fits node.inner _ c.args.message node.stands (c.requires.draft _ node.stands)

pub returns-in_err-room-clause-carried : goal.returns-in_err-room-clause-carried
returns-in_err-room-clause-carried g c =
    let node = c.args.self.now in
    draft_is_carried node.inner _ c.args.message node.stands (c.requires.draft _ node.stands)

pub returns-in_err-reserve-clause-fits : goal.returns-in_err-reserve-clause-fits
returns-in_err-reserve-clause-fits g c =
    let node = c.args.self.now in
    draft_fits node.inner _ c.args.message node.stands (c.requires.draft _ node.stands)

pub returns-in_err-reserve-clause-carried : goal.returns-in_err-reserve-clause-carried
returns-in_err-reserve-clause-carried g c =
    let node = c.args.self.now in
    draft_is_carried node.inner _ c.args.message node.stands (c.requires.draft _ node.stands)

pub returns-in_err-own-clause-fits : goal.returns-in_err-own-clause-fits
returns-in_err-own-clause-fits g c =
    let node = c.args.self.now in
    draft_fits node.inner _ c.args.message node.stands (c.requires.draft _ node.stands)

pub returns-in_err-own-clause-carried : goal.returns-in_err-own-clause-carried
returns-in_err-own-clause-carried g c =
    let node = c.args.self.now in
    draft_is_carried node.inner _ c.args.message node.stands (c.requires.draft _ node.stands)

pub returns-clause-fits : goal.returns-clause-fits
returns-clause-fits g c =
    let node = c.args.self.now in
    draft_fits node.inner _ c.args.message node.stands (c.requires.draft _ node.stands)

pub returns-clause-carried : goal.returns-clause-carried
returns-clause-carried g c =
    let node = c.args.self.now in
    draft_is_carried node.inner _ c.args.message node.stands (c.requires.draft _ node.stands)

pub commit_reserved-requires : goal.commit_reserved-requires
commit_reserved-requires g c = record { ready = c.in_ok-own.ensures.ready }

pub invariant_of-self-in-Break-branch-3 : goal.invariant_of-self-in-Break-branch-3
invariant_of-self-in-Break-branch-3 g c =
    let node = c.args.self.now in
    let kept = c.reserve.ensures.kept in
    let goes = nothing_goes_on node.inner c.reserve_commit.new.self node.first (g.R.Recorder.notes node.journal) (g.R.Recorder.notes c.reserve.new.self) c.reserve_commit.ensures.unchanged kept node.legal node.stands in
    record { counted = subst (IsCount node.length) (sym kept) node.counted; legal = goes.legal; stands = goes.stands }

pub invariant_of-self-2 : goal.invariant_of-self-2
invariant_of-self-2 g c =
    let node = c.args.self.now in
    let before = g.R.Recorder.notes node.journal in
    let s = state_by node.first before in
    let m = c.args.message in
    let new = c.reserve_commit.new.self in
    let same = c.reserve_commit.ensures.unchanged in
    let settings = c.commit_reserved.ensures.settings in
    let noted = c.put_copy.ensures.noted ∙ ap (λ (notes : _). notes ++ Sent m ∷ []) c.reserve.ensures.kept in
    let stands = c.commit_reserved.ensures.stands s (unchanged_stands node.inner new s same node.stands) (draft_is_state_of node.inner m c.requires.draft new same.settings s node.stands) in
    let goes = goes_on node.inner.w node.inner.limit c.commit_reserved.new.self node.first before (g.R.Recorder.notes c.put_copy.new.journal) (Sent m ∷ []) (settings.w ∙ same.settings.w) (settings.limit ∙ same.settings.limit) node.legal noted
    (draft_is_group node.inner s m node.stands (c.requires.draft s node.stands)) stands in
    record { counted = c.put_copy.ensures.counted; legal = goes.legal; stands = goes.stands }
