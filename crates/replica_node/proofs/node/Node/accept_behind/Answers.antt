use Rattle.std.proofs.Common.{rules, ◌≡◌, ℕ, ◌≤◌, ◌<◌, ◌+◌, ◌^◌, List, ◌++◌, ◌∷◌, [], map, drop, length, ap, ap₂, sym, subst, ◌∙◌, arith}
use Rattle.std.proofs.Math.Seq.{drop-append_seam}
use Rattle.std.proofs.lemmas.List.{length-append, append_assoc}
use Rattle.op_base.specs.declared.outcome.Step.{Step}
use Rattle.causal_model.specs.Journal.{step_note}
use Rattle.causal_model.specs.Receiving.{steps, with_early}
use Rattle.causal_model.specs.State.{State}
use Rattle.causal_model.specs.declared.note.Note.TheVariants.{Kept}
use Rattle.replica_core.specs.Rules.{StandsFor}
use Rattle.replica_core.specs.Steps.{HasAdded}
use Rattle.replica_node.specs.Nodes.{state_by, IsCount}
use Rattle.replica_node.proofs.Calls.{goes_on, nothing_goes_on, accepting_is_group, accepting_replays, added_with_room}
use Rattle.replica_node.proofs.Few.{steps_are_few}
use Rattle.replica_node.proofs.node.Node.accept_behind.Goals as goal
use Rattle.replica_node.proofs.node.Node.accept_behind.Goals.{After-accept_reserved, After-split_at, After-put_steps}

pub accept_reserved-requires : goal.accept_reserved-requires
accept_reserved-requires g c = record { ready = c.in_ok-most.ensures.ready }

pub put_copy-requires-clause-spare : goal.put_copy-requires-clause-spare
put_copy-requires-clause-spare g c =
    let room : c.most_notes.result ≤ g.R.Recorder.spare c.reserve.new.self = search rules in
    omega (arith, room, c.most_notes.ensures)

pub put_copy-requires-clause-few : goal.put_copy-requires-clause-few
put_copy-requires-clause-few g c =
    let node = c.args.self.now in
    let few : length (g.R.Recorder.notes node.journal) + c.most_notes.result < 2 ^ 63 = search rules in
    omega (arith, few, node.counted, c.most_notes.ensures)

-- the state that accepting finds
abbrev found : (g : _) (c : After-accept_reserved g) → State
found g c = state_by c.args.self.now.first (g.R.Recorder.notes c.args.self.now.journal)

-- behind the steps that there were stand those that were made
added : (g : _) (c : After-accept_reserved g) → HasAdded c.args.self.now.inner.w (with_early (found g c) c.args.message) c.args.steps.now.items c.accept_reserved.new.steps.items c.accept_reserved.new.self
added g c =
    let node = c.args.self.now in
    added_with_room node.inner c.reserve_accept.new.self c.accept_reserved.new.self (found g c) c.args.message c.args.steps.now.items c.reserve_accept.new.steps.items c.accept_reserved.new.steps.items
    c.reserve_accept.ensures.unchanged c.reserve_accept.ensures.steps node.stands c.accept_reserved.ensures.steps

pub split_at-requires : goal.split_at-requires
split_at-requires g c =
    let all = added g (goal.at.split_at-requires g c).After-accept_reserved in
    omega (arith, c.len-before.ensures, ap length c.deref.ensures.value, ap length all.are, length-append c.args.steps.now.items (steps c.args.self.now.inner.w (with_early (found g (goal.at.split_at-requires g c).After-accept_reserved) c.args.message)).0)

made : (g : _) (c : After-split_at g) → c.split_at.result.1.now ≡ (steps c.args.self.now.inner.w (with_early (found g (goal.at-After-split_at g c).After-accept_reserved) c.args.message)).0
made g c =
    let here = (goal.at-After-split_at g c).After-accept_reserved in
    let before = c.args.steps.now.items in
    let count : c.len-before.result ≡ length before = omega (arith, c.len-before.ensures) in
    c.split_at.ensures.back
    ∙ ap₂ (λ (n : ℕ) (all : List Step). drop n all) count (c.deref.ensures.value ∙ (added g here).are)
    ∙ drop-append_seam before (steps c.args.self.now.inner.w (with_early (found g here) c.args.message)).0

pub put_steps-requires-clause-room : goal.put_steps-requires-clause-room
put_steps-requires-clause-room g c =
    let node = c.args.self.now in
    let here = (goal.at.put_steps-requires-clause-room g c).After-split_at in
    let room : c.most_notes.result ≤ g.R.Recorder.spare c.reserve.new.self = search rules in
    omega (arith, steps_are_few node.inner.w (found g (goal.at-After-split_at g here).After-accept_reserved) c.args.message, room, c.put_copy.ensures.spare, ap length (made g here), ap length node.stands.buffer.early, c.most_notes.ensures)

pub put_steps-requires-clause-few : goal.put_steps-requires-clause-few
put_steps-requires-clause-few g c =
    let node = c.args.self.now in
    let before = g.R.Recorder.notes node.journal in
    let here = (goal.at.put_steps-requires-clause-few g c).After-split_at in
    let few : length before + c.most_notes.result < 2 ^ 63 = search rules in
    let count = c.put_copy.ensures.counted ∙ ap length (c.put_copy.ensures.noted ∙ ap (λ (notes : _). notes ++ Kept c.args.message ∷ []) c.reserve.ensures.kept) ∙ length-append before (Kept c.args.message ∷ []) in
    omega (arith, steps_are_few node.inner.w (found g (goal.at-After-split_at g here).After-accept_reserved) c.args.message, few, count, ap length (made g here), ap length node.stands.buffer.early, c.most_notes.ensures)

pub invariant_of-self-in-Break-branch-3 : goal.invariant_of-self-in-Break-branch-3
invariant_of-self-in-Break-branch-3 g c =
    let node = c.args.self.now in
    let kept = c.reserve.ensures.kept in
    let goes = nothing_goes_on node.inner c.reserve_accept.new.self node.first (g.R.Recorder.notes node.journal) (g.R.Recorder.notes c.reserve.new.self) c.reserve_accept.ensures.unchanged kept node.legal node.stands in
    record { counted = subst (IsCount node.length) (sym kept) node.counted; legal = goes.legal; stands = goes.stands }

pub returns-clause-steps : goal.returns-clause-steps
returns-clause-steps g c = (added g (goal.at.returns-clause-steps g c).After-accept_reserved).are

-- what was noted is the message and its steps
noted : (g : _) (c : After-put_steps g) → g.R.Recorder.notes c.put_steps.new.journal
    ≡ g.R.Recorder.notes c.args.self.now.journal ++ Kept c.args.message ∷ map step_note (steps c.args.self.now.inner.w (with_early (found g (goal.at-After-put_steps g c).After-accept_reserved) c.args.message)).0
noted g c =
    let before = g.R.Recorder.notes c.args.self.now.journal in
    let notes = map step_note c.split_at.result.1.now in
    c.put_steps.ensures.noted
    ∙ ap (λ (ns : _). ns ++ notes) (c.put_copy.ensures.noted ∙ ap (λ (ns : _). ns ++ Kept c.args.message ∷ []) c.reserve.ensures.kept)
    ∙ append_assoc before (Kept c.args.message ∷ []) notes
    ∙ ap (λ (made : _). before ++ Kept c.args.message ∷ map step_note made) (made g (goal.at-After-put_steps g c).After-split_at)

pub returns-clause-noted : goal.returns-clause-noted
returns-clause-noted g c = noted g (goal.at.returns-clause-noted g c).After-put_steps

pub invariant_of-self-2 : goal.invariant_of-self-2
invariant_of-self-2 g c =
    let node = c.args.self.now in
    let here = (goal.at.invariant_of-self-2 g c).After-put_steps in
    let s = found g (goal.at-After-put_steps g here).After-accept_reserved in
    let m = c.args.message in
    let same = c.reserve_accept.ensures.unchanged in
    let settings = c.accept_reserved.ensures.settings in
    let stepped = added g (goal.at-After-put_steps g here).After-accept_reserved in
    let group = Kept m ∷ map step_note (steps node.inner.w (with_early s m)).0 in
    let unrefused = c.requires.unrefused s node.stands in
    let goes = goes_on node.inner.w node.inner.limit c.accept_reserved.new.self node.first (g.R.Recorder.notes node.journal) (g.R.Recorder.notes c.put_steps.new.journal) group (settings.w ∙ same.settings.w) (settings.limit ∙ same.settings.limit) node.legal (noted g here)
    (accepting_is_group node.inner s m node.stands c.requires.fits c.requires.carried unrefused)
    (subst (StandsFor c.accept_reserved.new.self) (sym (accepting_replays node.inner s m node.stands c.requires.fits c.requires.carried unrefused)) stepped.stands) in
    record { counted = c.put_steps.ensures.counted; legal = goes.legal; stands = goes.stands }
