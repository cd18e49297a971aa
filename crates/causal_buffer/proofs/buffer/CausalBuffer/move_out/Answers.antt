use Rattle.std.proofs.Common.{◌≡◌, ◌+◌, ◌<◌, length, set, sym, ap, subst, ◌∙◌, arith}
use Rattle.std.specs.List.{find, flat_map}
use Rattle.std.specs.Option.{is_some}
use Rattle.std.proofs.lemmas.List.{length-set}
use Rattle.causal_model.specs.Early.{has_id, without}
use Rattle.causal_buffer.specs.Buffer.{Buffer, with_messages}
use Rattle.causal_buffer.specs.Queue.{messages}
use Rattle.causal_buffer.proofs.Kept.{kept_at, kept_set, kept_without, find_in_queue, without_in_queue}
use Rattle.causal_buffer.proofs.Watched.{left_are_watched}
use Rattle.causal_buffer.specs.Watch.{IsWatch}
use Rattle.causal_buffer.proofs.Parts.{length-set_flat}
use Rattle.causal_buffer.proofs.buffer.CausalBuffer.move_out.Goals as goal
use Rattle.causal_buffer.proofs.buffer.CausalBuffer.move_out.Goals.{After-index_mut, After-move_out}

has_queue : (c : After-index_mut) → c.args.id.origin < length c.self.inside.queues.items
has_queue c = omega (arith, ap (λ (b : Buffer). b.n) c.self.view_is, c.self.invariant.count, c.requires.member)

-- what its queue has of an id is what there is
in_queue : (c : After-index_mut) → find (has_id c.args.id) (messages c.index_mut.result.now) ≡ find (has_id c.args.id) c.args.self.now.early
in_queue c =
    ap (λ z. find (has_id c.args.id) (messages z)) c.index_mut.ensures.value
    ∙ sym (find_in_queue c.self.inside.n c.self.inside.w c.self.inside.queues.items c.index_mut.result.now c.self.invariant.kept c.args.id (has_queue c))
    ∙ ap (λ (b : Buffer). find (has_id c.args.id) b.early) c.self.view_is

pub move_out-requires-clause-queue : goal.move_out-requires-clause-queue
move_out-requires-clause-queue c =
    (kept_at c.self.inside.n c.self.inside.w c.self.inside.queues.items c.self.invariant.kept c.args.id.origin c.index_mut.result.now (has_queue (goal.at.move_out-requires-clause-queue c).After-index_mut) c.index_mut.ensures.value).is_queue

pub move_out-requires-clause-there : goal.move_out-requires-clause-there
move_out-requires-clause-there c = ap is_some (in_queue (goal.at.move_out-requires-clause-there c).After-index_mut) ∙ c.requires.there

-- all queues have one message fewer
fewer : (c : After-move_out) → length (flat_map messages (set c.self.inside.queues.items c.args.id.origin c.move_out.new.self)) + 1 ≡ length (flat_map messages c.self.inside.queues.items)
fewer c =
    let qs = c.self.inside.queues.items in
    let q = c.index_mut.result.now in
    omega (arith, length-set_flat messages qs c.args.id.origin c.move_out.new.self q (has_queue (goal.at-After-move_out c).After-index_mut), ap (λ z. length (messages z)) c.index_mut.ensures.value, c.move_out.ensures.fewer)

-- and no others than before
left_here : (c : After-move_out) → flat_map messages (set c.self.inside.queues.items c.args.id.origin c.move_out.new.self) ≡ without c.args.id (flat_map messages c.self.inside.queues.items)
left_here c =
    without_in_queue c.self.inside.n c.self.inside.w c.self.inside.queues.items c.index_mut.result.now c.self.invariant.kept c.args.id c.move_out.new.self (has_queue (goal.at-After-move_out c).After-index_mut)
    (c.move_out.ensures.others ∙ ap (λ z. without c.args.id (messages z)) c.index_mut.ensures.value)

pub overflow_sub-self : goal.overflow_sub-self
overflow_sub-self c = omega (arith, c.self.invariant.counted, fewer (goal.at.overflow_sub-self c).After-move_out)

pub invariant_of-self : goal.invariant_of-self
invariant_of-self c =
    let n = c.self.inside.n in
    let w = c.self.inside.w in
    let qs = c.self.inside.queues.items in
    let q = c.index_mut.result.now in
    let kept = kept_at n w qs c.self.invariant.kept c.args.id.origin q (has_queue (goal.at.invariant_of-self c).After-index_mut) c.index_mut.ensures.value in
    let left = c.move_out.ensures in
    record {
      some = c.self.invariant.some;
      few = c.self.invariant.few;
      narrow = c.self.invariant.narrow;
      count = length-set qs c.args.id.origin c.move_out.new.self ∙ c.self.invariant.count;
      kept = kept_set n w qs c.args.id.origin c.move_out.new.self c.self.invariant.kept (kept_without n w c.args.id q c.move_out.new.self kept left.kept left.others left.room left.wait);
      counted = omega (arith, c.self.invariant.counted, fewer (goal.at.invariant_of-self c).After-move_out);
      watched = subst (IsWatch n c.self.inside.watch) (sym (left_here (goal.at.invariant_of-self c).After-move_out)) (left_are_watched n c.self.inside.watch c.args.id (flat_map messages qs) c.self.invariant.watched);
    }

pub returns-clause-moved : goal.returns-clause-moved
returns-clause-moved c = c.move_out.ensures.moved ∙ in_queue (goal.at.returns-clause-moved c).After-index_mut

pub returns-clause-others : goal.returns-clause-others
returns-clause-others c =
    let id = c.args.id in
    ap (λ early. record { n = c.self.inside.n; w = c.self.inside.w; early = early }) (left_here (goal.at.returns-clause-others c).After-move_out)
    ∙ ap (λ (b : Buffer). with_messages b (without id b.early)) c.self.view_is
