use Rattle.std.proofs.Common.{◌≡◌, ◌+◌, ◌<◌, length, set, sym, ap, subst, ◌∙◌, arith}
use Rattle.std.specs.List.{find, flat_map}
use Rattle.std.specs.Int.{from_bool}
use Rattle.std.specs.Option.{option_to_list}
use Rattle.causal_buffer.proofs.Watched.{left_are_watched}
use Rattle.causal_buffer.specs.Watch.{IsWatch}
use Rattle.causal_buffer.proofs.Parts.{length-set_flat}
use Rattle.causal_buffer.specs.Queue.{messages}
use Rattle.std.proofs.lemmas.List.{length-set}
use Rattle.causal_model.specs.Early.{has_id, without}
use Rattle.causal_buffer.specs.Buffer.{Buffer, with_messages, AreAhead, AreNear}
use Rattle.causal_buffer.proofs.Kept.{kept_at, kept_set, kept_without, find_in_queue, without_in_queue, length-option, step_keeps_ahead, step_keeps_near}
use Rattle.causal_buffer.proofs.Standing.{takes_next, keeps_step}
use Rattle.causal_buffer.proofs.buffer.CausalBuffer.remove.Goals as goal
use Rattle.causal_buffer.proofs.buffer.CausalBuffer.remove.Goals.{After-index_mut, After-take-taken, After-is_some, After-from}

has_queue : (c : After-index_mut) → c.args.id.origin < length c.self.inside.queues.items
has_queue c = omega (arith, ap (λ (b : Buffer). b.n) c.self.view_is, c.self.invariant.count, c.requires)

-- all queues have fewer messages by the one that was taken, where one was
fewer : (c : After-is_some) → length (flat_map messages (set c.self.inside.queues.items c.args.id.origin c.take-taken.new.self)) + length (option_to_list c.take-taken.result) ≡ length (flat_map messages c.self.inside.queues.items)
fewer c =
    let qs = c.self.inside.queues.items in
    let q = c.index_mut.result.now in
    omega (arith, length-set_flat messages qs c.args.id.origin c.take-taken.new.self q (has_queue (goal.at-After-is_some c).After-index_mut), ap (λ z. length (messages z)) c.index_mut.ensures.value, c.take-taken.ensures.fewer)

taken_is : (c : After-from) → c.from.result ≡ length (option_to_list c.take-taken.result)
taken_is c = c.from.ensures ∙ ap from_bool c.is_some.ensures ∙ length-option c.take-taken.result

-- and no others than before
left_here : (c : After-take-taken) → flat_map messages (set c.self.inside.queues.items c.args.id.origin c.take-taken.new.self) ≡ without c.args.id (flat_map messages c.self.inside.queues.items)
left_here c =
    without_in_queue c.self.inside.n c.self.inside.w c.self.inside.queues.items c.index_mut.result.now c.self.invariant.kept c.args.id c.take-taken.new.self (has_queue (goal.at-After-take-taken c).After-index_mut)
    (c.take-taken.ensures.others ∙ ap (λ z. without c.args.id (messages z)) c.index_mut.ensures.value)

pub invariant_of-self : goal.invariant_of-self
invariant_of-self c =
    let n = c.self.inside.n in
    let w = c.self.inside.w in
    let qs = c.self.inside.queues.items in
    let q = c.index_mut.result.now in
    let kept = kept_at n w qs c.self.invariant.kept c.args.id.origin q (has_queue (goal.at.invariant_of-self c).After-index_mut) c.index_mut.ensures.value in
    record {
      some = c.self.invariant.some;
      few = c.self.invariant.few;
      narrow = c.self.invariant.narrow;
      count = length-set qs c.args.id.origin c.take-taken.new.self ∙ c.self.invariant.count;
      kept = kept_set n w qs c.args.id.origin c.take-taken.new.self c.self.invariant.kept (kept_without n w c.args.id q c.take-taken.new.self kept c.take-taken.ensures.kept c.take-taken.ensures.others c.take-taken.ensures.room c.take-taken.ensures.wait);
      counted = omega (arith, c.self.invariant.counted, fewer (goal.at.invariant_of-self c).After-is_some, taken_is (goal.at.invariant_of-self c).After-from);
      watched = subst (IsWatch n c.self.inside.watch) (sym (left_here (goal.at.invariant_of-self c).After-take-taken)) (left_are_watched n c.self.inside.watch c.args.id (flat_map messages qs) c.self.invariant.watched);
    }

pub overflow_sub-self : goal.overflow_sub-self
overflow_sub-self c = omega (arith, c.self.invariant.counted, fewer (goal.at.overflow_sub-self c).After-is_some, taken_is (goal.at.overflow_sub-self c).After-from)

pub returns-clause-taken : goal.returns-clause-taken
returns-clause-taken c =
    c.take-taken.ensures.taken
    ∙ ap (λ z. find (has_id c.args.id) (messages z)) c.index_mut.ensures.value
    ∙ sym (find_in_queue c.self.inside.n c.self.inside.w c.self.inside.queues.items c.index_mut.result.now c.self.invariant.kept c.args.id (has_queue (goal.at.returns-clause-taken c).After-index_mut))
    ∙ ap (λ (b : Buffer). find (has_id c.args.id) b.early) c.self.view_is

pub returns-clause-others : goal.returns-clause-others
returns-clause-others c =
    let id = c.args.id in
    ap (λ early. record { n = c.self.inside.n; w = c.self.inside.w; early = early }) (left_here (goal.at.returns-clause-others c).After-take-taken)
    ∙ ap (λ (b : Buffer). with_messages b (without id b.early)) c.self.view_is

pub returns-clause-held_ahead : goal.returns-clause-held_ahead
returns-clause-held_ahead c counted next ahead =
    subst (λ (b : Buffer). AreAhead (set counted c.args.id.origin c.args.id.seq) b.early) (sym (returns-clause-others c)) (step_keeps_ahead c.args.id counted c.args.self.now.early next ahead)

pub returns-clause-held_near : goal.returns-clause-held_near
returns-clause-held_near c counted next near =
    let n = c.args.self.now.n in
    let w = c.args.self.now.w in
    subst (λ (b : Buffer). AreNear b.n b.w (set counted c.args.id.origin c.args.id.seq) b.early) (sym (returns-clause-others c)) (step_keeps_near c.args.id counted c.args.self.now.early next n w near)

pub returns-clause-in_state : goal.returns-clause-in_state
returns-clause-in_state c = takes_next c.args.id c.args.self.now _ (returns-clause-taken c)

pub returns-clause-stands : goal.returns-clause-stands
returns-clause-stands c = keeps_step c.args.id c.args.self.now _ (returns-clause-others c)
