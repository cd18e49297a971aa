use Rattle.std.proofs.Common.{◌≡◌, set, ◌+◌, ◌<◌, ◌≤◌, IsTrue, length, refl, sym, ap, subst, ◌∙◌, arith}
use Rattle.std.proofs.lemmas.List.{length-set}
use Rattle.op_base.specs.Timestamp.{entry}
use Rattle.op_base.specs.Message.{number, fits}
use Rattle.causal_model.specs.Receiving.{is_far}
use Rattle.causal_model.specs.Early.{is_again, put_early}
use Rattle.causal_model.specs.Stability.{noop_window}
use Rattle.causal_model.proofs.States.Early.{All-put_early, IsNew-from_test, IsNear-from_test, fits_member}
use Rattle.causal_buffer.specs.Buffer.{Buffer, with_messages, AreAhead, AreNear}
use Rattle.std.specs.List.{flat_map}
use Rattle.causal_buffer.proofs.Places.{length-put_early}
use Rattle.causal_buffer.specs.Queue.{messages}
use Rattle.causal_buffer.proofs.Kept.{kept_at, kept_set, kept_put, fresh_here, near_here, put_in_queue, few_held}
use Rattle.causal_buffer.specs.Watch.{IsWatch}
use Rattle.causal_buffer.proofs.Standing.{keeps_early, keep_keeps_state}
use Rattle.causal_buffer.proofs.buffer.CausalBuffer.keep.Goals as goal
use Rattle.causal_buffer.proofs.buffer.CausalBuffer.keep.Goals.{Start, After-index_mut, After-put}

is_ahead : (c : Start) → entry c.args.counts.now c.args.message.origin < number c.args.message
is_ahead c = (IsNew-from_test c.args.me c.args.counts.now c.args.message c.requires.new).ahead

has_queue : (c : After-index_mut) → c.args.message.origin < length c.self.inside.queues.items
has_queue c = omega (arith, ap (λ (b : Buffer). b.n) c.self.view_is, c.self.invariant.count, fits_member c.args.self.now.n c.args.message c.requires.fits)

pub put-requires-clause-queue : goal.put-requires-clause-queue
put-requires-clause-queue c =
    (kept_at c.self.inside.n c.self.inside.w c.self.inside.queues.items c.self.invariant.kept c.args.message.origin c.index_mut.result.now (has_queue (goal.at.put-requires-clause-queue c).After-index_mut) c.index_mut.ensures.value).is_queue

pub put-requires-clause-new : goal.put-requires-clause-new
put-requires-clause-new c =
    let here = (goal.at.put-requires-clause-new c).After-index_mut in
    fresh_here c.self.inside.n c.self.inside.w c.self.inside.queues.items c.self.invariant.kept c.args.me c.args.counts.now c.args.message c.index_mut.result.now (has_queue here) c.index_mut.ensures.value
    (ap (λ (b : Buffer). is_again b.early c.args.message) c.self.view_is ∙ c.requires.apart)

pub put-requires-clause-near : goal.put-requires-clause-near
put-requires-clause-near c =
    let at = goal.at.put-requires-clause-near c in
    let counts = c.args.counts.now in
    let not_far = ap (λ (b : Buffer). is_far b.n b.w c.args.me counts c.args.message) c.self.view_is ∙ c.requires.near in
    near_here c.self.inside.n c.self.inside.w c.self.inside.queues.items c.self.invariant.kept c.args.me counts c.args.message c.index_mut.result.now (has_queue at.After-index_mut) c.index_mut.ensures.value
    c.at.result c.at.ensures (is_ahead at.Start) not_far
    (subst (λ (b : Buffer). AreAhead counts b.early) (sym c.self.view_is) c.requires.held_ahead) (subst (λ (b : Buffer). AreNear b.n b.w counts b.early) (sym c.self.view_is) c.requires.held_near)

-- the messages of all queues, once it is put into one
put : (c : After-put) → flat_map messages (set c.self.inside.queues.items c.args.message.origin c.put.new.self) ≡ put_early c.args.message (flat_map messages c.self.inside.queues.items)
put c =
    let m = c.args.message in
    put_in_queue c.self.inside.n c.self.inside.w c.self.inside.queues.items c.index_mut.result.now c.self.invariant.kept m c.put.new.self (has_queue (goal.at-After-put c).After-index_mut) (c.put.ensures.put ∙ ap (λ z. put_early m (messages z)) c.index_mut.ensures.value)

pub overflow_add-self : goal.overflow_add-self
overflow_add-self c = omega (arith, few_held c.self.inside.n c.self.inside.w c.self.inside.held c.self.inside.queues.items c.self.inside.watch c.self.invariant)

pub invariant_of-self : goal.invariant_of-self
invariant_of-self c =
    let n = c.self.inside.n in
    let w = c.self.inside.w in
    let qs = c.self.inside.queues.items in
    let m = c.args.message in
    let kept = kept_at n w qs c.self.invariant.kept m.origin c.index_mut.result.now (has_queue (goal.at.invariant_of-self c).After-index_mut) c.index_mut.ensures.value in
    let fit : IsTrue (fits n m) = subst (λ (b : Buffer). IsTrue (fits b.n m)) (sym c.self.view_is) c.requires.fits in
    record {
      some = c.self.invariant.some;
      few = c.self.invariant.few;
      narrow = c.self.invariant.narrow;
      count = length-set qs m.origin c.put.new.self ∙ c.self.invariant.count;
      kept = kept_set n w qs m.origin c.put.new.self c.self.invariant.kept (kept_put n w m c.index_mut.result.now c.put.new.self kept fit c.put.ensures.kept c.put.ensures.put c.put.ensures.room c.put.ensures.wait);
      counted = omega (arith, c.self.invariant.counted, length-put_early m (flat_map messages qs), ap length (put (goal.at.invariant_of-self c).After-put));
      watched = subst (IsWatch n c.keep.new.self) (sym (put (goal.at.invariant_of-self c).After-put)) (c.keep.ensures n m (flat_map messages qs) c.self.invariant.watched refl (sym c.number.ensures));
    }

pub returns-clause-early : goal.returns-clause-early
returns-clause-early c =
    let m = c.args.message in
    ap (λ early. record { n = c.self.inside.n; w = c.self.inside.w; early = early })
    (put (goal.at.returns-clause-early c).After-put)
    ∙ ap (λ (b : Buffer). with_messages b (put_early m b.early)) c.self.view_is

pub returns-clause-held_ahead : goal.returns-clause-held_ahead
returns-clause-held_ahead c =
    let counts = c.args.counts.now in
    subst (λ (b : Buffer). AreAhead counts b.early) (sym (returns-clause-early c))
    (All-put_early (λ e. entry counts e.origin < number e) c.args.message c.args.self.now.early (is_ahead (goal.at.returns-clause-held_ahead c).Start) c.requires.held_ahead)

pub returns-clause-held_near : goal.returns-clause-held_near
returns-clause-held_near c =
    let b = c.args.self.now in
    let m = c.args.message in
    let counts = c.args.counts.now in
    let near = IsNear-from_test b.n b.w c.args.me counts m c.requires.near in
    subst (λ (b : Buffer). AreNear b.n b.w counts b.early) (sym (returns-clause-early c)) (All-put_early (λ e. number e ≤ entry counts e.origin + (b.w + noop_window b.n b.w)) m b.early near.within c.requires.held_near)

pub returns-clause-stands : goal.returns-clause-stands
returns-clause-stands c = keeps_early c.args.message c.args.self.now _ (returns-clause-early c)

pub returns-clause-is_state : goal.returns-clause-is_state
returns-clause-is_state c = keep_keeps_state c.args.me c.args.counts.now c.args.message c.args.self.now c.requires.fits c.requires.new c.requires.apart c.requires.near
