use Rattle.std.proofs.Common.{◌≡◌, ◌+◌, ◌<◌, List, length, set, sym, ap, subst, ◌∙◌, arith}
use Rattle.std.specs.List.{flat_map}
use Rattle.std.specs.Option.{IfNone}
use Rattle.std.proofs.lemmas.Bool.{leb-false}
use Rattle.op_base.specs.Timestamp.{entry}
use Rattle.op_base.specs.Message.{number}
use Rattle.causal_model.specs.Counts.{is_deliverable}
use Rattle.causal_model.proofs.States.Early.{fits_member}
use Rattle.causal_model.proofs.Theory.Finds.{none_passes}
use Rattle.causal_buffer.specs.Queue.{messages, AreKept, AreUnready}
use Rattle.causal_buffer.specs.Watch.{IsClosed, IsWatch, HasNoneAfter}
use Rattle.causal_buffer.proofs.Following.{AreUndeliverable, all_steps_within, no_steps_within, one_step_within}
use Rattle.causal_buffer.proofs.Kept.{kept_at, none_from, none_is_next}
use Rattle.causal_buffer.proofs.Watched.{of_member, closed_are_unready, counted_is_watched}
use Rattle.causal_buffer.proofs.buffer.most_steps.Goals as goal
use Rattle.causal_buffer.proofs.buffer.most_steps.Goals.{Else-is_some, After-index, Else-has_after}

pub returns-then-is_some-clause-most : goal.returns-then-is_some-clause-most
returns-then-is_some-clause-most c = all_steps_within c.args.counts.now c.args.message.now (flat_map messages c.args.queues.now.items) _ (ap (λ k. k + 1) c.requires.held)

pub returns-then-wakes-clause-most : goal.returns-then-wakes-clause-most
returns-then-wakes-clause-most c = all_steps_within c.args.counts.now c.args.message.now (flat_map messages c.args.queues.now.items) _ (ap (λ k. k + 1) c.requires.held)

-- ---- none can be delivered before

none : (c : Else-is_some) → AreUnready c.members.result (length c.args.counts.now) c.args.counts.now (flat_map messages c.args.queues.now.items)
none c =
    subst (λ o. IfNone o (AreUnready c.members.result (length c.args.counts.now) c.args.counts.now (flat_map messages c.args.queues.now.items)))
    (none_from c.first_ready.result (sym c.is_some.ensures ∙ c.if-is_some.false)) c.first_ready.ensures.none

-- of the store's members what none of them can deliver none can
undeliverable : (n w : _) (qs : List _) (counts : _) → AreKept n w qs → length qs ≡ n → AreUnready n n counts (flat_map messages qs) → AreUndeliverable n counts (flat_map messages qs)
undeliverable n w qs counts kept count unready =
    none_passes (is_deliverable n counts) (flat_map messages qs) (none_is_next n w qs kept counts (λ k l. unready k (omega (arith, l, count))))

none_now : (c : Else-is_some) → AreUndeliverable (length c.args.counts.now) c.args.counts.now (flat_map messages c.args.queues.now.items)
none_now c =
    undeliverable (length c.args.counts.now) c.requires.kept.0 c.args.queues.now.items c.args.counts.now c.requires.kept.1 c.requires.members (λ k l. none c k (omega (arith, l, c.members.ensures.members)))

pub returns-then-not-is_deliverable-clause-most : goal.returns-then-not-is_deliverable-clause-most
returns-then-not-is_deliverable-clause-most c =
    no_steps_within c.args.counts.now c.args.message.now (flat_map messages c.args.queues.now.items) (sym c.is_deliverable.ensures ∙ c.if-not-is_deliverable.true) (none_now (goal.at.returns-then-not-is_deliverable-clause-most c).Else-is_some)

-- ---- nor once the message is delivered

-- the queues as they are then
kept : (c : Else-is_some) → AreKept (length c.args.counts.now) c.requires.kept.0 c.first_ready.new.queues.items
kept c = c.first_ready.ensures.kept c.requires.kept.0 c.requires.kept.1

has_queue : (c : After-index) → c.id-id.result.origin < length c.first_ready.new.queues.items
has_queue c = omega (arith, ap (λ (id : _). id.origin) c.id-id.ensures, fits_member (length c.args.counts.now) c.args.message.now c.requires.fits, c.first_ready.ensures.members, c.requires.members)

pub has_after-requires : goal.has_after-requires
has_after-requires c =
    let here = goal.at.has_after-requires c in
    (kept_at (length c.args.counts.now) c.requires.kept.0 c.first_ready.new.queues.items (kept here.Else-is_some) c.id-id.result.origin c.index.result.now (has_queue here.After-index) c.index.ensures).is_queue

pub returns-clause-most : goal.returns-clause-most
returns-clause-most c =
    let here = goal.at.returns-clause-most c in
    let n = length c.args.counts.now in
    let counts = c.args.counts.now in
    let m = c.args.message.now in
    let id = c.id-id.result in
    let x = id.origin in
    let qs = c.first_ready.new.queues.items in
    let watch = c.first_ready.new.watch in
    let early = flat_map messages c.args.queues.now.items in
    let inside = fits_member n m c.requires.fits in
    let member : x ≡ m.origin = ap (λ (i : _). i.origin) c.id-id.ensures in
    let same = c.first_ready.ensures.same in
    let is = subst (IsWatch n watch) same c.first_ready.ensures.watch in
    let after = of_member n c.requires.kept.0 qs (kept here.Else-is_some) x (λ e. e.origin ≡ x → number e ≡ id.seq + 1 → ⊥) c.index.result.now c.index.ensures (c.has_after.ensures c.if-has_after.false) in
    let none_after : HasNoneAfter id early = subst (HasNoneAfter id) same (λ k d l own. after k d l own own) in
    let unawaited = leb-false (entry watch.awaited x) id.seq (sym c.wakes.ensures ∙ c.if-wakes.false) in
    let later = counted_is_watched n watch id early is (omega (arith, inside, member)) (λ y l closed. unawaited) (λ _. none_after) in
    let closed = subst (λ o. IfNone o ((y : _) → y < c.members.result → IsClosed watch y)) (none_from c.first_ready.result (sym c.is_some.ensures ∙ c.if-is_some.false)) c.first_ready.ensures.waiting in
    let unready = closed_are_unready n n (record watch { counts = set watch.counts x id.seq }) early later (omega arith) (λ y l. closed y (omega (arith, l, c.members.ensures.members))) in
    let none_then = undeliverable n c.requires.kept.0 c.args.queues.now.items (set watch.counts x id.seq) c.requires.kept.1 c.requires.members unready in
    one_step_within counts m early c.requires.fits c.requires.apart (sym c.is_deliverable.ensures ∙ c.if-not-is_deliverable.false) (λ k l. none here.Else-is_some k (omega (arith, l, inside, c.members.ensures.members))) (none_now here.Else-is_some)
    (subst (λ now. AreUndeliverable n now early) (λ i. set (c.first_ready.ensures.counts i) (c.id-id.ensures i).origin (c.id-id.ensures i).seq) none_then)
