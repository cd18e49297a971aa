use Rattle.std.proofs.Common.{◌≡◌, ◌+◌, ◌<◌, All, length, set, refl, sym, ap, subst, ◌∙◌, arith}
use Rattle.std.specs.List.{find, flat_map}
use Rattle.std.specs.Option.{option_map, IfNone}
use Rattle.std.proofs.lemmas.List.{length-set}
use Rattle.op_base.specs.Timestamp.{entry}
use Rattle.op_base.specs.Message.{id_of, number}
use Rattle.op_base.specs.declared.message.Message.{Message}
use Rattle.causal_buffer.specs.Queue.{messages, is_ready, AreKept, IsKept, AreUnready}
use Rattle.causal_buffer.specs.Watch.{IsWatch, IsWaiting, NextWaits}
use Rattle.causal_buffer.proofs.Kept.{kept_at, kept_set, kept_waiting, none_from, ready_in_queue, found_is_lowest}
use Rattle.causal_buffer.proofs.Parts.{set_alike}
use Rattle.causal_buffer.proofs.Watched.{of_member, one_more_waits, lower_is_watched, closed_are_unready}
use Rattle.causal_buffer.proofs.buffer.first_ready.Goals as goal
use Rattle.causal_buffer.proofs.buffer.first_ready.Goals.{After-index_mut, After-next_ready-ready}

has_queue : (c : After-index_mut) → c.loop-member.member < length c.loop-member.queues.items
has_queue c = omega (arith, c.loop-member-test.true, c.min-member-end.ensures, c.requires.end, c.requires.members, c.loop-member.invariant.members)

kept : (c : After-index_mut) → AreKept (length c.args.counts.now) c.requires.kept.0 c.loop-member.queues.items
kept c = c.loop-member.invariant.kept c.requires.kept.0 c.requires.kept.1

queue : (c : After-index_mut) → IsKept (length c.args.counts.now) c.requires.kept.0 c.loop-member.member c.index_mut.result.now
queue c = kept_at (length c.args.counts.now) c.requires.kept.0 c.loop-member.queues.items (kept c) c.loop-member.member c.index_mut.result.now (has_queue c) c.index_mut.ensures.value

pub next_ready-ready-requires-clause-queue : goal.next_ready-ready-requires-clause-queue
next_ready-ready-requires-clause-queue c = (queue (goal.at.next_ready-ready-requires-clause-queue c).After-index_mut).is_queue

pub next_ready-ready-requires-clause-fit : goal.next_ready-ready-requires-clause-fit
next_ready-ready-requires-clause-fit c = (queue (goal.at.next_ready-ready-requires-clause-fit c).After-index_mut).fit

pub next_ready-ready-requires-clause-wait : goal.next_ready-ready-requires-clause-wait
next_ready-ready-requires-clause-wait c = (queue (goal.at.next_ready-ready-requires-clause-wait c).After-index_mut).wait

pub next_ready-ready-requires-clause-awaited : goal.next_ready-ready-requires-clause-awaited
next_ready-ready-requires-clause-awaited c = c.loop-member.invariant.watch.awaited

-- the queue is the member's still, and all have the messages that they had
still_kept : (c : After-next_ready-ready) (w : _) → AreKept (length c.args.counts.now) w c.loop-member.queues.items → AreKept (length c.args.counts.now) w (set c.loop-member.queues.items c.loop-member.member c.next_ready-ready.new.self)
still_kept c w kept =
    let n = length c.args.counts.now in
    let qs = c.loop-member.queues.items in
    let x = c.loop-member.member in
    let told = c.next_ready-ready.ensures in
    let old = kept_at n w qs kept x c.index_mut.result.now (has_queue (goal.at-After-next_ready-ready c).After-index_mut) c.index_mut.ensures.value in
    kept_set n w qs x c.next_ready-ready.new.self kept (kept_waiting n w x c.index_mut.result.now c.next_ready-ready.new.self old told.kept told.same told.wait)

same : (c : After-next_ready-ready) → flat_map messages (set c.loop-member.queues.items c.loop-member.member c.next_ready-ready.new.self) ≡ flat_map messages c.args.queues.now.items
same c =
    set_alike messages c.loop-member.queues.items c.loop-member.member c.next_ready-ready.new.self c.index_mut.result.now (has_queue (goal.at-After-next_ready-ready c).After-index_mut)
    (ap messages c.next_ready-ready.ensures.same ∙ ap messages c.index_mut.ensures.value)
    ∙ c.loop-member.invariant.same

pub loop-member-preserved : goal.loop-member-preserved
loop-member-preserved c =
    let here = goal.at.loop-member-preserved c in
    let n = length c.args.counts.now in
    let qs = c.loop-member.queues.items in
    let x = c.loop-member.member in
    let is = c.loop-member.invariant in
    let told = c.next_ready-ready.ensures in
    let awaited = c.next_ready-ready.new.awaited in
    let none = none_from c.next_ready-ready.result (sym c.is_some.ensures ∙ c.if-is_some.false) in
    let counts = c.loop-member.watch.counts in
    let Waiting : Message → Type 0 = λ m. number m ≡ entry counts x + 1 → IsWaiting counts awaited m in
    let waits = subst (λ o. IfNone o (NextWaits c.args.counts.now awaited x (messages c.next_ready-ready.new.self))) none told.waits in
    let here_waits = subst (λ counts. NextWaits counts awaited x (messages c.index_mut.result.now)) (sym is.counts) (subst (λ z. NextWaits c.args.counts.now awaited x (messages z)) told.same waits) in
    let all = of_member n c.requires.kept.0 qs (kept here.After-index_mut) x Waiting c.index_mut.result.now c.index_mut.ensures.value here_waits in
    record {
      members = length-set qs x c.next_ready-ready.new.self ∙ is.members;
      kept = λ w k. still_kept here.After-next_ready-ready w (is.kept w k);
      same = same here.After-next_ready-ready;
      watch = one_more_waits n c.loop-member.watch x awaited (flat_map messages c.args.queues.now.items) is.watch is.from told.awaited told.lower (subst (All (λ m. m.origin ≡ x → Waiting m)) is.same all);
      counts = is.counts;
      from = refl;
      end = is.end;
    }

-- ---- one is ready

pub returns-then-is_some-clause-kept : goal.returns-then-is_some-clause-kept
returns-then-is_some-clause-kept c = λ w k. still_kept (goal.at.returns-then-is_some-clause-kept c).After-next_ready-ready w (c.loop-member.invariant.kept w k)

pub returns-then-is_some-clause-same : goal.returns-then-is_some-clause-same
returns-then-is_some-clause-same c = same (goal.at.returns-then-is_some-clause-same c).After-next_ready-ready

pub returns-then-is_some-clause-watch : goal.returns-then-is_some-clause-watch
returns-then-is_some-clause-watch c =
    let is = c.loop-member.invariant in
    let awaited = c.next_ready-ready.new.awaited in
    subst (IsWatch (length c.args.counts.now) (record c.loop-member.watch { awaited = awaited })) (sym (same (goal.at.returns-then-is_some-clause-watch c).After-next_ready-ready))
    (lower_is_watched (length c.args.counts.now) c.loop-member.watch awaited (flat_map messages c.args.queues.now.items) is.watch c.next_ready-ready.ensures.awaited c.next_ready-ready.ensures.lower)

pub returns-then-is_some-clause-found : goal.returns-then-is_some-clause-found
returns-then-is_some-clause-found c =
    let here = (goal.at.returns-then-is_some-clause-found c).After-index_mut in
    let n = length c.args.counts.now in
    let counts = c.args.counts.now in
    let qs = c.loop-member.queues.items in
    let early = flat_map messages c.args.queues.now.items in
    let x = c.loop-member.member in
    let q = c.index_mut.result.now in
    let is = c.loop-member.invariant in
    let told = c.next_ready-ready.ensures in
    let below : x < c.args.end = omega (arith, c.loop-member-test.true, c.min-member-end.ensures) in
    let ready = told.ready ∙ ap (option_map id_of) (ap (λ z. find (is_ready n counts x) (messages z)) c.index_mut.ensures.value ∙ sym (ready_in_queue n c.requires.kept.0 qs q (kept here) counts x (has_queue here)) ∙ ap (find (is_ready n counts x)) is.same) in
    found_is_lowest c.args.end n x counts early c.next_ready-ready.result below told.is_next ready
    (subst (λ counts. AreUnready x n counts early) is.counts (closed_are_unready x n c.loop-member.watch early is.watch (omega (arith, below, c.requires.end)) (λ y l le. absurd (omega (arith, l, le, is.from)))))

-- ---- none is

pub returns-clause-none : goal.returns-clause-none
returns-clause-none c =
    let is = c.loop-member.invariant in
    subst (λ counts. AreUnready c.args.end (length c.args.counts.now) counts (flat_map messages c.args.queues.now.items)) is.counts
    (closed_are_unready c.args.end (length c.args.counts.now) c.loop-member.watch (flat_map messages c.args.queues.now.items) is.watch c.requires.end (λ x l le. omega (arith, l, le, is.from, is.end, c.loop-member-test.false, c.min-member-end.ensures)))
