use Rattle.std.proofs.Common.{◌≡◌, ℕ, true, set, Some, None, sym, ap, subst, ◌∙◌, arith}
use Rattle.std.specs.List.{find}
use Rattle.std.specs.Option.{is_some}
use Rattle.op_base.specs.Message.{id_of}
use Rattle.causal_model.specs.Early.{has_id, without}
use Rattle.causal_model.specs.Receiving.{next_early}
use Rattle.causal_model.proofs.Theory.Finds.{found}
use Rattle.causal_buffer.specs.Buffer.{Buffer, with_messages, AreAhead, AreNear}
use Rattle.causal_buffer.specs.Queue.{AreUnready, IsLowest}
use Rattle.causal_buffer.proofs.Kept.{lowest_is_next, none_is_next, has_parts, step_keeps_ahead, step_keeps_near}
use Rattle.causal_buffer.proofs.Standing.{is_taken_in_state, keeps_step}
use Rattle.causal_buffer.proofs.buffer.CausalBuffer.take_next.Goals as goal
use Rattle.causal_buffer.proofs.buffer.CausalBuffer.take_next.Goals.{In-Some, After-move_out}

-- what is found by the id is next
is_next : (c : In-Some) → (find (has_id c.in-Some.id) c.args.self.now.early ≡ next_early c.args.self.now.n c.args.counts.now c.args.self.now.early) × (is_some (find (has_id c.in-Some.id) c.args.self.now.early) ≡ true)
is_next c =
    let id = c.in-Some.id in
    let counts = c.args.counts.now in
    subst (λ (b : Buffer). (find (has_id id) b.early ≡ next_early b.n counts b.early) × (is_some (find (has_id id) b.early) ≡ true)) c.self.view_is
    (lowest_is_next c.self.inside.n c.self.inside.w c.self.inside.queues.items c.self.invariant.kept counts id
    (subst (λ (b : Buffer). IsLowest b.n b.n counts b.early id) (sym c.self.view_is)
    (subst (λ (end : ℕ). IsLowest end c.args.self.now.n counts c.args.self.now.early id) (ap (λ (b : Buffer). b.n) c.ready_below.view_is) c.in-Some.ensures.found)) c.self.invariant.count)

pub move_out-requires-clause-there : goal.move_out-requires-clause-there
move_out-requires-clause-there c =
    subst (λ (b : Buffer). is_some (find (has_id c.in-Some.id) b.early) ≡ true) (sym c.ready_below-2.ensures.unchanged) (is_next (goal.at.move_out-requires-clause-there c).In-Some).1

by_id : (c : After-move_out) → Some c.move_out.new.into ≡ find (has_id c.in-Some.id) c.args.self.now.early
by_id c = c.move_out.ensures.moved ∙ ap (λ (b : Buffer). find (has_id c.in-Some.id) b.early) c.ready_below-2.ensures.unchanged

of_id : (c : After-move_out) → c.in-Some.id ≡ id_of c.move_out.new.into
of_id c =
    let parts = has_parts c.in-Some.id c.move_out.new.into (found (has_id c.in-Some.id) c.args.self.now.early c.move_out.new.into (sym (by_id c))).1 in
    λ j. record { origin = sym parts.0 j; seq = sym parts.1 j }

pub returns-in-Some-clause-taken : goal.returns-in-Some-clause-taken
returns-in-Some-clause-taken c =
    let here = goal.at.returns-in-Some-clause-taken c in
    by_id here.After-move_out ∙ (is_next here.In-Some).0

pub returns-in-Some-clause-others : goal.returns-in-Some-clause-others
returns-in-Some-clause-others c =
    let b = c.args.self.now in
    c.count.ensures.unchanged ∙ c.move_out.ensures.others ∙ ap (λ (b : Buffer). with_messages b (without c.in-Some.id b.early)) c.ready_below-2.ensures.unchanged
    ∙ ap (λ id. with_messages b (without id b.early)) (of_id (goal.at.returns-in-Some-clause-others c).After-move_out)

pub returns-in-Some-clause-held_ahead : goal.returns-in-Some-clause-held_ahead
returns-in-Some-clause-held_ahead c _ counted next ahead =
    let id = id_of c.move_out.new.into in
    subst (λ (b : Buffer). AreAhead (set counted id.origin id.seq) b.early) (sym (returns-in-Some-clause-others c)) (step_keeps_ahead id counted c.args.self.now.early next ahead)

pub returns-in-Some-clause-held_near : goal.returns-in-Some-clause-held_near
returns-in-Some-clause-held_near c _ counted next near =
    let id = id_of c.move_out.new.into in
    let n = c.args.self.now.n in
    let w = c.args.self.now.w in
    subst (λ (b : Buffer). AreNear b.n b.w (set counted id.origin id.seq) b.early) (sym (returns-in-Some-clause-others c)) (step_keeps_near id counted c.args.self.now.early next n w near)

pub returns-in-Some-clause-in_state : goal.returns-in-Some-clause-in_state
returns-in-Some-clause-in_state c = is_taken_in_state c.args.counts.now c.args.self.now _ (returns-in-Some-clause-taken c)

pub returns-in-Some-clause-stands : goal.returns-in-Some-clause-stands
returns-in-Some-clause-stands c _ = keeps_step (id_of c.move_out.new.into) c.args.self.now _ (returns-in-Some-clause-others c)

pub returns-in-None-clause-taken : goal.returns-in-None-clause-taken
returns-in-None-clause-taken c =
    let counts = c.args.counts.now in
    subst (λ (b : Buffer). None ≡ next_early b.n counts b.early) c.self.view_is
    (sym (none_is_next c.self.inside.n c.self.inside.w c.self.inside.queues.items c.self.invariant.kept counts (λ k l.
    subst (λ (b : Buffer). AreUnready b.n b.n counts b.early) (sym c.self.view_is)
    (subst (λ (end : ℕ). AreUnready end c.args.self.now.n counts c.args.self.now.early) (ap (λ (b : Buffer). b.n) c.ready_below.view_is) c.in-None.ensures.none) k (omega (arith, l, c.self.invariant.count)))))

pub returns-in-None-clause-in_state : goal.returns-in-None-clause-in_state
returns-in-None-clause-in_state c = is_taken_in_state c.args.counts.now c.args.self.now _ (returns-in-None-clause-taken c)
