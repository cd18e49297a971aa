use Rattle.std.proofs.Common.{◌+◌, length, length-drop, drop, not, All, ap, sym, subst, ◌∙◌, arith}
use Rattle.std.specs.Prelude.{IsTrue, AllPairs}
use Rattle.std.proofs.lemmas.List.{drop_all}
use Rattle.std.proofs.lemmas.List.Elements.{All-filter}
use Rattle.std.proofs.lemmas.List.Kept.{AllPairs-filter}
use Rattle.op_base.specs.Message.{fits}
use Rattle.causal_model.specs.Stability.{is_stable}
use Rattle.outbox.specs.Sent.{ComesAfter, unstable_in}
use Rattle.outbox.proofs.Husks.{behind, husked}
use Rattle.outbox.proofs.Drops.{with_messages, left_of, drops_after}
use Rattle.outbox.proofs.outbox.Outbox.drop_stable.Goals as goal

pub drop_front-requires-clause-rise : goal.drop_front-requires-clause-rise
drop_front-requires-clause-rise c =
    subst (AllPairs ComesAfter) (sym (behind c.self.inside.kept c.deref_mut.result.now c.self.inside.gone c.deref_mut.ensures.value)) c.self.invariant.rise

pub invariant_of-self-else-self-len : goal.invariant_of-self-else-self-len
invariant_of-self-else-self-len c =
    let stable = c.args.stable.now in
    let h = husked c.self.inside.kept c.deref_mut.result.now c.self.inside.gone c.deref_mut.ensures.value (unstable_in stable) c.drop_front.new.messages c.drop_front.result
    c.drop_front.auto.messages c.self.invariant.counted c.self.invariant.husks c.drop_front.ensures.husks c.drop_front.ensures.rest in
    let xs = drop c.self.inside.gone c.self.inside.kept.items in
    record {
      some = c.self.invariant.some;
      few = c.self.invariant.few;
      window = c.self.invariant.window;
      narrow = c.self.invariant.narrow;
      room = c.self.invariant.room;
      counted = omega (arith, h.same, c.drop_front.ensures.some);
      held = omega (arith, h.same, c.drop_front.auto.messages, ap length (behind c.self.inside.kept c.deref_mut.result.now c.self.inside.gone c.deref_mut.ensures.value), length-drop c.self.inside.gone c.self.inside.kept.items, c.self.invariant.held);
      husks = h.husks;
      fit = subst (All (λ m. IsTrue (fits c.self.inside.n m))) (sym h.rest) (All-filter (λ m. not (is_stable stable m)) (λ m. IsTrue (fits c.self.inside.n m)) xs c.self.invariant.fit);
      rise = subst (AllPairs ComesAfter) (sym h.rest) (AllPairs-filter ComesAfter (λ m. not (is_stable stable m)) xs c.self.invariant.rise);
    }

pub returns-then-self-len : goal.returns-then-self-len
returns-then-self-len c =
    let stable = c.args.stable.now in
    let h = husked c.self.inside.kept c.deref_mut.result.now c.self.inside.gone c.deref_mut.ensures.value (unstable_in stable) c.drop_front.new.messages c.drop_front.result
    c.drop_front.auto.messages c.self.invariant.counted c.self.invariant.husks c.drop_front.ensures.husks c.drop_front.ensures.rest in
    let none = drop_all (c.self.inside.gone + c.drop_front.result) _ (omega (arith, h.same, c.if-self-len.true, c.len.ensures)) in
    let left = left_of c.self.inside.n c.self.inside.w c.args.self.now _ c.clear.new.self.items stable c.self.view_is (c.clear.ensures.items ∙ sym none ∙ h.rest) in
    record { dropped = left; sent = drops_after stable c.args.self.now (with_messages c.self.inside.n c.self.inside.w _) (ap (λ sent. sent.messages) left) }

pub returns-else-self-len : goal.returns-else-self-len
returns-else-self-len c =
    let stable = c.args.stable.now in
    let h = husked c.self.inside.kept c.deref_mut.result.now c.self.inside.gone c.deref_mut.ensures.value (unstable_in stable) c.drop_front.new.messages c.drop_front.result
    c.drop_front.auto.messages c.self.invariant.counted c.self.invariant.husks c.drop_front.ensures.husks c.drop_front.ensures.rest in
    let left = left_of c.self.inside.n c.self.inside.w c.args.self.now _ _ stable c.self.view_is h.rest in
    record { dropped = left; sent = drops_after stable c.args.self.now (with_messages c.self.inside.n c.self.inside.w _) (ap (λ sent. sent.messages) left) }
