use Rattle.std.proofs.Common.{◌≡◌, ℕ, ◌<◌, List, [], length, get_or, sym, ap, subst, ◌∙◌, rules, arith}
use Rattle.std.specs.List.{flat_map}
use Rattle.causal_model.specs.State.{start}
use Rattle.causal_buffer.specs.Buffer.{Buffer}
use Rattle.causal_buffer.specs.Queue.{messages, IsEmptied}
use Rattle.causal_buffer.specs.Standing.{IsBufferOf}
use Rattle.causal_buffer.specs.declared.queue.Queue.{Queue}
use Rattle.causal_buffer.proofs.Kept.{kept_empty}
use Rattle.causal_buffer.proofs.Parts.{none_of_all}
use Rattle.causal_buffer.proofs.buffer.CausalBuffer.clear.Goals as goal

-- where each queue is emptied, none has a message
none_is_left : (old new : List Queue) → length new ≡ length old → ((k : ℕ) (q : Queue) → k < length old → IsEmptied (get_or old k q) (get_or new k q)) → flat_map messages new ≡ []
none_is_left old new same each = none_of_all messages new (λ k q l. (each k q (omega (arith, l, same))).none)

pub invariant_of-self : goal.invariant_of-self
invariant_of-self c =
    let are = c.self.invariant in
    let old = c.self.inside.queues.items in
    let new = c.clear_each.new.queues.items in
    record {
      some = are.some;
      few = are.few;
      narrow = are.narrow;
      count = c.clear_each.ensures.same ∙ are.count;
      kept = λ x q l.
          let within : x < length old = omega (arith, l, c.clear_each.ensures.same) in
          let emptied = c.clear_each.ensures.empty x q within in
          kept_empty c.self.inside.n c.self.inside.w x (get_or new x q) (emptied.kept x) emptied.none (emptied.room ∙ (are.kept x q within).room) (omega (arith, emptied.wait, are.some));
      counted = sym (ap length (none_is_left old new c.clear_each.ensures.same c.clear_each.ensures.empty));
      watched = c.create-self-inside.ensures (flat_map messages new);
    }

pub returns-clause-empty : goal.returns-clause-empty
returns-clause-empty c =
    subst (λ (b : Buffer). record { n = c.self.inside.n; w = c.self.inside.w; early = flat_map messages c.clear_each.new.queues.items } ≡ record { n = b.n; w = b.w; early = [] }) c.self.view_is
    (λ i. record { n = c.self.inside.n; w = c.self.inside.w; early = none_is_left c.self.inside.queues.items c.clear_each.new.queues.items c.clear_each.ensures.same c.clear_each.ensures.empty i })

pub returns-clause-stands : goal.returns-clause-stands
returns-clause-stands c = λ me. subst (IsBufferOf c.args.self.now.w (start c.args.self.now.n me)) (sym (returns-clause-empty c)) (search rules)
