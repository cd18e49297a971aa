use Rattle.std.proofs.Common.{◌≡◌, ℕ, true, sym, ap, ◌∙◌, arith}
use Rattle.std.specs.List.{find, flat_map}
use Rattle.std.specs.Option.{is_some, option_map}
use Rattle.op_base.specs.Message.{id_of}
use Rattle.causal_model.specs.Counts.{is_deliverable}
use Rattle.causal_buffer.specs.Buffer.{Buffer}
use Rattle.causal_buffer.specs.Queue.{messages, is_ready}
use Rattle.causal_buffer.proofs.Kept.{some_mapped, next_is_lowest, none_is_next}
use Rattle.causal_buffer.proofs.Standing.{is_next_in_state}
use Rattle.causal_buffer.proofs.buffer.CausalBuffer.next.Goals as goal

pub returns-in-Some-clause-next : goal.returns-in-Some-clause-next
returns-in-Some-clause-next c =
    let qs = c.self.inside.queues.items in
    let counts = c.args.counts.now in
    let x = c.loop-member.member in
    let seen = λ (k : ℕ). ap (λ (b : Buffer). find (is_ready b.n counts k) b.early) c.self.view_is in
    let ready = c.in-Some.ensures.ready in
    let some : is_some (find (is_ready c.self.inside.n counts x) (flat_map messages qs)) ≡ true = ap is_some (seen x) ∙ some_mapped id_of (find (is_ready c.args.self.now.n counts x) c.args.self.now.early) c.in-Some.id ready in
    let lowest = next_is_lowest c.self.inside.n c.self.inside.w qs c.self.invariant.kept counts x (omega (arith, c.self.invariant.count)) (λ k l. seen k ∙ c.loop-member.invariant k l) some in
    ready ∙ sym (ap (option_map id_of) (ap (λ (b : Buffer). find (is_deliverable b.n counts) b.early) (sym c.self.view_is) ∙ lowest ∙ seen x))

pub returns-in-Some-clause-in_state : goal.returns-in-Some-clause-in_state
returns-in-Some-clause-in_state c = is_next_in_state c.args.counts.now c.args.self.now _ (returns-in-Some-clause-next c)

pub returns-clause-next : goal.returns-clause-next
returns-clause-next c =
    let counts = c.args.counts.now in
    let seen = λ (k : ℕ). ap (λ (b : Buffer). find (is_ready b.n counts k) b.early) c.self.view_is in
    let none = none_is_next c.self.inside.n c.self.inside.w c.self.inside.queues.items c.self.invariant.kept counts (λ k l. seen k ∙ c.loop-member.invariant k (omega (arith, l, c.self.invariant.count))) in
    sym (ap (option_map id_of) (ap (λ (b : Buffer). find (is_deliverable b.n counts) b.early) (sym c.self.view_is) ∙ none))

pub returns-clause-in_state : goal.returns-clause-in_state
returns-clause-in_state c = is_next_in_state c.args.counts.now c.args.self.now _ (returns-clause-next c)
