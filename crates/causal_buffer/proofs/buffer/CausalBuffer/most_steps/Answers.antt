use Rattle.std.proofs.Common.{◌≡◌, length, sym, ap, subst, ◌∙◌, arith}
use Rattle.std.specs.List.{flat_map}
use Rattle.causal_buffer.specs.Buffer.{Buffer}
use Rattle.causal_buffer.specs.Queue.{messages, AreKept}
use Rattle.causal_buffer.specs.Watch.{IsWatch}
use Rattle.causal_buffer.proofs.Kept.{few_held, same_are_queues}
use Rattle.causal_buffer.proofs.buffer.CausalBuffer.most_steps.Goals as goal
use Rattle.causal_buffer.proofs.buffer.CausalBuffer.most_steps.Goals.{After-go_on}

-- there is a count for each member
count_of_all : (c : After-go_on) → c.self.inside.n ≡ length c.args.counts.now
count_of_all c = ap (λ (b : Buffer). b.n) c.self.view_is ∙ sym c.requires.counts

pub most_steps-requires-clause-few : goal.most_steps-requires-clause-few
most_steps-requires-clause-few c = omega (arith, few_held c.self.inside.n c.self.inside.w c.self.inside.held c.self.inside.queues.items c.self.inside.watch c.self.invariant)

pub most_steps-requires-clause-kept : goal.most_steps-requires-clause-kept
most_steps-requires-clause-kept c =
    (c.self.inside.w, subst (λ n. AreKept n c.self.inside.w c.self.inside.queues.items) (count_of_all (goal.at.most_steps-requires-clause-kept c).After-go_on) c.self.invariant.kept)

pub most_steps-requires-clause-watch : goal.most_steps-requires-clause-watch
most_steps-requires-clause-watch c =
    c.go_on.ensures.kept (length c.args.counts.now) (flat_map messages c.self.inside.queues.items)
    (subst (λ n. IsWatch n c.self.inside.watch (flat_map messages c.self.inside.queues.items)) (count_of_all (goal.at.most_steps-requires-clause-watch c).After-go_on) c.self.invariant.watched)

pub invariant_of-self : goal.invariant_of-self
invariant_of-self c =
    same_are_queues c.self.inside.n c.self.inside.w c.self.inside.held c.self.inside.queues.items c.self.inside.watch (length c.args.counts.now) c.most_steps.new.queues.items c.most_steps.new.watch c.self.invariant
    (count_of_all (goal.at.invariant_of-self c).After-go_on) c.most_steps.ensures.members c.most_steps.ensures.kept c.most_steps.ensures.same c.most_steps.ensures.watch
