use Rattle.std.proofs.Common.{◌≡◌, length, sym, ap, subst, ◌∙◌}
use Rattle.std.specs.List.{flat_map}
use Rattle.causal_buffer.specs.Buffer.{Buffer}
use Rattle.causal_buffer.specs.Queue.{messages, AreKept}
use Rattle.causal_buffer.specs.Watch.{IsWatch}
use Rattle.causal_buffer.proofs.Kept.{same_are_queues}
use Rattle.causal_buffer.proofs.buffer.CausalBuffer.ready_below.Goals as goal
use Rattle.causal_buffer.proofs.buffer.CausalBuffer.ready_below.Goals.{After-go_on}

-- there is a count for each member
count_of_all : (c : After-go_on) → c.self.inside.n ≡ length c.args.counts.now
count_of_all c = ap (λ (b : Buffer). b.n) c.self.view_is ∙ sym c.requires.counts

pub first_ready-requires-clause-kept : goal.first_ready-requires-clause-kept
first_ready-requires-clause-kept c =
    (c.self.inside.w, subst (λ n. AreKept n c.self.inside.w c.self.inside.queues.items) (count_of_all (goal.at.first_ready-requires-clause-kept c).After-go_on) c.self.invariant.kept)

pub first_ready-requires-clause-watch : goal.first_ready-requires-clause-watch
first_ready-requires-clause-watch c =
    c.go_on.ensures.kept (length c.args.counts.now) (flat_map messages c.self.inside.queues.items)
    (subst (λ n. IsWatch n c.self.inside.watch (flat_map messages c.self.inside.queues.items)) (count_of_all (goal.at.first_ready-requires-clause-watch c).After-go_on) c.self.invariant.watched)

pub invariant_of-self : goal.invariant_of-self
invariant_of-self c =
    same_are_queues c.self.inside.n c.self.inside.w c.self.inside.held c.self.inside.queues.items c.self.inside.watch (length c.args.counts.now) c.first_ready.new.queues.items c.first_ready.new.watch c.self.invariant
    (count_of_all (goal.at.invariant_of-self c).After-go_on) c.first_ready.ensures.members c.first_ready.ensures.kept c.first_ready.ensures.same c.first_ready.ensures.watch
