use Rattle.std.proofs.Common.{rules, IsTrue, map}
use Rattle.causal_model.specs.State.{start}
use Rattle.replica_core.specs.Numbers.{are_numbers}
use Rattle.world_model.specs.World.{opening}
use Rattle.world.proofs.Openings.{opened_shows, nodes_of_members, opened_honest}
use Rattle.world.proofs.world.World.create.Goals as goal

pub invariant_of-result : goal.invariant_of-result
invariant_of-result c =
    let numbers : IsTrue (are_numbers 0 c.args.n c.args.w c.args.limit) = search rules in
    record { shows = ∣ (opening c.args.n c.args.w c.args.limit, opened_shows c.args.n c.args.w c.args.limit c.in_ok-nodes.nodes.items (map (λ row. row.items) c.in_ok-sent.sent.items) numbers c.in_ok-nodes.ensures c.in_ok-sent.ensures) ∣₁ }

pub returns-clause-members : goal.returns-clause-members
returns-clause-members c = nodes_of_members (start c.args.n) c.args.w c.args.limit c.args.n c.in_ok-nodes.nodes.items c.in_ok-nodes.ensures

pub returns-clause-opening : goal.returns-clause-opening
returns-clause-opening c =
    let numbers : IsTrue (are_numbers 0 c.args.n c.args.w c.args.limit) = search rules in
    opened_shows c.args.n c.args.w c.args.limit c.in_ok-nodes.nodes.items (map (λ row. row.items) c.in_ok-sent.sent.items) numbers c.in_ok-nodes.ensures c.in_ok-sent.ensures

pub returns-clause-honest : goal.returns-clause-honest
returns-clause-honest c =
    let shows = returns-clause-opening c in
    (opening c.args.n c.args.w c.args.limit, shows, opened_honest c.args.n c.args.w c.args.limit shows.is_world)
