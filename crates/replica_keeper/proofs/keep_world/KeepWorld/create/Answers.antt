use Rattle.std.proofs.Common.{rules, IsTrue, map, refl}
use Rattle.replica_core.specs.Numbers.{are_numbers}
use Rattle.world_model.specs.Stops.{keep_opening}
use Rattle.replica_keeper.proofs.KeepStops.{opening_keep}
use Rattle.replica_keeper.proofs.keep_world.KeepWorld.create.Goals as goal

pub invariant_of-result : goal.invariant_of-result
invariant_of-result c =
    let numbers : IsTrue (are_numbers 0 c.args.n c.args.w c.args.limit) = search rules in
    record { shows = λ _. ∣ (keep_opening c.args.n c.args.w c.args.limit, opening_keep c.args.n c.args.w c.args.limit c.in_ok-replicas.replicas.items (map (λ row. row.items) c.in_ok-sent.sent.items) numbers c.in_ok-replicas.ensures c.in_ok-sent.ensures) ∣₁ }

pub returns-clause-members : goal.returns-clause-members
returns-clause-members c = c.in_ok-replicas.ensures.count_is

pub returns-clause-opening : goal.returns-clause-opening
returns-clause-opening c =
    let numbers : IsTrue (are_numbers 0 c.args.n c.args.w c.args.limit) = search rules in
    record { goes_on = refl; shows = opening_keep c.args.n c.args.w c.args.limit c.in_ok-replicas.replicas.items (map (λ row. row.items) c.in_ok-sent.sent.items) numbers c.in_ok-replicas.ensures c.in_ok-sent.ensures }
