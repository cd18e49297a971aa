-- The end of an epoch, at a settled moment: the members that then are begin anew, with all that was delivered. Epochs are this
-- project's own profile.
use Rattle.std.specs.Prelude.{ℕ, ◌+◌, Bool, true, false, not, ◌&&◌, ◌==◌, nat_lt, [], map, if◌then◌else◌}
use Rattle.std.specs.List.{list_all}
use Rattle.causal_model.specs.Counts.{members}
use Rattle.causal_model.specs.History.{is_all_stable}
use Rattle.causal_model.specs.Journal.{regrouped}
use Rattle.causal_model.specs.State.{State}
use Rattle.world_model.specs.Settling.{is_quiescent}
use Rattle.world_model.specs.World.{PlainWorld, size_of, replica_of, epoch_in}
use Rattle.world_model.specs.declared.outcome.Regroup.{Regroup}
use Rattle.world_model.specs.declared.outcome.Regroup.TheVariants as regroup

-- the last epoch that there can be
abbrev pub last_epoch : ℕ
last_epoch = 65535

-- whether an epoch can end: all replicas have delivered as many messages of each member, and every operation is stable at each
abbrev pub is_at_rest : PlainWorld → Bool
is_at_rest world = is_quiescent world && list_all (λ s. is_all_stable s.history.present) world.replicas

-- member q of the n members of the next epoch: it goes on where it was a member, and begins with what member 0 has else
abbrev pub next_replica : PlainWorld → ℕ → ℕ → State
next_replica world n q = regrouped n q (replica_of world (if nat_lt q (size_of world) then q else 0))

-- the world of the next epoch, in which nothing was sent
abbrev pub next_world : ℕ → PlainWorld → PlainWorld
next_world n world = record { w = world.w; limit = world.limit; replicas = map (next_replica world n) (members n); sent = map (λ q. []) (members n) }

-- changing to n members, and the world after it: it stays in the last epoch, and where its epoch can't end
abbrev pub regroup_at : ℕ → PlainWorld → Regroup × PlainWorld
regroup_at n world =
    if epoch_in world == last_epoch then (regroup.Last, world)
    else if not (is_at_rest world) then (regroup.Unsettled, world)
    else (regroup.Regrouped (epoch_in world + 1), next_world n world)

-- whether an epoch began: memory is wanted only where it does
abbrev pub is_regrouped : Regroup → Bool
is_regrouped (regroup.Regrouped epoch) = true
is_regrouped answer = false
