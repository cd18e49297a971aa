-- Settling: rounds in which every outbox is offered to every other replica and every replica makes a beat, until a round
-- moves nothing.
use Rattle.std.specs.Prelude.{ℕ, zero, suc, ◌+◌, ◌*◌, Bool, true, false, ◌||◌, ◌==◌, nat_eq, fold, if◌then◌else◌}
use Rattle.std.specs.List.{list_any, list_all}
use Rattle.std.specs.Cmp.Lexicographic.{pointwise}
use Rattle.op_base.specs.declared.outcome.Step.{Step}
use Rattle.op_base.specs.declared.outcome.Step.TheVariants as step
use Rattle.causal_model.specs.Counts.{members}
use Rattle.causal_model.specs.State.{counted}
use Rattle.causal_model.specs.declared.outcome.Beat.{Beat}
use Rattle.causal_model.specs.declared.outcome.Beat.TheVariants as beat
use Rattle.world_model.specs.World.{PlainWorld, size_of, replica_of, with_state, with_sent, beat_at}
use Rattle.world_model.specs.Offering.{Offered, offered_between}
use Rattle.world_model.specs.declared.outcome.Settle.{Settle}
use Rattle.world_model.specs.declared.outcome.Settle.TheVariants as settle

-- a world in the midst of a round, and whether a message was delivered or a no-op sent in it
pub record Round : Type 0 where
  pub world : PlainWorld
  pub moved : Bool

-- whether a step delivers a message
abbrev pub is_delivery : Step → Bool
is_delivery (step.Took id) = true
is_delivery (step.Crook id cause) = false

-- replica r was offered what another has sent
abbrev pub with_offered : Round → ℕ → Offered → Round
with_offered round r o = record { world = with_state round.world r o.state; moved = round.moved || list_any is_delivery o.steps }

-- the outbox of member k is offered to replica r, unless they are one
abbrev pub after_offer : ℕ → Round → ℕ → Round
after_offer r round k = if r == k then round else with_offered round r (offered_between round.world r k)

-- the outboxes of all others, members upwards
abbrev pub after_offers : Round → ℕ → Round
after_offers round r = fold (after_offer r) round (members (size_of round.world))

-- a replica made a beat
abbrev pub with_beat : Round → ℕ → Beat → Round
with_beat round r (beat.Sent m) = record { world = with_sent round.world r m; moved = true }
with_beat round r answer = round

abbrev pub after_beat : Round → ℕ → Round
after_beat round r = with_beat round r (beat_at r round.world).0

-- a round: to each replica upwards all other outboxes are offered, and then each makes a beat
abbrev pub offers_made : PlainWorld → Round
offers_made world = fold after_offers (record { world = world; moved = false }) (members (size_of world))

abbrev pub round_of : PlainWorld → Round
round_of world = fold after_beat (offers_made world) (members (size_of world))

-- at most so many rounds, until one moves nothing
abbrev pub rounds_within : ℕ → PlainWorld → PlainWorld
rounds_within zero world = world
rounds_within (suc most) world =
    if (round_of world).moved then rounds_within most (round_of world).world else (round_of world).world

-- A round that moves has one message more in some history, and a replica delivers at most the limit of each member: so
-- there are at most so many rounds, the last of which moves nothing.
abbrev pub most_rounds : PlainWorld → ℕ
most_rounds world = size_of world * (size_of world * world.limit) + 1

abbrev pub world_settled : PlainWorld → PlainWorld
world_settled world = rounds_within (most_rounds world) world

-- whether all replicas have delivered as many messages of each member
abbrev pub is_quiescent : PlainWorld → Bool
is_quiescent world = list_all (λ s. pointwise nat_eq (counted s.history) (counted (replica_of world 0).history)) world.replicas

-- settling: whether the world then is so, and that world
abbrev pub settle_at : PlainWorld → Settle × PlainWorld
settle_at world = let after = world_settled world in (if is_quiescent after then settle.Settled else settle.Unsettled, after)
