-- Where a world stands when memory ends in the midst of settling: after the first of the offers and beats that are made.
use Rattle.std.specs.Prelude.{◌≡◌, ◌⊎◌, ℕ, zero, suc, ◌<◌, IsTrue, false, fold, take}
use Rattle.causal_model.specs.Counts.{members}
use Rattle.world_model.specs.World.{PlainWorld, size_of, replica_of, with_state}
use Rattle.world_model.specs.Offering.{offered, outbox_in}
use Rattle.world_model.specs.Settling.{Round, after_offer, after_offers, after_beat, offers_made, round_of}

-- the world once the first j messages of member k's outbox were offered to replica r
abbrev pub offered_first : ℕ → PlainWorld → ℕ → ℕ → PlainWorld
offered_first j world r k = with_state world r (offered world.w (replica_of world r) (take j (outbox_in (replica_of world k)))).state

-- a round in which all was offered to the replicas below r, and the outboxes of the members below k to replica r
abbrev pub offers_before : PlainWorld → ℕ → ℕ → Round
offers_before world r k = fold (after_offer r) (fold after_offers (record { world = world; moved = false }) (members r)) (members k)

-- a world is one that the round of another passes through while it offers
pub record IsAmongOffers (world midst : PlainWorld) : Type 0 where
  pub r : ℕ
  pub k : ℕ
  pub j : ℕ
  pub below : r < size_of world
  pub is : midst ≡ offered_first j (offers_before world r k).world r k

-- or while its replicas make their beats
pub record IsAmongBeats (world midst : PlainWorld) : Type 0 where
  pub r : ℕ
  pub below : r < size_of world
  pub is : midst ≡ (fold after_beat (offers_made world) (members r)).world

-- the world after so many rounds
abbrev pub rounds_made : ℕ → PlainWorld → PlainWorld
rounds_made zero world = world
rounds_made (suc k) world = (round_of (rounds_made k world)).world

-- a world is one that settling passes through: some rounds moved something, and it stands in the next
pub record IsInSettling (world midst : PlainWorld) : Type 0 where
  pub rounds : ℕ
  pub moved : (k : ℕ) → k < rounds → IsTrue (round_of (rounds_made k world)).moved
  pub is : IsAmongOffers (rounds_made rounds world) midst ⊎ IsAmongBeats (rounds_made rounds world) midst
