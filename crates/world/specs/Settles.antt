-- What the parts of settling answer and leave.
use Rattle.std.specs.Prelude.{◌≡◌, ◌⊎◌, ℕ, ◌<◌, Bool, true, Result, Ok, Err, fold}
use Rattle.op_base.specs.declared.memory.NoMemory.{NoMemory}
use Rattle.causal_model.specs.Counts.{members}
use Rattle.world_model.specs.World.{PlainWorld, size_of}
use Rattle.world_model.specs.Settling.{Round, after_offer, after_beat, round_of}
use Rattle.world.specs.Midst.{offered_first, IsAmongOffers, IsAmongBeats, rounds_made}

-- a world in a round, and whether something has moved in it
abbrev pub round_at : PlainWorld → Bool → Round
round_at plain moved = record { world = plain; moved = moved }

-- the beats of all replicas, in a round
abbrev pub beats_made : Round → Round
beats_made round = fold after_beat round (members (size_of round.world))

-- the world of a round is left, and whether something has moved in it is answered
pub record StandsIn (round : Round) (moved : Bool) (Leaves : PlainWorld → Type 0) : Type 0 where
  pub moved_is : moved ≡ round.moved
  pub shows : Leaves round.world

-- memory ended at a world that was passed
pub record StopsIn (Passed : PlainWorld → Type 0) (Leaves : PlainWorld → Type 0) : Type 0 where
  pub midst : PlainWorld
  pub passed : Passed midst
  pub shows : Leaves midst

-- a part of a round leads to a round, or memory ends at a world that it passes
abbrev pub LeadsTo : Round → (PlainWorld → Type 0) → Result Bool NoMemory → (PlainWorld → Type 0) → Type 0
LeadsTo after Passed (Ok moved) Leaves = StandsIn after moved Leaves
LeadsTo after Passed (Err none) Leaves = StopsIn Passed Leaves

-- some of member k's outbox was offered to replica r
abbrev pub IsBetween : PlainWorld → ℕ → ℕ → PlainWorld → Type 0
IsBetween plain r k midst = (j : ℕ) × (midst ≡ offered_first j plain r k)

-- the outboxes of the members below one were offered to replica r, and some of that member's
pub record IsAmongOffersTo (round : Round) (r : ℕ) (midst : PlainWorld) : Type 0 where
  pub k : ℕ
  pub j : ℕ
  pub is : midst ≡ offered_first j (fold (after_offer r) round (members k)).world r k

-- the replicas below one made their beats
pub record IsAmongBeatsOf (round : Round) (midst : PlainWorld) : Type 0 where
  pub r : ℕ
  pub below : r < size_of round.world
  pub is : midst ≡ (fold after_beat round (members r)).world

-- a world that a round passes
abbrev pub IsInRound : PlainWorld → PlainWorld → Type 0
IsInRound plain midst = IsAmongOffers plain midst ⊎ IsAmongBeats plain midst

-- so many rounds were made, each of which moved something
pub record AreMade (plain : PlainWorld) (rounds : ℕ) (Leaves : PlainWorld → Type 0) : Type 0 where
  pub moved : (k : ℕ) → k < rounds → (round_of (rounds_made k plain)).moved ≡ true
  pub shows : Leaves (rounds_made rounds plain)
