-- That memory was taken for all that a message will make of a replica's fields.
use Rattle.std.specs.Prelude.{◌≡◌, ℕ, ◌+◌, ◌≤◌, false, length, Vec, vec_capacity, IsTrue}
use Rattle.std.specs.declared.alloc.Global.{Global}
use Rattle.op_base.specs.CopyRooms.{IsCopyRoomFor}
use Rattle.op_base.specs.Message.{fits}
use Rattle.op_base.specs.declared.message.Message.{Message}
use Rattle.op_base.specs.declared.outcome.Step.{Step}
use Rattle.op_base.specs.declared.room.CopyRoom.{CopyRoom}
use Rattle.causal_model.specs.Counts.{is_carried}
use Rattle.causal_model.specs.Early.{is_again}
use Rattle.causal_model.specs.Receiving.{is_old, is_far, with_early, steps}
use Rattle.causal_model.specs.State.{State, with_own}
use Rattle.causal_model.specs.States.{IsState}
use Rattle.list_type.specs.Shown.{shown as lists_shown}
use Rattle.stable_state.specs.Shown.{shown}
use Rattle.replica_core.specs.Insertions.{insertions, element_room}
use Rattle.replica_core.specs.Rules.{StandsFor}
use Rattle.replica_core.specs.declared.replica.Replica.{Replica}

-- the items and lists have room for what a message, each early one and each entry of the log can make of them
pub record HasRoomFor (r : Replica) (m : Message) : Type 0 where
  pub items : length r.log.entries + length r.buffer.early + 1 ≤ (shown r.items).spare
  pub lists : insertions r.buffer.early + element_room m.op ≤ (lists_shown r.lists).spare

-- an own message can be the next of some state that the fields stand for, and there is room for it, and for its copy that is sent
-- again
pub record IsReadyToCommit (r : Replica) (m : Message) (taken : CopyRoom) : Type 0 where
  pub next : ∥ ((s : State) × StandsFor r s × IsState r.w r.limit (with_own s m)) ∥₁
  pub own : m.origin ≡ r.me
  pub copy : IsCopyRoomFor taken m.op
  pub room : HasRoomFor r m

-- a message of the store is neither old nor early already nor far, and the items and lists have room for it
pub record CanBeAccepted (r : Replica) (m : Message) : Type 0 where
  pub fits : IsTrue (fits r.n m)
  pub carried : IsTrue (is_carried r.limit m)
  pub new : is_old r.me r.counts m ≡ false
  pub apart : is_again r.buffer.early m ≡ false
  pub near : is_far r.buffer.n r.buffer.w r.me r.counts m ≡ false
  pub room : HasRoomFor r m

-- it can be accepted, and behind other steps there is room for those that are made once it is early, of which there are so many at
-- most
pub record IsReadyToAccept (r : Replica) (m : Message) (most : ℕ) (taken : Vec Step Global) : Type 0 where
  pub message : CanBeAccepted r m
  pub made : (s : State) → StandsFor r s → length (steps r.w (with_early s m)).0 ≤ most
  pub behind : length taken.items + most ≤ vec_capacity taken
