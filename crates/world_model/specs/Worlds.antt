-- What each command keeps of a plain world: every world that commands lead to is one, and others may be.
use Rattle.std.specs.Prelude.{◌≡◌, ℕ, ◌<◌, ◌≤◌, ◌==◌, List, length, filter, None}
use Rattle.op_base.specs.declared.message.Message.{Message}
use Rattle.causal_model.specs.History.{epoch_of}
use Rattle.causal_model.specs.Receiving.{next_of}
use Rattle.causal_model.specs.State.{State}
use Rattle.causal_model.specs.States.{IsState}
use Rattle.world_model.specs.World.{PlainWorld, size_of, replica_of, sent_by, epoch_in}

-- a state is that of member r of n in an epoch, one that a replica can be in, and no early message can be delivered
pub record IsReplica (n w limit epoch r : ℕ) (s : State) : Type 0 where
  pub is_state : IsState w limit s
  pub of_store : s.history.present.n ≡ n
  pub of_member : s.history.present.me ≡ r
  pub in_epoch : epoch_of s.history ≡ epoch
  pub none_is_next : next_of s ≡ None

-- the own messages of a state, oldest first
abbrev pub own_of : State → List Message
own_of s = filter (λ m. m.origin == s.history.present.me) s.history.present.messages

-- a world of 1 to 16 members, with a window of at least 1 and a limit of at most a million: each replica is its member's,
-- and what a member sent are its own messages
pub record IsWorld (world : PlainWorld) : Type 0 where
  pub some : 1 ≤ size_of world
  pub few : size_of world ≤ 16
  pub wide : 1 ≤ world.w
  pub most : world.limit ≤ 1000000
  pub of_each : length world.sent ≡ size_of world
  pub replicas : (r : ℕ) → r < size_of world → IsReplica (size_of world) world.w world.limit (epoch_in world) r (replica_of world r)
  pub sent : (r : ℕ) → r < size_of world → sent_by world r ≡ own_of (replica_of world r)

-- the world after a command is a world of the same store
pub record KeepsStore (world after : PlainWorld) : Type 0 where
  pub is_world : IsWorld after
  pub w : after.w ≡ world.w
  pub limit : after.limit ≡ world.limit

-- and of the same members, in the same epoch: so is the world after every command but a change of members
pub record KeepsWorld (world after : PlainWorld) : Type 0 where
  pub is_world : IsWorld after
  pub size : size_of after ≡ size_of world
  pub epoch : epoch_in after ≡ epoch_in world
  pub w : after.w ≡ world.w
  pub limit : after.limit ≡ world.limit
