-- How members begin the next epoch, and what of nodes it needs.
use Rattle.std.specs.Prelude.{◌≡◌, ℕ, ◌+◌, ◌-◌, ◌<◌, ◌≤◌, ◌^◌, nat_lt, List, [], ◌∷◌, ◌++◌, IsTrue, length, if◌then◌else◌}
use Rattle.std.specs.List.{slice_index_or}
use Rattle.causal_model.specs.History.{is_all_stable}
use Rattle.causal_model.specs.Journal.{regrouped}
use Rattle.causal_model.specs.State.{State}
use Rattle.causal_model.specs.declared.note.Note.{Note}
use Rattle.causal_model.specs.declared.note.Note.TheVariants as note
use Rattle.replica_core.specs.Numbers.{are_numbers}
use Rattle.replica_core.specs.Rooms.{IsRoomFor}
use Rattle.replica_core.specs.Rules.{StandsFor}
use Rattle.replica_core.specs.declared.epochs.EpochRoom.{EpochRoom}
use Rattle.replica_core.specs.declared.replica.Replica.{Replica}
use Rattle.world_model.specs.Journals.{journal_of}
use Rattle.world_model.specs.declared.outcome.Regroup.{Regroup}
use Rattle.world_model.specs.declared.outcome.Regroup.TheVariants as regroup
use Rattle.world.specs.Shows.{NotedNode, state_of}
use Rattle.world.specs.declared.regrouping.Entrant.{Entrant}
use Rattle.world.specs.declared.regrouping.Entrant.TheVariants as entrant

-- every operation of the epoch is stable at a node, and its epoch isn't the last
abbrev pub IsSettled : NotedNode → Type 0
IsSettled node = (s : State) → StandsFor node.inner s → IsTrue (is_all_stable s.history.present)

abbrev pub IsEarly : NotedNode → Type 0
IsEarly node = node.inner.epoch < 65535

-- a node has room for one note more
pub record IsReady (node : NotedNode) : Type 0 where
  pub room : 1 ≤ node.journal.spare
  pub few : length node.journal.notes + 1 < 2 ^ 63

-- a node is as it was, but for its room
pub record IsAsBefore (before after : NotedNode) : Type 0 where
  pub inner : after.inner ≡ before.inner
  pub first : after.first ≡ before.first
  pub notes : after.journal.notes ≡ before.journal.notes

pub record AreAsBefore (before after : List NotedNode) : Type 0 where
  pub count : length after ≡ length before
  pub each : (q : ℕ) (d : NotedNode) → q < length before → IsAsBefore (slice_index_or before q d) (slice_index_or after q d)

-- a node is the next epoch's of member q of n: it has what the end of the epoch makes of a node's state, and notes it behind what
-- that node noted
pub record IsNextNode (n q : ℕ) (node next : NotedNode) : Type 0 where
  pub state : state_of next ≡ regrouped n q (state_of node)
  pub w : next.inner.w ≡ node.inner.w
  pub limit : next.inner.limit ≡ node.inner.limit
  pub noted : next.journal.notes ≡ node.journal.notes ++ note.Regroup (node.inner.epoch + 1) n q ∷ []

-- a replica can begin the next epoch in a room: it can end, and the room is one for it
pub record CanTurn (r : Replica) (room : EpochRoom) : Type 0 where
  pub numbers : IsTrue (are_numbers room.me room.n r.w r.limit)
  pub settled : (s : State) → StandsFor r s → IsTrue (is_all_stable s.history.present)
  pub early : r.epoch < 65535
  pub empty : IsRoomFor r.n room.me room.n r.w room

-- the node at place q can go on in a room, as member q of n
pub record CanGoOn (n q : ℕ) (nodes : List NotedNode) (room : EpochRoom) : Type 0 where
  pub low : q < length nodes
  pub me : room.me ≡ q
  pub n_is : room.n ≡ n
  pub turns : (d : NotedNode) → CanTurn (slice_index_or nodes q d).inner room

-- how member q of n begins: its node goes on; or it is new, and its node begins with what member 0 has
abbrev pub IsEntrant : ℕ → List NotedNode → ℕ → Entrant → Type 0
IsEntrant n nodes q (entrant.Stays room) = CanGoOn n q nodes room
IsEntrant n nodes q (entrant.Comes next) = (length nodes ≤ q) × ((d : NotedNode) → IsNextNode n q (slice_index_or nodes 0 d) next)

-- how the last so many of n members begin, the last first
pub record AreEntrants (n : ℕ) (nodes : List NotedNode) (count : ℕ) (entrants : List Entrant) : Type 0 where
  pub count_is : length entrants ≡ count
  pub each : (i : ℕ) (d : Entrant) → i < count → IsEntrant n nodes (n - 1 - i) (slice_index_or entrants i d)

-- with the node of which place member q begins, where there are so many
abbrev pub place_for : ℕ → ℕ → ℕ
place_for size q = if nat_lt q size then q else 0

-- the first members of n have their next nodes
abbrev pub HaveEntered : ℕ → List NotedNode → ℕ → List NotedNode → Type 0
HaveEntered n before count after = (q : ℕ) (d e : NotedNode) → q < count → IsNextNode n q (slice_index_or before (place_for (length before) q) d) (slice_index_or after q e)

-- all of them
pub record AreNext (n : ℕ) (before after : List NotedNode) : Type 0 where
  pub count : length after ≡ n
  pub each : HaveEntered n before n after

-- the journals of n members that began an epoch: each is that of its node, a new member's that of member 0's, with one note more
pub record HaveRegrouped (n epoch : ℕ) (old new : List (List Note)) : Type 0 where
  pub count : length new ≡ n
  pub each : (q : ℕ) → q < n → journal_of new q ≡ journal_of old (place_for (length old) q) ++ note.Regroup epoch n q ∷ []

-- what a change to n members leaves of journals: they tell the epoch that began, or are as they were
abbrev pub RegroupsJournals : ℕ → List (List Note) → Regroup → List (List Note) → Type 0
RegroupsJournals n old (regroup.Regrouped epoch) new = HaveRegrouped n epoch old new
RegroupsJournals n old answer new = new ≡ old

-- a member can enter at a place: its node has room there, and can go on; or a node comes behind the others
abbrev pub CanEnter : List NotedNode → ℕ → Entrant → Type 0
CanEnter nodes q (entrant.Stays room) = (q < length nodes) × ((d : NotedNode) → let node = slice_index_or nodes q d in IsReady node × CanTurn node.inner room)
CanEnter nodes q (entrant.Comes next) = length nodes ≡ q

-- its node is then this
abbrev pub EntersAs : List NotedNode → ℕ → Entrant → NotedNode → Type 0
EntersAs nodes q (entrant.Stays room) next = (d : NotedNode) → IsNextNode room.n room.me (slice_index_or nodes q d) next
EntersAs nodes q (entrant.Comes node) next = next ≡ node

-- how many nodes there then are
abbrev pub count_with : ℕ → Entrant → ℕ
count_with count (entrant.Stays room) = count
count_with count (entrant.Comes node) = count + 1
