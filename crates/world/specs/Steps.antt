-- What the nodes of a world are left with by the parts of its calls.
use Rattle.std.specs.Prelude.{◌≡◌, ◌≢◌, ℕ, ◌<◌, false, List, [], ◌++◌, map, take, slice_get, slice_set, IsTrue, Some, Result, Ok, Err, All}
use Rattle.op_base.specs.Message.{id_of, fits}
use Rattle.op_base.specs.declared.memory.NoMemory.{NoMemory}
use Rattle.op_base.specs.declared.message.Message.{Message}
use Rattle.op_base.specs.declared.operation.Update.{Update}
use Rattle.op_base.specs.declared.tag.MessageId.{MessageId}
use Rattle.causal_model.specs.Counts.{members, is_carried}
use Rattle.causal_model.specs.Follows.{Follows}
use Rattle.causal_model.specs.State.{State}
use Rattle.causal_model.specs.Journal.{local_notes, receive_notes}
use Rattle.causal_model.specs.Receiving.{receive_rule}
use Rattle.causal_model.specs.Sending.{is_sent, local_messages, local_rule}
use Rattle.causal_model.specs.declared.note.Note.{Note}
use Rattle.causal_model.specs.declared.outcome.Local.{Local}
use Rattle.causal_model.specs.declared.outcome.Local.TheVariants as local
use Rattle.causal_model.specs.declared.outcome.Receive.{Receive}
use Rattle.causal_model.specs.declared.outcome.Receive.TheVariants as receive
use Rattle.frame_codec.specs.Grammar.{IsFrame, frame_of}
use Rattle.frame_codec.specs.Message.{frame_read}
use Rattle.frame_codec.specs.declared.fault.FrameFault.{FrameFault}
use Rattle.frame_codec.specs.declared.version.Version.TheVariants.{Two}
use Rattle.replica_node.specs.Rules.{noting}
use Rattle.world_model.specs.Offering.{Offered, offered}
use Rattle.world_model.specs.declared.outcome.RawGot.{RawGot}
use Rattle.world_model.specs.declared.outcome.RawGot.TheVariants as raw
use Rattle.world.specs.Growing.{NotesOffers}
use Rattle.world.specs.Shows.{NotedNode, state_of}
use Rattle.world.specs.declared.offering.Offers.{Offers}

-- the nodes of the first members, each of which is in its member's state
pub record AreNodesOf (state_at : ℕ → State) (w limit count : ℕ) (nodes : List NotedNode) : Type 0 where
  pub states : map state_of nodes ≡ map state_at (members count)
  pub windows : All (λ node. node.inner.w ≡ w) nodes
  pub limits : All (λ node. node.inner.limit ≡ limit) nodes

-- so many empty rows
abbrev pub are_empty : ℕ → List (List (List ℕ))
are_empty count = map (λ me. []) (members count)

-- one node is that of the same member and store as another, in the same epoch
pub record SameNode (before new : NotedNode) : Type 0 where
  pub first : new.first ≡ before.first
  pub n : new.inner.n ≡ before.inner.n
  pub w : new.inner.w ≡ before.inner.w
  pub limit : new.inner.limit ≡ before.inner.limit
  pub epoch : new.inner.epoch ≡ before.inner.epoch

-- what sending an update at a node leaves of its notes and of the frames that it sent, where this is the answer
pub record SendsUpdate (update : Update) (before : NotedNode) (frames : List (List ℕ)) (answer : Local) (new : NotedNode) (left : List (List ℕ)) : Type 0 where
  pub answers : Follows (λ (there ns : List Note). there ≡ ns) local.NoMemory is_sent (noting before.first local_notes (local_rule before.inner.w before.inner.limit update)) before.journal.notes answer new.journal.notes
  pub framed : left ≡ frames ++ map (frame_of Two before.inner.n before.inner.epoch) (local_messages answer)
  pub untouched : is_sent answer ≡ false → answer ≢ local.NoMemory → new.journal ≡ before.journal

-- a message of a store that is sent as a frame in an epoch, and its id
pub record IsFrameOf (n epoch limit : ℕ) (given : MessageId) (frame : List ℕ) (m : Message) : Type 0 where
  pub is : IsFrame n epoch limit frame m
  pub id : id_of m ≡ given

-- offering bytes to a node of a store of n members in an epoch, as a rule of its notes
abbrev pub raw_noting_of : ℕ × ℕ → ℕ → List Note → Result Message FrameFault → RawGot × List Note
raw_noting_of first w notes (Ok m) = let made = noting first (receive_notes m) (receive_rule w m) notes in (raw.Got made.0, made.1)
raw_noting_of first w notes (Err fault) = (raw.Bad fault, notes)

abbrev pub raw_noting : ℕ × ℕ → ℕ → ℕ → ℕ → ℕ → List ℕ → List Note → RawGot × List Note
raw_noting first n epoch w limit bytes notes = raw_noting_of first w notes (frame_read n epoch limit bytes)

-- what bytes come to, by what came of their message
abbrev pub raw_got : Receive → RawGot
raw_got receive.NoMemory = raw.NoMemory
raw_got answer = raw.Got answer

-- what has come of offers at a node
abbrev pub offered_at : NotedNode → Offers → Offered
offered_at node made = record { state = state_of node; steps = made.steps.items; kept = made.kept }

-- the first of messages were offered to a node in a state, which is left so
abbrev pub OffersSome : ℕ → State → List Message → NotedNode → Type 0
OffersSome w s messages new = (j : ℕ) × (state_of new ≡ (offered w s (take j messages)).state)

-- the parts of what has come of offers
pub record HasOffered (o : Offered) (made : Offers) : Type 0 where
  pub steps : made.steps.items ≡ o.steps
  pub kept : made.kept ≡ o.kept

-- the outbox of a node at place k can be offered to the one at place r: its messages are member k's, of the store
pub record CanBeOffered (nodes : List NotedNode) (r k : ℕ) : Type 0 where
  pub node : NotedNode
  pub other : NotedNode
  pub is_node : slice_get nodes r ≡ Some node
  pub is_other : slice_get nodes k ≡ Some other
  pub of_store : k < node.inner.n
  pub own : All (λ m. m.origin ≡ k) other.inner.outbox.messages
  pub fit : All (λ m. IsTrue (fits node.inner.n m)) other.inner.outbox.messages
  pub carried : All (λ m. IsTrue (is_carried node.inner.limit m)) other.inner.outbox.messages

-- what offering messages to a node leaves of it: all were offered, or memory ended after the first of them
abbrev pub OffersTo : NotedNode → List Message → Result Offers NoMemory → NotedNode → Type 0
OffersTo node messages (Ok made) new = SameNode node new × (offered_at new made ≡ offered node.inner.w (state_of node) messages)
OffersTo node messages (Err e) new = SameNode node new × OffersSome node.inner.w (state_of node) messages new

-- what offering the outbox of the node at place k to the one at place r leaves of the nodes: the other node alone changes, and
-- notes these offers
pub record OffersBetween (nodes : List NotedNode) (r k : ℕ) (result : Result Offers NoMemory) (left : List NotedNode) : Type 0 where
  pub new : NotedNode
  pub are : left ≡ slice_set nodes r new
  pub each : (node other : NotedNode) → slice_get nodes r ≡ Some node → slice_get nodes k ≡ Some other → OffersTo node other.inner.outbox.messages result new
  pub notes : (node other : NotedNode) → slice_get nodes r ≡ Some node → slice_get nodes k ≡ Some other → NotesOffers other.inner.outbox.messages node.journal.notes new.journal.notes
