-- What offering notes: messages that were offered, and their steps.
use Rattle.std.specs.Prelude.{◌≡◌, ℕ, List, ◌++◌, map, All, Contains}
use Rattle.op_base.specs.declared.message.Message.{Message}
use Rattle.causal_model.specs.declared.note.Note.{Note}
use Rattle.causal_model.specs.declared.note.Note.TheVariants.{Sent, Kept, Took, Crook, Regroup}
use Rattle.world.specs.Shows.{NotedNode}

-- the journals of nodes, in their order
abbrev pub journals_of : List NotedNode → List (List Note)
journals_of nodes = map (λ node. node.journal.notes) nodes

-- the window and the limit of a node's store
abbrev pub settings_of : NotedNode → ℕ × ℕ
settings_of node = (node.inner.w, node.inner.limit)

-- a note keeps one of messages, or is of a step
abbrev pub IsOfOffer : List Message → Note → Type 0
IsOfOffer messages (Kept m) = Contains messages m
IsOfOffer messages (Took id) = Unit {0}
IsOfOffer messages (Crook id) = Unit {0}
IsOfOffer messages (Sent m) = ⊥
IsOfOffer messages (Regroup epoch n me) = ⊥

-- notes have more behind them, all of offers of messages
pub record NotesOffers (messages : List Message) (before after : List Note) : Type 0 where
  pub more : List Note
  pub grows : after ≡ before ++ more
  pub of_offers : All (IsOfOffer messages) more
