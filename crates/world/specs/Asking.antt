-- What a call leaves of the journals of nodes beside their notes: their room, and how often they were asked for it.
use Rattle.std.specs.Prelude.{ℕ, ◌+◌, Bool, false, List, [], ◌∷◌, map}
use Rattle.causal_model.specs.Receiving.{is_accepted}
use Rattle.replica_node.specs.Notes.{Notes}
use Rattle.world_model.specs.declared.outcome.Given.{Given}
use Rattle.world_model.specs.declared.outcome.Given.TheVariants as given
use Rattle.world_model.specs.declared.outcome.RawGot.{RawGot}
use Rattle.world_model.specs.declared.outcome.RawGot.TheVariants as raw
use Rattle.world.specs.Shows.{NotedNode}

-- the journals of nodes with their room, in their order
abbrev pub recorders_of : List NotedNode → List Notes
recorders_of nodes = map (λ node. node.journal) nodes

-- how often the journals of nodes were asked for room, all together
abbrev pub asked_of : List NotedNode → ℕ
asked_of [] = 0
asked_of (node ∷ nodes) = node.journal.asked + asked_of nodes

-- whether a message that was given is accepted
abbrev pub is_taken : Given → Bool
is_taken given.Unsent = false
is_taken (given.Got answer) = is_accepted answer

-- whether the message of bytes is accepted
abbrev pub is_taken_raw : RawGot → Bool
is_taken_raw (raw.Bad fault) = false
is_taken_raw (raw.Got answer) = is_accepted answer
is_taken_raw raw.NoMemory = false
