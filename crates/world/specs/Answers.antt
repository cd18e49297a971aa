-- Which plain world a world shows, and which it shows where memory ends in the midst of offering an outbox; and when its journals
-- have grown, at nodes of the same members.
use Rattle.std.specs.Prelude.{◌≡◌, ℕ, map}
use Rattle.world_model.specs.World.{PlainWorld}
use Rattle.world.specs.Growing.{journals_of, settings_of}
use Rattle.world_model.specs.Journals.{HaveGrown}
use Rattle.world.specs.Midst.{offered_first}
use Rattle.world.specs.Shows.{Shows}
use Rattle.world.specs.declared.world.World.{World}

-- a world shows a plain world
abbrev pub ShowsPlain : World → PlainWorld → Type 0
ShowsPlain world plain = Shows world.nodes.items (map (λ row. row.items) world.sent.items) plain

-- the first messages of member k's outbox were offered to replica r
abbrev pub IsAfterSome : ℕ → ℕ → PlainWorld → PlainWorld → Type 0
IsAfterSome r k plain midst = (count : ℕ) × (midst ≡ offered_first count plain r k)

-- the journals of a world have more notes, while no update was sent, and its nodes are those of the same members in the same store
pub record HasGrown (old new : World) : Type 0 where
  pub journals : HaveGrown (journals_of old.nodes.items) (journals_of new.nodes.items)
  pub firsts : map (λ node. node.first) new.nodes.items ≡ map (λ node. node.first) old.nodes.items
  pub settings : map settings_of new.nodes.items ≡ map settings_of old.nodes.items
