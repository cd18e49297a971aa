-- What contracts see of items: the items in their one order, which of them were touched, and the room for more.
use Rattle.std.specs.Prelude.{List}
use Rattle.std.specs.List.{between}
use Rattle.op_base.specs.declared.outcome.Item.{Item}
use Rattle.stable_state.specs.Shelf.{Shelved}
use Rattle.stable_state.specs.declared.items.Items.{Items}
use Rattle.stable_state.specs.declared.view.ItemSpan.{ItemSpan}

-- items in their order, which of them were touched, and how many more there is room for
abbrev pub shown : Items → Shelved
shown items = items.shelf

-- the items of a span
abbrev pub spanned : ItemSpan → List Item
spanned span = between span.from span.to span.shelf.now.items
