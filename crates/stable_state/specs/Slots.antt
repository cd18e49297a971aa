-- Items in slots, and lists of slots.
use Rattle.std.specs.Prelude.{◌≡◌, ℕ, ◌≤◌, false, List, [], map, length, None, unwrap_or, pos, All}
use Rattle.op_base.specs.declared.name.Kind.TheVariants.{AwSet}
use Rattle.op_base.specs.declared.outcome.Item.{Item}
use Rattle.causal_model.specs.Items.{Rise}
use Rattle.slab.specs.Slab.{Slab, get, ContainsKey, slab_len}

-- what stands for the item of a slot that has none
abbrev pub no_item : Item
no_item = record { object = record { kind = AwSet; key = [] }; value = None; cell = record { on = false; off = false; sum = pos 0 } }

-- the item in a slot
abbrev pub item_in : Slab Item → ℕ → Item
item_in slots slot = unwrap_or (get slots slot) no_item

-- the items in slots
abbrev pub items_in : Slab Item → List ℕ → List Item
items_in slots = map (item_in slots)

-- the order has each slot with an item, and these rise
pub record IsOrdered (slots : Slab Item) (order : List ℕ) : Type 0 where
  pub held : All (λ slot. ContainsKey slots slot) order
  pub counted : slab_len slots ≡ length order
  pub fits : slab_len slots ≤ slots.capacity
  pub rise : Rise (items_in slots order)

-- the items in the slots of an order stand in all slots of another, in the same order
pub record AreCopied (from : Slab Item) (order : List ℕ) (into : Slab Item) (copied : List ℕ) : Type 0 where
  pub items : items_in into copied ≡ items_in from order
  pub held : All (λ slot. ContainsKey into slot) copied
  pub counted : slab_len into ≡ length copied
