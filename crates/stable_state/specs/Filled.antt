-- Items that have a mark or a sum, and those that have neither and so are as none.
use Rattle.std.specs.Prelude.{ℕ, not, List, filter, length}
use Rattle.op_base.specs.declared.outcome.Item.{Item}
use Rattle.causal_model.specs.Items.{is_filled}

-- the items that have a mark or a sum
abbrev pub filled_of : List Item → List Item
filled_of items = filter (λ item. is_filled item.cell) items

-- how many items have neither a mark nor a sum
abbrev pub empties : List Item → ℕ
empties items = length (filter (λ item. not (is_filled item.cell)) items)
