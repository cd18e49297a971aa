-- What rows end as where a `&mut` to a value is lent.
use Rattle.std.specs.Prelude.{ℕ}
use Rattle.std.specs.Borrow.{Lends, Fml, RattleType, MutBor}
use Rattle.list_type.specs.Chained.{Chained, rows_with}
use Rattle.list_type.specs.contracts.chain.Chains.{the_row}
use Rattle.list_type.specs.contracts.chain.Slot.{the_row as slot_row}
use Rattle.list_type.specs.declared.chain.Slot.{Slot}

module _ (T : RattleType) where
  -- the rows with another value in a slot
  abbrev pub with_value_in : Chained T.Denot → ℕ → T.Denot → Chained T.Denot
  with_value_in s slot value = record s { rows = rows_with s.rows slot value }

  -- once the borrow r ends, the slot has the last value written through r
  abbrev pub LendsValue : MutBor (Chained T.Denot) → ℕ → MutBor T.Denot → Fml
  LendsValue s slot r = Lends (the_row T) T s r (with_value_in s.now slot)

  -- a slot with another value
  abbrev pub with_content : Slot T.Denot → T.Denot → Slot T.Denot
  with_content slot value = record slot { value = value }

  abbrev pub LendsContent : MutBor (Slot T.Denot) → MutBor T.Denot → Fml
  LendsContent s r = Lends (slot_row T) T s r (with_content s.now)
