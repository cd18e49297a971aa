-- A value's fields: its bytes in place, or in an allocation.
use Rattle.std.specs.Prelude.{ℕ, ◌<◌, List, length, take, IsTrue}
use Rattle.op_base.specs.Name.{is_value}
use Rattle.op_base.specs.Zeros.{HasZerosBehind}
use Rattle.op_base.specs.declared.name.Short.{Short}
use Rattle.op_base.specs.declared.name.Stored.{Stored}
use Rattle.op_base.specs.declared.name.Stored.TheVariants as stored
use Rattle.op_base.specs.declared.name.TheConstants.{VALUE_BYTES_IN_PLACE}

-- the bytes of a short text
abbrev pub text_of : Short → List ℕ
text_of short = take short.len short.bytes

-- the bytes of a value
abbrev pub bytes_of : Stored → List ℕ
bytes_of (stored.Short short) = text_of short
bytes_of (stored.Long bytes) = bytes.items

-- they are a value. In place there are zeros behind them, and they stand in an allocation only where they have no room in place
abbrev pub IsKept : Stored → Type 0
IsKept (stored.Short short) = IsTrue (is_value (text_of short)) × HasZerosBehind VALUE_BYTES_IN_PLACE short.len short.bytes
IsKept (stored.Long bytes) = IsTrue (is_value bytes.items) × (VALUE_BYTES_IN_PLACE < length bytes.items)
