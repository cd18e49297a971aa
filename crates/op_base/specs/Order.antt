-- The order in which items stand.
use Rattle.std.specs.Prelude.{ℕ, List, Option}
use Rattle.std.specs.declared.cmp.Ordering.{Ordering}
use Rattle.std.specs.Ordering.{ordering_then, nat_cmp}
use Rattle.std.specs.Option.{option_cmp}
use Rattle.std.specs.Cmp.Lexicographic.{slice_cmp}
use Rattle.op_base.specs.Object.{kind_place}
use Rattle.op_base.specs.declared.name.ObjectId.{ObjectId}

-- byte by byte, and a text before each that it begins
abbrev pub text_cmp : List ℕ → List ℕ → Ordering
text_cmp = slice_cmp nat_cmp

-- by kind, then by the bytes of the key
abbrev pub object_cmp : ObjectId → ObjectId → Ordering
object_cmp object other = ordering_then (nat_cmp (kind_place object.kind) (kind_place other.kind)) (text_cmp object.key other.key)

-- by object, then no value before any value, then by the bytes of the value
abbrev pub item_cmp : ObjectId → Option (List ℕ) → ObjectId → Option (List ℕ) → Ordering
item_cmp object value other other_value = ordering_then (object_cmp object other) (option_cmp text_cmp value other_value)
