-- Ranks: the first bytes of an item's text as numbers.
use Rattle.std.specs.Prelude.{ℕ, ◌<◌, List, [], ◌∷◌, ◌++◌, Option, unwrap_or, drop, slice_index, IsTrue}
use Rattle.std.specs.Option.{ForSome}
use Rattle.std.specs.Ordering.{ordering_then, nat_cmp}
use Rattle.std.specs.declared.cmp.Ordering.{Ordering}
use Rattle.byteorder.specs.Endian.{big_number}
use Rattle.op_base.specs.Name.{is_key, is_value}
use Rattle.op_base.specs.Object.{kind_place}
use Rattle.op_base.specs.declared.name.ObjectId.{ObjectId}
use Rattle.stable_state.specs.declared.rank.Rank.{Rank}

-- the text of an item of an object and a value: its kind's place, the key, a byte that no key has, and the value
abbrev pub item_text : ObjectId → Option (List ℕ) → List ℕ
item_text object value = kind_place object.kind ∷ object.key ++ 0 ∷ unwrap_or value []

-- the numbers that its first 32 bytes make, the first of them the most worth, with zeros behind a text that is shorter
abbrev pub rank_of : ObjectId → Option (List ℕ) → Rank
rank_of object value = record { first = big_number 16 (item_text object value); second = big_number 16 (drop 16 (item_text object value)) }

-- by the first number, and then by the second
abbrev pub rank_cmp : Rank → Rank → Ordering
rank_cmp rank other = ordering_then (nat_cmp rank.first other.first) (nat_cmp rank.second other.second)

-- the key of an object is valid, and the value, where there is one; and the first bytes of their item's text are below 256
pub record IsNamed (object : ObjectId) (value : Option (List ℕ)) : Type 0 where
  pub key : IsTrue (is_key object.key)
  pub valid : ForSome value (λ v. IsTrue (is_value v))
  pub bytes : (i : ℕ) → i < 32 → slice_index (item_text object value) i < 256
