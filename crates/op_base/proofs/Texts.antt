-- An object is read from its own text, and names are UTF-8.
use Rattle.std.proofs.Common.{◌≡◌, ℕ, zero, suc, ◌<◌, List, [], ◌∷◌, IsTrue, true, arith}
use Rattle.std.specs.List.{list_all}
use Rattle.std.specs.Str.{IsAscii, IsUtf8}
use Rattle.std.proofs.lemmas.Bool.{cond-true, and_parts}
use Rattle.std.proofs.lemmas.Str.{IsUtf8-from_ascii, IsUtf8-from_is_utf8}
use Rattle.op_base.specs.Name.{is_key, is_key_byte, is_value}
use Rattle.op_base.specs.declared.name.Kind.TheVariants.{AwSet, RwSet, EwFlag, DwFlag, MvReg, Counter, RCounter}
use Rattle.op_base.specs.declared.name.Kind.TheVariants as kinds
use Rattle.op_base.specs.Laws.{ObjectsHaveTheirText}

pub object_from_text : ObjectsHaveTheirText
object_from_text AwSet key h = cond-true _ _ _ h
object_from_text RwSet key h = cond-true _ _ _ h
object_from_text EwFlag key h = cond-true _ _ _ h
object_from_text DwFlag key h = cond-true _ _ _ h
object_from_text MvReg key h = cond-true _ _ _ h
object_from_text Counter key h = cond-true _ _ _ h
object_from_text RCounter key h = cond-true _ _ _ h
object_from_text kinds.List key h = cond-true _ _ _ h

-- a key's bytes are ASCII
key_byte_is_ascii : (b : ℕ) → is_key_byte b ≡ true → b < 128
key_byte_is_ascii b t = grind arith

keys_are_ascii : (bs : List ℕ) → list_all is_key_byte bs ≡ true → IsAscii bs
keys_are_ascii [] t i = omega arith
keys_are_ascii (b ∷ bs) t zero = key_byte_is_ascii b (and_parts _ _ t).0
keys_are_ascii (b ∷ bs) t (suc i) = keys_are_ascii bs (and_parts _ _ t).1 i

-- so keys are UTF-8, as values are
pub key_is_utf8 : (bs : List ℕ) → IsTrue (is_key bs) → IsUtf8 bs
key_is_utf8 bs t = IsUtf8-from_ascii bs (keys_are_ascii bs (and_parts _ _ t).1)

pub value_is_utf8 : (bs : List ℕ) → IsTrue (is_value bs) → IsUtf8 bs
value_is_utf8 bs t = IsUtf8-from_is_utf8 bs (and_parts _ _ t).1
