-- What the texts of keys, values and objects are, and which refusal a text that is none of them gets.
use Rattle.std.specs.Prelude.{◌≡◌, ℕ, Bool, not, ◌||◌, ◌&&◌, ◌==◌, nat_eq, nat_lt, nat_le, List, [], ◌∷◌, length, Option, Some, None, Result, Err, IsOkUnless, is_some, position, codes, if◌then◌else◌}
use Rattle.std.specs.List.{list_all, find, before_first, after_first}
use Rattle.std.specs.Option.{option_map}
use Rattle.std.specs.Cmp.Lexicographic.{pointwise}
use Rattle.std.specs.Str.{is_utf8}
use Rattle.op_base.specs.declared.name.Kind.{Kind}
use Rattle.op_base.specs.declared.name.Kind.TheVariants.{AwSet, RwSet, EwFlag, DwFlag, MvReg, Counter, RCounter}
use Rattle.op_base.specs.declared.name.Kind.TheVariants as kind
use Rattle.op_base.specs.declared.name.NameFault.{NameFault}
use Rattle.op_base.specs.declared.name.NameFault.TheVariants.{Empty, TooLong, BadByte, NoType, NotUtf8, NoMemory}

-- whether two texts have the same bytes
abbrev pub same_text : List ℕ → List ℕ → Bool
same_text a b = pointwise nat_eq a b

-- a to z, 0 to 9, or one of _ . -
abbrev pub is_key_byte : ℕ → Bool
is_key_byte b = (nat_le 97 b && nat_le b 122) || (nat_le 48 b && nat_le b 57) || b == 95 || b == 46 || b == 45

-- above a space, and not the delete character
abbrev pub is_value_byte : ℕ → Bool
is_value_byte b = nat_lt 32 b && not (b == 127)

-- a byte of ASCII that a value may have
abbrev pub is_plain_byte : ℕ → Bool
is_plain_byte b = nat_lt 32 b && nat_lt b 127

-- from 1 to so many bytes
abbrev pub is_short : ℕ → List ℕ → Bool
is_short most bytes = nat_lt 0 (length bytes) && nat_le (length bytes) most

-- a key is 1 to 32 bytes, each of which a key may have
abbrev pub is_key : List ℕ → Bool
is_key bytes = is_short 32 bytes && list_all is_key_byte bytes

-- a value is 1 to 4096 bytes of UTF-8, each of which a value may have
abbrev pub is_value : List ℕ → Bool
is_value bytes = is_short 4096 bytes && list_all is_value_byte bytes && is_utf8 bytes

-- of two faults the first
abbrev pub or_else : Option NameFault → Option NameFault → Option NameFault
or_else None second = second
or_else (Some fault) second = Some fault

-- the first fault of a text that is to have 1 to so many bytes, each of which passes
abbrev pub byte_fault : ℕ → (ℕ → Bool) → List ℕ → Option NameFault
byte_fault most passes bytes =
    if length bytes == 0 then Some Empty
    else if nat_lt most (length bytes) then Some TooLong
    else option_map BadByte (position (λ b. not (passes b)) bytes)

-- the first fault of a text that is to be a key
abbrev pub key_fault : List ℕ → Option NameFault
key_fault bytes = byte_fault 32 is_key_byte bytes

-- the first fault of a text that is to be a value
abbrev pub value_fault : List ℕ → Option NameFault
value_fault bytes = or_else (byte_fault 4096 is_value_byte bytes) (if is_utf8 bytes then None else Some NotUtf8)

-- the first fault of such a text by what bytes it has, and not by how many
abbrev pub fault_of_bytes : List ℕ → Option NameFault
fault_of_bytes bytes = or_else (option_map BadByte (position (λ b. not (is_value_byte b)) bytes)) (if is_utf8 bytes then None else Some NotUtf8)

-- the word of a kind
abbrev pub kind_word : Kind → List ℕ
kind_word AwSet = codes "awset"
kind_word RwSet = codes "rwset"
kind_word EwFlag = codes "ewflag"
kind_word DwFlag = codes "dwflag"
kind_word MvReg = codes "mvreg"
kind_word Counter = codes "counter"
kind_word RCounter = codes "rcounter"
kind_word kind.List = codes "list"

-- the kinds, in their order
abbrev pub kinds : List Kind
kinds = AwSet ∷ RwSet ∷ EwFlag ∷ DwFlag ∷ MvReg ∷ Counter ∷ RCounter ∷ kind.List ∷ []

-- the kind whose word this is
abbrev pub kind_of : List ℕ → Option Kind
kind_of bytes = find (λ kind. same_text (kind_word kind) bytes) kinds

-- whether a byte is a colon
abbrev pub is_colon : ℕ → Bool
is_colon b = b == 58

-- what an object's text has before its first colon, or all of it
abbrev pub kind_part : List ℕ → List ℕ
kind_part bytes = before_first is_colon bytes

-- what an object's text has after its first colon, or nothing
abbrev pub key_part : List ℕ → List ℕ
key_part bytes = after_first is_colon bytes

-- an object's text is a kind's word, a colon and a key
abbrev pub is_object : List ℕ → Bool
is_object bytes = is_some (kind_of (kind_part bytes)) && is_key (key_part bytes)

-- the fault where no kind is named
abbrev pub kind_fault : Option Kind → Option NameFault
kind_fault None = Some NoType
kind_fault (Some kind) = None

-- the first fault of a text that is to be an object: a kind's word, a colon, a key
abbrev pub object_fault : List ℕ → Option NameFault
object_fault bytes = or_else (kind_fault (kind_of (kind_part bytes))) (key_fault (key_part bytes))

-- What a reader answers of a text: its first fault, and without one no refusal but want of memory.
abbrev pub Refuses : {T : Type 0} → Option NameFault → Result T NameFault → Type 0
Refuses (Some fault) result = result ≡ Err fault
Refuses None result = IsOkUnless result NoMemory
