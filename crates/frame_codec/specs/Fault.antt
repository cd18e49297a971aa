-- Which fault bytes have that are no frame: the first in order that applies, each told on the bytes alone.
use Rattle.std.specs.Prelude.{◌≡◌, ℕ, zero, suc, ◌+◌, ◌*◌, Bool, false, not, ◌||◌, ◌&&◌, ◌==◌, nat_lt, nat_le, List, [], ◌∷◌, length, take, drop, slice_index, Option, Some, None, Result, Err, MatchResult, IsOkUnless, if◌then◌else◌, true}
use Rattle.std.specs.List.{list_any}
use Rattle.std.specs.Int.{w16, w32, from_be_bytes}
use Rattle.op_base.specs.Name.{is_key}
use Rattle.op_base.specs.Operation.{is_element}
use Rattle.op_base.specs.declared.tag.ElementId.{ElementId}
use Rattle.op_base.specs.declared.message.Message.{Message}
use Rattle.op_base.specs.declared.verb.Argument.{Argument as AnArgument}
use Rattle.op_base.specs.declared.verb.Argument.TheVariants.{Nothing, Value, Amount, Insertion, Element}
use Rattle.op_base.specs.Verb.{argument_of, operation_of}
use Rattle.frame_codec.specs.Grammar.{version_byte, is_sent, last_code}
use Rattle.frame_codec.specs.declared.fault.DecodeFault.{DecodeFault}
use Rattle.frame_codec.specs.declared.fault.DecodeFault.TheVariants.{Frame, NoMemory}
use Rattle.frame_codec.specs.declared.fault.FrameFault.{FrameFault}
use Rattle.frame_codec.specs.declared.fault.FrameFault.TheVariants.{Short, Version as OfVersion, Epoch, Members, Origin, Code, Number, BadKey, Argument, Rest}
use Rattle.frame_codec.specs.declared.version.Version.{Version}
use Rattle.frame_codec.specs.declared.version.Version.TheVariants.{One, Two}

-- the byte at a place
abbrev pub byte_at : List ℕ → ℕ → ℕ
byte_at bytes at = slice_index bytes at

-- ---- what the versions differ in

-- the version by which bytes are read: the second where they begin with 2
abbrev pub version_at : List ℕ → Version
version_at bytes = if byte_at bytes 0 == 2 then Two else One

-- so many bytes stand in front of the timestamp
abbrev pub head_len : Version → ℕ
head_len One = 4
head_len Two = 8

-- whether a version is read in an epoch
abbrev pub is_read_in : Version → ℕ → Bool
is_read_in One epoch = epoch == 0
is_read_in Two epoch = true

-- whether the epoch, where there is one, is another
abbrev pub is_bad_epoch : Version → ℕ → List ℕ → Bool
is_bad_epoch One epoch bytes = false
is_bad_epoch Two epoch bytes = not (from_be_bytes w32 (take 4 (drop 4 bytes)) == epoch)

-- so many bytes a length has
abbrev pub length_len : Version → ℕ
length_len One = 1
length_len Two = 2

-- the length at the front
abbrev pub length_at : Version → List ℕ → ℕ
length_at One bytes = byte_at bytes 0
length_at Two bytes = from_be_bytes w16 (take 2 bytes)

-- ---- what they share

-- the code's byte
abbrev pub code_byte : List ℕ → ℕ
code_byte bytes = byte_at bytes 3

-- what stands behind the key of a code: nothing behind the no-op's
abbrev pub argument_of_code : ℕ → AnArgument
argument_of_code code = if code == 0 then Nothing else argument_of (operation_of code).1

-- the first n numbers of 32 bits
abbrev pub numbers : ℕ → List ℕ → List ℕ
numbers zero bytes = []
numbers (suc n) bytes = from_be_bytes w32 (take 4 bytes) ∷ numbers n (drop 4 bytes)

-- the timestamp, which stands behind the head
abbrev pub timestamp_of : Version → ℕ → List ℕ → List ℕ
timestamp_of version n bytes = numbers n (drop (head_len version) bytes)

-- what stands behind the timestamp
abbrev pub behind_timestamp : Version → ℕ → List ℕ → List ℕ
behind_timestamp version n bytes = drop (head_len version + 4 * n) bytes

-- the text of a field: as many bytes as its length says, or fewer where they end
abbrev pub text_of : Version → List ℕ → List ℕ
text_of version bytes = take (length_at version bytes) (drop (length_len version) bytes)

-- what stands behind a text field
abbrev pub behind_text : Version → List ℕ → List ℕ
behind_text version bytes = drop (length_at version bytes) (drop (length_len version) bytes)

-- whether a text field is whole, and its text passes
abbrev pub is_text_field : Version → (List ℕ → Bool) → List ℕ → Bool
is_text_field version passes bytes = nat_le (length_len version + length_at version bytes) (length bytes) && passes (text_of version bytes)

-- what stands behind the key, where the code has one
abbrev pub behind_key : Version → ℕ → List ℕ → List ℕ
behind_key version n bytes =
    if code_byte bytes == 0 then behind_timestamp version n bytes else behind_text version (behind_timestamp version n bytes)

-- the id at the front
abbrev pub element_at : List ℕ → ElementId
element_at bytes = record { epoch = from_be_bytes w32 (take 4 bytes); origin = byte_at bytes 4; seq = from_be_bytes w32 (take 4 (drop 5 bytes)) }

-- whether an id is whole, and one that an element can have
abbrev pub is_id_field : List ℕ → Bool
is_id_field bytes = nat_le 9 (length bytes) && is_element (element_at bytes)

-- whether a place is whole: a byte 0, or a byte 1 and an id
abbrev pub is_place_field : List ℕ → Bool
is_place_field bytes = nat_lt 0 (length bytes) && (byte_at bytes 0 == 0 || (byte_at bytes 0 == 1 && is_id_field (drop 1 bytes)))

-- what stands behind a place
abbrev pub behind_place : List ℕ → List ℕ
behind_place bytes = if byte_at bytes 0 == 0 then drop 1 bytes else drop 10 bytes

-- whether an argument is whole at the front, and one that the version has
abbrev pub is_whole_argument : Version → AnArgument → List ℕ → Bool
is_whole_argument version Nothing bytes = true
is_whole_argument version Value bytes = is_text_field version (is_sent version) bytes
is_whole_argument version Amount bytes = nat_le 4 (length bytes)
is_whole_argument version Insertion bytes = is_text_field version (is_sent version) bytes && is_place_field (behind_text version bytes)
is_whole_argument version Element bytes = is_id_field bytes

-- what stands behind an argument
abbrev pub behind_whole : Version → AnArgument → List ℕ → List ℕ
behind_whole version Nothing bytes = bytes
behind_whole version Value bytes = behind_text version bytes
behind_whole version Amount bytes = drop 4 bytes
behind_whole version Insertion bytes = behind_place (behind_text version bytes)
behind_whole version Element bytes = drop 9 bytes

-- what stands behind the argument, where the code takes one
abbrev pub behind_argument : Version → ℕ → List ℕ → List ℕ
behind_argument version n bytes = behind_whole version (argument_of_code (code_byte bytes)) (behind_key version n bytes)

-- the key is missing, cut or no key
abbrev pub is_bad_key : Version → ℕ → List ℕ → Bool
is_bad_key version n bytes = nat_lt 0 (code_byte bytes) && not (is_text_field version is_key (behind_timestamp version n bytes))

-- the argument is missing, cut, or none that the version has
abbrev pub is_bad_argument : Version → ℕ → List ℕ → Bool
is_bad_argument version n bytes = not (is_whole_argument version (argument_of_code (code_byte bytes)) (behind_key version n bytes))

-- the origin's number is 0, or some number is above the limit
abbrev pub is_bad_number : Version → ℕ → ℕ → List ℕ → Bool
is_bad_number version n limit bytes =
    (slice_index (timestamp_of version n bytes) (byte_at bytes 1) == 0) || list_any (λ e. nat_lt limit e) (timestamp_of version n bytes)

-- of faults, each beside whether it applies, the first that does
abbrev pub first_fault : List (Bool × FrameFault) → Option FrameFault
first_fault [] = None
first_fault (test ∷ tests) = if test.0 then Some test.1 else first_fault tests

-- the fault of bytes that are read by a version
unfoldable pub fault_by : Version → ℕ → ℕ → ℕ → List ℕ → Option FrameFault
fault_by version n epoch limit bytes = first_fault (
    (nat_lt (length bytes) (head_len version + 4 * n), Short)
    ∷ (not (byte_at bytes 0 == version_byte version && is_read_in version epoch), OfVersion)
    ∷ (is_bad_epoch version epoch bytes, Epoch)
    ∷ (not (byte_at bytes 2 == n), Members)
    ∷ (nat_le n (byte_at bytes 1), Origin)
    ∷ (nat_lt (last_code version) (code_byte bytes), Code)
    ∷ (is_bad_number version n limit bytes, Number)
    ∷ (is_bad_key version n bytes, BadKey)
    ∷ (is_bad_argument version n bytes, Argument)
    ∷ (nat_lt 0 (length (behind_argument version n bytes)), Rest)
    ∷ [])

-- the fault of bytes in a store of n members, in an epoch, with a limit
abbrev pub frame_fault : ℕ → ℕ → ℕ → List ℕ → Option FrameFault
frame_fault n epoch limit bytes = fault_by (version_at bytes) n epoch limit bytes

-- the faults' numbers
abbrev pub fault_number : FrameFault → ℕ
fault_number Short = 1
fault_number OfVersion = 2
fault_number Members = 3
fault_number Origin = 4
fault_number Code = 5
fault_number Number = 6
fault_number BadKey = 7
fault_number Argument = 8
fault_number Rest = 9
fault_number Epoch = 10

-- What a decoder answers of the bytes of a message: the message, or want of memory.
abbrev pub Gives : Message → Result Message DecodeFault → Type 0
Gives m result = MatchResult result (λ found. found ≡ m) (λ e. e ≡ NoMemory)

-- What a decoder answers of bytes: their fault, and without one no error but want of memory.
abbrev pub Refuses : {T : Type 0} → Option FrameFault → Result T DecodeFault → Type 0
Refuses (Some fault) result = result ≡ Err (Frame fault)
Refuses None result = IsOkUnless result NoMemory
