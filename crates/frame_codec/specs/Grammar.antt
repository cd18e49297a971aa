-- The grammar of frames, in two versions: which bytes spell which message, in a store of n members, in an epoch, with a
-- limit that no entry of a timestamp is above.
use Rattle.std.specs.Prelude.{◌≡◌, ℕ, ◌<◌, ◌≤◌, ◌^◌, Bool, true, ◌&&◌, nat_le, List, [], ◌∷◌, ◌++◌, length, IsTrue, All, Option, Some, None}
use Rattle.std.specs.List.{flat_map}
use Rattle.std.specs.Int.{w16, w32, to_be_bytes}
use Rattle.op_base.specs.Name.{is_key, is_value}
use Rattle.op_base.specs.Code.{op_code}
use Rattle.op_base.specs.Message.{fits}
use Rattle.op_base.specs.Valid.{is_valid_id, is_valid_place}
use Rattle.op_base.specs.declared.message.Message.{Message}
use Rattle.op_base.specs.declared.operation.Act.{Act}
use Rattle.op_base.specs.declared.operation.Act.TheVariants.{Add, Rmv, Clear, Enable, Disable, Write, Inc, Dec, Ins, Del}
use Rattle.op_base.specs.declared.operation.Op.{Op}
use Rattle.op_base.specs.declared.operation.Op.TheVariants as op
use Rattle.op_base.specs.declared.tag.ElementId.{ElementId}
use Rattle.frame_codec.specs.declared.version.Version.{Version}
use Rattle.frame_codec.specs.declared.version.Version.TheVariants.{One, Two}

-- ---- what the versions differ in

-- the byte that begins a frame
abbrev pub version_byte : Version → ℕ
version_byte One = 1
version_byte Two = 2

-- the epochs in which a version is read: the first in epoch 0 alone
abbrev pub IsReadIn : Version → ℕ → Type 0
IsReadIn One epoch = epoch ≡ 0
IsReadIn Two epoch = Unit {0}

-- the epoch: nothing in the first version, a number in the second
abbrev pub epoch_field : Version → ℕ → List ℕ
epoch_field One epoch = []
epoch_field Two epoch = to_be_bytes w32 epoch

-- a length: one byte in the first version, two in the second, the greater part first
abbrev pub length_field : Version → ℕ → List ℕ
length_field One len = len ∷ []
length_field Two len = to_be_bytes w16 len

-- whether a version has values of so many bytes: the first has them up to 64
abbrev pub carries_length : Version → ℕ → Bool
carries_length One len = nat_le len 64
carries_length Two len = true

-- the greatest code of a version: the first has none of lists
abbrev pub last_code : Version → ℕ
last_code One = 19
last_code Two = 22

-- ---- what they share

-- a number of four bytes, the greatest part first
abbrev pub number_field : ℕ → List ℕ
number_field n = to_be_bytes w32 n

-- a text is its length and its bytes
abbrev pub text_field : Version → List ℕ → List ℕ
text_field version bytes = length_field version (length bytes) ++ bytes

-- an id of an element is its epoch, its member in one byte, and its number
abbrev pub id_field : ElementId → List ℕ
id_field id = number_field id.epoch ++ (id.origin ∷ number_field id.seq)

-- a place in a list: a byte 0 for the head, or a byte 1 and the id of the element in front
abbrev pub place_field : Option ElementId → List ℕ
place_field None = 0 ∷ []
place_field (Some id) = 1 ∷ id_field id

-- the argument of an act: a value as a text, with its place where it has one, an amount as a number, an id, or nothing
abbrev pub argument_field : Version → Act → List ℕ
argument_field version (Add v) = text_field version v
argument_field version (Rmv v) = text_field version v
argument_field version Clear = []
argument_field version Enable = []
argument_field version Disable = []
argument_field version (Write v) = text_field version v
argument_field version (Inc a) = number_field a
argument_field version (Dec a) = number_field a
argument_field version (Ins v place) = text_field version v ++ place_field place
argument_field version (Del id) = id_field id

-- the key and the argument; the no-op has neither
abbrev pub operation_fields : Version → Op → List ℕ
operation_fields version op.NoOp = []
operation_fields version (op.Update u) = text_field version u.object.key ++ argument_field version u.act

-- The one spelling of a message in a version: version, origin, members, code, epoch, a number for each member's entry
-- upwards, and the operation's fields.
abbrev pub frame_of : Version → ℕ → ℕ → Message → List ℕ
frame_of version n epoch m =
    version_byte version ∷ m.origin ∷ n ∷ op_code m.op ∷ (epoch_field version epoch ++ (flat_map number_field m.tag ++ operation_fields version m.op))

-- a value that the version has
abbrev pub is_sent : Version → List ℕ → Bool
is_sent version value = carries_length version (length value) && is_value value

-- the argument is one that its act can have: a value, a number of 32 bits, or an id whose numbers fit their fields
abbrev pub IsArgument : Version → Act → Type 0
IsArgument version (Add v) = IsTrue (is_sent version v)
IsArgument version (Rmv v) = IsTrue (is_sent version v)
IsArgument version Clear = Unit {0}
IsArgument version Enable = Unit {0}
IsArgument version Disable = Unit {0}
IsArgument version (Write v) = IsTrue (is_sent version v)
IsArgument version (Inc a) = a < 2 ^ 32
IsArgument version (Dec a) = a < 2 ^ 32
IsArgument version (Ins v place) = IsTrue (is_sent version v) × IsTrue (is_valid_place place)
IsArgument version (Del id) = IsTrue (is_valid_id id)

-- the key is a key, and the argument one of its act
abbrev pub IsOperation : Version → Op → Type 0
IsOperation version op.NoOp = Unit {0}
IsOperation version (op.Update u) = IsTrue (is_key u.object.key) × IsArgument version u.act

-- The bytes are the message's spelling in a version, for n members, an epoch and a limit.
pub record IsSpelling (version : Version) (n epoch limit : ℕ) (bytes : List ℕ) (m : Message) : Type 0 where
  pub in_epoch : IsReadIn version epoch
  pub fits : IsTrue (fits n m)
  pub within : All (λ e. e ≤ limit) m.tag
  pub code : op_code m.op ≤ last_code version
  pub operation : IsOperation version m.op
  pub spelled : bytes ≡ frame_of version n epoch m

-- The bytes are a frame of the message: its spelling in one of the versions.
abbrev pub IsFrame : ℕ → ℕ → ℕ → List ℕ → Message → Type 0
IsFrame n epoch limit bytes m = (version : Version) × IsSpelling version n epoch limit bytes m
