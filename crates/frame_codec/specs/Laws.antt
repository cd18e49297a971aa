-- Laws of frames, each the contract of a function that does nothing. An epoch and a limit are numbers of 32 bits.
use Rattle.std.specs.Prelude.{◌≡◌, ◌↔◌, ℕ, ◌<◌, ◌≤◌, ◌^◌, List, [], ◌++◌, None, Some, Ok, Err, All, IsTrue}
use Rattle.op_base.specs.Message.{fits}
use Rattle.op_base.specs.declared.message.Message.{Message}
use Rattle.frame_codec.specs.Grammar.{frame_of, IsOperation, IsSpelling, IsFrame}
use Rattle.frame_codec.specs.Fault.{frame_fault}
use Rattle.frame_codec.specs.Message.{frame_read}
use Rattle.frame_codec.specs.declared.fault.FrameFault.{FrameFault}
use Rattle.frame_codec.specs.declared.version.Version.{Version}
use Rattle.frame_codec.specs.declared.version.Version.TheVariants.{Two}

-- a message has a spelling in version 2
abbrev pub SomeSpelling : Type 0
SomeSpelling = (n epoch limit : ℕ) (m : Message) → IsTrue (fits n m) → All (λ e. e ≤ limit) m.tag → IsOperation Two m.op → IsSpelling Two n epoch limit (frame_of Two n epoch m) m

-- a message has at most one spelling in a version
abbrev pub OneSpelling : Type 0
OneSpelling = (version : Version) (n epoch limit : ℕ) (a b : List ℕ) (m : Message) → IsSpelling version n epoch limit a m → IsSpelling version n epoch limit b m → a ≡ b

-- a frame is one message's
abbrev pub OneMessage : Type 0
OneMessage = (n epoch limit : ℕ) → epoch < 2 ^ 32 → limit < 2 ^ 32 → (bytes : List ℕ) (a b : Message) → IsFrame n epoch limit bytes a → IsFrame n epoch limit bytes b → a ≡ b

-- where bytes begin with a frame and are one, of whichever versions, they are that frame
abbrev pub NoFrameBegins : Type 0
NoFrameBegins = (n epoch limit : ℕ) → epoch < 2 ^ 32 → limit < 2 ^ 32 → (bytes more : List ℕ) (a b : Message) → IsFrame n epoch limit bytes a → IsFrame n epoch limit (bytes ++ more) b → more ≡ []

-- a frame has no fault
abbrev pub FramesHaveNoFault : Type 0
FramesHaveNoFault = (n epoch limit : ℕ) → epoch < 2 ^ 32 → limit < 2 ^ 32 → (bytes : List ℕ) (m : Message) → IsFrame n epoch limit bytes m → frame_fault n epoch limit bytes ≡ None

-- bytes without a fault are a frame of some message
abbrev pub WithoutFaultIsAFrame : Type 0
WithoutFaultIsAFrame = (n epoch limit : ℕ) (bytes : List ℕ) → All (λ b. b < 256) bytes → frame_fault n epoch limit bytes ≡ None → (m : Message) × IsFrame n epoch limit bytes m

-- a frame is read as its message
abbrev pub FramesAreRead : Type 0
FramesAreRead = (n epoch limit : ℕ) → epoch < 2 ^ 32 → limit < 2 ^ 32 → (bytes : List ℕ) (m : Message) → IsFrame n epoch limit bytes m → frame_read n epoch limit bytes ≡ Ok m

-- bytes that are read as a message are a frame of it
abbrev pub ReadIsAFrame : Type 0
ReadIsAFrame = (n epoch limit : ℕ) (bytes : List ℕ) (m : Message) → All (λ b. b < 256) bytes → frame_read n epoch limit bytes ≡ Ok m → IsFrame n epoch limit bytes m

-- what is read as a fault are the bytes that have that fault first
abbrev pub FaultsAreRead : Type 0
FaultsAreRead = (n epoch limit : ℕ) (bytes : List ℕ) (fault : FrameFault) → (frame_read n epoch limit bytes ≡ Err fault) ↔ (frame_fault n epoch limit bytes ≡ Some fault)
