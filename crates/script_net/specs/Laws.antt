-- What holds in every run of a script, of the plain world after any of its lines. Each statement is the contract of a
-- function of laws.rt.
use Rattle.std.specs.Prelude.{◌≡◌, ◌≢◌, ◌↔◌, ℕ, ◌*◌, ◌<◌, ◌≤◌, Bool, true, false, IsTrue, List, [], ◌∷◌, ◌++◌, fold, Option, Some, None}
use Rattle.op_base.specs.declared.name.ObjectId.{ObjectId}
use Rattle.op_base.specs.declared.operation.Update.{Update}
use Rattle.causal_model.specs.History.{SameEvents}
use Rattle.causal_model.specs.Stability.{unstable_operations}
use Rattle.script_lang.specs.Commands.{line_of, keep_line_of}
use Rattle.script_lang.specs.Headers.{header_of}
use Rattle.script_lang.specs.declared.line.LineOf.{LineOf}
use Rattle.script_lang.specs.declared.line.LineOf.TheVariants.{Run}
use Rattle.script_lang.specs.declared.command.Command.{Command}
use Rattle.script_lang.specs.declared.command.Command.TheVariants.{Do, Ask, Raw, Members}
use Rattle.script_lang.specs.declared.header.Header.TheVariants.{Store}
use Rattle.script_lang.specs.declared.reply.Reply.{Reply}
use Rattle.script_lang.specs.declared.reply.Reply.TheVariants.{Busy, Old, Again, Far, BadFrame, Epoch}
use Rattle.world_model.specs.World.{PlainWorld, size_of, epoch_in, replica_of, opening}
use Rattle.world_model.specs.Showing.{entries_at}
use Rattle.world_model.specs.Stops.{PlainKeep, keep_opening}
use Rattle.world_model.specs.Worlds.{IsWorld}
use Rattle.script_net.specs.Commands.{command_at, keep_command_at}
use Rattle.script_net.specs.Transcript.{AnyPlain, OfStore, line_at, text_of_line, world_of_line, changes_members, replies_to, world_after}

-- ---- a store's lines

-- the reply to a line in the plain world of a store, and that world after it
abbrev pub line_reply : PlainWorld → LineOf Command → Option Reply
line_reply world line = (line_at command_at line world).0

abbrev pub line_world : PlainWorld → LineOf Command → PlainWorld
line_world world line = (line_at command_at line world).1

-- that world after a line's bytes, and after lines
abbrev pub store_of_line : PlainWorld → List ℕ → PlainWorld
store_of_line world bytes = line_world world (line_of (size_of world) bytes)

abbrev pub store_after : PlainWorld → List (List ℕ) → PlainWorld
store_after world lines = fold store_of_line world lines

-- the plain world of a store after lines
abbrev pub world_by : ℕ → ℕ → ℕ → List (List ℕ) → PlainWorld
world_by n w limit lines = store_after (opening n w limit) lines

-- the same of durable replicas
abbrev pub keep_of_line : PlainKeep → List ℕ → PlainKeep
keep_of_line keep bytes = (line_at keep_command_at (keep_line_of (size_of keep.world) bytes) keep).1

abbrev pub keep_by : ℕ → ℕ → ℕ → List (List ℕ) → PlainKeep
keep_by n w limit lines = fold keep_of_line (keep_opening n w limit) lines

-- ---- every script

-- behind a header each line leaves a world with the window and the limit of the header
abbrev pub ScriptsKeepWorlds : Type 0
ScriptsKeepWorlds = (header : List ℕ) (lines : List (List ℕ)) (n w limit : ℕ) → header_of header ≡ Some (Store n w limit)
    → let world = world_by n w limit lines in IsWorld world × (world.w ≡ w) × (world.limit ≡ limit)

-- a change of members that is replied to by an epoch leaves as many members as it asks for, in that epoch
abbrev pub MembersAreAsked : Type 0
MembersAreAsked = (header : List ℕ) (lines : List (List ℕ)) (line : List ℕ) (n w limit m epoch : ℕ) → header_of header ≡ Some (Store n w limit)
    → let world = world_by n w limit lines in
    line_of (size_of world) line ≡ Run (Members m) → line_reply world (line_of (size_of world) line) ≡ Some (Epoch epoch)
    → (size_of (store_of_line world line) ≡ m) × (epoch_in (store_of_line world line) ≡ epoch)

-- every other line leaves the members and the epoch
abbrev pub MembersStay : Type 0
MembersStay = (header : List ℕ) (lines : List (List ℕ)) (line : List ℕ) (n w limit : ℕ) → header_of header ≡ Some (Store n w limit)
    → let world = world_by n w limit lines in changes_members (line_of (size_of world) line) ≡ false
    → (size_of (store_of_line world line) ≡ size_of world) × (epoch_in (store_of_line world line) ≡ epoch_in world)

-- each command is replied to: a plain world knows no want of memory
abbrev pub CommandsAreRepliedTo : Type 0
CommandsAreRepliedTo = (command : Command) (world : PlainWorld) → (command_at command world).0 ≢ None

abbrev pub KeepCommandsAreRepliedTo : Type 0
KeepCommandsAreRepliedTo = (command : Command) (keep : PlainKeep) → (keep_command_at command keep).0 ≢ None

-- every log has at most as many entries as the members' windows have room for, after every line
abbrev pub LogsAreBounded : Type 0
LogsAreBounded = (header : List ℕ) (lines : List (List ℕ)) (n w limit r : ℕ) → header_of header ≡ Some (Store n w limit)
    → let world = world_by n w limit lines in r < size_of world → entries_at world r ≤ size_of world * w

-- a line that sends an update is replied to by busy exactly where as many own operations are unstable as the window has
abbrev pub BusyIsExact : Type 0
BusyIsExact = (header : List ℕ) (lines : List (List ℕ)) (line : List ℕ) (n w limit r : ℕ) (update : Update) → header_of header ≡ Some (Store n w limit)
    → let world = world_by n w limit lines in let members = size_of world in line_of members line ≡ Run (Do r update)
    → (line_reply world (line_of members line) ≡ Some Busy) ↔ (unstable_operations members r (replica_of world r).history.present.messages r ≡ w)

-- lines that ask two replicas of the same events for an object have the same reply, after any lines behind a header: at one
-- point of a script or at two
abbrev pub EqualEventsAnswerAlike : Type 0
EqualEventsAnswerAlike = (header : List ℕ) (lines others : List (List ℕ)) (first second : List ℕ) (n w limit r k : ℕ) (object : ObjectId) → header_of header ≡ Some (Store n w limit)
    → let world = world_by n w limit lines in let other = world_by n w limit others in
    line_of (size_of world) first ≡ Run (Ask r object) → line_of (size_of other) second ≡ Run (Ask k object)
    → SameEvents (replica_of world r).history (replica_of other k).history → text_of_line (OfStore world) first ≡ text_of_line (OfStore other) second

-- ---- one line more

-- the replies to lines with one more are the replies to them, and that to it where they end
abbrev pub OneLineMoreReplies : Type 0
OneLineMoreReplies = (world : AnyPlain) (lines : List (List ℕ)) (line : List ℕ)
    → replies_to world (lines ++ line ∷ []) ≡ replies_to world lines ++ text_of_line (world_after world lines) line

abbrev pub OneLineMoreLeaves : Type 0
OneLineMoreLeaves = (world : AnyPlain) (lines : List (List ℕ)) (line : List ℕ)
    → world_after world (lines ++ line ∷ []) ≡ world_of_line (world_after world lines) line

-- ---- refused bytes

-- whether a reply says that bytes were no frame, or that their message was refused
abbrev pub is_refusal : Option Reply → Bool
is_refusal (Some (BadFrame fault)) = true
is_refusal (Some Old) = true
is_refusal (Some Again) = true
is_refusal (Some Far) = true
is_refusal reply = false

-- a line whose bytes are refused leaves the plain world as it is
abbrev pub RefusedBytesChangeNothing : Type 0
RefusedBytesChangeNothing = (world : PlainWorld) (line : List ℕ) (r : ℕ) (bytes : List ℕ)
    → line_of (size_of world) line ≡ Run (Raw r bytes) → IsTrue (is_refusal (command_at (Raw r bytes) world).0) → store_of_line world line ≡ world

-- so its reply is all that goes where it is removed from among lines
abbrev pub RefusedBytesGo : Type 0
RefusedBytesGo = (world : PlainWorld) (before after : List (List ℕ)) (line : List ℕ) (r : ℕ) (bytes : List ℕ)
    → let here = store_after world before in
    line_of (size_of here) line ≡ Run (Raw r bytes) → IsTrue (is_refusal (command_at (Raw r bytes) here).0)
    → (replies_to (OfStore world) (before ++ line ∷ after)
    ≡ replies_to (OfStore world) before ++ (text_of_line (OfStore here) line ++ replies_to (OfStore here) after))
    × (replies_to (OfStore world) (before ++ after) ≡ replies_to (OfStore world) before ++ replies_to (OfStore here) after)
