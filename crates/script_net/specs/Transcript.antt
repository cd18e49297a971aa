-- The transcript of a script: the replies of a plain world, whose replicas keep every message, to its command lines.
use Rattle.std.specs.Prelude.{ℕ, Bool, true, false, List, [], ◌∷◌, ◌++◌, fold, Option, Some, None, is_none}
use Rattle.script_lang.specs.Commands.{line_of, keep_line_of}
use Rattle.script_lang.specs.Headers.{header_of}
use Rattle.script_lang.specs.Replies.{reply_line}
use Rattle.script_lang.specs.declared.command.Command.{Command}
use Rattle.script_lang.specs.declared.command.Command.TheVariants.{Members}
use Rattle.script_lang.specs.declared.line.LineOf.{LineOf}
use Rattle.script_lang.specs.declared.line.LineOf.TheVariants as line
use Rattle.script_lang.specs.declared.header.Header.{Header}
use Rattle.script_lang.specs.declared.header.Header.TheVariants.{Store, Keep, Live}
use Rattle.script_lang.specs.declared.reply.Reply.{Reply}
use Rattle.script_lang.specs.declared.reply.Reply.TheVariants as reply
use Rattle.world_model.specs.Stops.{PlainKeep, keep_opening}
use Rattle.world_model.specs.World.{PlainWorld, size_of, opening}
use Rattle.script_net.specs.Lines.{lines_of, from_command}
use Rattle.script_net.specs.Commands.{command_at, keep_command_at}

-- ---- what a script runs on

-- the plain world of a store, or the plain keep world of durable replicas
pub data AnyPlain : Type 0 where
  OfStore : PlainWorld → AnyPlain
  OfKeep : PlainKeep → AnyPlain

-- ---- a line

-- What is replied to a line where this comes of a command, and what the world is then. There is no reply to a line that is passed
-- over.
abbrev pub line_at : {W : Type 0} → (Command → W → Option Reply × W) → LineOf Command → W → Option Reply × W
line_at runs line.Skip world = (None, world)
line_at runs (line.Run command) world = runs command world
line_at runs (line.Bad fault) world = (Some (reply.Bad fault), world)
line_at runs line.NoMemory world = (None, world)

-- a line of bytes as it is read
abbrev pub line_read : AnyPlain → List ℕ → LineOf Command
line_read (OfStore world) bytes = line_of (size_of world) bytes
line_read (OfKeep keep) bytes = keep_line_of (size_of keep.world) bytes

-- what is replied to it, and what the world is then
abbrev pub replied_at : List ℕ → AnyPlain → Option Reply × AnyPlain
replied_at bytes (OfStore world) = let made = line_at command_at (line_of (size_of world) bytes) world in (made.0, OfStore made.1)
replied_at bytes (OfKeep keep) = let made = line_at keep_command_at (keep_line_of (size_of keep.world) bytes) keep in (made.0, OfKeep made.1)

-- the text of a reply, where there is one
abbrev pub reply_text : Option Reply → List ℕ
reply_text None = []
reply_text (Some r) = reply_line r

abbrev pub text_of_line : AnyPlain → List ℕ → List ℕ
text_of_line world bytes = reply_text (replied_at bytes world).0

abbrev pub world_of_line : AnyPlain → List ℕ → AnyPlain
world_of_line world bytes = (replied_at bytes world).1

-- whether a line asks for a change of members
abbrev pub changes_members : LineOf Command → Bool
changes_members (line.Run (Members n)) = true
changes_members other = false

-- ---- lines

-- the replies to lines, and the world after them
abbrev pub replies_to : AnyPlain → List (List ℕ) → List ℕ
replies_to world [] = []
replies_to world (bytes ∷ lines) = text_of_line world bytes ++ replies_to (world_of_line world bytes) lines

abbrev pub world_after : AnyPlain → List (List ℕ) → AnyPlain
world_after world lines = fold world_of_line world lines

-- the world that a header opens: a script's is that of a store, or of durable replicas
abbrev pub opened : Option Header → Option AnyPlain
opened (Some (Store n w limit)) = Some (OfStore (opening n w limit))
opened (Some (Keep n w limit)) = Some (OfKeep (keep_opening n w limit))
opened (Some (Live n w clients turns loss)) = None
opened None = None

-- whether a line's header is none of a script
abbrev pub is_no_script : Option Header → Bool
is_no_script header = is_none (opened header)

-- whether lines have no header of a mode where a header must be: their first command line is none of the mode, or all lines
-- have come and there is no command line
abbrev pub lacks_header : (Option Header → Bool) → Bool → List (List ℕ) → Bool
lacks_header is_none_of all [] = all
lacks_header is_none_of all (first ∷ lines) = is_none_of (header_of first)

-- the replies to the lines behind a header, and none without one
abbrev pub replies_behind : Option AnyPlain → List (List ℕ) → List ℕ
replies_behind None lines = []
replies_behind (Some world) lines = replies_to world lines

-- the transcript of lines of which the first is a command line
abbrev pub transcript_from : List (List ℕ) → List ℕ
transcript_from [] = []
transcript_from (first ∷ lines) = replies_behind (opened (header_of first)) lines

-- the transcript of lines, and that of a script
abbrev pub transcript_of : List (List ℕ) → List ℕ
transcript_of lines = transcript_from (from_command lines)

abbrev pub transcript : List ℕ → List ℕ
transcript bytes = transcript_of (lines_of bytes)
