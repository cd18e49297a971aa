-- Scripts in which no line offers bytes, so that no frame is forged: what is replied to them.
use Rattle.std.specs.Prelude.{◌≡◌, ℕ, Bool, true, false, not, IsTrue, All, List, [], ◌∷◌, Option, Some, None}
use Rattle.std.specs.List.{list_all, flat_map}
use Rattle.script_lang.specs.Headers.{header_of}
use Rattle.script_lang.specs.declared.command.Command.{Command}
use Rattle.script_lang.specs.declared.line.LineOf.{LineOf}
use Rattle.script_lang.specs.declared.line.LineOf.TheVariants.{Run}
use Rattle.script_lang.specs.declared.command.Command.TheVariants.{Raw}
use Rattle.script_lang.specs.declared.reply.Reply.{Reply}
use Rattle.script_lang.specs.declared.reply.Reply.TheVariants.{Far, Held, Unsettled, Took}
use Rattle.world_model.specs.Settling.{is_delivery}
use Rattle.script_net.specs.Lines.{lines_of, from_command}
use Rattle.script_net.specs.Transcript.{AnyPlain, line_read, replied_at, reply_text, world_of_line, changes_members, opened}

-- ---- lines with their replies

-- a line as it is read, and what is replied to it
pub record Exchange : Type 0 where
  pub line : LineOf Command
  pub reply : Option Reply

-- those of lines, each in the plain world before it
abbrev pub exchanges : AnyPlain → List (List ℕ) → List Exchange
exchanges world [] = []
exchanges world (bytes ∷ lines) = record { line = line_read world bytes; reply = (replied_at bytes world).0 } ∷ exchanges (world_of_line world bytes) lines

-- those of the lines behind a header, and none without one
abbrev pub exchanges_behind : Option AnyPlain → List (List ℕ) → List Exchange
exchanges_behind None lines = []
exchanges_behind (Some world) lines = exchanges world lines

abbrev pub exchanges_from : List (List ℕ) → List Exchange
exchanges_from [] = []
exchanges_from (first ∷ lines) = exchanges_behind (opened (header_of first)) lines

-- those of a script
abbrev pub exchanges_of : List ℕ → List Exchange
exchanges_of script = exchanges_from (from_command (lines_of script))

-- ---- no bytes

-- whether a line offers bytes, which anyone may have made
abbrev pub offers_bytes : LineOf Command → Bool
offers_bytes (Run (Raw r bytes)) = true
offers_bytes line = false

-- whether none of lines offers bytes, and none of a script does
abbrev pub are_unforged : List Exchange → Bool
are_unforged made = list_all (λ (e : Exchange). not (offers_bytes e.line)) made

abbrev pub is_unforged : List ℕ → Bool
is_unforged script = are_unforged (exchanges_of script)

-- ---- fair replies

-- whether what is replied to a line, if anything, tells neither that a message is far or was dropped, nor that a beat is held
-- or the store isn't settled; of which the last may be told to a change of members
abbrev pub is_fair_to : LineOf Command → Option Reply → Bool
is_fair_to line (Some Far) = false
is_fair_to line (Some Held) = false
is_fair_to line (Some Unsettled) = changes_members line
is_fair_to line (Some (Took steps)) = list_all is_delivery steps
is_fair_to line other = true

-- a text is the replies to the lines of a script, and each is fair
pub record IsFairText (script text : List ℕ) : Type 0 where
  pub fair : All (λ (e : Exchange). IsTrue (is_fair_to e.line e.reply)) (exchanges_of script)
  pub lines : text ≡ flat_map (λ (e : Exchange). reply_text e.reply) (exchanges_of script)
