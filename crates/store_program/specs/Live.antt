-- What a run in mode live reads, answers and writes.
use Rattle.std.specs.Prelude.{◌≡◌, ℕ, ◌+◌, ◌<◌, ◌≤◌, Some, true, false, List, [], ◌∷◌, ◌++◌, length, Option}
use Rattle.store_io.specs.Bytes.{Gave, Ended, Took}
use Rattle.script_lang.specs.Headers.{header_of}
use Rattle.script_lang.specs.LiveCommands.{live_line_of}
use Rattle.script_lang.specs.declared.header.Header.TheVariants.{Live}
use Rattle.script_lang.specs.declared.live.LiveCommand.{LiveCommand}
use Rattle.script_lang.specs.declared.line.LineOf.{LineOf}
use Rattle.script_lang.specs.declared.line.LineOf.TheVariants.{Skip}
use Rattle.script_net.specs.Lines.{lines_of, from_command}
use Rattle.script_net.specs.Transcript.{lacks_header}
use Rattle.live_run.specs.Runs.{IsLiveText}
use Rattle.live_run.specs.declared.input.NumberedLine.{NumberedLine}
use Rattle.store_program.specs.declared.run.Status.{Status}
use Rattle.store_program.specs.declared.run.Status.TheVariants.{Fine, BadWords, BadHeader, TooLong, ReadFault, WriteFault, NoMemory}
use Rattle.store_program.specs.declared.words.Request.TheVariants as request
use Rattle.store_program.specs.Words.{request_of}
use Rattle.store_program.specs.Run.{most_input, is_no_live, is_headless, TookFront, SourceSeen, SinkSeen, EndsHeadless}

-- a line with its number, where it isn't passed over
abbrev pub numbered : ℕ → LineOf LiveCommand → List NumberedLine
numbered number Skip = []
numbered number line = record { number = number; line = line } ∷ []

-- the lines among these that aren't passed over, each with its number, where the first has this one
abbrev pub numbered_from : (n clients number : ℕ) → List (List ℕ) → List NumberedLine
numbered_from n clients number [] = []
numbered_from n clients number (line ∷ lines) = numbered number (live_line_of n clients line) ++ numbered_from n clients (number + 1) lines

-- The first command line of an input is the header of a live one, and behind it stand these lines. They have their numbers
-- among all lines of the input, which are counted from 1.
pub record AsksFor (lines : List (List ℕ)) (n w clients turns loss : ℕ) (asked : List NumberedLine) : Type 0 where
  pub before : List (List ℕ)
  pub header : List ℕ
  pub behind : List (List ℕ)
  pub parts : lines ≡ before ++ header ∷ behind
  pub first : from_command lines ≡ header ∷ behind
  pub opens : header_of header ≡ Some (Live n w clients turns loss)
  pub numbers : asked ≡ numbered_from n clients (length before + 2) behind

-- a text is right for a live input
pub record IsLiveOutput (input text : List ℕ) : Type 0 where
  pub n : ℕ
  pub w : ℕ
  pub clients : ℕ
  pub turns : ℕ
  pub loss : ℕ
  pub asked : List NumberedLine
  pub asks : AsksFor (lines_of input) n w clients turns loss asked
  pub right : IsLiveText n w clients asked text

-- the sink took a text that is right for a live input
pub record TookLive (input : List ℕ) (old new : Option (List ℕ)) : Type 0 where
  pub text : List ℕ
  pub right : IsLiveOutput input text
  pub took : Took old new text

-- the input ended, and a right text was written
pub record EndsLive (given : List ℕ) (source : SourceSeen) (old new : SinkSeen) : Type 0 where
  pub ended : Ended source.left
  pub short : length given ≤ most_input
  pub wrote : TookLive given old.held new.held

-- a write failed, and a front of a right text was written
pub record EndsLiveUnwritten (given : List ℕ) (source : SourceSeen) (old new : SinkSeen) : Type 0 where
  pub fault : old.faults < new.faults
  pub ended : Ended source.left
  pub short : length given ≤ most_input
  pub text : List ℕ
  pub right : IsLiveOutput given text
  pub wrote : TookFront old.held new.held text

-- one byte too many came, and nothing was written
pub record EndsLiveTooLong (given : List ℕ) (old new : SinkSeen) : Type 0 where
  pub long : length given ≡ most_input + 1
  pub header : is_headless is_no_live false given ≡ false
  pub wrote : new.held ≡ old.held

-- a read failed, and nothing was written
pub record EndsLiveBroken (given : List ℕ) (source_old source_new : SourceSeen) (old new : SinkSeen) : Type 0 where
  pub fault : source_old.faults < source_new.faults
  pub short : length given ≤ most_input
  pub header : is_headless is_no_live false given ≡ false
  pub wrote : new.held ≡ old.held

-- What a status says of the bytes that the source gave, and of what is seen of source and sink before and after. The text is
-- whole before its first byte is written.
abbrev pub LiveEnds : Status → (given : List ℕ) (source_old source_new : SourceSeen) (old new : SinkSeen) → Type 0
LiveEnds Fine given source_old source_new old new = EndsLive given source_new old new
LiveEnds BadWords given source_old source_new old new = ⊥
LiveEnds BadHeader given source_old source_new old new = EndsHeadless is_no_live given source_new old new
LiveEnds TooLong given source_old source_new old new = EndsLiveTooLong given old new
LiveEnds ReadFault given source_old source_new old new = EndsLiveBroken given source_old source_new old new
LiveEnds WriteFault given source_old source_new old new = EndsLiveUnwritten given source_new old new
LiveEnds NoMemory given source_old source_new old new = new.held ≡ old.held

-- the source gave these bytes in a call, at most one more than an input may have, and they are answered
pub record AnswersLive (result : Status) (source_old source_new : SourceSeen) (old new : SinkSeen) : Type 0 where
  pub given : List ℕ
  pub gave : Gave source_old.left source_new.left given
  pub few : length given ≤ most_input + 1
  pub ends : LiveEnds result given source_old source_new old new

-- words and an input that ask for a live run: a header, and no byte too many
pub record IsGoodLive (words : List (List ℕ)) (input : List ℕ) : Type 0 where
  pub asked : request_of words ≡ Some request.Live
  pub short : length input ≤ most_input
  pub header : lacks_header is_no_live true (from_command (lines_of input)) ≡ false
