-- What a run of the program answers and writes.
use Rattle.std.specs.Prelude.{◌≡◌, ◌⊎◌, ℕ, ◌+◌, ◌<◌, ◌≤◌, Some, None, Bool, true, false, List, ◌++◌, length, take, Option}
use Rattle.store_io.specs.Bytes.{Gave, Ended, Took}
use Rattle.script_lang.specs.declared.header.Header.{Header}
use Rattle.script_lang.specs.declared.header.Header.TheVariants.{Store, Keep, Live}
use Rattle.script_net.specs.Lines.{lines_of, ended_lines_of, whole_lines_of, from_command}
use Rattle.script_net.specs.Honest.{IsFairText}
use Rattle.script_net.specs.Transcript.{is_no_script, lacks_header, transcript_of, transcript}
use Rattle.store_program.specs.declared.run.Status.{Status}
use Rattle.store_program.specs.declared.run.Status.TheVariants.{Fine, BadWords, BadHeader, TooLong, ReadFault, WriteFault, NoMemory}
use Rattle.store_program.specs.declared.words.Request.TheVariants.{Script}
use Rattle.store_program.specs.Words.{request_of}
use Rattle.workload.specs.Script.{made_script}
use Rattle.workload.specs.Summary.{summary}

-- an input has at most so many bytes
abbrev pub most_input : ℕ
most_input = 4194304

-- whether a line's header is none of a live input
abbrev pub is_no_live : Option Header → Bool
is_no_live (Some (Live n w clients turns loss)) = false
is_no_live (Some (Store n w limit)) = true
is_no_live (Some (Keep n w limit)) = true
is_no_live None = true

-- whether the bytes that a source gave lack a header, as far as the whole lines tell of the first that an input may have
abbrev pub is_headless : (Option Header → Bool) → Bool → List ℕ → Bool
is_headless is_none_of ended given = lacks_header is_none_of ended (from_command (whole_lines_of ended (take most_input given)))

-- the sink took a front of a text
pub record TookFront (old new : Option (List ℕ)) (text : List ℕ) : Type 0 where
  pub front : List ℕ
  pub behind : List ℕ
  pub parts : front ++ behind ≡ text
  pub took : Took old new front

-- what is seen of a source: the bytes that it has left, where it tells them, and how many of its reads failed
pub record SourceSeen : Type 0 where
  pub left : Option (List ℕ)
  pub faults : ℕ

abbrev pub source_seen : (left : Option (List ℕ)) (faults : ℕ) → SourceSeen
source_seen left faults = record { left = left; faults = faults }

-- what is seen of a sink: the bytes that it holds, where it tells them, and how many of its writes failed
pub record SinkSeen : Type 0 where
  pub held : Option (List ℕ)
  pub faults : ℕ

abbrev pub sink_seen : (held : Option (List ℕ)) (faults : ℕ) → SinkSeen
sink_seen held faults = record { held = held; faults = faults }

-- the input ended, it begins with a header, and its transcript was written
pub record EndsFine (given : List ℕ) (source : SourceSeen) (old new : SinkSeen) : Type 0 where
  pub ended : Ended source.left
  pub short : length given ≤ most_input
  pub header : is_headless is_no_script true given ≡ false
  pub wrote : Took old.held new.held (transcript given)

-- nothing was written: the lines that have ended lack a header, or all do and the input has ended
pub record EndsHeadless (is_none_of : Option Header → Bool) (given : List ℕ) (source : SourceSeen) (old new : SinkSeen) : Type 0 where
  pub lacks : (is_headless is_none_of false given ≡ true) ⊎ (Ended source.left × (length given ≤ most_input) × (is_headless is_none_of true given ≡ true))
  pub wrote : new.held ≡ old.held

-- one byte too many came, and the replies to the lines that ended before it were written
pub record EndsTooLong (given : List ℕ) (old new : SinkSeen) : Type 0 where
  pub long : length given ≡ most_input + 1
  pub header : is_headless is_no_script false given ≡ false
  pub wrote : Took old.held new.held (transcript_of (ended_lines_of (take most_input given)))

-- a read failed, and the replies to the lines that ended before it were written
pub record EndsBroken (given : List ℕ) (source_old source_new : SourceSeen) (old new : SinkSeen) : Type 0 where
  pub fault : source_old.faults < source_new.faults
  pub short : length given ≤ most_input
  pub header : is_headless is_no_script false given ≡ false
  pub wrote : Took old.held new.held (transcript_of (ended_lines_of given))

-- a write failed, and a front of the transcript was written
pub record EndsUnwritten (given : List ℕ) (old new : SinkSeen) : Type 0 where
  pub fault : old.faults < new.faults
  pub header : is_headless is_no_script false given ≡ false
  pub wrote : TookFront old.held new.held (transcript (take most_input given))

-- what a status says of the bytes that the source gave, and of what is seen of source and sink before and after
abbrev pub Ends : Status → (given : List ℕ) (source_old source_new : SourceSeen) (old new : SinkSeen) → Type 0
Ends Fine given source_old source_new old new = EndsFine given source_new old new
Ends BadWords given source_old source_new old new = ⊥
Ends BadHeader given source_old source_new old new = EndsHeadless is_no_script given source_new old new
Ends TooLong given source_old source_new old new = EndsTooLong given old new
Ends ReadFault given source_old source_new old new = EndsBroken given source_old source_new old new
Ends WriteFault given source_old source_new old new = EndsUnwritten given old new
Ends NoMemory given source_old source_new old new = TookFront old.held new.held (transcript (take most_input given))

-- the source gave these bytes in a call, at most one more than an input may have, and they are answered
pub record AnswersInput (result : Status) (source_old source_new : SourceSeen) (old new : SinkSeen) : Type 0 where
  pub given : List ℕ
  pub gave : Gave source_old.left source_new.left given
  pub few : length given ≤ most_input + 1
  pub ends : Ends result given source_old source_new old new

-- words and an input that ask for a run: a header, and no byte too many
pub record IsGoodScript (words : List (List ℕ)) (input : List ℕ) : Type 0 where
  pub asked : request_of words ≡ Some Script
  pub short : length input ≤ most_input
  pub header : lacks_header is_no_script true (from_command (lines_of input)) ≡ false

-- the sink took the replies to the lines of a script, and each is fair
pub record TookFair (script : List ℕ) (old new : Option (List ℕ)) : Type 0 where
  pub text : List ℕ
  pub fair : IsFairText script text
  pub took : Took old new text

-- ---- a script that is made

-- the summary of a made script and of its transcript, which is that of a script that is read
abbrev pub made_summary : (seed count n w : ℕ) → List ℕ
made_summary seed count n w = summary (made_script seed count n w) (transcript (made_script seed count n w))

-- What a status says of a made script's summary: all of it was written, or a front where a write failed, or nothing where
-- memory ran out. No other status comes.
abbrev pub AnswersMade : Status → (text : List ℕ) (old new : SinkSeen) → Type 0
AnswersMade Fine text old new = Took old.held new.held text
AnswersMade WriteFault text old new = (old.faults < new.faults) × TookFront old.held new.held text
AnswersMade NoMemory text old new = new.held ≡ old.held
AnswersMade other text old new = ⊥
