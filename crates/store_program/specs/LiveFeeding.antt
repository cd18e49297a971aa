-- How far the reading of a live input has come, whose bytes come in pieces.
use Rattle.std.specs.Prelude.{◌≡◌, ℕ, ◌≤◌, List, [], ◌++◌, length, All, IsTrue, Option, Result, Ok, Err}
use Rattle.store_io.specs.Bytes.{Gave, Ended}
use Rattle.script_lang.specs.Headers.{is_in_range}
use Rattle.script_lang.specs.Ranges.{LiveLineIsWithin}
use Rattle.script_lang.specs.declared.header.Header.TheVariants.{Live}
use Rattle.script_net.specs.Lines.{lines_of, from_command}
use Rattle.script_net.specs.Feeding.{IsDone, IsPart}
use Rattle.script_net.specs.declared.feed.Stop.{Stop}
use Rattle.script_net.specs.declared.feed.Stop.TheVariants as stop
use Rattle.live_run.specs.declared.input.NumberedLine.{NumberedLine}
use Rattle.store_program.specs.declared.run.Status.{Status}
use Rattle.store_program.specs.declared.run.Status.TheVariants as status
use Rattle.store_program.specs.declared.live_feed.LiveFeed.{LiveFeed}
use Rattle.store_program.specs.declared.live_feed.LiveInput.{LiveInput}
use Rattle.store_program.specs.declared.live_feed.LiveStage.{LiveStage}
use Rattle.store_program.specs.declared.live_feed.LiveStage.TheVariants.{Opening, Behind}
use Rattle.store_program.specs.Run.{most_input, SourceSeen, SinkSeen}
use Rattle.store_program.specs.Live.{AsksFor, AnswersLive}

-- what lines ask for is this, with numbers in range and of no other clients and members
pub record Asks (n w clients turns loss : ℕ) (asked : List NumberedLine) (lines : List (List ℕ)) : Type 0 where
  pub asks : AsksFor lines n w clients turns loss asked
  pub in_range : IsTrue (is_in_range (Live n w clients turns loss))
  pub within : All (λ l. LiveLineIsWithin n clients l.line) asked

-- a live input is what lines ask for
abbrev pub IsAsked : LiveInput → List (List ℕ) → Type 0
IsAsked input lines = Asks input.n input.w input.clients input.turns input.loss input.lines.items lines

-- the status of a run that stopped for this
abbrev pub status_of_stop : Stop → Status
status_of_stop stop.BadHeader = status.BadHeader
status_of_stop stop.NoMemory = status.NoMemory

-- where a live input stands after these of its lines
abbrev pub LiveStandsAt : LiveStage → List (List ℕ) → Type 0
LiveStandsAt Opening lines = from_command lines ≡ []
LiveStandsAt (Behind input) lines = IsAsked input lines

-- a text has been taken but for this rest: the lines that are done are counted, and what is left is the part that waits
pub record IsTaken (feed : LiveFeed) (text rest : List ℕ) : Type 0 where
  pub done : List (List ℕ)
  pub part : IsPart feed.part
  pub cut : IsDone text done (feed.part ++ rest)
  pub count : feed.count ≡ length done
  pub stands : LiveStandsAt feed.stage done

-- the source gave a live input in a call, and it is this
pub record IsLiveInput (input : LiveInput) (source_old source_new : SourceSeen) : Type 0 where
  pub given : List ℕ
  pub gave : Gave source_old.left source_new.left given
  pub ended : Ended source_new.left
  pub short : length given ≤ most_input
  pub asked : IsAsked input (lines_of given)

-- a live input was read, or the status says why not, of a sink to which nothing was written
abbrev pub IsReadOr : Result LiveInput Status → (source_old source_new : SourceSeen) → Type 0
IsReadOr (Ok input) source_old source_new = IsLiveInput input source_old source_new
IsReadOr (Err status) source_old source_new = (sink : SinkSeen) → AnswersLive status source_old source_new sink sink
