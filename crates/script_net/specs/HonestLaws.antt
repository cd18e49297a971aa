-- What holds of scripts in which no line offers bytes. Each statement is the contract of a function of laws.rt.
use Rattle.std.specs.Prelude.{◌≡◌, ℕ, true, List, Some}
use Rattle.script_lang.specs.Headers.{header_of}
use Rattle.script_lang.specs.declared.header.Header.TheVariants.{Store, Keep}
use Rattle.honest_worlds.specs.Stops.{IsKeep}
use Rattle.world_model.specs.Honest.{IsHonest}
use Rattle.world_model.specs.World.{opening}
use Rattle.script_net.specs.Honest.{exchanges, are_unforged, is_unforged, IsFairText}
use Rattle.script_net.specs.Laws.{world_by, keep_by}
use Rattle.script_net.specs.Transcript.{OfStore, transcript}

-- behind a header the world is honest after any such lines
abbrev pub ScriptsAreHonest : Type 0
ScriptsAreHonest = (header : List ℕ) (lines : List (List ℕ)) (n w limit : ℕ) → header_of header ≡ Some (Store n w limit)
    → are_unforged (exchanges (OfStore (opening n w limit)) lines) ≡ true → IsHonest (world_by n w limit lines)

-- and so it is after any lines behind a header keep, a stop among them: it is the world that the notes kept give
abbrev pub KeepScriptsAreHonest : Type 0
KeepScriptsAreHonest = (header : List ℕ) (lines : List (List ℕ)) (n w limit : ℕ) → header_of header ≡ Some (Keep n w limit)
    → let keep = keep_by n w limit lines in IsKeep keep × IsHonest keep.world

-- and the transcript is fair replies to the lines of the script
abbrev pub TranscriptsAreFair : Type 0
TranscriptsAreFair = (script : List ℕ) → is_unforged script ≡ true → IsFairText script (transcript script)
