-- How far the run of a script has come, whose bytes come in pieces.
use Rattle.std.specs.Prelude.{◌≡◌, ℕ, Bool, true, false, List, [], ◌∷◌, ◌++◌, map, Some}
use Rattle.std.specs.List.{slice_split}
use Rattle.std.specs.Str.Lines.{strip_carriage_return}
use Rattle.script_lang.specs.Headers.{header_of}
use Rattle.script_net.specs.Lines.{is_newline, from_command}
use Rattle.script_net.specs.Runs.{RunsIn, HasEnded}
use Rattle.script_net.specs.Transcript.{AnyPlain, opened, world_after}
use Rattle.script_net.specs.declared.feed.Stage.{Stage}
use Rattle.script_net.specs.declared.feed.Stage.TheVariants.{Opening, Running}
use Rattle.script_net.specs.declared.runner.Runner.{Runner}

-- a run stands in the plain world after the lines behind the header
pub record StandsBehind (runner : Runner) (lines : List (List ℕ)) : Type 0 where
  pub header : List ℕ
  pub behind : List (List ℕ)
  pub plain : AnyPlain
  pub begins : from_command lines ≡ header ∷ behind
  pub opens : opened (header_of header) ≡ Some plain
  pub runs : RunsIn runner (world_after plain behind)

-- where a script stands after these of its lines
abbrev pub StandsAt : Stage → List (List ℕ) → Type 0
StandsAt Opening lines = from_command lines ≡ []
StandsAt (Running runner) lines = StandsBehind runner lines

-- the run of a script has ended, since there was no memory
abbrev pub IsOver : Stage → Type 0
IsOver Opening = ⊥
IsOver (Running runner) = HasEnded runner

-- whether no command line has come
abbrev pub is_opening : Stage → Bool
is_opening Opening = true
is_opening (Running runner) = false

-- of a text these are the lines that are done, and what is left of it has the others
pub record IsDone (text : List ℕ) (done : List (List ℕ)) (left : List ℕ) : Type 0 where
  pub parts : List (List ℕ)
  pub cut : slice_split is_newline text ≡ parts ++ slice_split is_newline left
  pub lines : done ≡ map strip_carriage_return parts

-- bytes without a newline
abbrev pub IsPart : List ℕ → Type 0
IsPart bytes = slice_split is_newline bytes ≡ bytes ∷ []
