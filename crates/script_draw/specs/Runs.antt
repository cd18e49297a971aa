-- How the run of a script stands.
use Rattle.std.specs.Prelude.{◌≡◌, ℕ, ◌-◌, List, [], ◌∷◌, Some, length, take}
use Rattle.script_lang.specs.Headers.{header_of}
use Rattle.script_net.specs.Runs.{RunsIn}
use Rattle.script_net.specs.Transcript.{AnyPlain, opened}
use Rattle.script_net.specs.declared.runner.Runner.{Runner}

-- a run stands in the plain world that the first of these lines opens, with the others to come
abbrev pub StandsBehind : List (List ℕ) → Runner → List (List ℕ) → Type 0
StandsBehind [] runner lines = ⊥
StandsBehind (header ∷ behind) runner lines = (plain : AnyPlain) × (opened (header_of header) ≡ Some plain) × RunsIn runner plain × (lines ≡ behind)

-- a reply without its newline
abbrev pub without_newline : List ℕ → List ℕ
without_newline text = take (length text - 1) text
