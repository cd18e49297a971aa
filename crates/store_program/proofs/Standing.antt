-- Lemmas on the header of a script that has come so far.
use Rattle.std.proofs.Common.{◌≡◌, ℕ, Bool, false, List, [], ap, ◌∙◌}
use Rattle.std.specs.Prelude.{is_none}
use Rattle.script_net.specs.Feeding.{StandsAt, StandsBehind}
use Rattle.script_net.specs.Lines.{from_command}
use Rattle.script_net.specs.Transcript.{is_no_script, lacks_header}
use Rattle.script_net.specs.declared.feed.Stage.{Stage}
use Rattle.script_net.specs.declared.feed.Stage.TheVariants.{Opening, Running}
use Rattle.script_net.specs.declared.runner.Runner.{Runner}

pub behind_header : (ended : Bool) (runner : Runner) (lines : List (List ℕ)) → StandsBehind runner lines → lacks_header is_no_script ended (from_command lines) ≡ false
behind_header ended runner lines s = ap (lacks_header is_no_script ended) s.begins ∙ ap is_none s.opens

-- where a script stands no header is lacking so far
pub stands_well : (stage : Stage) (lines : List (List ℕ)) → StandsAt stage lines → lacks_header is_no_script false (from_command lines) ≡ false
stands_well Opening lines s = ap (lacks_header is_no_script false) s
stands_well (Running runner) lines s = behind_header false runner lines s
