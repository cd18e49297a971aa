use Rattle.std.proofs.Common.{◌++◌}
use Rattle.script_net.proofs.Standing.{at_stage, runs_on, runs_text}
use Rattle.script_net.proofs.feed.Stage.run_line.Goals as goal

pub returns-in-Opening-clause-text : goal.returns-in-Opening-clause-text
returns-in-Opening-clause-text c = λ done written stands text. c.begin.ensures.text done (written ++ c.args.out.now) stands text

pub returns-in-Ok-clause-stands : goal.returns-in-Ok-clause-stands
returns-in-Ok-clause-stands c = λ done stands.
    let behind = at_stage _ _ done c.in-Running.is stands in
    runs_on done c.args.line.now c.in-Running.runner behind c.line.new.self (c.in-Ok.ensures.world _ behind.runs)

pub returns-in-Ok-clause-text : goal.returns-in-Ok-clause-text
returns-in-Ok-clause-text c = λ done written stands text.
    let behind = at_stage _ _ done c.in-Running.is stands in
    runs_text done c.args.line.now c.in-Running.runner behind written c.args.out.now c.line.new.out text (c.in-Ok.ensures.text _ behind.runs)
