use Rattle.std.proofs.Common.{take}
use Rattle.live_run.specs.Inputs.{commands_in, commands_of}
use Rattle.live_run.specs.Workers.{IsClientDone}
use Rattle.live_run.proofs.client.make_commands.Given as goal

abbrev pub invariant-loop-line : goal.invariant-loop-line
invariant-loop-line g l = IsClientDone l.node (commands_of l.client.number (commands_in (take l.line-index l.lines))) l.desk.done
