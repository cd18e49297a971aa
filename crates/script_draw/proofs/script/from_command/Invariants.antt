use Rattle.std.proofs.Common.{◌≡◌, length, map}
use Rattle.script_net.specs.Lines.{from_command}
use Rattle.script_draw.proofs.script.from_command.Given as goal

abbrev pub invariant-loop-rest : goal.invariant-loop-rest
invariant-loop-rest l = from_command (map (λ line. line.now) l.rest) ≡ from_command (map (λ line. line.now) l.lines)

abbrev pub decreases-loop-rest : goal.decreases-loop-rest
decreases-loop-rest l = length l.rest
