use Rattle.std.proofs.Common.{◌≡◌, map, take}
use Rattle.std.specs.Str.Lines.{strip_carriage_return}
use Rattle.script_draw.proofs.script.lines_of.Given as goal

abbrev pub invariant-loop-part : goal.invariant-loop-part
invariant-loop-part l =
    map (λ line. line.now) l.lines.items ≡ map strip_carriage_return (map (λ part. part.now) (take l.part-index l.part-items))
