use Rattle.std.proofs.Common.{◌≡◌, ◌++◌, map, take}
use Rattle.live_run.specs.Texts.{reply_lines}
use Rattle.live_run.proofs.text.put_replies.Given as goal

abbrev pub invariant-loop-c : goal.invariant-loop-c
invariant-loop-c l = l.out ≡ l.fn.out ++ reply_lines 0 (map (λ ts. ts.items) (take l.c l.told))
