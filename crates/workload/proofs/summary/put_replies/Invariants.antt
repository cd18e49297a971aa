use Rattle.std.proofs.Common.{◌≡◌, ◌++◌, length, map, take}
use Rattle.std.specs.List.{zip}
use Rattle.workload.specs.Summary.{ended, told_reply}
use Rattle.workload.proofs.summary.put_replies.Given as goal

abbrev pub invariant-loop-line : goal.invariant-loop-line
invariant-loop-line l =
    l.out ≡ l.fn.out ++ ended (map told_reply (take (length l.yielded) (zip (map (λ line. line.now) l.lines) (map (λ reply. reply.now) l.replies))))
