use Rattle.std.proofs.Common.{◌≡◌, ◌++◌, take, map}
use Rattle.std.specs.Fmt.{decimal}
use Rattle.script_lang.specs.Replies.{spaced}
use Rattle.script_lang.proofs.reply.put_numbers.Given as goal

abbrev pub invariant-loop-x : goal.invariant-loop-x
invariant-loop-x l = l.out ≡ l.fn.out ++ (l.word ++ spaced (map decimal (take l.x l.tag)))
