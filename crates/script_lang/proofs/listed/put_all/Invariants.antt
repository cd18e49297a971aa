use Rattle.std.proofs.Common.{◌≡◌, ◌++◌, take, map}
use Rattle.script_lang.specs.Replies.{spaced}
use Rattle.script_lang.proofs.listed.put_all.Given as goal

abbrev pub invariant-loop-item : goal.invariant-loop-item
invariant-loop-item g l = l.out ≡ l.fn.out ++ spaced (map g.T.Listed.word (take l.item-index l.items))
