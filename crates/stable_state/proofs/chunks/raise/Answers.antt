use Rattle.std.proofs.Common.{◌+◌, get_or, arith}
use Rattle.std.proofs.lemmas.List.{get_or_default}
use Rattle.std.proofs.lemmas.List.Edits.{map_over_more}
use Rattle.stable_state.proofs.chunks.raise.Goals as goal

pub loop-end-preserved : goal.loop-end-preserved
loop-end-preserved c =
    let ends = c.loop-end.ends in
    let k = c.loop-end.end-index in
    map_over_more (λ end. end + 1) c.args.ends.now ends k (get_or ends k 0) c.loop-end-test.true c.loop-end.invariant (get_or_default ends k 0 (get_or ends k 0) (omega (arith, c.loop-end-test.true, c.loop-end.auto.ends)))
