use Rattle.std.proofs.Common.{◌≡◌, map, rules, tests}
use Rattle.std.specs.List.{slice_split}
use Rattle.std.proofs.lemmas.Iterator.Consumers.{map_from_collect}
use Rattle.std.proofs.lemmas.Iterator.Splits.{YieldsList-from_slice_split}
use Rattle.std.proofs.lemmas.Result.{IfOk-at_ok}
use Rattle.script_net.specs.Lines.{is_newline}
use Rattle.script_draw.proofs.script.parts_of.Goals as goal

pub returns : goal.returns
returns c =
    let collected = map_from_collect c.collect.result c.collect.ensures.ran (YieldsList-from_slice_split _ _ c.args.script.now c.split.ensures.rest c.split.ensures.done c.split.ensures.closure (λ x r q k. search (rules, tests))) in
    IfOk-at_ok (λ v. map (λ part. part.now) v.items ≡ slice_split is_newline c.args.script.now) c.in_ok-collect.was collected
