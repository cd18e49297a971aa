use Rattle.std.proofs.Common.{◌≡◌, ◌-◌, ◌==◌, length, map, take, rules, tests}
use Rattle.std.specs.List.{slice_split}
use Rattle.std.proofs.lemmas.Iterator.Consumers.{map_from_collect}
use Rattle.std.proofs.lemmas.Iterator.Splits.{YieldsList-from_slice_split}
use Rattle.std.proofs.lemmas.Result.{IfOk-at_ok}
use Rattle.workload.proofs.Views.{all_but_last}
use Rattle.workload.proofs.summary.cut_lines.Goals as goal

pub returns : goal.returns
returns c =
    let parts = c.in_ok-lines.lines.items in
    let kept : c.pop-rest.new.self.items ≡ take (length parts - 1) parts = search rules in
    let collected = map_from_collect c.collect.result c.collect.ensures.ran (YieldsList-from_slice_split _ _ c.args.text.now c.split.ensures.rest c.split.ensures.done c.split.ensures.closure (λ x r q k. search (rules, tests))) in
    let texts = IfOk-at_ok (λ v. map (λ line. line.now) v.items ≡ slice_split (λ b. b == 10) c.args.text.now) c.in_ok-lines.was collected in
    all_but_last (λ line. line.now) parts c.pop-rest.new.self.items _ texts kept
