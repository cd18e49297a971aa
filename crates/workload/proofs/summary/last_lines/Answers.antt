use Rattle.std.proofs.Common.{◌≡◌, ◌-◌, length, map, take, drop, ap, ◌∙◌, arith}
use Rattle.std.proofs.lemmas.Grind.{common_steps}
use Rattle.workload.proofs.Views.{last_of}
use Rattle.workload.proofs.summary.last_lines.Goals as goal

pub returns : goal.returns
returns c =
    let last : take (length c.args.lines.now - c.saturating_sub.result) (drop c.saturating_sub.result c.args.lines.now) ≡ drop (length c.args.lines.now - 14) c.args.lines.now = grind (arith, common_steps) in
    ap (map (λ line. line.now)) last ∙ last_of (λ line. line.now) c.args.lines.now
