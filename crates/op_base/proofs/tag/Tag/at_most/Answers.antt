use Rattle.std.proofs.Common.{◌==◌, ap, ◌∙◌}
use Rattle.op_base.proofs.Timestamps.{none_above}
use Rattle.op_base.proofs.tag.Tag.at_most.Goals as goal

pub returns : goal.returns
returns c = ap (λ k. k == 0) c.count_above.ensures ∙ none_above c.args.self.now c.args.other.now c.requires
