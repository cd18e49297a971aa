use Rattle.std.proofs.Common.{length, sym, ap, ◌∙◌}
use Rattle.op_base.specs.Timestamp.{count_above}
use Rattle.op_base.proofs.Timestamps.{count_above-padded}
use Rattle.op_base.proofs.tag.Tag.count_above.Goals as goal

pub returns : goal.returns
returns c =
    let same = ap length c.self.view_is ∙ c.requires ∙ sym (ap length c.other.view_is) in
    c.count_at_places.ensures ∙ count_above-padded _ _ c.self.invariant c.other.invariant same ∙ (λ i. count_above (c.self.view_is i) (c.other.view_is i))
