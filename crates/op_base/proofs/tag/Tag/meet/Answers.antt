use Rattle.std.proofs.Common.{length, sym, ap, ◌∙◌}
use Rattle.op_base.proofs.Timestamps.{lesser_padded}
use Rattle.op_base.proofs.tag.Tag.meet.Goals as goal

pub invariant_of-result : goal.invariant_of-result
invariant_of-result c = lesser_padded _ _ _ c.self.invariant c.other.invariant (ap length c.self.view_is ∙ c.requires ∙ sym (ap length c.other.view_is)) c.lesser_at_places.ensures.len c.lesser_at_places.ensures.each
