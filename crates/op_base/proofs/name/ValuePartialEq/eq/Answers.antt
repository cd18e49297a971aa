use Rattle.std.proofs.Common.{nat_cmp, sym, ap, ◌∙◌}
use Rattle.std.specs.Ordering.{is_eq}
use Rattle.std.specs.Cmp.Lexicographic.{slice_cmp, texts_ties}
use Rattle.op_base.specs.ValueFields.{bytes_of}
use Rattle.op_base.proofs.name.ValuePartialEq.eq.Goals as goal

pub returns-in-Short-Short : goal.returns-in-Short-Short
returns-in-Short-Short c =
    let self = ap bytes_of (sym c.in-Short-Short.is-0) ∙ c.self.view_is in
    let other = ap bytes_of (sym c.in-Short-Short.is-1) ∙ c.other.view_is in
    c.is_eq.ensures ∙ ap is_eq (c.order_to.ensures ∙ (λ i. slice_cmp nat_cmp (self i) (other i))) ∙ sym (texts_ties c.args.self.now c.args.other.now)
