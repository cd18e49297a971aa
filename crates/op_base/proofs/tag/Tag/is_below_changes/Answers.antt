use Rattle.std.proofs.Common.{◌↔◌, ℕ, ◌<◌, length, sym, ap, subst, ◌∙◌, IsTrue}
use Rattle.op_base.specs.TagFields.{numbers_of}
use Rattle.op_base.specs.Timestamp.{entry, IsBelowChange}
use Rattle.op_base.proofs.Timestamps.{below_changes-padded}
use Rattle.op_base.proofs.tag.Tag.is_below_changes.Goals as goal

pub returns : goal.returns
returns c =
    let from = ap length c.from.view_is ∙ c.requires.from ∙ sym (ap length c.self.view_is) in
    let to = ap length c.to.view_is ∙ c.requires.to ∙ sym (ap length c.self.view_is) in
    let places = below_changes-padded _ _ _ c.self.invariant c.from.invariant c.to.invariant from to in
    let members : IsTrue c.are_below_changes.result ↔ ((x : ℕ) → x < length (numbers_of c.self.inside) → IsBelowChange (entry (numbers_of c.self.inside) x) (entry (numbers_of c.from.inside) x) (entry (numbers_of c.to.inside) x)) =
    ((λ true. places.0 (c.are_below_changes.ensures.0 true)), (λ all. c.are_below_changes.ensures.1 (places.1 all))) in
    subst (λ b. IsTrue c.are_below_changes.result ↔ ((x : ℕ) → x < length b → IsBelowChange (entry b x) (entry c.args.from.now x) (entry c.args.to.now x))) c.self.view_is
    (subst (λ f. IsTrue c.are_below_changes.result ↔ ((x : ℕ) → x < length (numbers_of c.self.inside) → IsBelowChange (entry (numbers_of c.self.inside) x) (entry f x) (entry c.args.to.now x))) c.from.view_is
    (subst (λ t. IsTrue c.are_below_changes.result ↔ ((x : ℕ) → x < length (numbers_of c.self.inside) → IsBelowChange (entry (numbers_of c.self.inside) x) (entry (numbers_of c.from.inside) x) (entry t x))) c.to.view_is members))
