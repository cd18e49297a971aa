use Rattle.std.proofs.Common.{inl, inr, IsTrue, FitsSigned, rules, refl, sym, ap, subst, ◌∙◌}
use Rattle.std.specs.Int.{w128}
use Rattle.std.proofs.lemmas.Int.{to_z-of_z}
use Rattle.op_base.specs.declared.name.Kind.{Kind}
use Rattle.op_base.specs.declared.outcome.Answer.TheVariants.{Sum}
use Rattle.counter_types.specs.Asked.{has_sum}
use Rattle.replica_core.specs.Rules.{fields_of}
use Rattle.replica_core.proofs.ObjectParts.{parts_of, sum_in}
use Rattle.replica_core.proofs.Ranges.{AreNumbers-from_test}
use Rattle.replica_core.proofs.replica.Replica.count.Goals as goal

pub count_sum-requires-clause-kind : goal.count_sum-requires-clause-kind
count_sum-requires-clause-kind c = elim c.requires.kind [ inl e ↦ subst (λ (k : Kind). IsTrue (has_sum k)) (sym e) refl | inr e ↦ subst (λ (k : Kind). IsTrue (has_sum k)) (sym e) refl ]

pub count_sum-requires-clause-range : goal.count_sum-requires-clause-range
count_sum-requires-clause-range c =
    let r = c.args.self.now in
    sum_in (fields_of r) c.args.object.now _ _ c.of_object.ensures.of c.of_object-2.ensures.cells r.stands (AreNumbers-from_test r.me r.n r.w r.limit r.numbers).most

pub returns : goal.returns
returns c = record {
  answer = λ s stands.
      let fits : FitsSigned w128 c.count_sum.result = search rules in
      ap Sum (to_z-of_z w128 c.count_sum.result fits)
      ∙ c.count_sum.ensures.of c.args.self.now.w s.history stands.is_state.is_history
      (parts_of (fields_of c.args.self.now) c.args.object.now _ _ c.of_object.ensures.of c.of_object-2.ensures.cells s stands);
}
