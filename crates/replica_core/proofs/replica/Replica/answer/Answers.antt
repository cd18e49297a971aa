use Rattle.std.proofs.Common.{FitsSigned, rules, sym, ap, ◌∙◌}
use Rattle.std.specs.Int.{w128}
use Rattle.std.proofs.lemmas.Int.{to_z-of_z}
use Rattle.op_base.specs.declared.outcome.Answer.TheVariants.{Sum, Values}
use Rattle.causal_model.specs.History.{events}
use Rattle.causal_model.specs.Query.{answer_as}
use Rattle.replica_core.specs.Rules.{fields_of}
use Rattle.replica_core.proofs.KeptLists.{lists_of}
use Rattle.replica_core.proofs.ObjectParts.{are_own, parts_of, sum_in}
use Rattle.replica_core.proofs.Ranges.{AreNumbers-from_test}
use Rattle.replica_core.proofs.replica.Replica.answer.Goals as goal
use Rattle.replica_core.proofs.replica.Replica.answer.Goals.{in-AwSet+in_ok-set_values-in-AwSet, in-MvReg+in_ok-mvreg_values-in-MvReg, in-EwFlag, in-Counter, in-List+in_ok-values-in-List}

pub count_sum-requires-clause-range : goal.count_sum-requires-clause-range
count_sum-requires-clause-range c =
    let r = c.args.self.now in
    sum_in (fields_of r) c.args.object.now _ _ c.of_object-entries.ensures.of c.of_object-items.ensures.cells r.stands (AreNumbers-from_test r.me r.n r.w r.limit r.numbers).most

pub values-requires : goal.values-requires
values-requires c = record { own = are_own c.args.object.now _ _ c.of_object-entries.ensures.entries }

pub returns : goal.returns
returns c = record {
  answer = λ s stands.
      let r = c.args.self.now in
      let parts = parts_of (fields_of r) c.args.object.now _ _ c.of_object-entries.ensures.of c.of_object-items.ensures.cells s stands in
      elim c.match-object.branch [
        | in-AwSet+in_ok-set_values-in-AwSet v ↦ v.result-is ∙ v.in_ok-set_values-in-AwSet.ensures.of r.w s.history stands.is_state.is_history parts
        | in-MvReg+in_ok-mvreg_values-in-MvReg v ↦ v.result-is ∙ v.in_ok-mvreg_values-in-MvReg.ensures.of r.w s.history stands.is_state.is_history parts
        | in-EwFlag v ↦ v.result-is ∙ v.flag_on.ensures.of r.w s.history stands.is_state.is_history parts
        | in-List+in_ok-values-in-List v ↦
            v.result-is
            ∙ ap Values (v.in_ok-values-in-List.ensures.of r.w s.history stands.is_state.is_history v.in-List.is (sym stands.in_epoch) parts.logged (lists_of (fields_of r) s stands))
            ∙ ap (λ kind. answer_as kind c.args.object.now (events s.history)) (sym v.in-List.is)
        | in-Counter v ↦ let fits : FitsSigned w128 v.count_sum.result = search rules in v.result-is ∙ ap Sum (to_z-of_z w128 v.count_sum.result fits) ∙ v.count_sum.ensures.of r.w s.history stands.is_state.is_history parts
      ];
}
