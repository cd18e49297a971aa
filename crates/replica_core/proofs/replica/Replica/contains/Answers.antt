use Rattle.std.proofs.Common.{inl, inr, Some, IsTrue, refl, sym, ap, subst, ◌∙◌}
use Rattle.op_base.specs.declared.name.Kind.{Kind}
use Rattle.causal_model.specs.History.{events}
use Rattle.causal_model.specs.Parts.{has}
use Rattle.part_queries.specs.Asked.{is_set}
use Rattle.replica_core.specs.Rules.{fields_of}
use Rattle.replica_core.proofs.ObjectParts.{parts_of}
use Rattle.replica_core.proofs.replica.Replica.contains.Goals as goal

pub set_contains-requires : goal.set_contains-requires
set_contains-requires c = elim c.requires.kind [ inl e ↦ subst (λ (k : Kind). IsTrue (is_set k)) (sym e) refl | inr e ↦ subst (λ (k : Kind). IsTrue (is_set k)) (sym e) refl ]

pub returns : goal.returns
returns c = record {
  answer = λ s stands.
      let r = c.args.self.now in
      let object = c.args.object.now in
      let history = stands.is_state.is_history in
      let parts = parts_of (fields_of r) object _ _ c.of_object.ensures.of c.of_object-2.ensures.cells s stands in
      elim c.requires.kind [
        | inl e ↦ c.set_contains.ensures.add_wins r.w s.history history parts e ∙ ap (λ (k : Kind). has k object (events s.history) (Some c.args.value.now)) (sym e)
        | inr e ↦ c.set_contains.ensures.remove_wins r.w s.history history parts e ∙ ap (λ (k : Kind). has k object (events s.history) (Some c.args.value.now)) (sym e)
      ];
}
