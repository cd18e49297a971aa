use Rattle.std.proofs.Common.{inl, inr, IsTrue, refl, sym, subst}
use Rattle.op_base.specs.declared.name.Kind.{Kind}
use Rattle.part_queries.specs.Asked.{is_flag}
use Rattle.replica_core.specs.Rules.{fields_of}
use Rattle.replica_core.proofs.ObjectParts.{parts_of}
use Rattle.replica_core.proofs.replica.Replica.flag.Goals as goal

pub flag_on-requires : goal.flag_on-requires
flag_on-requires c = elim c.requires.kind [ inl e ↦ subst (λ (k : Kind). IsTrue (is_flag k)) (sym e) refl | inr e ↦ subst (λ (k : Kind). IsTrue (is_flag k)) (sym e) refl ]

pub returns : goal.returns
returns c = record {
  answer = λ s stands.
      c.flag_on.ensures.of c.args.self.now.w s.history stands.is_state.is_history
      (parts_of (fields_of c.args.self.now) c.args.object.now _ _ c.of_object.ensures.of c.of_object-2.ensures.cells s stands);
}
