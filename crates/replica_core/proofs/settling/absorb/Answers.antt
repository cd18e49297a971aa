use Rattle.std.proofs.Common.{suc, sym, ap, subst, ◌∙◌}
use denote.Enum.Bare.{same_false}
use Rattle.op_base.specs.contracts.name.Kind.{the_type}
use Rattle.op_base.specs.declared.name.Kind.TheVariants as kinds
use Rattle.op_base.specs.declared.name.ObjectId.{ObjectId}
use Rattle.list_type.specs.Listed.{AreListsMoved}
use Rattle.list_type.specs.Shown.{shown as lists_shown}
use Rattle.replica_core.proofs.SettledWaits.{other_moves_no_list}
use Rattle.replica_core.proofs.settling.absorb.Goals as goal
use Rattle.replica_core.proofs.settling.absorb.Goals.{then-eq, else-eq}

pub returns-clause-lists : goal.returns-clause-lists
returns-clause-lists c = λ w h m k history epoch next moved. elim c.if-eq.branch [
  | then-eq v ↦ subst (λ lists. AreListsMoved h m (suc k) (lists_shown lists)) (sym v.lists-is) (v.settle.ensures.of w h m k history epoch next moved)
  | else-eq v ↦ subst (λ lists. AreListsMoved h m (suc k) (lists_shown lists)) (sym v.lists-is) (other_moves_no_list w h m k c.args.entry (lists_shown c.args.lists.now) (λ is_list. same_false the_type c.object.result.now.kind kinds.List (sym v.if-eq.ensures) (ap (λ (o : ObjectId). o.kind) c.object.ensures ∙ is_list)) history next moved)
]
