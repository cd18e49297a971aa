use Rattle.std.proofs.Common.{IsTrue, sym, subst}
use denote.Struct.Props.{props}
use Rattle.std.proofs.Math.Logic.{∥∥₁_elim}
use Rattle.op_base.specs.Message.{fits}
use Rattle.replica_core.specs.Rules.{fields_of}
use Rattle.replica_core.proofs.Own.{own_fits}
use Rattle.replica_core.proofs.replica.Replica.next_message.Goals as goal

pub returns-clause-fits : goal.returns-clause-fits
returns-clause-fits c =
    let r = c.args.self.now in
    ∥∥₁_elim r.stands (search props) (λ x. subst (λ tag. IsTrue (fits r.n (record { origin = r.me; tag = tag; op = c.args.op }))) (sym (c.next_tag.ensures x.0 x.1)) (own_fits (fields_of r) x.0 x.1 c.args.op))
