use Rattle.std.proofs.Common.{IsTrue, subst, sym, arith}
use Rattle.op_base.specs.Message.{fits}
use Rattle.replica_core.specs.Rules.{fields_of}
use Rattle.replica_core.proofs.Stands.{member_in, length-counts_in, buffer_n_in}
use Rattle.replica_core.proofs.replica.Replica.refusal.Goals as goal

pub is_far-requires-clause-fits : goal.is_far-requires-clause-fits
is_far-requires-clause-fits c = subst (λ n. IsTrue (fits n c.args.message.now)) (sym (buffer_n_in (fields_of c.args.self.now) c.args.self.now.stands)) c.requires

pub is_far-requires-clause-me : goal.is_far-requires-clause-me
is_far-requires-clause-me c =
    let r = c.args.self.now in
    omega (arith, member_in (fields_of r) r.stands, buffer_n_in (fields_of r) r.stands)

pub is_far-requires-clause-counts : goal.is_far-requires-clause-counts
is_far-requires-clause-counts c =
    let r = c.args.self.now in
    omega (arith, length-counts_in (fields_of r) r.stands, buffer_n_in (fields_of r) r.stands)
