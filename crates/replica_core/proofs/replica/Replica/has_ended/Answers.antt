use Rattle.std.proofs.Common.{◌==◌, ap, ◌∙◌, arith}
use Rattle.replica_core.specs.Rules.{fields_of}
use Rattle.replica_core.proofs.Stands.{member_in, length-counts_in, own_count_of}
use Rattle.replica_core.proofs.replica.Replica.has_ended.Goals as goal

pub at-requires : goal.at-requires
at-requires c =
    let r = c.args.self.now in
    omega (arith, member_in (fields_of r) r.stands, length-counts_in (fields_of r) r.stands)

pub returns : goal.returns
returns c = λ s stands.
    let r = c.args.self.now in
    ap (λ own. own == r.limit) (c.at.ensures ∙ own_count_of (fields_of r) s stands)
