use Rattle.std.proofs.Common.{◌+◌, ◌<◌, ap₂, ◌∙◌, slice_set, arith}
use denote.Struct.Props.{props}
use Rattle.std.proofs.Math.Logic.{∥∥₁_elim}
use Rattle.op_base.specs.Timestamp.{entry}
use Rattle.replica_core.specs.Rules.{fields_of}
use Rattle.replica_core.proofs.Ranges.{AreNumbers-from_test}
use Rattle.replica_core.proofs.Stands.{member_in, length-counts_in, counts_of, own_count_of}
use Rattle.replica_core.proofs.replica.Replica.next_tag.Goals as goal

pub at-requires : goal.at-requires
at-requires c =
    let r = c.args.self.now in
    omega (arith, member_in (fields_of r) r.stands, length-counts_in (fields_of r) r.stands)

pub overflow_add-at : goal.overflow_add-at
overflow_add-at c =
    let r = c.args.self.now in
    let more : entry r.counts r.me < r.limit = ∥∥₁_elim r.stands (search props) (λ x. omega (arith, c.requires x.0 x.1, own_count_of (fields_of r) x.0 x.1)) in
    omega (arith, more, c.at.ensures, (AreNumbers-from_test r.me r.n r.w r.limit r.numbers).most)

pub set-requires : goal.set-requires
set-requires c =
    let r = c.args.self.now in
    omega (arith, member_in (fields_of r) r.stands, length-counts_in (fields_of r) r.stands)

pub returns : goal.returns
returns c = λ s stands.
    let r = c.args.self.now in
    c.set.ensures ∙ ap₂ (λ counts own. slice_set counts r.me (own + 1)) (counts_of (fields_of r) s stands) (c.at.ensures ∙ own_count_of (fields_of r) s stands)
