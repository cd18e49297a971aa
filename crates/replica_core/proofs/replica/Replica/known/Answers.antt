use Rattle.std.proofs.Common.{arith}
use Rattle.replica_core.specs.Rules.{fields_of}
use Rattle.replica_core.proofs.Stands.{length-counts_in, buffer_n_in}
use Rattle.replica_core.proofs.replica.Replica.known.Goals as goal

pub covers_id-requires : goal.covers_id-requires
covers_id-requires c =
    let r = c.args.self.now in
    omega (arith, c.requires, length-counts_in (fields_of r) r.stands)

pub holds-requires : goal.holds-requires
holds-requires c =
    let r = c.args.self.now in
    omega (arith, c.requires, buffer_n_in (fields_of r) r.stands)
