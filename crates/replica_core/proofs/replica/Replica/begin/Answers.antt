use Rattle.std.proofs.Common.{refl}
use Rattle.std.proofs.Math.Logic.{∥∥₁_map}
use Rattle.causal_model.specs.Journal.{regrouped}
use Rattle.replica_core.specs.Rules.{fields_of}
use Rattle.replica_core.proofs.Regroups.{regroups}
use Rattle.replica_core.proofs.replica.Replica.begin.Goals as goal

pub invariant_of-self : goal.invariant_of-self
invariant_of-self c =
    let r = c.args.self.now in
    record {
      numbers = c.requires.numbers;
      stands = ∥∥₁_map r.stands (λ x. (regrouped c.args.n c.args.me x.0, regroups (fields_of r) c.args.me c.args.n _ _ c.args.parts _ _ x.0 x.1 c.requires.numbers c.requires.early (c.requires.settled x.0 x.1) c.zero-self.ensures c.new-self.ensures.known c.requires.parts refl refl));
    }

pub returns-clause-stands : goal.returns-clause-stands
returns-clause-stands c s stands =
    regroups (fields_of c.args.self.now) c.args.me c.args.n _ _ c.args.parts _ _ s stands c.requires.numbers c.requires.early (c.requires.settled s stands) c.zero-self.ensures c.new-self.ensures.known c.requires.parts refl refl
