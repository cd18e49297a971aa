use Rattle.std.proofs.Math.Logic.{∥∥₁_map}
use Rattle.causal_model.specs.Journal.{regrouped}
use Rattle.causal_model.specs.State.{State}
use Rattle.list_type.specs.Shown.{shown as lists_shown}
use Rattle.stable_state.specs.Shown.{shown}
use Rattle.replica_core.specs.Rules.{StandsFor, fields_of}
use Rattle.replica_core.specs.Standing.{Standing}
use Rattle.replica_core.proofs.Regroups.{next_fields, regroups}
use Rattle.replica_core.proofs.replica.Replica.next.Goals as goal
use Rattle.replica_core.proofs.replica.Replica.next.Goals.{In_ok-copy-2}

-- what was made of nothing stands for the state of the next epoch
stands_next : (c : In_ok-copy-2) (s : State) → StandsFor c.args.self.now s
    → Standing (next_fields (fields_of c.args.self.now) c.args.me c.args.n c.zero.result c.new.result c.in_ok-parts.parts (shown c.in_ok-copy.field-0) (lists_shown c.in_ok-copy-2.field-0)) (regrouped c.args.n c.args.me s)
stands_next c s stands =
    regroups (fields_of c.args.self.now) c.args.me c.args.n _ _ c.in_ok-parts.parts _ _ s stands c.requires.numbers c.requires.early (c.requires.settled s stands) c.zero.ensures c.new.ensures.known (c.in_ok-parts.ensures c.args.me) c.in_ok-copy.ensures.items c.in_ok-copy-2.ensures

pub invariant_of-result : goal.invariant_of-result
invariant_of-result c = record {
  numbers = c.requires.numbers;
  stands = ∥∥₁_map c.args.self.now.stands (λ x. (regrouped c.args.n c.args.me x.0, stands_next (goal.at.invariant_of-result c).In_ok-copy-2 x.0 x.1));
}

pub returns-clause-stands : goal.returns-clause-stands
returns-clause-stands c = stands_next (goal.at.returns-clause-stands c).In_ok-copy-2
