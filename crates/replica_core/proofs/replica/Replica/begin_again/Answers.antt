use Rattle.std.proofs.Common.{refl}
use Rattle.std.proofs.Math.Logic.{∥∥₁_map}
use Rattle.causal_model.specs.Journal.{regrouped}
use Rattle.causal_model.specs.State.{State}
use Rattle.replica_core.specs.Rooms.{AreParts}
use Rattle.replica_core.specs.Rules.{StandsFor, fields_of}
use Rattle.replica_core.specs.declared.epochs.EpochParts.{EpochParts}
use Rattle.list_type.specs.Shown.{shown as lists_shown}
use Rattle.stable_state.specs.Shown.{shown}
use Rattle.replica_core.specs.Standing.{Standing}
use Rattle.replica_core.proofs.Regroups.{next_fields, regroups, emptied_serve}
use Rattle.replica_core.proofs.replica.Replica.begin_again.Goals as goal
use Rattle.replica_core.proofs.replica.Replica.begin_again.Goals.{After-clear-4}

abbrev emptied : After-clear-4 → EpochParts
emptied c = record { window = c.clear.new.self; buffer = c.clear-2.new.self; log = c.clear-3.new.self; outbox = c.clear-4.new.self }

they_serve : (c : After-clear-4) (s : State) → StandsFor c.args.self.now s → AreParts c.args.me c.args.self.now.n c.args.self.now.w (emptied c)
they_serve c s stands =
    let me = c.args.me in
    emptied_serve (fields_of c.args.self.now) s me (emptied c) stands (c.clear.ensures.nothing me) (c.clear-2.ensures.stands me) (c.clear-3.ensures.nothing _ _ me) c.clear-3.ensures.empty c.clear-4.ensures

stands_again : (c : After-clear-4) (s : State) → StandsFor c.args.self.now s → Standing (next_fields (fields_of c.args.self.now) c.args.me c.args.self.now.n c.zero-self.result c.new-self.result (emptied c) (shown c.args.self.now.items) (lists_shown c.args.self.now.lists)) (regrouped c.args.self.now.n c.args.me s)
stands_again c s stands =
    regroups (fields_of c.args.self.now) c.args.me c.args.self.now.n _ _ (emptied c) _ _ s stands c.requires.numbers c.requires.early (c.requires.settled s stands) c.zero-self.ensures c.new-self.ensures.known (they_serve c s stands) refl refl

pub invariant_of-self : goal.invariant_of-self
invariant_of-self c = record {
  numbers = c.requires.numbers;
  stands = ∥∥₁_map c.args.self.now.stands (λ x. (regrouped c.args.self.now.n c.args.me x.0, stands_again (goal.at.invariant_of-self c).After-clear-4 x.0 x.1));
}

pub returns-clause-stands : goal.returns-clause-stands
returns-clause-stands c = stands_again (goal.at.returns-clause-stands c).After-clear-4
