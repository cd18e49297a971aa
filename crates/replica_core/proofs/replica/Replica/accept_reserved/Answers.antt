use Rattle.std.proofs.Common.{◌+◌, ◌≤◌, length, vec_capacity, sym, subst, arith}
use Rattle.std.proofs.Math.Logic.{∥∥₁_map}
use Rattle.causal_model.specs.Receiving.{steps, with_early}
use Rattle.causal_model.specs.State.{State}
use Rattle.replica_core.specs.Rules.{StandsFor}
use Rattle.replica_core.specs.Steps.{HasAdded}
use Rattle.replica_core.proofs.Made.{all_are_made, none_of_no_steps, rest_has_room, rest_is_added}
use Rattle.replica_core.proofs.replica.Replica.accept_reserved.Goals as goal
use Rattle.replica_core.proofs.replica.Replica.accept_reserved.Goals.{Start, After-take_in}

pub overflow_add-all : goal.overflow_add-all
overflow_add-all c = omega (arith, c.requires.ready.behind, c.args.steps.now.ok.0, c.len.ensures)

pub take_in-requires-clause-message : goal.take_in-requires-clause-message
take_in-requires-clause-message c = c.requires.ready.message

pub take_in-requires-clause-room : goal.take_in-requires-clause-room
take_in-requires-clause-room c = λ s stands. omega (arith, c.requires.ready.made s stands, c.requires.ready.behind)

-- behind what was made there is room for the steps that are left
has_room : (c : After-take_in) (s : State) (stands : StandsFor c.args.self.now s) → length c.take_in.new.steps.items + length (steps c.args.self.now.w (c.take_in.ensures.made s stands).after).0 ≤ length c.args.steps.now.items + c.args.most
has_room c s stands =
    rest_has_room c.args.self.now.w (with_early s c.args.message) c.args.steps.now.items c.take_in.new.steps.items c.take_in.new.self _ (c.take_in.ensures.made s stands) (omega (arith, c.requires.ready.made s stands))

-- ---- none is left

pub returns-else-len-all-clause-steps : goal.returns-else-len-all-clause-steps
returns-else-len-all-clause-steps c = λ s stands.
    let w = c.args.self.now.w in
    let early = with_early s c.args.message in
    let has = c.take_in.ensures.made s stands in
    let room = has_room (goal.at.returns-else-len-all-clause-steps c).After-take_in s stands in
    all_are_made w early c.args.steps.now.items c.take_in.new.steps.items c.take_in.new.self has c.take_in.new.self
    (none_of_no_steps w has.after (omega (arith, room, c.if-len-all.false, c.len.ensures, c.len-2.ensures))) has.stands

-- ---- some may be left

pub make_steps-requires : goal.make_steps-requires
make_steps-requires c = record {
  room = ∥∥₁_map c.args.self.now.stands (λ x.
      let has = c.take_in.ensures.made x.0 x.1 in
      let room = has_room (goal.at.make_steps-requires c).After-take_in x.0 x.1 in
      (has.after, has.stands, subst (λ w. length c.take_in.new.steps.items + length (steps w has.after).0 ≤ vec_capacity c.take_in.new.steps) (sym c.take_in.ensures.settings.w) (omega (arith, room, c.requires.ready.behind, c.take_in.ensures.capacity))));
}

pub returns-then-len-all-clause-steps : goal.returns-then-len-all-clause-steps
returns-then-len-all-clause-steps c = λ s stands.
    let has = c.take_in.ensures.made s stands in
    let added = subst (λ w. HasAdded w has.after c.take_in.new.steps.items c.make_steps.new.steps.items c.make_steps.new.self) c.take_in.ensures.settings.w (c.make_steps.ensures.steps has.after has.stands) in
    rest_is_added c.args.self.now.w (with_early s c.args.message) c.args.steps.now.items c.take_in.new.steps.items c.make_steps.new.steps.items c.take_in.new.self c.make_steps.new.self has added
