use Rattle.std.proofs.Common.{◌≡◌, ◌+◌, ◌<◌, ◌≤◌, List, length, vec_capacity, refl, sym, ap, subst, ◌∙◌, Some, None, arith}
use Rattle.std.proofs.Math.Logic.{∥∥₁_elim, ∥∥₁_map}
use denote.Struct.Props.{props}
use Rattle.std.proofs.lemmas.Bool.{cond-true, cond-false}
use Rattle.op_base.specs.Message.{id_of}
use Rattle.op_base.specs.declared.outcome.Step.{Step}
use Rattle.causal_model.specs.Early.{without}
use Rattle.causal_model.specs.Receiving.{next_early, state_with, steps}
use Rattle.causal_model.specs.State.{State}
use Rattle.causal_buffer.specs.Buffer.{Buffer, with_messages}
use Rattle.replica_core.specs.Insertions.{insertions}
use Rattle.replica_core.specs.Rules.{fields_of, StandsFor}
use Rattle.replica_core.specs.Standing.{Standing}
use Rattle.replica_core.specs.Steps.{IsNextOf, IsStepOf, HasMade}
use Rattle.replica_core.specs.declared.replica.Replica.{Replica}
use Rattle.replica_core.proofs.Made.{one_more_is_made, all_are_made, next_has_room, left_have_room}
use Rattle.replica_core.proofs.Stands.{same_settings_after, length-counts_in, buffer_n_in, items_room_in, lists_room_in}
use Rattle.replica_core.proofs.Takes.{taken_or_not_in, taken_is_next, fewer_are_left, elements_are_left}
use Rattle.replica_core.proofs.replica.Replica.make_steps.Goals as goal
use Rattle.replica_core.proofs.replica.Replica.make_steps.Goals.{In-loop-steps}

pub take_next-requires : goal.take_next-requires
take_next-requires c =
    let r = c.loop-steps.self in
    omega (arith, length-counts_in (fields_of r) r.stands, buffer_n_in (fields_of r) r.stands)

-- whether one was taken or not
pub invariant_of-self : goal.invariant_of-self
invariant_of-self c =
    let r = c.loop-steps.self in
    record { numbers = r.numbers; stands = taken_or_not_in (fields_of r) r.stands c.take_next.result (id_of c.take_next.new.into) c.take_next.new.self c.take_next.ensures.others }

-- ---- a message is taken

-- it is the next of the early ones, and the others are left
is_next : (c : In-loop-steps) → Some c.take_next.new.into ≡ next_early c.loop-steps.self.buffer.n c.loop-steps.self.counts c.loop-steps.self.buffer.early
is_next c = sym (cond-true c.take_next.result (Some c.take_next.new.into) None c.loop-steps-test.true) ∙ c.take_next.ensures.taken

left : (c : In-loop-steps) → c.take_next.new.self ≡ with_messages c.loop-steps.self.buffer (without (id_of c.take_next.new.into) c.loop-steps.self.buffer.early)
left c =
    c.take_next.ensures.others
    ∙ cond-true c.take_next.result (with_messages c.loop-steps.self.buffer (without (id_of c.take_next.new.into) c.loop-steps.self.buffer.early)) c.loop-steps.self.buffer c.loop-steps-test.true

-- and of each state that the fields stand for
is_next_of : (c : In-loop-steps) (s : State) → StandsFor c.loop-steps.self s → (now : Replica) → fields_of now ≡ record (fields_of c.loop-steps.self) { buffer = c.take_next.new.self } → IsNextOf now c.take_next.new.into s
is_next_of c s stands now is =
    let r = c.loop-steps.self in
    let m = c.take_next.new.into in
    let next = sym (cond-true c.take_next.result (Some m) None c.loop-steps-test.true) ∙ c.take_next.ensures.in_state r.w s stands.buffer stands.counts in
    taken_is_next (fields_of r) s stands m next now c.take_next.new.self (left c) is

pub take-requires-clause-next : goal.take-requires-clause-next
take-requires-clause-next c =
    let here = (goal.at.take-requires-clause-next c).In-loop-steps in
    ∥∥₁_map c.loop-steps.self.stands (λ x. (x.0, is_next_of here x.0 x.1 _ refl))

pub take-requires-clause-spare : goal.take-requires-clause-spare
take-requires-clause-spare c =
    let r = c.loop-steps.self in
    let here = (goal.at.take-requires-clause-spare c).In-loop-steps in
    omega (arith, fewer_are_left r.buffer.n r.counts r.buffer.early c.take_next.new.into (is_next here), items_room_in (fields_of r) r.stands, ap (λ (b : Buffer). length b.early) (left here))

pub take-requires-clause-lists_spare : goal.take-requires-clause-lists_spare
take-requires-clause-lists_spare c =
    let r = c.loop-steps.self in
    let here = (goal.at.take-requires-clause-lists_spare c).In-loop-steps in
    omega (arith, elements_are_left r.buffer.n r.counts r.buffer.early c.take_next.new.into (is_next here), lists_room_in (fields_of r) r.stands, ap (λ (b : Buffer). insertions b.early) (left here))

fewer : (c : In-loop-steps) → length c.take_next.new.self.early < length c.loop-steps.self.buffer.early
fewer c =
    let r = c.loop-steps.self in
    omega (arith, fewer_are_left r.buffer.n r.counts r.buffer.early c.take_next.new.into (is_next c), ap (λ (b : Buffer). length b.early) (left c))

pub loop-steps-smaller : goal.loop-steps-smaller
loop-steps-smaller c = omega (arith, fewer (goal.at.loop-steps-smaller c).In-loop-steps, ap (λ (b : Buffer). length b.early) c.take.ensures.buffer)

pub loop-steps-preserved : goal.loop-steps-preserved
loop-steps-preserved c =
    let here = (goal.at.loop-steps-preserved c).In-loop-steps in
    let old = c.args.self.now in
    let now = c.loop-steps.self in
    let new = c.take.new.self in
    let before = c.args.steps.now.items in
    let making = c.loop-steps.invariant in
    let made = c.loop-steps.steps.items in
    let step = c.take.result in
    let taken = c.take.ensures.settings in
    record {
      settings = same_settings_after old now new making.settings (record { me = taken.me; n = taken.n; w = taken.w; limit = taken.limit; epoch = taken.epoch });
      room = ∥∥₁_map making.room (λ x.
          let is = c.take.ensures.step x.0 (is_next_of here x.0 x.1 _ refl) in
          let left = left_have_room now.w x.0 made step new (vec_capacity c.loop-steps.steps) is x.2 in (
            state_with now.w x.0 is.message,
            is.stands,
            subst (λ w. length c.push_reserved.new.self.items + length (steps w (state_with now.w x.0 is.message)).0 ≤ vec_capacity c.push_reserved.new.self) (sym taken.w)
                (omega (arith, left, ap length c.push_reserved.ensures.items, c.push_reserved.ensures.capacity)),
          ));
      are_made = λ s stands.
          let has = making.are_made s stands in
          subst (λ (all : List Step). HasMade old.w s before all new) (sym c.push_reserved.ensures.items)
          (one_more_is_made old.w s before made now new step has (subst (λ w. IsStepOf w has.after step new) making.settings.w (c.take.ensures.step has.after (is_next_of here has.after has.stands _ refl))));
    }

pub push_reserved-requires : goal.push_reserved-requires
push_reserved-requires c =
    let here = (goal.at.push_reserved-requires c).In-loop-steps in
    ∥∥₁_elim c.loop-steps.invariant.room (search props) (λ x.
    let is = c.take.ensures.step x.0 (is_next_of here x.0 x.1 _ refl) in
    omega (arith, next_has_room c.loop-steps.self.w x.0 is.message c.loop-steps.steps.items (vec_capacity c.loop-steps.steps) is.next x.2, c.loop-steps.steps.ok.0))

-- ---- none can be taken

pub returns-clause-steps : goal.returns-clause-steps
returns-clause-steps c = λ s stands.
    let r = c.loop-steps.self in
    let has = c.loop-steps.invariant.are_made s stands in
    let same = c.take_next.ensures.others ∙ cond-false c.take_next.result (with_messages r.buffer (without (id_of c.take_next.new.into) r.buffer.early)) r.buffer c.loop-steps-test.false in
    let none = sym (cond-false c.take_next.result (Some c.take_next.new.into) None c.loop-steps-test.false) ∙ c.take_next.ensures.in_state r.w has.after has.stands.buffer has.stands.counts in
    all_are_made c.args.self.now.w s c.args.steps.now.items c.loop-steps.steps.items r has _ (sym none) (subst (λ b. Standing (record (fields_of r) { buffer = b }) has.after) (sym same) has.stands)
