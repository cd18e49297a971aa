use Rattle.std.proofs.Common.{◌≡◌, false, IsTrue, length, vec_capacity, sym, ap, subst, ◌∙◌, refl, arith}
use Rattle.std.proofs.Math.Logic.{∥∥₁_elim, ∥∥₁_map}
use denote.Struct.Props.{props}
use Rattle.op_base.specs.Message.{fits}
use Rattle.causal_model.specs.Early.{is_again, put_early}
use Rattle.causal_model.specs.Receiving.{is_far, with_early}
use Rattle.causal_model.specs.State.{State}
use Rattle.causal_buffer.specs.Buffer.{Buffer, with_messages, AreAhead, AreNear}
use Rattle.causal_buffer.specs.Standing.{KeepsEarly, KeepKeepsState}
use Rattle.causal_buffer.proofs.Standing.{keep_keeps_state}
use Rattle.replica_core.specs.Insertions.{insertions}
use Rattle.replica_core.specs.Rules.{fields_of, StandsFor}
use Rattle.replica_core.specs.Standing.{Standing, StandsForSome}
use Rattle.replica_core.specs.Steps.{HasMade, IsNextOf}
use Rattle.replica_core.specs.declared.replica.Replica.{Replica}
use Rattle.replica_core.proofs.Comes.{comes_as_next}
use Rattle.replica_core.proofs.Keeps.{kept_stands}
use Rattle.replica_core.proofs.Made.{first_is_made, next_has_room}
use Rattle.replica_core.proofs.Stands.{member_in, length-counts_in, buffer_n_in, ahead_in, near_in}
use Rattle.replica_core.proofs.replica.Replica.take_in.Goals as goal
use Rattle.replica_core.proofs.replica.Replica.take_in.Goals.{Start, After-keep, Then-comes_next}

fit : (c : Start) → IsTrue (fits c.args.self.now.buffer.n c.args.message)
fit c = subst (λ n. IsTrue (fits n c.args.message)) (sym (buffer_n_in (fields_of c.args.self.now) c.args.self.now.stands)) c.requires.message.fits

pub comes_next-requires-clause-fits : goal.comes_next-requires-clause-fits
comes_next-requires-clause-fits c = fit (goal.at.comes_next-requires-clause-fits c).Start

pub comes_next-requires-clause-counts : goal.comes_next-requires-clause-counts
comes_next-requires-clause-counts c =
    let r = c.args.self.now in
    omega (arith, length-counts_in (fields_of r) r.stands, buffer_n_in (fields_of r) r.stands)

-- ---- it is next

-- where it is the next of the early messages with it, it is the next of the state with it among these
is_next : (c : Then-comes_next) (s : State) → StandsFor c.args.self.now s → (now : Replica) → fields_of now ≡ record (fields_of c.args.self.now) { buffer = c.comes_next.new.buffer } → IsNextOf now c.args.message (with_early s c.args.message)
is_next c s stands now is =
    let r = c.args.self.now in
    let m = c.args.message in
    let ready = c.requires.message in
    comes_as_next (fields_of r) s m stands (keep_keeps_state r.me r.counts m r.buffer (fit (goal.at-Then-comes_next c).Start) ready.new ready.apart ready.near) ready.carried ready.apart (c.comes_next.ensures.next.0 c.if-comes_next.true) now
    (is ∙ ap (λ b. record (fields_of r) { buffer = b }) c.comes_next.ensures.unchanged)

pub invariant_of-self : goal.invariant_of-self
invariant_of-self c =
    let r = c.args.self.now in
    record { numbers = r.numbers; stands = subst (λ b. ∥ StandsForSome (record (fields_of r) { buffer = b }) ∥₁) (sym c.comes_next.ensures.unchanged) r.stands }

pub take-requires-clause-next : goal.take-requires-clause-next
take-requires-clause-next c =
    let here = (goal.at.take-requires-clause-next c).Then-comes_next in
    ∥∥₁_map c.args.self.now.stands (λ x. (with_early x.0 c.args.message, is_next here x.0 x.1 _ refl))

pub take-requires-clause-spare : goal.take-requires-clause-spare
take-requires-clause-spare c = omega (arith, c.requires.message.room.items, ap (λ (b : Buffer). length b.early) c.comes_next.ensures.unchanged)

pub take-requires-clause-lists_spare : goal.take-requires-clause-lists_spare
take-requires-clause-lists_spare c = omega (arith, c.requires.message.room.lists, ap (λ (b : Buffer). insertions b.early) c.comes_next.ensures.unchanged)

pub push_reserved-requires : goal.push_reserved-requires
push_reserved-requires c =
    let here = (goal.at.push_reserved-requires c).Then-comes_next in
    let r = c.args.self.now in
    let m = c.args.message in
    let ready = c.requires.message in
    ∥∥₁_elim r.stands (search props) (λ x.
    let is = c.take.ensures.step (with_early x.0 m) (is_next here x.0 x.1 _ refl) in
    let room = next_has_room r.w (with_early x.0 m) is.message c.args.steps.now.items (vec_capacity c.args.steps.now) is.next (c.requires.room x.0 x.1) in
    omega (arith, room, c.args.steps.now.ok.0))

pub returns-then-comes_next-clause-made : goal.returns-then-comes_next-clause-made
returns-then-comes_next-clause-made c = λ s stands.
    let w = c.args.self.now.w in
    let early = with_early s c.args.message in
    let here = (goal.at.returns-then-comes_next-clause-made c).Then-comes_next in
    let before = c.args.steps.now.items in
    subst (λ made. HasMade w early before made c.take.new.self) (sym c.push_reserved.ensures.items) (first_is_made w early before c.take.result c.take.new.self (c.take.ensures.step early (is_next here s stands _ refl)))

-- ---- it isn't, and becomes early

pub keep-requires-clause-fits : goal.keep-requires-clause-fits
keep-requires-clause-fits c = subst (λ (b : Buffer). IsTrue (fits b.n c.args.message)) (sym c.comes_next.ensures.unchanged) (fit (goal.at.keep-requires-clause-fits c).Start)

pub keep-requires-clause-me : goal.keep-requires-clause-me
keep-requires-clause-me c =
    let r = c.args.self.now in
    omega (arith, member_in (fields_of r) r.stands, buffer_n_in (fields_of r) r.stands, ap (λ (b : Buffer). b.n) c.comes_next.ensures.unchanged)

pub keep-requires-clause-counts : goal.keep-requires-clause-counts
keep-requires-clause-counts c =
    let r = c.args.self.now in
    omega (arith, length-counts_in (fields_of r) r.stands, buffer_n_in (fields_of r) r.stands, ap (λ (b : Buffer). b.n) c.comes_next.ensures.unchanged)

pub keep-requires-clause-apart : goal.keep-requires-clause-apart
keep-requires-clause-apart c = subst (λ (b : Buffer). is_again b.early c.args.message ≡ false) (sym c.comes_next.ensures.unchanged) c.requires.message.apart

pub keep-requires-clause-near : goal.keep-requires-clause-near
keep-requires-clause-near c = subst (λ (b : Buffer). is_far b.n b.w c.args.self.now.me c.args.self.now.counts c.args.message ≡ false) (sym c.comes_next.ensures.unchanged) c.requires.message.near

pub keep-requires-clause-held_ahead : goal.keep-requires-clause-held_ahead
keep-requires-clause-held_ahead c =
    let r = c.args.self.now in
    subst (λ (b : Buffer). AreAhead r.counts b.early) (sym c.comes_next.ensures.unchanged) (ahead_in (fields_of r) r.stands)

pub keep-requires-clause-held_near : goal.keep-requires-clause-held_near
keep-requires-clause-held_near c =
    let r = c.args.self.now in
    subst (λ (b : Buffer). AreNear b.n b.w r.counts b.early) (sym c.comes_next.ensures.unchanged) (near_in (fields_of r) r.stands)

-- once the message is kept, the fields stand for the state with it among the early ones
kept : (c : After-keep) (s : State) → StandsFor c.args.self.now s → Standing (record (fields_of c.args.self.now) { buffer = c.keep.new.self }) (with_early s c.args.message)
kept c s stands =
    let r = c.args.self.now in
    let m = c.args.message in
    let same = c.comes_next.ensures.unchanged in
    kept_stands (fields_of r) s stands m c.keep.new.self (c.keep.ensures.early ∙ ap (λ (b : Buffer). with_messages b (put_early m b.early)) same)
    (subst (λ b. KeepsEarly m b c.keep.new.self) same c.keep.ensures.stands) (subst (KeepKeepsState r.me r.counts m) same c.keep.ensures.is_state) c.requires.message.carried c.requires.message.room.items c.requires.message.room.lists

pub invariant_of-self-else-comes_next : goal.invariant_of-self-else-comes_next
invariant_of-self-else-comes_next c =
    let r = c.args.self.now in
    record { numbers = r.numbers; stands = ∥∥₁_map r.stands (λ x. (with_early x.0 c.args.message, kept (goal.at.invariant_of-self-else-comes_next c).After-keep x.0 x.1)) }

pub returns-else-comes_next-clause-made : goal.returns-else-comes_next-clause-made
returns-else-comes_next-clause-made c = λ s stands.
    let w = c.args.self.now.w in
    let early = with_early s c.args.message in
    record { after = early; stands = kept (goal.at.returns-else-comes_next-clause-made c).After-keep s stands; is = refl }
