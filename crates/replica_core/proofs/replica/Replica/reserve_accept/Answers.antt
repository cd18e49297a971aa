use Rattle.std.proofs.Common.{IsTrue, length, ap, ap₂, refl, subst, sym, ◌∙◌, arith}
use Rattle.op_base.specs.Message.{fits}
use Rattle.causal_model.specs.Counts.{is_carried}
use Rattle.causal_model.specs.Early.{is_again}
use Rattle.causal_model.specs.Receiving.{is_old, is_far}
use Rattle.causal_buffer.specs.Buffer.{Buffer}
use Rattle.list_type.specs.Shown.{shown as lists_shown}
use Rattle.polog.specs.Value.{Log}
use Rattle.stable_state.specs.Shown.{shown}
use Rattle.replica_core.specs.Rules.{fields_of, Unchanged}
use Rattle.causal_model.proofs.Delivery.Counts.{length-counts}
use Rattle.replica_core.specs.Standing.{StandsForSome}
use Rattle.replica_core.proofs.Bounds.{few_logged, few_early}
use Rattle.replica_core.proofs.Receives.{new_in, apart_in, near_in}
use Rattle.replica_core.proofs.Stands.{with_room_in, unchanged_after, length-counts_in, buffer_n_in}
use Rattle.replica_core.proofs.replica.Replica.reserve_accept.Goals as goal
use Rattle.replica_core.proofs.replica.Replica.reserve_accept.Goals.{Start, In_ok-reserve_element}

fit : (c : Start) → IsTrue (fits c.args.self.now.buffer.n c.args.message.now)
fit c = subst (λ n. IsTrue (fits n c.args.message.now)) (sym (buffer_n_in (fields_of c.args.self.now) c.args.self.now.stands)) c.requires.fits

pub most_steps-most-requires-clause-fits : goal.most_steps-most-requires-clause-fits
most_steps-most-requires-clause-fits c = fit (goal.at.most_steps-most-requires-clause-fits c).Start

pub most_steps-most-requires-clause-counts : goal.most_steps-most-requires-clause-counts
most_steps-most-requires-clause-counts c =
    let r = c.args.self.now in
    omega (arith, length-counts_in (fields_of r) r.stands, buffer_n_in (fields_of r) r.stands)

pub most_steps-most-requires-clause-apart : goal.most_steps-most-requires-clause-apart
most_steps-most-requires-clause-apart c = apart_in c.args.self.now c.args.message.now c.requires.unrefused

-- the buffer is the same
pub invariant_of-self : goal.invariant_of-self
invariant_of-self c =
    let r = c.args.self.now in
    record { numbers = r.numbers; stands = subst (λ b. ∥ StandsForSome (record (fields_of r) { buffer = b }) ∥₁) (sym c.most_steps-most.ensures.unchanged) r.stands }

pub invariant_of-self-2 : goal.invariant_of-self-2
invariant_of-self-2 c =
    let r = c.args.self.now in
    let f = record (fields_of r) { buffer = c.most_steps-most.new.self } in
    let stands = subst (λ b. ∥ StandsForSome (record (fields_of r) { buffer = b }) ∥₁) (sym c.most_steps-most.ensures.unchanged) r.stands in
    record { numbers = r.numbers; stands = with_room_in f stands (shown c.reserve-2.new.self) (lists_shown r.lists) c.reserve-2.ensures.items c.reserve-2.ensures.spare refl (omega arith) }

-- once there is room for items and elements, nothing else changed
room_taken : (c : In_ok-reserve_element) → Unchanged c.args.self.now c.reserve_element.new.self
room_taken c = unchanged_after _ _ _ (record {
  settings = record { me = refl; n = refl; w = refl; limit = refl; epoch = refl };
  counts = refl;
  matrix = refl;
  window = refl;
  buffer = c.most_steps-most.ensures.unchanged;
  log = refl;
  items = c.reserve-2.ensures.items;
  spare = c.reserve-2.ensures.spare;
  lists = refl;
  lists_spare = omega arith;
  outbox = refl;
  due = refl;
}) c.reserve_element.ensures.unchanged

pub overflow_add-len : goal.overflow_add-len
overflow_add-len c = omega (arith, few_early c.args.self.now, few_logged c.args.self.now, c.len.ensures, c.len-2.ensures, ap (λ (b : Buffer). length b.early) c.most_steps-most.ensures.unchanged)

pub overflow_add-len-2 : goal.overflow_add-len-2
overflow_add-len-2 c = omega (arith, few_early c.args.self.now, few_logged c.args.self.now, c.len.ensures, c.len-2.ensures, ap (λ (b : Buffer). length b.early) c.most_steps-most.ensures.unchanged)

pub returns-clause-ready : goal.returns-clause-ready
returns-clause-ready c =
    let r = c.args.self.now in
    let m = c.args.message.now in
    let taken = room_taken (goal.at.returns-clause-ready c).In_ok-reserve_element in
    let same = c.reserve_element.ensures.unchanged in
    let early = ap (λ (b : Buffer). length b.early) same.buffer in
    record {
      message = record {
        fits = subst (λ n. IsTrue (fits n m)) (sym taken.settings.n) c.requires.fits;
        carried = subst (λ limit. IsTrue (is_carried limit m)) (sym taken.settings.limit) c.requires.carried;
        new = ap₂ (λ me counts. is_old me counts m) taken.settings.me taken.counts ∙ new_in r m c.requires.unrefused;
        apart = ap (λ (b : Buffer). is_again b.early m) taken.buffer ∙ apart_in r m c.requires.unrefused;
        near = (λ i. is_far (taken.buffer i).n (taken.buffer i).w (taken.settings.me i) (taken.counts i) m) ∙ near_in r m c.requires.unrefused;
        room = record {
          items = omega (arith, c.in_ok-reserve-2.ensures.room, c.len.ensures, c.len-2.ensures, c.reserve_element.ensures.items, early, ap (λ (l : Log). length l.entries) same.log);
          lists = c.in_ok-reserve_element.ensures.room;
        };
      };
      made = λ s stands.
          let counts = sym taken.counts ∙ stands.counts in
          let members = sym (ap length counts ∙ length-counts s.history.present.n s.history.present.messages) in
          c.most_steps-most.ensures.most c.reserve_element.new.self.w s members counts (sym stands.buffer.early ∙ ap (λ (b : Buffer). b.early) taken.buffer);
      behind = omega (arith, c.in_ok-reserve.ensures);
    }

pub returns-clause-unchanged : goal.returns-clause-unchanged
returns-clause-unchanged c = room_taken (goal.at.returns-clause-unchanged c).In_ok-reserve_element
