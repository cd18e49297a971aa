use Rattle.std.proofs.Common.{◌≡◌, List, length, slice_set, refl, sym, ap, subst, ◌∙◌, arith}
use Rattle.std.proofs.Math.Logic.{∥∥₁_map}
use Rattle.std.proofs.lemmas.List.{length-set}
use Rattle.std.proofs.lemmas.List.FromFn.{length-map-range_with_len}
use Rattle.causal_model.specs.State.{with_own, State}
use Rattle.causal_model.specs.Stability.{minimum}
use Rattle.causal_model.specs.States.{IsState}
use Rattle.outbox.specs.Sent.{Sent}
use Rattle.stability_matrix.specs.Rows.{column_of}
use Rattle.list_type.specs.Shown.{shown as lists_shown}
use Rattle.stable_state.specs.Shown.{shown}
use Rattle.tag_window.specs.Window.{Window}
use Rattle.tag_window.specs.declared.held.Held.{Held}
use Rattle.replica_core.specs.Rules.{fields_of}
use Rattle.replica_core.specs.Standing.{Standing}
use Rattle.replica_core.specs.Steps.{IsSender, with_own_in, left_unstable}
use Rattle.replica_core.proofs.Ranges.{AreNumbers-from_test}
use Rattle.replica_core.proofs.Stands.{length-counts_in, length-rows_in, length-held_in, of_me_in, within_in}
use Rattle.replica_core.proofs.StepParts.{origin_in, length-tag_in, window_room_in, window_next_in, outbox_room_in, outbox_fits_in, outbox_next_in, outbox_n_in, stable_with, ready_with, all_stand}
use Rattle.replica_core.proofs.replica.Replica.step.Goals as goal
use Rattle.replica_core.proofs.replica.Replica.step.Goals.{After-settle}

pub note-moved-requires-clause-origin : goal.note-moved-requires-clause-origin
note-moved-requires-clause-origin c =
    let r = c.args.self.now in
    omega (arith, origin_in (fields_of r) c.args.message.now c.requires.next, length-rows_in (fields_of r) r.stands)

pub note-moved-requires-clause-entries : goal.note-moved-requires-clause-entries
note-moved-requires-clause-entries c =
    let r = c.args.self.now in
    omega (arith, length-tag_in (fields_of r) c.args.message.now c.requires.next, length-rows_in (fields_of r) r.stands)

pub note-moved-requires-clause-sender : goal.note-moved-requires-clause-sender
note-moved-requires-clause-sender c =
    let r = c.args.self.now in
    subst (λ me. IsSender me r.matrix c.args.message.now c.args.sender) (sym (of_me_in (fields_of r) r.stands)) c.requires.sender

pub note-moved-requires-clause-room : goal.note-moved-requires-clause-room
note-moved-requires-clause-room c =
    let r = c.args.self.now in
    outbox_room_in (fields_of r) c.args.message.now c.requires.next (AreNumbers-from_test r.me r.n r.w r.limit r.numbers).wide

pub note-moved-requires-clause-fits : goal.note-moved-requires-clause-fits
note-moved-requires-clause-fits c = λ own. outbox_fits_in (fields_of c.args.self.now) c.args.message.now c.requires.next

pub note-moved-requires-clause-next : goal.note-moved-requires-clause-next
note-moved-requires-clause-next c =
    let r = c.args.self.now in
    outbox_next_in (fields_of r) c.args.message.now c.requires.next (AreNumbers-from_test r.me r.n r.w r.limit r.numbers).wide

pub at-requires : goal.at-requires
at-requires c =
    let f = fields_of c.args.self.now in
    omega (arith, origin_in f c.args.message.now c.requires.next, length-tag_in f c.args.message.now c.requires.next)

pub set-requires : goal.set-requires
set-requires c =
    let r = c.args.self.now in
    omega (arith, origin_in (fields_of r) c.args.message.now c.requires.next, length-counts_in (fields_of r) r.stands)

pub push-requires-clause-member : goal.push-requires-clause-member
push-requires-clause-member c =
    let r = c.args.self.now in
    omega (arith, origin_in (fields_of r) c.args.message.now c.requires.next, length-held_in (fields_of r) r.stands)

pub push-requires-clause-entries : goal.push-requires-clause-entries
push-requires-clause-entries c =
    let r = c.args.self.now in
    omega (arith, length-tag_in (fields_of r) c.args.message.now c.requires.next, length-held_in (fields_of r) r.stands)

pub push-requires-clause-room : goal.push-requires-clause-room
push-requires-clause-room c =
    let r = c.args.self.now in
    window_room_in (fields_of r) c.args.message.now c.requires.next (AreNumbers-from_test r.me r.n r.w r.limit r.numbers).wide

pub push-requires-clause-next : goal.push-requires-clause-next
push-requires-clause-next c =
    let r = c.args.self.now in
    window_next_in (fields_of r) c.args.message.now c.requires.next (AreNumbers-from_test r.me r.n r.w r.limit r.numbers).wide

pub drop_stable-requires : goal.drop_stable-requires
drop_stable-requires c =
    let r = c.args.self.now in
    omega (
      arith,
      ap length c.stable_counts-stable.ensures.least,
      length-map-range_with_len (λ member. minimum (column_of c.note-moved.new.matrix.rows member)) 0 (length c.note-moved.new.matrix.rows),
      c.note-moved.ensures.members,
      length-rows_in (fields_of r) r.stands,
      ap (λ (w : Window). length w.held) c.push.ensures.held,
      length-set {A = List Held},
      length-held_in (fields_of r) r.stands,
    )

pub drop_stable-requires-2 : goal.drop_stable-requires-2
drop_stable-requires-2 c =
    let r = c.args.self.now in
    omega (
      arith,
      ap length c.stable_counts-stable.ensures.least,
      length-map-range_with_len (λ member. minimum (column_of c.note-moved.new.matrix.rows member)) 0 (length c.note-moved.new.matrix.rows),
      c.note-moved.ensures.members,
      length-rows_in (fields_of r) r.stands,
      ap (λ (o : Sent). o.n) c.note-moved.ensures.outbox,
      outbox_n_in (fields_of r) c.args.message.now c.requires.next,
    )

pub settle-requires-clause-ready : goal.settle-requires-clause-ready
settle-requires-clause-ready c =
    let r = c.args.self.now in
    let numbers = AreNumbers-from_test r.me r.n r.w r.limit r.numbers in
    ∥∥₁_map c.requires.next (λ x. (
      r.w,
      r.limit,
      x.0.history,
      ready_with (fields_of r) x.0 c.args.message.now x.1 x.2 numbers.wide numbers.most c.note-moved.result c.stable_counts-stable.result.now (λ unmoved n me messages of. c.stable_counts-stable.ensures.least ∙ c.note-moved.ensures.stays unmoved n me messages of)
          (stable_with (fields_of r) x.0 c.args.message.now x.1 x.2 c.note-moved.new.matrix c.stable_counts-stable.result.now c.note-moved.ensures.known c.stable_counts-stable.ensures.known),
    ))

pub settle-requires-clause-lists_spare : goal.settle-requires-clause-lists_spare
settle-requires-clause-lists_spare c = omega (arith, c.requires.lists_room)

pub settle-requires-clause-deep : goal.settle-requires-clause-deep
settle-requires-clause-deep c =
    let r = c.args.self.now in
    within_in (fields_of r) r.stands (AreNumbers-from_test r.me r.n r.w r.limit r.numbers).most

-- what isn't stable is in the outbox, and the message where it is an own one and isn't
outbox_is : (c : After-settle) → left_unstable c.stable_counts-stable.result.now c.note-moved.new.outbox
    ≡ left_unstable c.stable_counts-stable.result.now (with_own_in c.args.self.now.matrix.me c.args.message.now c.args.self.now.outbox)
outbox_is c =
    subst (λ stable. left_unstable stable c.note-moved.new.outbox ≡ left_unstable stable (with_own_in c.args.self.now.matrix.me c.args.message.now c.args.self.now.outbox))
    (sym c.stable_counts-stable.ensures.least) c.note-moved.ensures.outbox

-- once all parts have the message, the fields stand for the state with it
after : (c : After-settle) (s : State) → Standing (fields_of c.args.self.now) s → IsState c.args.self.now.w c.args.self.now.limit (with_own s c.args.message.now)
    → Standing (record (fields_of c.args.self.now) { counts = c.set.new.self; matrix = c.note-moved.new.matrix; window = c.drop_stable.new.self; log = c.settle.new.log; items = shown c.settle.new.items; lists = lists_shown c.settle.new.lists; outbox = c.drop_stable-2.new.self; due = c.is_due-self.result }) (with_own s c.args.message.now)
after c =
    let r = c.args.self.now in
    let m = c.args.message.now in
    let numbers = AreNumbers-from_test r.me r.n r.w r.limit r.numbers in
    all_stand (fields_of r) m numbers.wide numbers.most _ _ _ _ _ _ _ _ _ _ _ _ (c.set.ensures ∙ ap (slice_set r.counts m.origin) c.at.ensures) c.note-moved.ensures.known (λ unmoved n me messages of. c.stable_counts-stable.ensures.least ∙ c.note-moved.ensures.stays unmoved n me messages of) c.stable_counts-stable.ensures.known
    (λ messages. c.push.ensures.with r.n r.w r.me messages m refl refl (sym c.is_noop.ensures)) c.drop_stable.ensures.of (outbox_is c) c.drop_stable-2.ensures.dropped
    (c.settle.ensures.are_of r.w r.limit) c.settle.ensures.room c.requires.room c.settle.ensures.spare
    c.requires.lists_room c.settle.ensures.lists_spare c.settle.ensures.deep c.is_due-self.ensures

pub invariant_of-self : goal.invariant_of-self
invariant_of-self c = record {
  numbers = c.args.self.now.numbers;
  stands = ∥∥₁_map c.requires.next (λ x. (with_own x.0 c.args.message.now, after (goal.at.invariant_of-self c).After-settle x.0 x.1 x.2));
}

pub returns-clause-stands : goal.returns-clause-stands
returns-clause-stands c = after (goal.at.returns-clause-stands c).After-settle
