use Rattle.std.proofs.Common.{◌≡◌, ◌∙◌, ℕ, ◌+◌, ◌≤◌, Bool, true, false, ◌&&◌, List, Option, None, Some, ap, sym, subst, refl, arith}
use denote.Struct.Props.{props}
use Rattle.std.proofs.Math.Logic.{∥∥₁_elim, ∥∥₁_map}
use Rattle.op_base.specs.Object.{same_object}
use Rattle.op_base.specs.declared.name.Kind.{Kind}
use Rattle.op_base.specs.declared.name.Kind.TheVariants as kinds
use Rattle.op_base.specs.declared.name.ObjectId.{ObjectId}
use Rattle.causal_model.specs.Acts.{acts_on}
use Rattle.causal_model.specs.CellSteps.{puts_in}
use Rattle.causal_model.specs.Covering.{store_keeps, store_covers}
use Rattle.causal_model.specs.History.{History, with_message}
use Rattle.causal_model.specs.Log.{message_of}
use Rattle.causal_model.proofs.Lists.KeptOfOneMore.{kept_of_one_more}
use Rattle.list_type.specs.Shown.{shown as lists_shown}
use Rattle.polog.specs.Rows.{idle_act}
use Rattle.polog.specs.Standing.{FailsOnIdle}
use Rattle.stable_state.specs.Shown.{shown}
use Rattle.replica_core.specs.Settling.{AreReady, AreLogged, room_of, applied_of, CanBeApplied}
use Rattle.replica_core.proofs.Settles.{origin_of, fits_of, fresh_of, pruned_has_room, pruned_is_numbered, are_logged, can_be_put, fresh_is_prop, can_be_applied, range_is_prop, applied_has_range, no_more_than_came, pruned_of, logged_of}
use Rattle.replica_core.proofs.settling.settle.Goals as goal
use Rattle.replica_core.proofs.settling.settle.Goals.{After-note}

pub id-id-requires : goal.id-id-requires
id-id-requires c = ∥∥₁_elim c.requires.ready (search props) (λ x. origin_of x.3)

pub note-requires-clause-fits : goal.note-requires-clause-fits
note-requires-clause-fits c = ∥∥₁_elim c.requires.ready (search props) (λ x. fits_of x.3)

pub note-requires-clause-room : goal.note-requires-clause-room
note-requires-clause-room c = λ kept.
    ∥∥₁_elim c.requires.ready (search props) (λ x. pruned_has_room x.3 (pruned_of x.3) refl kept)

pub note-requires-clause-numbers : goal.note-requires-clause-numbers
note-requires-clause-numbers c = ∥∥₁_elim c.requires.ready (search props) (λ x. pruned_is_numbered x.3 (pruned_of x.3))

-- log, items and lists, once the element is in its list
logged : (c : After-note) {w limit : ℕ} {h : History} → AreReady w limit h c.args.log.now (shown c.args.items.now) (lists_shown c.args.lists.now) c.args.epoch c.args.message.now c.args.moved c.args.stable.now
    → AreLogged w limit h c.args.message.now c.note.new.log (shown c.cover.new.items) (lists_shown c.note.new.lists) c.args.epoch c.id-id.result c.args.moved c.args.stable.now
logged c {w} {limit} {h} ready =
    let m = c.args.message.now in
    let is = logged_of ready (pruned_of ready) c.note.ensures.log in
    are_logged ready is (c.cover.ensures.of h m refl ready.are_of.are_settled) (c.note.ensures.of w h ready.of_history ready.in_epoch is ready.are_of.are_lists) c.id-id.result c.id-id.ensures

pub note-requires-clause-can : goal.note-requires-clause-can
note-requires-clause-can c =
    let m = c.args.message.now in
    let lists = lists_shown c.args.lists.now in
    can_be_put c.args.epoch m.origin m.tag m.op lists (λ u. ∥∥₁_elim c.requires.ready (fresh_is_prop c.args.epoch (record { origin = m.origin; tag = m.tag; update = u }) lists) (λ x. fresh_of x.3 u)) c.requires.deep c.requires.lists_spare

pub move_stable-requires-clause-logged : goal.move_stable-requires-clause-logged
move_stable-requires-clause-logged c = ∥∥₁_map c.requires.ready (λ x. (
  x.0,
  x.1,
  x.2,
  c.args.message.now,
  logged (goal.at.move_stable-requires-clause-logged c).After-note x.3,
))

pub move_stable-requires-clause-spare : goal.move_stable-requires-clause-spare
move_stable-requires-clause-spare c =
    let few = no_more_than_came c.args.message.now _ _ c.note.ensures.log in
    let room = c.requires.spare in
    let more = c.cover.ensures.spare in
    omega arith

pub apply-requires : goal.apply-requires
apply-requires c =
    let m = c.args.message.now in
    let moved = c.move_stable.new.items.shelf in
    let few = no_more_than_came m _ _ c.note.ensures.log in
    let room = c.requires.spare in
    let more = c.cover.ensures.spare in
    let less = c.move_stable.ensures.spare in
    let spare : room_of (applied_of m.op) ≤ moved.spare = omega arith in
    let can : CanBeApplied (applied_of m.op) moved = can_be_applied m.op moved (λ u is kind. ∥∥₁_elim c.requires.ready (range_is_prop moved u) (λ x.
    applied_has_range x.3 u moved is kind (c.move_stable.ensures.absorbed x.0 x.1 x.2 m (logged (goal.at.apply-requires c).After-note x.3)))) spare in
    subst (λ a. CanBeApplied a moved) (sym c.note.ensures.applied) can

-- an idle act puts nothing in
idle_puts_nothing : (k : Kind) (value : Option (List ℕ)) → puts_in value (idle_act k) ≡ false
idle_puts_nothing kinds.AwSet None = refl
idle_puts_nothing kinds.AwSet (Some v) = refl
idle_puts_nothing kinds.RwSet None = refl
idle_puts_nothing kinds.RwSet (Some v) = refl
idle_puts_nothing kinds.EwFlag None = refl
idle_puts_nothing kinds.EwFlag (Some v) = refl
idle_puts_nothing kinds.DwFlag None = refl
idle_puts_nothing kinds.DwFlag (Some v) = refl
idle_puts_nothing kinds.MvReg None = refl
idle_puts_nothing kinds.MvReg (Some v) = refl
idle_puts_nothing kinds.Counter None = refl
idle_puts_nothing kinds.Counter (Some v) = refl
idle_puts_nothing kinds.RCounter None = refl
idle_puts_nothing kinds.RCounter (Some v) = refl
idle_puts_nothing kinds.List None = refl
idle_puts_nothing kinds.List (Some v) = refl

idle_is_not_put_in : (object : ObjectId) (value : Option (List ℕ)) → FailsOnIdle (λ e. acts_on object (puts_in value) (message_of e).op)
idle_is_not_put_in object value e idle =
    ap (λ act. same_object e.update.object object && puts_in value act) idle ∙ ap (λ b. same_object e.update.object object && b) (idle_puts_nothing e.update.object.kind value) ∙ never (same_object e.update.object object) where
      never : (b : Bool) → (b && false) ≡ false
      never true = refl
      never false = refl

pub returns-clause-are_of : goal.returns-clause-are_of
returns-clause-are_of c = λ w limit h ready.
    let m = c.args.message.now in
    let are = logged (goal.at.returns-clause-are_of c).After-note ready in
    let log = c.move_stable.ensures.log w limit h m are in
    record {
      is_log = log;
      are_settled = c.settle_marks.ensures.of w h m ready.of_history
          (λ object value. c.grouped.ensures.of store_keeps store_covers h.present.n h.present.me (with_message h m).present.messages (λ x. acts_on object (puts_in value) x.op) (idle_is_not_put_in object value) log)
          (c.apply.ensures.of h m c.note.ensures.applied (c.move_stable.ensures.absorbed w limit h m are));
      are_lists = λ object is_list. c.move_stable.ensures.moved w limit h m are object is_list ∙ kept_of_one_more w h m ready.of_history object is_list;
    }

pub returns-clause-room : goal.returns-clause-room
returns-clause-room c = c.move_stable.ensures.room ∙ c.note.ensures.room

pub returns-clause-spare : goal.returns-clause-spare
returns-clause-spare c =
    let few = no_more_than_came c.args.message.now _ _ c.note.ensures.log in
    let more = c.cover.ensures.spare in
    let less = c.move_stable.ensures.spare in
    let same : room_of (applied_of c.note.new.message.op) ≡ room_of (applied_of c.args.message.now.op) = ap room_of c.note.ensures.applied in
    let one = c.apply.ensures.spare in
    let last = c.settle_marks.ensures.spare in
    omega arith

pub returns-clause-lists_spare : goal.returns-clause-lists_spare
returns-clause-lists_spare c =
    let put = c.note.ensures.spare in
    let moved = c.move_stable.ensures.lists_spare in
    omega arith

pub returns-clause-deep : goal.returns-clause-deep
returns-clause-deep c = λ most within. c.move_stable.ensures.deep (most + 1) (c.note.ensures.deep most within)
