-- The settled cell of an object and a value is what all settled operations give, with its marks settled by what is pending.
use Rattle.std.proofs.Common.{◌≡◌, ◌≢◌, ℕ, ◌+◌, ◌<◌, ◌≤◌, Bool, true, false, not, ◌&&◌, ◌||◌, All, List, refl, sym, ap, ◌∙◌, Option, Some, None, arith}
use Rattle.std.specs.List.{list_any}
use Rattle.std.proofs.lemmas.Bool.{and_parts, and_right, or_left, false≢true, lt-ltb, le-ltb}
use Rattle.std.proofs.lemmas.List.Elements.{All-weaker}
use Rattle.std.proofs.lemmas.List.Folds.{list_any-append, list_any_none}
use Rattle.op_base.specs.Object.{same_object}
use Rattle.op_base.specs.declared.message.Message.{Message}
use Rattle.op_base.specs.declared.name.ObjectId.{ObjectId}
use Rattle.op_base.specs.declared.name.Kind.{Kind}
use Rattle.op_base.specs.declared.name.Kind.TheVariants.{AwSet, RwSet, EwFlag, DwFlag, MvReg, Counter, RCounter}
use Rattle.op_base.specs.declared.name.Kind.TheVariants as kinds
use Rattle.op_base.specs.declared.operation.Act.{Act}
use Rattle.op_base.specs.declared.operation.Act.TheVariants.{Add, Enable}
use Rattle.op_base.specs.declared.operation.Op.{Op}
use Rattle.op_base.specs.declared.operation.Op.TheVariants as op
use Rattle.op_base.specs.declared.outcome.Cell.{Cell}
use Rattle.causal_model.specs.Acts.{acts_on, is_add_of, is_rmv_of, is_write_of, is_enable, is_disable}
use Rattle.causal_model.specs.CellSteps.{cell_settled, marks_settled, is_put_in}
use Rattle.causal_model.specs.Log.{log_of, is_kept, is_uncovered}
use Rattle.causal_model.specs.Covering.{keeps_act, store_keeps, store_covers}
use Rattle.causal_model.specs.History.{History, Event, events, events_in, events_from, epoch_of, is_act_on}
use Rattle.causal_model.specs.Settled.{is_stable_event, is_uncovered_event, is_settled, is_pending, has_settled, has_pending, object_cell, value_cell, settled_cell}
use Rattle.causal_model.specs.Stability.{stable_vector, is_stable}
use Rattle.causal_model.proofs.Cells.Cells.{marks}
use Rattle.causal_model.proofs.Theory.Elements.{list_any-map, list_any_agree, list_any-filter}
use Rattle.causal_model.proofs.Events.Events.{event_of, epochs_are_between, present_is_covered_in_present}
use Rattle.causal_model.proofs.Cells.KindCells.{put_cell, given, given_on, given_marks, given_sum, given_none, awset_puts, rwset_puts, mvreg_puts, ewflag_puts, dwflag_puts, rcounter_puts, awset_object, rwset_object, mvreg_object, ewflag_value, dwflag_value, rcounter_value, list_object, list_value}
use Rattle.causal_model.proofs.Answers.Rules.{object_from_same}

-- ---- events of epochs that are over, and of the present one

-- an event of an epoch that is over is stable
pub past_is_stable : (h : History) → All (λ e. is_stable_event h e ≡ true) (events_from 0 h.past)
past_is_stable h = All-weaker (λ e. (0 ≤ e.epoch) × (e.epoch < 0 + epoch_of h)) (λ e. is_stable_event h e ≡ true) (λ e between. or_left _ _ (lt-ltb e.epoch (epoch_of h) (omega (arith, between.1)))) (events_from 0 h.past) (epochs_are_between 0 h.past)

-- one of the present epoch is stable where its message is
pub present_is_stable : (h : History) (m : Message) → is_stable_event h (event_of (epoch_of h) m) ≡ is_stable (stable_vector h.present.n h.present.me h.present.messages) m
present_is_stable h m = ap (λ b. b || is_stable (stable_vector h.present.n h.present.me h.present.messages) m) (le-ltb (epoch_of h) (epoch_of h) (omega arith))

-- ---- what is pending is logged

-- an act that a kind keeps makes an operation that is kept
pub act_is_kept : (object : ObjectId) (passes : Act → Bool) → ((act : Act) → passes act ≡ true → keeps_act object.kind act ≡ true) → (o : Op) → acts_on object passes o ≡ true → is_kept store_keeps o ≡ true
act_is_kept object passes keeps op.NoOp t = t
act_is_kept object passes keeps (op.Update u) t =
    let both = and_parts (same_object u.object object) (passes u.act) t in
    ap (λ o. keeps_act o.kind u.act) (object_from_same u.object object both.0) ∙ keeps u.act both.1

logged : (a k u s : Bool) → (a ≡ true → k ≡ true) → (a && (not s && u)) ≡ ((k && u && not s) && a)
logged false false u s h = refl
logged false true false s h = refl
logged false true true true h = refl
logged false true true false h = refl
logged true false u s h = absurd (false≢true (h refl))
logged true true false true h = refl
logged true true false false h = refl
logged true true true true h = refl
logged true true true false h = refl

module _ (h : History) (object : ObjectId) (passes : Act → Bool) (keeps : (act : Act) → passes act ≡ true → keeps_act object.kind act ≡ true) where
  pub pending_is_logged : has_pending h object passes ≡ list_any (λ m. acts_on object passes m.op) (log_of h)
  pending_is_logged =
      let waits : Event → Bool = λ e. is_act_on object passes e && is_pending h e in
      let past = list_any_none waits (events_from 0 h.past) (All-weaker (λ e. is_stable_event h e ≡ true) (λ e. waits e ≡ false) (λ e stable. and_right _ _ (ap (λ b. not b && is_uncovered_event (events h) e) stable)) (events_from 0 h.past) (past_is_stable h)) in
      let kept : Message → Bool = λ m. is_kept store_keeps m.op && is_uncovered store_covers h.present.messages m && not (is_stable (stable_vector h.present.n h.present.me h.present.messages) m) in
      list_any-append waits (events_from 0 h.past) (events_in (epoch_of h) h.present.messages)
      ∙ ap (λ b. b || list_any waits (events_in (epoch_of h) h.present.messages)) past
      ∙ list_any-map waits (event_of (epoch_of h)) h.present.messages
      ∙ list_any_agree (λ m. waits (event_of (epoch_of h) m)) (λ m. kept m && acts_on object passes m.op) (λ m.
      (λ i. acts_on object passes m.op && (not (present_is_stable h m i) && present_is_covered_in_present h m i))
      ∙ logged (acts_on object passes m.op) (is_kept store_keeps m.op) (is_uncovered store_covers h.present.messages m) (is_stable (stable_vector h.present.n h.present.me h.present.messages) m) (act_is_kept object passes keeps m.op)) h.present.messages
      ∙ sym (list_any-filter kept (λ m. acts_on object passes m.op) h.present.messages)

-- ---- the settled cell

-- what all settled operations give
abbrev pub settled_given : History → ObjectId → Option (List ℕ) → Cell
settled_given h object value = given object value (is_settled h) (events h)

abbrev cell_as : History → Kind → ObjectId → Option (List ℕ) → Cell
cell_as h kind object None = object_cell h kind object
cell_as h kind object (Some value) = value_cell h kind object value

rwset_keeps : (v : List ℕ) (act : Act) → is_add_of v act ≡ true → keeps_act RwSet act ≡ true
rwset_keeps v (Add x) t = refl
rwset_keeps v act t = absurd (false≢true t)

dwflag_keeps : (act : Act) → is_enable act ≡ true → keeps_act DwFlag act ≡ true
dwflag_keeps Enable t = refl
dwflag_keeps act t = absurd (false≢true t)

module _ (h : History) (object : ObjectId) where
  as_kind : (kind : Kind) → object.kind ≡ kind → (value : Option (List ℕ)) (cell : Act → Cell) → ((act : Act) → put_cell kind value act ≡ cell act) → (act : Act) → put_cell object.kind value act ≡ cell act
  as_kind kind is value cell puts act = ap (λ k. put_cell k value act) is ∙ puts act

  cell_is_given : (kind : Kind) (value : Option (List ℕ)) → object.kind ≡ kind → kind ≢ Counter → cell_as h kind object value ≡ cell_settled kind (is_put_in (log_of h) object value) (settled_given h object value)
  cell_is_given AwSet (Some v) is other = sym (given_on object (Some v) (is_settled h) (events h) (is_add_of v) (as_kind AwSet is (Some v) _ (awset_puts v)))
  cell_is_given AwSet None is other = sym (given_none object None (is_settled h) (events h) (as_kind AwSet is None _ awset_object))
  cell_is_given RwSet (Some v) is other =
      let keeps : (act : Act) → is_add_of v act ≡ true → keeps_act object.kind act ≡ true = λ act t. ap (λ k. keeps_act k act) is ∙ rwset_keeps v act t in
      ap (λ b. marks_settled b (marks (has_settled h object (is_add_of v)) (has_settled h object (is_rmv_of v)))) (pending_is_logged h object (is_add_of v) keeps)
      ∙ sym (ap (marks_settled (is_put_in (log_of h) object (Some v))) (given_marks object (Some v) (is_settled h) (events h) (is_add_of v) (is_rmv_of v) (as_kind RwSet is (Some v) _ (rwset_puts v))))
  cell_is_given RwSet None is other = sym (ap (marks_settled (is_put_in (log_of h) object None)) (given_none object None (is_settled h) (events h) (as_kind RwSet is None _ rwset_object)))
  cell_is_given EwFlag None is other = sym (given_on object None (is_settled h) (events h) is_enable (as_kind EwFlag is None _ ewflag_puts))
  cell_is_given EwFlag (Some v) is other = sym (given_none object (Some v) (is_settled h) (events h) (as_kind EwFlag is (Some v) _ (ewflag_value v)))
  cell_is_given DwFlag None is other =
      let keeps : (act : Act) → is_enable act ≡ true → keeps_act object.kind act ≡ true = λ act t. ap (λ k. keeps_act k act) is ∙ dwflag_keeps act t in
      ap (λ b. marks_settled b (marks (has_settled h object is_enable) (has_settled h object is_disable))) (pending_is_logged h object is_enable keeps)
      ∙ sym (ap (marks_settled (is_put_in (log_of h) object None)) (given_marks object None (is_settled h) (events h) is_enable is_disable (as_kind DwFlag is None _ dwflag_puts)))
  cell_is_given DwFlag (Some v) is other = sym (ap (marks_settled (is_put_in (log_of h) object (Some v))) (given_none object (Some v) (is_settled h) (events h) (as_kind DwFlag is (Some v) _ (dwflag_value v))))
  cell_is_given MvReg (Some v) is other = sym (given_on object (Some v) (is_settled h) (events h) (is_write_of v) (as_kind MvReg is (Some v) _ (mvreg_puts v)))
  cell_is_given MvReg None is other = sym (given_none object None (is_settled h) (events h) (as_kind MvReg is None _ mvreg_object))
  cell_is_given Counter value is other = absurd (other refl)
  cell_is_given RCounter None is other = sym (given_sum object None (is_settled h) (events h) (as_kind RCounter is None _ rcounter_puts))
  cell_is_given kinds.List None is other = sym (given_none object None (is_settled h) (events h) (as_kind kinds.List is None _ list_object))
  cell_is_given kinds.List (Some v) is other = sym (given_none object (Some v) (is_settled h) (events h) (as_kind kinds.List is (Some v) _ (list_value v)))
  cell_is_given RCounter (Some v) is other = sym (given_none object (Some v) (is_settled h) (events h) (as_kind RCounter is (Some v) _ (rcounter_value v)))

  pub settled_is_given : (value : Option (List ℕ)) → object.kind ≢ Counter → settled_cell h object value ≡ cell_settled object.kind (is_put_in (log_of h) object value) (settled_given h object value)
  settled_is_given None other = cell_is_given object.kind None refl other
  settled_is_given (Some v) other = cell_is_given object.kind (Some v) refl other
