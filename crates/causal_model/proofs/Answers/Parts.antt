-- Answers from parts: an uncovered event is settled or pending, and the pending ones that are logged are the log's.
use Rattle.std.proofs.Common.{◌≡◌, ◌+◌, ◌<◌, ◌≤◌, Bool, true, false, not, ◌&&◌, ◌||◌, IsTrue, All, List, [], ◌∷◌, refl, sym, ap, subst, ◌∙◌, arith}
use Rattle.std.specs.List.{list_any}
use Rattle.std.proofs.lemmas.Bool.{and_parts, and_left, and_right, or_left, lt-ltb, le-ltb, false≢true}
use Rattle.std.proofs.lemmas.List.Elements.{All-weaker}
use Rattle.std.proofs.lemmas.List.Folds.{list_any-append, list_any_none}
use Rattle.op_base.specs.Object.{same_object}
use Rattle.op_base.specs.declared.message.Message.{Message}
use Rattle.op_base.specs.declared.name.Kind.{Kind}
use Rattle.op_base.specs.declared.name.ObjectId.{ObjectId}
use Rattle.op_base.specs.declared.operation.Act.{Act}
use Rattle.op_base.specs.declared.operation.Op.{Op}
use Rattle.op_base.specs.declared.operation.Op.TheVariants as op
use Rattle.op_base.specs.declared.operation.Update.{Update}
use Rattle.causal_model.specs.Acts.{acts_on}
use Rattle.causal_model.specs.Covering.{keeps_act, store_keeps, store_covers}
use Rattle.causal_model.specs.History.{History, Event, epoch_of, events, events_from, events_in, is_act_on}
use Rattle.causal_model.specs.Log.{is_kept, is_uncovered, log_of}
use Rattle.causal_model.specs.Parts.{has_uncovered, has_logged}
use Rattle.causal_model.specs.Settled.{is_stable_event, is_uncovered_event, is_settled, is_pending, has_settled, has_pending}
use Rattle.causal_model.specs.Stability.{stable_vector, is_stable}
use Rattle.causal_model.specs.Laws.Events.{present_event}
use Rattle.causal_model.proofs.Theory.Elements.{list_any-map, list_any_agree, list_any-filter}
use Rattle.causal_model.proofs.Events.Events.{epochs_are_between, present_is_covered_in_present}
use Rattle.causal_model.proofs.Answers.Rules.{object_from_same}

-- ---- an uncovered event is settled or pending

-- some item passes a test where some passes one of the two that it splits into
list_any-split : {X : Type 0} (p q r : X → Bool) → ((x : X) → p x ≡ (q x || r x)) → (xs : List X) → list_any p xs ≡ (list_any q xs || list_any r xs)
list_any-split p q r h [] = refl
list_any-split p q r h (x ∷ xs) = (λ i. h x i || list_any-split p q r h xs i) ∙ swap (q x) (r x) (list_any q xs) (list_any r xs) where
  swap : (a b c d : Bool) → ((a || b) || (c || d)) ≡ ((a || c) || (b || d))
  swap true b c d = refl
  swap false true true d = refl
  swap false true false d = refl
  swap false false true d = refl
  swap false false false d = refl

-- what is uncovered is settled, or pending
either_way : (a s u : Bool) → (a && u) ≡ ((a && (s && u)) || (a && (not s && u)))
either_way false s u = refl
either_way true false u = refl
either_way true true true = refl
either_way true true false = refl

pub uncovered_is_settled_or_pending : (h : History) (object : ObjectId) (passes : Act → Bool) → has_uncovered object (events h) passes ≡ (has_settled h object passes || has_pending h object passes)
uncovered_is_settled_or_pending h object passes =
    list_any-split (λ e. is_act_on object passes e && is_uncovered_event (events h) e) (λ e. is_act_on object passes e && is_settled h e) (λ e. is_act_on object passes e && is_pending h e)
    (λ e. either_way (is_act_on object passes e) (is_stable_event h e) (is_uncovered_event (events h) e)) (events h)

-- ---- pending events

-- an event of an epoch that is over is not pending
pub past_is_not_pending : (h : History) → All (λ e. is_pending h e ≡ false) (events_from 0 h.past)
past_is_not_pending h = All-weaker (λ e. (0 ≤ e.epoch) × (e.epoch < 0 + epoch_of h)) (λ e. is_pending h e ≡ false) (λ e within.
    let over : is_stable_event h e ≡ true = or_left _ _ (lt-ltb e.epoch (epoch_of h) (omega (arith, within.1))) in
    and_left _ _ (ap not over)) (events_from 0 h.past) (epochs_are_between 0 h.past)

-- one of the present epoch is where its message is unstable, and uncovered in its epoch
pub present_is_pending : (h : History) (m : Message)
    → is_pending h (present_event h m) ≡ (not (is_stable (stable_vector h.present.n h.present.me h.present.messages) m) && is_uncovered store_covers h.present.messages m)
present_is_pending h m =
    (λ i. not (le-ltb (epoch_of h) (epoch_of h) (omega arith) i || is_stable (stable_vector h.present.n h.present.me h.present.messages) m) && present_is_covered_in_present h m i)

-- what does an act is pending exactly where it is logged
is_logged : (a s u k : Bool) → (a ≡ true → k ≡ true) → (a && (not s && u)) ≡ ((k && u && not s) && a)
is_logged false s u k h = sym (and_right (k && u && not s) false refl)
is_logged true s u false h = absurd (false≢true (h refl))
is_logged true true true true h = refl
is_logged true true false true h = refl
is_logged true false true true h = refl
is_logged true false false true h = refl

-- each act that passes a test is logged on an object of a kind that keeps such acts
pub kept_is_logged : (object : ObjectId) (kind : Kind) → object.kind ≡ kind → (passes : Act → Bool) → ((act : Act) → passes act ≡ true → keeps_act kind act ≡ true)
    → (u : Update) → IsTrue (same_object u.object object) → IsTrue (passes u.act) → IsTrue (store_keeps u)
kept_is_logged object kind is passes kept u same t = subst (λ k. keeps_act k u.act ≡ true) (sym (ap (λ (o : ObjectId). o.kind) (object_from_same u.object object same) ∙ is)) (kept u.act t)

pub is_kept_act : (object : ObjectId) (passes : Act → Bool) → ((u : Update) → IsTrue (same_object u.object object) → IsTrue (passes u.act) → IsTrue (store_keeps u))
    → (o : Op) → acts_on object passes o ≡ true → is_kept store_keeps o ≡ true
is_kept_act object passes logs op.NoOp t = t
is_kept_act object passes logs (op.Update u) t = let both = and_parts (same_object u.object object) (passes u.act) t in logs u both.0 both.1

pub pending_is_logged : (h : History) (object : ObjectId) (passes : Act → Bool)
    → ((u : Update) → IsTrue (same_object u.object object) → IsTrue (passes u.act) → IsTrue (store_keeps u))
    → has_pending h object passes ≡ has_logged object (log_of h) passes
pending_is_logged h object passes logs =
    let stable : Message → Bool = is_stable (stable_vector h.present.n h.present.me h.present.messages) in
    let pending : Event → Bool = λ e. is_act_on object passes e && is_pending h e in
    let kept : Message → Bool = λ m. is_kept store_keeps m.op && is_uncovered store_covers h.present.messages m && not (stable m) in
    let past : list_any pending (events_from 0 h.past) ≡ false =
    list_any_none pending (events_from 0 h.past) (All-weaker (λ e. is_pending h e ≡ false) (λ e. pending e ≡ false) (λ e over. and_right _ _ over) (events_from 0 h.past) (past_is_not_pending h)) in
    list_any-append pending (events_from 0 h.past) (events_in (epoch_of h) h.present.messages) ∙ ap (λ b. b || list_any pending (events_in (epoch_of h) h.present.messages)) past
    ∙ list_any-map pending (present_event h) h.present.messages
    ∙ list_any_agree (λ m. pending (present_event h m)) (λ m. kept m && acts_on object passes m.op) (λ m. ap (λ b. acts_on object passes m.op && b) (present_is_pending h m)
    ∙ is_logged (acts_on object passes m.op) (stable m) (is_uncovered store_covers h.present.messages m) (is_kept store_keeps m.op) (is_kept_act object passes logs m.op)) h.present.messages
    ∙ sym (list_any-filter kept (λ m. acts_on object passes m.op) h.present.messages)
