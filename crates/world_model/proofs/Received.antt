-- What receiving makes of a replica: it stays one, with the same own messages, and with a message more where one was
-- delivered.
use Rattle.std.proofs.Common.{◌≡◌, ◌≢◌, ℕ, zero, suc, ◌+◌, ◌≤◌, Bool, true, false, ◌||◌, ◌==◌, cond, IsTrue, List, [], ◌∷◌, ◌++◌, length, refl, sym, ap, subst, ◌∙◌, Option, Some, None, append-nil, arith}
use Rattle.std.specs.List.{filter, list_any}
use Rattle.std.proofs.lemmas.Bool.{cond-false, ne_eqb}
use Rattle.std.proofs.lemmas.List.{length_push}
use Rattle.std.proofs.lemmas.List.Elements.{All-contains, filter-append}
use Rattle.op_base.specs.Message.{fits}
use Rattle.op_base.specs.declared.message.Message.{Message}
use Rattle.op_base.specs.declared.outcome.Crook.{Crook}
use Rattle.op_base.specs.declared.outcome.Step.{Step}
use Rattle.causal_model.specs.Counts.{is_deliverable, is_carried}
use Rattle.causal_model.specs.Receiving.{next_of, is_old, crook_after, messages_with, state_with, step_of, steps_within, steps, with_early, refusal_of, steps_of, receive_by, receive_rule}
use Rattle.causal_model.specs.State.{State, counted}
use Rattle.causal_model.specs.States.{IsState}
use Rattle.causal_model.specs.declared.outcome.Refusal.{Refusal}
use Rattle.causal_model.proofs.States.Early.{IsNew-from_test}
use Rattle.causal_model.proofs.Theory.Finds.{found}
use Rattle.causal_model.proofs.States.Outcomes.{steps_of_accepted, steps_of_refused, unrefused}
use Rattle.causal_model.proofs.States.States.{accept_keeps_state, step_keeps_state}
use Rattle.causal_model.proofs.States.Steps.{steps_by, none_is_next_after_steps}
use Rattle.world_model.specs.Settling.{is_delivery}
use Rattle.world_model.specs.Worlds.{IsReplica, own_of}

-- how many messages of the present epoch a state has
abbrev pub length_of : State → ℕ
length_of s = length s.history.present.messages

-- ---- steps

-- what steps make of a state, and that they deliver where they say so
record IsStepped (w limit : ℕ) (s : State) (made : List Step) (after : State) : Type 0 where
  is_state : IsState w limit after
  of_store : after.history.present.n ≡ s.history.present.n
  of_member : after.history.present.me ≡ s.history.present.me
  past : after.history.past ≡ s.history.past
  own : own_of after ≡ own_of s
  more : length_of s + cond (list_any is_delivery made) 1 0 ≤ length_of after

pub at_most_both : (a b : Bool) → cond (a || b) 1 0 ≤ cond a 1 0 + cond b 1 0
at_most_both true b = omega arith
at_most_both false b = omega arith

module _ (w limit : ℕ) (s : State) (m : Message) (is : IsState w limit s) (next : next_of s ≡ Some m) where
  taken_is_not_own : m.origin ≢ s.history.present.me
  taken_is_not_own =
      let there = found (is_deliverable s.history.present.n (counted s.history)) s.early m next in
      (IsNew-from_test s.history.present.me (counted s.history) m (All-contains (λ y. is_old s.history.present.me (counted s.history) y ≡ false) s.early m is.are_early.new there.0)).other

  taken_keeps_own : (o : Option Crook) → filter (λ e. e.origin == s.history.present.me) (messages_with s.history.present.messages m o) ≡ own_of s
  taken_keeps_own None =
      let own : Message → Bool = λ e. e.origin == s.history.present.me in
      filter-append own s.history.present.messages (m ∷ []) ∙ ap (λ ms. own_of s ++ ms) (cond-false (own m) (m ∷ []) [] (ne_eqb m.origin s.history.present.me taken_is_not_own)) ∙ append-nil (own_of s)
  taken_keeps_own (Some crook) = refl

  taken_is_counted : (o : Option Crook) → length_of s + cond (is_delivery (step_of m o)) 1 0 ≤ length (messages_with s.history.present.messages m o)
  taken_is_counted None = omega (arith, length_push s.history.present.messages m)
  taken_is_counted (Some crook) = omega arith

steps_make : (w limit most : ℕ) (s : State) → IsState w limit s → IsStepped w limit s (steps_within w most s).0 (steps_within w most s).1
steps_make w limit zero s is = record { is_state = is; of_store = refl; of_member = refl; past = refl; own = refl; more = omega arith }
steps_make w limit (suc most) s is = by (steps_make w limit most) (next_of s) refl where
  by : ((g : State) → IsState w limit g → IsStepped w limit g (steps_within w most g).0 (steps_within w most g).1) → (o : Option Message) → next_of s ≡ o
      → IsStepped w limit s (steps_by w most s o).0 (steps_by w most s o).1
  by later None none = record { is_state = is; of_store = refl; of_member = refl; past = refl; own = refl; more = omega arith }
  by later (Some m) next =
      let rest = later (state_with w s m) (step_keeps_state w limit s m is next) in
      let first = step_of m (crook_after w s.history m) in
      let others = (steps_within w most (state_with w s m)).0 in
      record {
        is_state = rest.is_state;
        of_store = rest.of_store;
        of_member = rest.of_member;
        past = rest.past;
        own = rest.own ∙ taken_keeps_own w limit s m is next (crook_after w s.history m);
        more = omega (arith, rest.more, taken_is_counted w limit s m is next (crook_after w s.history m), at_most_both (is_delivery first) (list_any is_delivery others));
      }

-- ---- receiving

-- what a replica is after receiving, which delivered a message or not
pub record IsLater (n w limit epoch r : ℕ) (s : State) (delivered : Bool) (after : State) : Type 0 where
  pub is_replica : IsReplica n w limit epoch r after
  pub own : own_of after ≡ own_of s
  pub more : length_of s + cond delivered 1 0 ≤ length_of after

pub later_twice : {epoch : ℕ} (n w limit r : ℕ) (s middle after : State) (a b : Bool) → IsLater n w limit epoch r s a middle → IsLater n w limit epoch r middle b after → IsLater n w limit epoch r s (a || b) after
later_twice n w limit r s middle after a b first second =
    record { is_replica = second.is_replica; own = second.own ∙ first.own; more = omega (arith, first.more, second.more, at_most_both a b) }

module _ {epoch : ℕ} (n w limit r : ℕ) (s : State) (is : IsReplica n w limit epoch r s) where
  pub is_as_before : IsLater n w limit epoch r s false s
  is_as_before = record { is_replica = is; own = refl; more = omega arith }

  pub receives : (m : Message) → IsTrue (fits n m) → IsTrue (is_carried limit m)
      → IsLater n w limit epoch r s (list_any is_delivery (steps_of (receive_rule w m s).0)) (receive_rule w m s).1
  receives m fit carried = by (refusal_of w s m) refl where
    by : (o : Option Refusal) → refusal_of w s m ≡ o → IsLater n w limit epoch r s (list_any is_delivery (steps_of (receive_by w m s o).0)) (receive_by w m s o).1
    by (Some why) e = subst (λ made. IsLater n w limit epoch r s (list_any is_delivery made) s) (sym (steps_of_refused why)) is_as_before
    by None e =
        let parts = unrefused w s m e in
        let g = with_early s m in
        let early = accept_keeps_state w limit s m is.is_state (subst (λ k. IsTrue (fits k m)) (sym is.of_store) fit) carried parts.new parts.apart parts.near in
        let stepped = steps_make w limit (length g.early) g early in
        subst (λ made. IsLater n w limit epoch r s (list_any is_delivery made) (steps w g).1) (sym (steps_of_accepted (steps w g).0)) (record {
          is_replica = record {
            is_state = stepped.is_state;
            of_store = stepped.of_store ∙ is.of_store;
            of_member = stepped.of_member ∙ is.of_member;
            in_epoch = ap length stepped.past ∙ is.in_epoch;
            none_is_next = none_is_next_after_steps w g;
          };
          own = stepped.own;
          more = stepped.more;
        })
