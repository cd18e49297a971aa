-- How many steps are made once a message is early, where no other can be delivered.
use Rattle.std.proofs.Common.{◌≡◌, ℕ, ◌+◌, true, false, not, IsTrue, All, List, [], ◌∷◌, ◌++◌, length, get_or, set, refl, sym, ap, ap₂, subst, ◌∙◌, Option, Some, None, arith}
use Rattle.std.specs.List.{find}
use Rattle.std.proofs.lemmas.Bool.{false≢true, not-true}
use Rattle.std.proofs.lemmas.List.Elements.{All-filter, filter_passes}
use Rattle.op_base.specs.Timestamp.{entry}
use Rattle.op_base.specs.Message.{number, id_of, fits}
use Rattle.op_base.specs.declared.message.Message.{Message}
use Rattle.op_base.specs.declared.outcome.Crook.{Crook}
use Rattle.causal_model.specs.Counts.{is_deliverable, count_of}
use Rattle.causal_model.specs.Early.{has_id, is_again, put_early, without}
use Rattle.causal_model.specs.History.{with_messages}
use Rattle.causal_model.specs.Receiving.{next_of, crook_after, messages_with, state_with, with_early}
use Rattle.causal_model.specs.State.{State, counted}
use Rattle.causal_model.proofs.Delivery.Counts.{counts-push, entry-counts}
use Rattle.causal_model.proofs.States.Early.{All-put_early, IsDeliverable-from_test, fits_member}
use Rattle.causal_model.proofs.States.Steps.{has_own_id, steps_of_none, steps_of_one_more, steps_take_messages_out}
use Rattle.causal_model.proofs.Theory.Finds.{none_found}
use Rattle.causal_buffer.specs.Queue.{AreUnready}
use Rattle.causal_buffer.specs.Standing.{HasStepsWithin}
use Rattle.causal_buffer.proofs.Kept.{put_is_next}
use Rattle.causal_buffer.proofs.Places.{length-put_early}

-- as many as there are messages then
pub all_steps_within : (counts : List ℕ) (m : Message) (early : List Message) (most : ℕ) → most ≡ length early + 1 → HasStepsWithin counts m early most
all_steps_within counts m early most is w s members same of =
    omega (arith, steps_take_messages_out w (with_early s m), length-put_early m s.early, ap length of, is)

-- none can be delivered where so many were
abbrev pub AreUndeliverable : ℕ → List ℕ → List Message → Type 0
AreUndeliverable n counts early = All (λ e. is_deliverable n counts e ≡ false) early

-- none, where it can't be delivered either
pub no_steps_within : (counts : List ℕ) (m : Message) (early : List Message) → is_deliverable (length counts) counts m ≡ false → AreUndeliverable (length counts) counts early → HasStepsWithin counts m early 0
no_steps_within counts m early fails none w s members same of =
    let test = is_deliverable s.history.present.n (counted s.history) in
    let by = λ (e : Message). ap₂ (λ n c. is_deliverable n c e) members (sym same) in
    let next : next_of (with_early s m) ≡ None
    = none_found test (put_early m s.early) (All-put_early (λ e. test e ≡ false) m s.early (by m ∙ fails) (λ k d l. by (get_or s.early k d) ∙ subst (AreUndeliverable (length counts) counts) (sym of) none k d l)) in
    omega (arith, ap (λ (made : _). length made.0) (steps_of_none w (with_early s m) next))

-- what is true of the others is true of all that are left without it
pub others_are_left : (P : Message → Type 0) (m : Message) (early : List Message) → All P early → All P (without (id_of m) (put_early m early))
others_are_left P m early each k d l =
    let Other : Message → Type 0 = λ e. has_id (id_of m) e ≡ false → P e in
    let stays = λ (e : Message). not (has_id (id_of m) e) in
    let put = All-put_early Other m early (λ other. absurd (false≢true (sym other ∙ has_own_id m))) (λ k d l _. each k d l) in
    All-filter stays Other (put_early m early) put k d l (not-true (has_id (id_of m) (get_or (without (id_of m) (put_early m early)) k d)) (filter_passes stays (put_early m early) k d l))

-- one, where it can be delivered, and no other then, whether it is counted or not
module _ (counts : List ℕ) (m : Message) (early : List Message) (fit : IsTrue (fits (length counts) m)) (apart : is_again early m ≡ false) (can : is_deliverable (length counts) counts m ≡ true)
    (unready : AreUnready m.origin (length counts) counts early) (none : AreUndeliverable (length counts) counts early) (none_then : AreUndeliverable (length counts) (set counts m.origin (number m)) early) where
  -- the counts once it is delivered
  counts_then : (s : State) → s.history.present.n ≡ length counts → counts ≡ counted s.history → counted (with_messages s.history (s.history.present.messages ++ m ∷ [])) ≡ set counts m.origin (number m)
  counts_then s members same =
      let n = s.history.present.n in
      let messages = s.history.present.messages in
      let x = m.origin in
      let number_is : count_of messages x + 1 ≡ number m
      = ap (λ c. c + 1) (sym (entry-counts n messages x (omega (arith, members, fits_member (length counts) m fit))) ∙ ap (λ c. entry c x) (sym same)) ∙ sym (IsDeliverable-from_test (length counts) counts m can).next in
      counts-push n messages m ∙ ap₂ (λ c v. set c x v) (sym same) number_is

  none_next : (w : ℕ) (s : State) → s.history.present.n ≡ length counts → counts ≡ counted s.history → s.early ≡ early → next_of (state_with w (with_early s m) m) ≡ None
  none_next w s members same of = by (crook_after w s.history m) refl where
    left : (c : List ℕ) → AreUndeliverable (length counts) c early → find (is_deliverable s.history.present.n c) (without (id_of m) (put_early m s.early)) ≡ None
    left c fail =
        subst (λ n. find (is_deliverable n c) (without (id_of m) (put_early m s.early)) ≡ None) (sym members)
        (none_found (is_deliverable (length counts) c) (without (id_of m) (put_early m s.early)) (others_are_left (λ e. is_deliverable (length counts) c e ≡ false) m s.early (subst (AreUndeliverable (length counts) c) (sym of) fail)))

    by : (o : Option Crook) → crook_after w s.history m ≡ o → next_of (state_with w (with_early s m) m) ≡ None
    by None is =
        ap (λ o. next_of (record { history = with_messages s.history (messages_with s.history.present.messages m o); early = without (id_of m) (put_early m s.early) })) is
        ∙ ap (λ c. find (is_deliverable s.history.present.n c) (without (id_of m) (put_early m s.early))) (counts_then s members same) ∙ left (set counts m.origin (number m)) none_then
    by (Some crook) is =
        ap (λ o. next_of (record { history = with_messages s.history (messages_with s.history.present.messages m o); early = without (id_of m) (put_early m s.early) })) is
        ∙ ap (λ c. find (is_deliverable s.history.present.n c) (without (id_of m) (put_early m s.early))) (sym same) ∙ left counts none

  pub one_step_within : HasStepsWithin counts m early 1
  one_step_within w s members same of =
      let next : next_of (with_early s m) ≡ Some m
      = ap₂ (λ n c. find (is_deliverable n c) (put_early m s.early)) members (sym same) ∙ ap (λ e. find (is_deliverable (length counts) counts) (put_early m e)) of ∙ put_is_next (length counts) counts m early apart can unready in
      let one = steps_of_one_more w (with_early s m) m next in
      let rest = steps_of_none w (state_with w (with_early s m) m) (none_next w s members same of) in
      omega (arith, ap (λ (made : _). length made.0) one, ap (λ (made : _). length made.0) rest)
