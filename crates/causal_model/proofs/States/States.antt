-- What calls keep of a state: its history is one, each message is within the limit, and its early messages are early.
use Rattle.std.proofs.Common.{◌≡◌, ◌≢◌, ℕ, ◌<◌, ◌≤◌, Bool, true, false, not, ◌&&◌, ◌||◌, nat_eq, ◌==◌, IsTrue, All, List, [], ◌∷◌, ◌++◌, get_or, refl, sym, ap, subst, ◌∙◌, inl, inr, Option, Some, None, arith}
use mathlib.Core.Bool.{and-true}
use Rattle.std.specs.Prelude.{is_none}
use Rattle.std.specs.List.{filter, list_all}
use Rattle.std.specs.Cmp.Lexicographic.{pointwise}
use Rattle.std.proofs.lemmas.Bool.{and_from, or_left, cases_eq, cases_lt, eq-eqb, ne_eqb, not-true, not_from_false, false_from_ne_true, false≢true}
use Rattle.std.proofs.lemmas.List.{get_or_past, length_push}
use Rattle.std.proofs.lemmas.List.Folds.{list_all-append}
use Rattle.std.proofs.lemmas.List.Elements.{All-nil, All-contains, All-filter, filter_passes}
use Rattle.std.proofs.lemmas.List.Kept.{AllPairs-filter}
use Rattle.op_base.specs.Timestamp.{entry}
use Rattle.op_base.specs.Message.{number, fits, id_of}
use Rattle.op_base.specs.Valid.{is_valid}
use Rattle.op_base.specs.declared.message.Message.{Message}
use Rattle.op_base.specs.declared.operation.Op.{Op}
use Rattle.op_base.specs.declared.outcome.Crook.{Crook}
use Rattle.causal_model.specs.Counts.{count_of, counts, next_tag, is_deliverable, is_carried, are_carried}
use Rattle.causal_model.specs.Chapter.{is_admissible, is_next}
use Rattle.causal_model.specs.History.{epoch_of, with_messages, is_chapter_of, is_all_stable}
use Rattle.causal_model.specs.Sending.{own_message, HasRoom}
use Rattle.causal_model.specs.Receiving.{is_old, is_far, crook_after, messages_with, state_with, with_early, next_of}
use Rattle.causal_model.specs.State.{State, start, counted, with_own}
use Rattle.causal_model.specs.Early.{is_again, has_id, without}
use Rattle.causal_model.specs.Journal.{regrouped}
use Rattle.causal_model.specs.States.{AreEarly, IsState}
use Rattle.causal_model.proofs.Delivery.Counts.{length-counts, entry-counts, count_of_grows, count_of-push_own, count_of-push_other}
use Rattle.causal_model.proofs.States.Early.{StandsBefore, IsDeliverable, IsDeliverable-from_test, test-from_IsDeliverable, IsNew-from_test, test-from_IsNew, IsNear-from_test, test-from_IsNear, All-put_early, put_early_rises, fits_member}
use Rattle.causal_model.proofs.Theory.Finds.{found, none_found, none_passes}
use Rattle.causal_model.proofs.Events.Histories.{IsHistory-from_test, test-from_IsHistory, IsLimited-from_test, test-from_IsLimited, present_is_chapter, is_over, all_carried, all_carried-push, history_with, limited_with}
use Rattle.causal_model.proofs.Delivery.Limits.{own_message_is_carried}
use Rattle.causal_model.proofs.Delivery.Own.{own_message_is_next}
use Rattle.causal_model.proofs.Theory.Risings.{AllPairs-nil}

-- ---- counts with one message more

entry-counts_grow : (n : ℕ) (h : List Message) (m : Message) (x : ℕ) → entry (counts n h) x ≤ entry (counts n (h ++ m ∷ [])) x
entry-counts_grow n h m x = elim (cases_lt x n) [
  | inl l ↦ omega (arith, entry-counts n h x l, entry-counts n (h ++ m ∷ []) x l, count_of_grows h m x)
  | inr past ↦ omega (arith, get_or_past (counts n h) x 0 (omega (arith, past, length-counts n h)))
]

entry-counts_stay : (n : ℕ) (h : List Message) (m : Message) (x : ℕ) → m.origin ≢ x → entry (counts n (h ++ m ∷ [])) x ≡ entry (counts n h) x
entry-counts_stay n h m x ne = elim (cases_lt x n) [
  | inl l ↦ omega (arith, entry-counts n h x l, entry-counts n (h ++ m ∷ []) x l, count_of-push_other h m x ne)
  | inr past ↦ omega (arith, get_or_past (counts n h) x 0 (omega (arith, past, length-counts n h)), get_or_past (counts n (h ++ m ∷ [])) x 0 (omega (arith, past, length-counts n (h ++ m ∷ []))))
]

-- ---- early messages: none, where more was delivered, and where some are left out

none_are_early : (n w limit me : ℕ) (was : List ℕ) → AreEarly n w limit me was []
none_are_early n w limit me was = record {
  rise = AllPairs-nil StandsBefore;
  fit = All-nil (λ e. IsTrue (fits n e));
  carried = All-nil (λ e. IsTrue (is_carried limit e));
  new = All-nil (λ e. is_old me was e ≡ false);
  near = All-nil (λ e. is_far n w me was e ≡ false);
}

module _ (n w limit me : ℕ) (was : List ℕ) (early : List Message) (are : AreEarly n w limit me was early) where
  are_early_later : (now : List ℕ) → ((x : ℕ) → entry was x ≤ entry now x) → All (λ e. entry now e.origin < number e) early → AreEarly n w limit me now early
  are_early_later now grown ahead = record {
    rise = are.rise;
    fit = are.fit;
    carried = are.carried;
    new = λ k d l. let e = get_or early k d in
        test-from_IsNew me now e (record { other = (IsNew-from_test me was e (are.new k d l)).other; ahead = ahead k d l });
    near = λ k d l. let e = get_or early k d in
        let near = IsNear-from_test n w me was e (are.near k d l) in
        test-from_IsNear n w me now e (record { within = omega (arith, near.within, grown e.origin); sent = omega (arith, near.sent, grown me) });
  }

  are_early_filtered : (p : Message → Bool) → AreEarly n w limit me was (filter p early)
  are_early_filtered p = record {
    rise = AllPairs-filter StandsBefore p early are.rise;
    fit = All-filter p (λ e. IsTrue (fits n e)) early are.fit;
    carried = All-filter p (λ e. IsTrue (is_carried limit e)) early are.carried;
    new = All-filter p (λ e. is_old me was e ≡ false) early are.new;
    near = All-filter p (λ e. is_far n w me was e ≡ false) early are.near;
  }

-- ---- what calls keep

-- a replica begins in a state
pub start_is_state : (n w limit me : ℕ) → n ≤ 16 → me < n → IsState w limit (start n me)
start_is_state n w limit me few member = record {
  is_history = test-from_IsHistory w (start n me).history (record { past = refl; few = few; member = member; chapter = refl });
  is_limited = refl;
  are_early = none_are_early n w limit me (counts n []);
}

-- the end of an epoch keeps it
pub regroup_keeps_state : (w limit n me : ℕ) (s : State) → IsState w limit s → n ≤ 16 → me < n → epoch_of s.history < 65535 → IsTrue (is_all_stable s.history.present) → IsState w limit (regrouped n me s)
regroup_keeps_state w limit n me s is few member more stable =
    let was = IsHistory-from_test w s.history is.is_history in
    let had = IsLimited-from_test limit s.history is.is_limited in
    let past = s.history.past in
    let present = s.history.present in
    record {
      is_history = test-from_IsHistory w (regrouped n me s).history (record {
        past = list_all-append (is_over w) past (present ∷ []) ∙ and_from (list_all (is_over w) past) (is_over w present && true) was.past (and-true (is_over w present) ∙ and_from (is_chapter_of w present) (is_all_stable present) (present_is_chapter w s.history is.is_history) stable);
        few = few;
        member = member;
        chapter = refl;
      });
      is_limited = test-from_IsLimited limit (regrouped n me s).history (record {
        epochs = omega (arith, more, length_push past present);
        past = all_carried-push limit past present ∙ and_from (all_carried limit past) (are_carried limit present.messages) had.past had.present;
        present = refl;
      });
      are_early = none_are_early n w limit me (counts n []);
    }

-- an accepted message keeps it
pub accept_keeps_state : (w limit : ℕ) (s : State) (m : Message) → IsState w limit s → IsTrue (fits s.history.present.n m) → IsTrue (is_carried limit m)
    → is_old s.history.present.me (counted s.history) m ≡ false → is_again s.early m ≡ false
    → is_far s.history.present.n w s.history.present.me (counted s.history) m ≡ false → IsState w limit (with_early s m)
accept_keeps_state w limit s m is fit carried new apart near =
    let n = s.history.present.n in
    let me = s.history.present.me in
    let are = is.are_early in
    record {
      is_history = is.is_history;
      is_limited = is.is_limited;
      are_early = record {
        rise = put_early_rises m s.early apart are.rise;
        fit = All-put_early (λ e. IsTrue (fits n e)) m s.early fit are.fit;
        carried = All-put_early (λ e. IsTrue (is_carried limit e)) m s.early carried are.carried;
        new = All-put_early (λ e. is_old me (counted s.history) e ≡ false) m s.early new are.new;
        near = All-put_early (λ e. is_far n w me (counted s.history) e ≡ false) m s.early near are.near;
      };
    }

-- a step keeps it
taken_is_next : (w limit : ℕ) (s : State) (m : Message) → IsState w limit s → next_of s ≡ Some m → crook_after w s.history m ≡ None → IsTrue (is_next s.history.present.n w s.history.present.me s.history.present.messages m)
taken_is_next w limit s m is e straight =
    let n = s.history.present.n in
    let me = s.history.present.me in
    let messages = s.history.present.messages in
    let there = found (is_deliverable n (counted s.history)) s.early m e in
    let fit = All-contains (λ y. IsTrue (fits n y)) s.early m is.are_early.fit there.0 in
    let new = IsNew-from_test me (counted s.history) m (All-contains (λ y. is_old me (counted s.history) y ≡ false) s.early m is.are_early.new there.0) in
    let admissible = and_from (is_deliverable n (counted s.history) m) (is_none (crook_after w s.history m)) there.1 (ap is_none straight) in
    and_from (fits n m && is_admissible n w me messages m) (not (m.origin == me) || pointwise nat_eq m.tag (next_tag n me messages)) (and_from (fits n m) (is_admissible n w me messages m) fit admissible)
    (or_left (not (m.origin == me)) (pointwise nat_eq m.tag (next_tag n me messages)) (not_from_false (m.origin == me) (ne_eqb m.origin me new.other)))

-- an early message that stays is ahead of what then was delivered
stays_ahead : (w limit : ℕ) (s : State) (m : Message) → IsState w limit s → next_of s ≡ Some m → All (λ e. entry (counts s.history.present.n (s.history.present.messages ++ m ∷ [])) e.origin < number e) (without (id_of m) s.early)
stays_ahead w limit s m is e k d l =
    let n = s.history.present.n in
    let me = s.history.present.me in
    let messages = s.history.present.messages in
    let was = counted s.history in
    let stays : Message → Bool = λ y. not (has_id (id_of m) y) in
    let there = found (is_deliverable n was) s.early m e in
    let next = (IsDeliverable-from_test n was m there.1).next in
    let other = get_or (without (id_of m) s.early) k d in
    let new = IsNew-from_test me was other (All-filter stays (λ y. is_old me was y ≡ false) s.early is.are_early.new k d l) in
    let member = fits_member n m (All-contains (λ y. IsTrue (fits n y)) s.early m is.are_early.fit there.0) in
    let apart : has_id (id_of m) other ≡ false = not-true (has_id (id_of m) other) (filter_passes stays s.early k d l) in
    elim (cases_eq m.origin other.origin) [
      | inl same ↦
          let ne : number m ≢ number other = λ equal. false≢true (sym apart ∙ and_from (m.origin == other.origin) (number m == number other) (eq-eqb m.origin other.origin same) (eq-eqb (number m) (number other) equal)) in
          omega (arith, ne, next, new.ahead, ap (entry was) same, ap (entry (counts n (messages ++ m ∷ []))) same, entry-counts n messages m.origin member, entry-counts n (messages ++ m ∷ []) m.origin member, count_of-push_own messages m m.origin refl)
      | inr ne ↦ omega (arith, new.ahead, entry-counts_stay n messages m other.origin ne)
    ]

pub step_keeps_state : (w limit : ℕ) (s : State) (m : Message) → IsState w limit s → next_of s ≡ Some m → IsState w limit (state_with w s m)
step_keeps_state w limit s m is e = by (crook_after w s.history m) refl where
  by : (o : Option Crook) → crook_after w s.history m ≡ o
      → IsState w limit (record { history = with_messages s.history (messages_with s.history.present.messages m o); early = without (id_of m) s.early })
  by None straight =
      let n = s.history.present.n in
      let there = found (is_deliverable n (counted s.history)) s.early m e in
      let left = are_early_filtered n w limit s.history.present.me (counted s.history) s.early is.are_early (λ y. not (has_id (id_of m) y)) in
      record {
        is_history = history_with w s.history m is.is_history (taken_is_next w limit s m is e straight);
        is_limited = limited_with limit s.history m is.is_limited (All-contains (λ y. IsTrue (is_carried limit y)) s.early m is.are_early.carried there.0);
        are_early = are_early_later n w limit s.history.present.me (counted s.history) (without (id_of m) s.early) left (counts n (s.history.present.messages ++ m ∷ [])) (entry-counts_grow n s.history.present.messages m) (stays_ahead w limit s m is e);
      }
  by (Some crook) crooked = record {
    is_history = is.is_history;
    is_limited = is.is_limited;
    are_early = are_early_filtered s.history.present.n w limit s.history.present.me (counted s.history) s.early is.are_early (λ y. not (has_id (id_of m) y));
  }

-- an own message keeps it: no early message is an own one
module _ (w limit : ℕ) (s : State) (o : Op) (is : IsState w limit s) where
  pub own_keeps_state : HasRoom s.history.present.n w s.history.present.me s.history.present.messages o → IsTrue (is_valid o)
      → count_of s.history.present.messages s.history.present.me < limit → IsState w limit (with_own s (own_message s.history.present.n s.history.present.me s.history.present.messages o))
  own_keeps_state room valid below =
      let n = s.history.present.n in
      let me = s.history.present.me in
      let messages = s.history.present.messages in
      let m = own_message n me messages o in
      let was = IsHistory-from_test w s.history is.is_history in
      let had = IsLimited-from_test limit s.history is.is_limited in
      record {
        is_history = history_with w s.history m is.is_history (own_message_is_next n w me messages o was.member was.chapter room);
        is_limited = limited_with limit s.history m is.is_limited (own_message_is_carried n w me limit messages o was.member was.chapter had.present below valid);
        are_early = are_early_later n w limit me (counted s.history) s.early is.are_early (counts n (messages ++ m ∷ [])) (entry-counts_grow n messages m) (λ k d l.
            let e = get_or s.early k d in
            let new = IsNew-from_test me (counted s.history) e (is.are_early.new k d l) in
            omega (arith, new.ahead, entry-counts_stay n messages m e.origin (λ same. new.other (sym same))));
      }

  -- and makes none deliverable: an early message has seen no own message that isn't sent
  pub own_makes_none_deliverable : (m : Message) → m.origin ≡ s.history.present.me → next_of s ≡ None → next_of (with_own s m) ≡ None
  own_makes_none_deliverable m own none =
      let n = s.history.present.n in
      let me = s.history.present.me in
      let messages = s.history.present.messages in
      let was = counted s.history in
      let now = counts n (messages ++ m ∷ []) in
      let fail = none_passes (is_deliverable n was) s.early none in
      none_found (is_deliverable n now) s.early (λ k d l.
      let e = get_or s.early k d in
      let new = IsNew-from_test me was e (is.are_early.new k d l) in
      let near = IsNear-from_test n w me was e (is.are_early.near k d l) in
      let stay : (x : ℕ) → x ≢ me → entry now x ≡ entry was x = λ x ne. entry-counts_stay n messages m x (λ same. ne (sym same ∙ own)) in
      false_from_ne_true (is_deliverable n now e) (λ t.
      let later = IsDeliverable-from_test n now e t in
      let already : IsDeliverable n was e = record {
        next = omega (arith, later.next, stay e.origin new.other);
        seen = λ x low ne. elim (cases_eq x me) [
          | inl same ↦ subst (λ y. entry e.tag y ≤ entry was y) (sym same) near.sent
          | inr apart ↦ omega (arith, later.seen x low ne, stay x apart)
        ];
      } in
      false≢true (sym (fail k d l) ∙ test-from_IsDeliverable n was e already)))
