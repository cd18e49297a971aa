-- The events of a history: of which chapter each of them is, their order, and what one event more makes of them.
use Rattle.std.proofs.Common.{◌≡◌, ℕ, ◌+◌, ◌<◌, ◌≤◌, Bool, true, false, not, ◌&&◌, ◌||◌, ◌==◌, nat_lt, All, AllPairs, Contains, IsTrue, Some, List, [], ◌∷◌, ◌++◌, length, get_or, suc, refl, sym, ap, subst, ◌∙◌, inl, inr, ◌⊎◌, append_assoc, append-nil, zero-add, add-zero, arith}
use Rattle.std.specs.List.{list_any, slice_get}
use Rattle.std.proofs.lemmas.Bool.{and_parts, and_from, and_left, and_right, or_left, or_right, or_from, or_cases, both_ways, eq-eqb, ne_eqb, eqb-true, lt-ltb, le-ltb, ltb-true, false_from_ne_true}
use Rattle.std.proofs.lemmas.List.{map-append}
use Rattle.std.proofs.lemmas.List.Elements.{All-nil, All-append, All-map, All-weaker, All-push, All-head, All-tail, All-contains, Contains-get_or}
use Rattle.std.proofs.lemmas.List.Folds.{list_any-append, list_any_none}
use Rattle.std.proofs.lemmas.List.Sums.{AllPass-from_list_all}
use Rattle.std.proofs.lemmas.Option.{same_Some, slice_get_within, get_or_from_slice_get, slice_get-get_or}
use Rattle.op_base.specs.declared.message.Message.{Message}
use Rattle.causal_model.specs.Covering.{store_covers}
use Rattle.causal_model.specs.Chapter.{is_chapter}
use Rattle.causal_model.specs.History.{Chapter, History, Event, events_in, events_from, events, chapters, epoch_of, with_message, is_before, is_chapter_of, is_all_stable, is_history}
use Rattle.causal_model.specs.Laws.Events.{present_event}
use Rattle.causal_model.specs.Log.{is_covered_by, is_uncovered}
use Rattle.causal_model.specs.Order.{happened_before, same_id}
use Rattle.causal_model.specs.Settled.{is_uncovered_event}
use Rattle.causal_model.proofs.Delivery.Apart.{ids_are_apart}
use Rattle.causal_model.proofs.Theory.Elements.{list_any-map, list_any_agree, AllPairs-append, AllPairs-map, before_is_earlier}
use Rattle.causal_model.proofs.Delivery.Logs.{either_fails, last_is_uncovered}
use Rattle.causal_model.proofs.Delivery.Orders.{never_before_itself, order_goes_forward, order_is_transitive}

-- the event of a message in an epoch
abbrev pub event_of : ℕ → Message → Event
event_of epoch m = record { epoch = epoch; message = m }

-- ---- the order of two events

-- in one epoch it is that of their messages
pub before_within : (k : ℕ) (a b : Message) → is_before (event_of k a) (event_of k b) ≡ happened_before a b
before_within k a b = ap (λ t. t || ((k == k) && happened_before a b)) (le-ltb k k (omega arith)) ∙ ap (λ t. t && happened_before a b) (eq-eqb k k refl)

pub earlier_is_before : (a b : Event) → a.epoch < b.epoch → IsTrue (is_before a b)
earlier_is_before a b l = or_left _ _ (lt-ltb a.epoch b.epoch l)

pub later_is_not_before : (a b : Event) → a.epoch < b.epoch → is_before b a ≡ false
later_is_not_before a b l = or_from _ _ (le-ltb b.epoch a.epoch (omega (arith, l))) (and_left _ _ (ne_eqb b.epoch a.epoch (λ e. omega (arith, e, l))))

pub event_never_before_itself : (e : Event) → is_before e e ≡ false
event_never_before_itself e = before_within e.epoch e.message e.message ∙ never_before_itself e.message

-- what is before another is of an earlier epoch, or of the same and before it there
pub before_cases : (a b : Event) → IsTrue (is_before a b) → (a.epoch < b.epoch) ⊎ ((a.epoch ≡ b.epoch) × IsTrue (happened_before a.message b.message))
before_cases a b t = elim (or_cases (nat_lt a.epoch b.epoch) ((a.epoch == b.epoch) && happened_before a.message b.message) t) [
  | inl l ↦ inl (ltb-true a.epoch b.epoch l)
  | inr same ↦
      let both = and_parts (a.epoch == b.epoch) (happened_before a.message b.message) same in
      inr (eqb-true a.epoch b.epoch both.0, both.1)
]

before_in_one : (a b : Event) → a.epoch ≡ b.epoch → IsTrue (happened_before a.message b.message) → IsTrue (is_before a b)
before_in_one a b e t = or_right _ _ (and_from _ _ (eq-eqb a.epoch b.epoch e) t)

-- ---- events of chapters, the first of which is of epoch k

-- that an event is a message of the chapter of its epoch
pub record IsIn (k : ℕ) (cs : List Chapter) (e : Event) : Type 0 where
  pub place : ℕ
  pub chapter : Chapter
  pub found : slice_get cs place ≡ Some chapter
  pub epoch : k + place ≡ e.epoch
  pub there : Contains chapter.messages e.message

pub each_is_in : (k : ℕ) (cs : List Chapter) → All (IsIn k cs) (events_from k cs)
each_is_in k [] = All-nil (IsIn k [])
each_is_in k (c ∷ cs) = All-append (IsIn k (c ∷ cs)) (events_in k c.messages) (events_from (k + 1) cs)
    (All-map (IsIn k (c ∷ cs)) (event_of k) c.messages (λ i d l. record { place = 0; chapter = c; found = refl; epoch = add-zero k; there = Contains-get_or c.messages i d l }))
    (All-weaker (IsIn (k + 1) cs) (IsIn k (c ∷ cs)) (λ e p. record { place = suc p.place; chapter = p.chapter; found = p.found; epoch = omega (arith, p.epoch); there = p.there }) (events_from (k + 1) cs) (each_is_in (k + 1) cs))

pub epochs_are_between : (k : ℕ) (cs : List Chapter) → All (λ e. (k ≤ e.epoch) × (e.epoch < k + length cs)) (events_from k cs)
epochs_are_between k cs = All-weaker (IsIn k cs) (λ e. (k ≤ e.epoch) × (e.epoch < k + length cs)) (λ e p. (omega (arith, p.epoch), omega (arith, p.epoch, slice_get_within cs p.place p.chapter p.found))) (events_from k cs) (each_is_in k cs)

events_from-push : (k : ℕ) (cs : List Chapter) (c : Chapter) → events_from k (cs ++ c ∷ []) ≡ events_from k cs ++ events_in (k + length cs) c.messages
events_from-push k [] c = append-nil (events_in k c.messages) ∙ ap (λ n. events_in n c.messages) (omega arith)
events_from-push k (d ∷ cs) c =
    let next : (k + 1) + length cs ≡ k + suc (length cs) = omega arith in
    ap (λ es. events_in k d.messages ++ es) (events_from-push (k + 1) cs c ∙ ap (λ n. events_from (k + 1) cs ++ events_in n c.messages) next) ∙ sym (append_assoc (events_in k d.messages) (events_from (k + 1) cs) (events_in (k + suc (length cs)) c.messages))

pub events_of_chapters : (h : History) → events h ≡ events_from 0 (chapters h)
events_of_chapters h = sym (events_from-push 0 h.past h.present ∙ ap (λ n. events_from 0 h.past ++ events_in n h.present.messages) (zero-add (epoch_of h)))

-- what holds of two events of two epochs, and of two in one chapter, holds of each event and each later one
module _ (R : Event → Event → Type 0) (apart : (a b : Event) → a.epoch < b.epoch → R a b) where
  pub pairs_of_events : (k : ℕ) (cs : List Chapter) → All (λ c. (j : ℕ) → AllPairs (λ a b. R (event_of j a) (event_of j b)) c.messages) cs → AllPairs R (events_from k cs)
  pairs_of_events k [] each = λ i j d l within. absurd (omega arith)
  pairs_of_events k (c ∷ cs) each =
      let Each : Chapter → Type 0 = λ c. (j : ℕ) → AllPairs (λ a b. R (event_of j a) (event_of j b)) c.messages in
      AllPairs-append R (events_in k c.messages) (events_from (k + 1) cs) (AllPairs-map R (event_of k) c.messages (All-head Each c cs each k)) (pairs_of_events (k + 1) cs (All-tail Each c cs each))
      (All-map (λ a. All (R a) (events_from (k + 1) cs)) (event_of k) c.messages (λ i d l.
      All-weaker (λ e. (k + 1 ≤ e.epoch) × (e.epoch < (k + 1) + length cs)) (R (event_of k (get_or c.messages i d))) (λ e between. apart (event_of k (get_or c.messages i d)) e (omega (arith, between.0))) (events_from (k + 1) cs) (epochs_are_between (k + 1) cs)))

-- ---- events of a history

-- that an event of a history is a message of the chapter of its epoch, which is one
pub record IsEvent (w : ℕ) (h : History) (e : Event) : Type 0 where
  pub chapter : Chapter
  pub found : slice_get (chapters h) e.epoch ≡ Some chapter
  pub followed : IsTrue (is_chapter_of w chapter)
  pub there : Contains chapter.messages e.message

pub chapters_are_followed : (w : ℕ) (h : History) → IsTrue (is_history w h) → All (λ c. IsTrue (is_chapter_of w c)) (chapters h)
chapters_are_followed w h t =
    let both = and_parts _ _ t in
    let past = AllPass-from_list_all (λ c. is_chapter_of w c && is_all_stable c) h.past both.0 in
    All-push (λ c. IsTrue (is_chapter_of w c)) h.past h.present (All-weaker (λ c. IsTrue (is_chapter_of w c && is_all_stable c)) (λ c. IsTrue (is_chapter_of w c)) (λ c both. (and_parts _ _ both).0) h.past past) both.1

pub is_chapter-from_followed : (w : ℕ) (c : Chapter) → IsTrue (is_chapter_of w c) → IsTrue (is_chapter c.n w c.me c.messages)
is_chapter-from_followed w c t = (and_parts _ (is_chapter c.n w c.me c.messages) t).1

module _ (w : ℕ) (h : History) (t : IsTrue (is_history w h)) where
  pub each_is_event : All (IsEvent w h) (events h)
  each_is_event = subst (All (IsEvent w h)) (sym (events_of_chapters h)) (All-weaker (IsIn 0 (chapters h)) (IsEvent w h) (λ e p.
      let place : p.place ≡ e.epoch = sym (zero-add p.place) ∙ p.epoch in
      let within = slice_get_within (chapters h) p.place p.chapter p.found in
      record {
        chapter = p.chapter;
        found = subst (λ k. slice_get (chapters h) k ≡ Some p.chapter) place p.found;
        followed = subst (λ c. IsTrue (is_chapter_of w c)) (get_or_from_slice_get (chapters h) p.place p.chapter p.chapter p.found) (chapters_are_followed w h t p.place p.chapter within);
        there = p.there;
      }) (events_from 0 (chapters h)) (each_is_in 0 (chapters h)))

  pub is_event : (e : Event) → Contains (events h) e → IsEvent w h e
  is_event e has = All-contains (IsEvent w h) (events h) e each_is_event has

-- two events of one epoch are of one chapter
pub one_chapter : (w : ℕ) (h : History) (a b : Event) (p : IsEvent w h a) (q : IsEvent w h b) → a.epoch ≡ b.epoch → p.chapter ≡ q.chapter
one_chapter w h a b p q e = same_Some p.chapter q.chapter (sym p.found ∙ ap (slice_get (chapters h)) e ∙ q.found)

-- ---- the order of the events of a history

module _ (w : ℕ) (h : History) where
  pub events_are_transitive : (a b c : Event) → IsTrue (is_history w h) → Contains (events h) a → Contains (events h) b → Contains (events h) c → IsTrue (is_before a b) → IsTrue (is_before b c) → IsTrue (is_before a c)
  events_are_transitive a b c t has_a has_b has_c ab bc = elim (before_cases a b ab) [
    | inl l ↦ elim (before_cases b c bc) [
      | inl k ↦ earlier_is_before a c (omega (arith, l, k))
      | inr one ↦ earlier_is_before a c (omega (arith, l, one.0))
    ]
    | inr one ↦ elim (before_cases b c bc) [
      | inl k ↦ earlier_is_before a c (omega (arith, k, one.0))
      | inr two ↦
          let p = is_event w h t a has_a in
          let q = is_event w h t b has_b in
          let r = is_event w h t c has_c in
          let there_a = subst (λ (z : Chapter). Contains z.messages a.message) (one_chapter w h a b p q one.0) p.there in
          let there_c = subst (λ (z : Chapter). Contains z.messages c.message) (sym (one_chapter w h b c q r two.0)) r.there in
          before_in_one a c (one.0 ∙ two.0) (order_is_transitive q.chapter.n w q.chapter.me q.chapter.messages a.message b.message c.message (is_chapter-from_followed w q.chapter q.followed) there_a q.there there_c one.1 two.1)
    ]
  ]

  pub events_are_asymmetric : (a b : Event) → IsTrue (is_history w h) → Contains (events h) a → Contains (events h) b → IsTrue (is_before a b) → is_before b a ≡ false
  events_are_asymmetric a b t has_a has_b ab = false_from_ne_true (is_before b a) (λ ba.
      both_ways (is_before a a) (event_never_before_itself a) (events_are_transitive a b a t has_a has_b has_a ab ba))

  -- no event happened before one at an earlier place
  pub later_are_not_before : IsTrue (is_history w h) → AllPairs (λ a b. is_before b a ≡ false) (events h)
  later_are_not_before t = subst (AllPairs (λ a b. is_before b a ≡ false)) (sym (events_of_chapters h)) (pairs_of_events (λ a b. is_before b a ≡ false) later_is_not_before 0 (chapters h)
      (All-weaker (λ c. IsTrue (is_chapter_of w c)) (λ c. (k : ℕ) → AllPairs (λ a b. is_before (event_of k b) (event_of k a) ≡ false) c.messages) (λ c chapter k i j d l within.
      before_within k (get_or c.messages j d) (get_or c.messages i d) ∙ false_from_ne_true _ (λ back.
      let forward = order_goes_forward c.n w c.me c.messages j i (get_or c.messages j d) (get_or c.messages i d) (is_chapter-from_followed w c chapter) (slice_get-get_or c.messages j d within) (slice_get-get_or c.messages i d (omega (arith, l, within))) back in
      omega (arith, forward, l))) (chapters h) (chapters_are_followed w h t)))

  pub events_go_forward : (i j : ℕ) (a b : Event) → IsTrue (is_history w h) → slice_get (events h) i ≡ Some a → slice_get (events h) j ≡ Some b → IsTrue (is_before a b) → i < j
  events_go_forward i j a b t at_i at_j = before_is_earlier is_before (events h) event_never_before_itself (later_are_not_before t) i j a b (slice_get_within (events h) i a at_i) (get_or_from_slice_get (events h) i a a at_i) (get_or_from_slice_get (events h) j b a at_j)

  -- no two are of one epoch and id
  pub events_are_apart : IsTrue (is_history w h) → AllPairs (λ (a b : Event). ((a.epoch == b.epoch) && same_id a.message b.message) ≡ false) (events h)
  events_are_apart t =
      let Apart : Event → Event → Type 0 = λ a b. ((a.epoch == b.epoch) && same_id a.message b.message) ≡ false in
      subst (AllPairs Apart) (sym (events_of_chapters h)) (pairs_of_events Apart (λ a b l. and_left _ _ (ne_eqb a.epoch b.epoch (λ e. omega (arith, e, l)))) 0 (chapters h)
      (All-weaker (λ c. IsTrue (is_chapter_of w c)) (λ c. (k : ℕ) → AllPairs (λ a b. Apart (event_of k a) (event_of k b)) c.messages) (λ c chapter k i j d l within.
      and_right _ _ (ids_are_apart c.n w c.me c.messages (is_chapter-from_followed w c chapter) i j d l within)) (chapters h) (chapters_are_followed w h t)))

-- ---- one message more, and the present epoch

pub events_of_one_more : (h : History) (m : Message) → events (with_message h m) ≡ events h ++ present_event h m ∷ []
events_of_one_more h m =
    ap (λ es. events_from 0 h.past ++ es) (map-append (event_of (epoch_of h)) h.present.messages (m ∷ [])) ∙ sym (append_assoc (events_from 0 h.past) (events_in (epoch_of h) h.present.messages) (present_event h m ∷ []))

pub present_is_covered_in_present : (h : History) (m : Message) → is_uncovered_event (events h) (present_event h m) ≡ is_uncovered store_covers h.present.messages m
present_is_covered_in_present h m =
    let covers : Event → Bool = λ later. is_covered_by store_covers m.op later.message.op && is_before (present_event h m) later in
    let past = list_any_none covers (events_from 0 h.past) (All-weaker (λ e. (0 ≤ e.epoch) × (e.epoch < 0 + epoch_of h)) (λ e. covers e ≡ false) (λ e between. and_right _ _ (later_is_not_before e (present_event h m) (omega (arith, between.1)))) (events_from 0 h.past) (epochs_are_between 0 h.past)) in
    ap not (list_any-append covers (events_from 0 h.past) (events_in (epoch_of h) h.present.messages)
    ∙ ap (λ b. b || list_any covers (events_in (epoch_of h) h.present.messages)) past
    ∙ list_any-map covers (event_of (epoch_of h)) h.present.messages
    ∙ list_any_agree _ _ (λ later. ap (λ b. is_covered_by store_covers m.op later.op && b) (before_within (epoch_of h) m later)) h.present.messages)

pub present_is_followed : (w : ℕ) (h : History) → IsTrue (is_history w h) → IsTrue (is_chapter h.present.n w h.present.me h.present.messages)
present_is_followed w h t = is_chapter-from_followed w h.present (and_parts _ (is_chapter_of w h.present) t).1

pub uncovered_events_of_one_more : (w : ℕ) (h : History) (m : Message) → IsTrue (is_history w (with_message h m))
    → ((e : Event) → is_uncovered_event (events (with_message h m)) e ≡ (is_uncovered_event (events h) e && not (is_covered_by store_covers e.message.op m.op && is_before e (present_event h m))))
    × (is_uncovered_event (events (with_message h m)) (present_event h m) ≡ true)
uncovered_events_of_one_more w h m t =
    let covers : Event → Event → Bool = λ e later. is_covered_by store_covers e.message.op later.message.op && is_before e later in (
      λ e. ap (is_uncovered_by e) (events_of_one_more h m) ∙ ap not (list_any-append (covers e) (events h) (present_event h m ∷ [])) ∙ either_fails (list_any (covers e) (events h)) (covers e (present_event h m)),
      present_is_covered_in_present (with_message h m) m ∙ last_is_uncovered store_covers h.present.n w h.present.me h.present.messages m (present_is_followed w (with_message h m) t),
    ) where
      is_uncovered_by : Event → List Event → Bool
      is_uncovered_by e es = is_uncovered_event es e
