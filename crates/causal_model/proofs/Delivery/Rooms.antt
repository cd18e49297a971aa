-- Room for the next message: before it comes its origin's window isn't full, and so neither is the log.
use Rattle.std.proofs.Common.{◌≡◌, ◌≢◌, ℕ, ◌+◌, ◌*◌, ◌<◌, ◌≤◌, All, Bool, true, false, not, ◌&&◌, ◌==◌, nat_lt, cond, IsTrue, List, [], ◌∷◌, ◌++◌, length, map, get_or, suc, refl, sym, ap, ◌∙◌, inl, inr, if◌then◌else◌, arith}
use Rattle.std.specs.List.{filter, count_by}
use Rattle.std.proofs.lemmas.Bool.{and_parts, and_from, and_left, and_right, cases_eq, cases_lt, cases_Bool, cond_both, cond-true, cond-false, eqb-true, eq-eqb, ne_eqb, le-leb, lt-leb, lt-ltb, leb-false, not-true, false≢true, not_from_true, not_from_false}
use Rattle.std.proofs.lemmas.List.Elements.{All-weaker, All-filter, All-append, All-nil, All-cons, All-head, All-tail}
use Rattle.std.proofs.lemmas.List.Sums.{length-filter, sum_by_push, sum_by-append, sum_by-cons}
use Rattle.std.proofs.lemmas.List.FromFn.{length-map-range_with_len, get_or-map-range_with_len}
use Rattle.op_base.specs.Timestamp.{entry}
use Rattle.op_base.specs.Message.{number}
use Rattle.op_base.specs.declared.message.Message.{Message}
use Rattle.op_base.specs.declared.operation.Update.{Update}
use Rattle.causal_model.specs.Log.{pruned_log, is_kept, is_covered_by, is_uncovered, kept_log}
use Rattle.causal_model.specs.Chapter.{is_chapter}
use Rattle.causal_model.specs.Counts.{members, count_of, counts}
use Rattle.causal_model.specs.Order.{happened_before}
use Rattle.causal_model.specs.Stability.{last_tag, known_vector, minimum, stable_count, stable_vector, is_stable, carries_operation, unstable_of, unstable_operations, unstable_noops, noop_window}
use Rattle.causal_model.proofs.Delivery.Chapters.{IsNext, chapter_induction}
use Rattle.causal_model.proofs.Delivery.Counts.{entry-counts, count_of-push_own, count_of-push_other}
use Rattle.causal_model.proofs.Delivery.Limits.{numbers_are_counted}
use Rattle.causal_model.proofs.Theory.Lists.{filter_none, filter-filter, count_by-le-count_by}
use Rattle.causal_model.proofs.Delivery.Logs.{is_operation, count_by-le-product}
use Rattle.causal_model.proofs.Delivery.Settling.{last_is_next, origins_are_members, stable_count-le-known, few_are_unstable}
use Rattle.causal_model.proofs.Delivery.Stability.{entry-stable, last_tag-push, known_vector-push}
use Rattle.causal_model.proofs.Delivery.Timestamps.{entry-zero_tag}
use Rattle.causal_model.proofs.Delivery.Windows.{unstable_of-filter, unstable-count}

-- ---- the least number of a list is one of it

minimum_is_there : (xs : List ℕ) → 0 < length xs → (i : ℕ) × (i < length xs) × (get_or xs i 0 ≤ minimum xs)
minimum_is_there [] l = absurd (omega (arith, l))
minimum_is_there (x ∷ []) l = (0, omega arith, omega arith)
minimum_is_there (x ∷ y ∷ xs) l =
    let rest = minimum_is_there (y ∷ xs) (omega arith) in
    elim (cases_lt x (minimum (y ∷ xs))) [
      | inl low ↦ (0, omega arith, omega (arith, low))
      | inr high ↦ (suc rest.0, omega (arith, rest.1), omega (arith, high, rest.2))
    ]

-- some member is known to have no more than the stable count
least_known : (n me : ℕ) (h : List Message) (x : ℕ) → 0 < n → (y : ℕ) × (y < n) × (entry (known_vector n me h y) x ≤ stable_count n me h x)
least_known n me h x some =
    let known : ℕ → ℕ = λ y. entry (known_vector n me h y) x in
    let found = minimum_is_there (map known (members n)) (omega (arith, some, length-map-range_with_len known 0 n)) in
    let low : found.0 < n = omega (arith, found.1, length-map-range_with_len known 0 n) in
    (found.0, low, omega (arith, found.2, get_or-map-range_with_len known 0 n found.0 found.0 0 low (omega arith)))

-- a member's last message is its newest
last_is_newest : (n w me x : ℕ) (h : List Message) → IsTrue (is_chapter n w me h) → entry (last_tag n h x) x ≡ count_of h x
last_is_newest n w me x h t = chapter_induction n w me (λ g. entry (last_tag n g x) x ≡ count_of g x) (entry-zero_tag n x) (λ g m _ next ih.
    ap (λ tag. entry tag x) (last_tag-push n g m x) ∙ elim (cases_eq m.origin x) [
      | inl e ↦ ap (λ tag. entry tag x) (cond-true (m.origin == x) m.tag (last_tag n g x) (eq-eqb m.origin x e)) ∙ omega (arith, ap (entry m.tag) e, next.counted, ap (count_of g) e, count_of-push_own g m x e)
      | inr ne ↦ ap (λ tag. entry tag x) (cond-false (m.origin == x) m.tag (last_tag n g x) (ne_eqb m.origin x ne)) ∙ ih ∙ sym (count_of-push_other g m x ne)
    ]) h t

module _ (n w me : ℕ) (h : List Message) (m : Message) (t : IsTrue (is_chapter n w me h)) (next : IsNext n w me h m) where
  abbrev k : ℕ
  k = m.origin

  -- a message makes none of its origin's stable that wasn't: itself and this member have it
  origin_stays : stable_count n me h k < count_of h k → stable_count n me (h ++ m ∷ []) k ≤ stable_count n me h k
  origin_stays below =
      let least = least_known n me h k (omega (arith, next.member)) in
      let y = least.0 in
      let not_me : y ≢ me = λ e. omega (arith, below, least.2, ap (λ tag. entry tag k) (cond-true (y == me) (counts n h) (last_tag n h y) (eq-eqb y me e)), entry-counts n h k next.member) in
      let not_origin : m.origin ≢ y = λ e. omega (arith, below, least.2, ap (λ tag. entry tag k) (cond-false (y == me) (counts n h) (last_tag n h y) (ne_eqb y me not_me)), ap (λ z. entry (last_tag n h z) k) e, last_is_newest n w me k h t) in
      let same : known_vector n me (h ++ m ∷ []) y ≡ known_vector n me h y = known_vector-push n me h m y ∙ cond-false (y == me) _ _ (ne_eqb y me not_me) ∙ cond-false (m.origin == y) _ _ (ne_eqb m.origin y not_origin) in
      omega (arith, stable_count-le-known n me (h ++ m ∷ []) k y least.1, ap (λ tag. entry tag k) same, least.2)

  -- so where one of its origin is unstable, the message is one more
  one_more_unstable : (test : Message → Bool) → test m ≡ true → stable_count n me h k < count_of h k → length (filter test (unstable_of n me h k)) + 1 ≤ length (filter test (unstable_of n me (h ++ m ∷ []) k))
  one_more_unstable test passes below =
      let stays = origin_stays below in
      let was : Message → Bool = λ e. ((e.origin == k) && not (is_stable (stable_vector n me h) e)) && test e in
      let now : Message → Bool = λ e. ((e.origin == k) && not (is_stable (stable_vector n me (h ++ m ∷ [])) e)) && test e in
      let unstable : (e : Message) → e.origin ≡ k → stable_count n me h k < number e → is_stable (stable_vector n me (h ++ m ∷ [])) e ≡ false = λ e o above. lt-leb (number e) (entry (stable_vector n me (h ++ m ∷ [])) e.origin) (omega (arith, above, stays, ap (entry (stable_vector n me (h ++ m ∷ []))) o, entry-stable n me (h ++ m ∷ []) k next.member)) in
      let each : (e : Message) → was e ≡ true → now e ≡ true = λ e passed.
      let both = and_parts ((e.origin == k) && not (is_stable (stable_vector n me h) e)) (test e) passed in
      let parts = and_parts (e.origin == k) (not (is_stable (stable_vector n me h) e)) both.0 in
      let o : e.origin ≡ k = eqb-true e.origin k parts.0 in
      let above : stable_count n me h k < number e = omega (arith, leb-false (number e) (entry (stable_vector n me h) e.origin) (not-true _ parts.1), ap (entry (stable_vector n me h)) o, entry-stable n me h k next.member) in
      and_from _ _ (and_from _ _ parts.0 (not_from_false _ (unstable e o above))) both.1 in
      let last : now m ≡ true = and_from _ _ (and_from _ _ (eq-eqb m.origin k refl) (not_from_false _ (unstable m refl (omega (arith, below, next.counted))))) passes in
      omega (arith, unstable-count test n me h k, unstable-count test n me (h ++ m ∷ []) k, sum_by_push (λ e. cond (now e) 1 0) h m, cond-true {A = ℕ} (now m) 1 0 last, count_by-le-count_by was now h each)

  -- where none of its origin is unstable there is none at all
  none_unstable : count_of h k ≤ stable_count n me h k → unstable_of n me h k ≡ []
  none_unstable all = unstable_of-filter n me h k ∙ filter_none (λ e. (e.origin == k) && not (is_stable (stable_vector n me h) e)) h (All-weaker (λ e. number e ≤ count_of h e.origin) (λ e. ((e.origin == k) && not (is_stable (stable_vector n me h) e)) ≡ false) (λ e counted. elim (cases_eq e.origin k) [
    | inl o ↦ and_right _ _ (not_from_true _ (le-leb (number e) (entry (stable_vector n me h) e.origin) (omega (arith, counted, all, ap (count_of h) o, ap (entry (stable_vector n me h)) o, entry-stable n me h k next.member))))
    | inr ne ↦ and_left _ _ (ne_eqb e.origin k ne)
  ]) h (numbers_are_counted n w me h t))

  -- a window that the message leaves unbroken had room for it
  had_room : (test : Message → Bool) (window : ℕ) → test m ≡ true → 0 < window → length (filter test (unstable_of n me (h ++ m ∷ []) k)) ≤ window → length (filter test (unstable_of n me h k)) < window
  had_room test window passes some held = elim (cases_lt (stable_count n me h k) (count_of h k)) [
    | inl below ↦ omega (arith, one_more_unstable test passes below, held)
    | inr all ↦ omega (arith, ap (λ ms. length (filter test ms)) (none_unstable all), some)
  ]

pub room_for_next : (n w me : ℕ) (h : List Message) (m : Message) → me < n → 1 ≤ w → IsTrue (is_chapter n w me (h ++ m ∷ []))
    → (IsTrue (carries_operation m.op) → unstable_operations n me h m.origin < w) × (carries_operation m.op ≡ false → unstable_noops n me h m.origin < noop_window n w)
room_for_next n w me h m l some t =
    let parts = last_is_next n w me h m t in (
      λ carries. had_room n w me h m parts.0 parts.1 (λ e. carries_operation e.op) w carries some parts.1.straight.operations,
      λ none. had_room n w me h m parts.0 parts.1 (λ e. not (carries_operation e.op)) (noop_window n w) (not_from_false _ none) (omega arith) parts.1.straight.noops,
    )

-- ---- the log

count_by-filter : {X : Type 0} (p q : X → Bool) (xs : List X) → count_by p (filter q xs) ≡ count_by (λ x. q x && p x) xs
count_by-filter p q xs = sym (length-filter p (filter q xs)) ∙ ap length (filter-filter q p xs) ∙ length-filter (λ x. q x && p x) xs

count_by_all : {X : Type 0} (p : X → Bool) (xs : List X) → All (λ x. p x ≡ true) xs → length xs ≤ count_by p xs
count_by_all p [] each = omega arith
count_by_all p (x ∷ xs) each =
    omega (arith, sum_by-cons (λ y. cond (p y) 1 0) x xs, cond-true {A = ℕ} (p x) 1 0 (All-head (λ y. p y ≡ true) x xs each), count_by_all p xs (All-tail (λ y. p y ≡ true) x xs each))

module _ (keeps : Update → Bool) (covers : Update → Update → Bool) (n w me : ℕ) (h : List Message) (m : Message) (t : IsTrue (is_chapter n w me h)) (room : is_kept keeps m.op ≡ true → unstable_operations n me h m.origin < w) where
  of : ℕ → Message → Bool
  of x e = (e.origin == x) && true

  -- what is logged of a member are unstable operations of it
  logged : (x : ℕ) → count_by (of x) (kept_log keeps covers n me h) ≤ unstable_operations n me h x
  unfolding of
  logged x =
      let kept : Message → Bool = λ e. is_kept keeps e.op && is_uncovered covers h e && not (is_stable (stable_vector n me h) e) in
      let unstable : Message → Bool = λ e. ((e.origin == x) && not (is_stable (stable_vector n me h) e)) && carries_operation e.op in
      omega (arith, count_by-filter (of x) kept h, unstable-count (λ e. carries_operation e.op) n me h x, count_by-le-count_by (λ e. kept e && of x e) unstable h (λ e both. still (is_kept keeps e.op) (is_uncovered covers h e) (not (is_stable (stable_vector n me h) e)) (e.origin == x) (carries_operation e.op) (is_operation keeps e.op) both)) where
        still : (a b c d e : Bool) → (a ≡ true → e ≡ true) → (((a && b) && c) && (d && true)) ≡ true → ((d && c) && e) ≡ true
        still true true true true e f both = f refl
        still true true true false e f both = both
        still true true false d e f both = absurd (false≢true both)
        still true false c d e f both = absurd (false≢true both)
        still false b c d e f both = absurd (false≢true both)

  -- the window has room for the message beside the unstable operations of its origin
  with_last : (x : ℕ) → unstable_operations n me h x + count_by (of x) (if is_kept keeps m.op then m ∷ [] else []) ≤ w
  unfolding of
  with_last x =
      let held = few_are_unstable n w me x h t in
      let last : Bool → ℕ = λ kept. count_by (of x) (if kept then m ∷ [] else []) in
      elim (cases_Bool (is_kept keeps m.op)) [
        | inl kept ↦ elim (cases_eq m.origin x) [
          | inl e ↦ omega (arith, ap last kept, cond-true {A = ℕ} (of x m) 1 0 (and_from _ _ (eq-eqb m.origin x e) refl), room kept, ap (unstable_operations n me h) e)
          | inr ne ↦ omega (arith, ap last kept, cond-false {A = ℕ} (of x m) 1 0 (and_left _ _ (ne_eqb m.origin x ne)), held.0)
        ]
        | inr dropped ↦ omega (arith, ap last dropped, held.0)
      ]

  -- of each member the log and the message have no more than the window
  each_member_fits : (x : ℕ) → count_by (of x) (pruned_log keeps covers n me h m) ≤ w
  unfolding of
  each_member_fits x =
      let bare : Message → Bool = λ e. not (is_covered_by covers e.op m.op && happened_before e m) in
      let log = kept_log keeps covers n me h in
      let split = sum_by-append (λ e. cond (of x e) 1 0) (filter bare log) (if is_kept keeps m.op then m ∷ [] else []) in
      omega (arith, split, with_last x, count_by-filter (of x) bare log, logged x, count_by-le-count_by (λ e. bare e && of x e) (of x) log (λ e both. (and_parts (bare e) (of x e) both).1))

  pub pruned_log_fits : All (λ e. e.origin < n) (pruned_log keeps covers n me h m) → length (pruned_log keeps covers n me h m) ≤ n * w
  unfolding of
  pruned_log_fits members_all =
      let log = pruned_log keeps covers n me h m in
      omega (arith, count_by_all (λ e. nat_lt e.origin n && true) log (All-weaker (λ e. e.origin < n) (λ e. (nat_lt e.origin n && true) ≡ true) (λ e l. and_from _ _ (lt-ltb e.origin n l) refl) log members_all), count_by-le-product (λ e. e.origin) (λ e. true) w log each_member_fits n)

pub log_has_room : (keeps : Update → Bool) (covers : Update → Update → Bool) (n w me : ℕ) (h : List Message) (m : Message) → me < n → 1 ≤ w → IsTrue (is_chapter n w me (h ++ m ∷ []))
    → length (pruned_log keeps covers n me h m) ≤ n * w
log_has_room keeps covers n w me h m l some t =
    let parts = last_is_next n w me h m t in
    let bare : Message → Bool = λ e. not (is_covered_by covers e.op m.op && happened_before e m) in
    let kept : Message → Bool = λ e. is_kept keeps e.op && is_uncovered covers h e && not (is_stable (stable_vector n me h) e) in
    let member : Message → Type 0 = λ e. e.origin < n in
    let log = All-filter bare member (filter kept h) (All-filter kept member h (origins_are_members n w me h parts.0)) in
    let last = cond_both (is_kept keeps m.op) (m ∷ []) [] (All member) (λ _. All-cons member m [] parts.1.member (All-nil member)) (λ _. All-nil member) in
    pruned_log_fits keeps covers n w me h m parts.0 (λ k. (room_for_next n w me h m l some t).0 (is_operation keeps m.op k)) (All-append member (filter bare (filter kept h)) (if is_kept keeps m.op then m ∷ [] else []) log last)
