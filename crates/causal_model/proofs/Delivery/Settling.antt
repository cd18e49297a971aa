-- Stability along a history: what is stable stays so, what comes next has seen it, and few messages aren't.
use Rattle.std.proofs.Common.{◌≡◌, ℕ, ◌<◌, ◌≤◌, true, false, not, ◌&&◌, ◌==◌, All, IsTrue, List, [], ◌∷◌, ◌++◌, length, map, get_or, zero, suc, sym, ap, subst, ◌∙◌, inl, inr, if◌then◌else◌, append_assoc, append-nil, arith}
use Rattle.std.specs.List.{filter}
use Rattle.std.proofs.lemmas.Bool.{and_parts, and_from, and_left, cases_eq, cases_lt, cond-true, cond-false, eq-eqb, ne_eqb, eqb-true, leb-true, le-leb, not_from_false, false_from_ne_true}
use Rattle.std.proofs.lemmas.List.Elements.{All-weaker}
use Rattle.std.proofs.lemmas.List.FromFn.{length-map-range_with_len, get_or-map-range_with_len}
use Rattle.op_base.specs.Timestamp.{entry}
use Rattle.op_base.specs.Message.{number}
use Rattle.op_base.specs.declared.message.Message.{Message}
use Rattle.causal_model.specs.Counts.{members, count_of, counts}
use Rattle.causal_model.specs.Chapter.{is_chapter, is_next}
use Rattle.causal_model.specs.Order.{happened_before, same_id}
use Rattle.causal_model.specs.Stability.{last_tag, known_vector, minimum, stable_count, stable_vector, is_stable, carries_operation, unstable_of, unstable_operations, unstable_noops, noop_window}
use Rattle.causal_model.proofs.Delivery.Counts.{entry-counts}
use Rattle.causal_model.proofs.Delivery.Chapters.{IsNext, IsNext-from_is_next, is_chapter-push}
use Rattle.causal_model.proofs.Theory.Lists.{induction_at_end, filter_none}
use Rattle.causal_model.proofs.Delivery.Orders.{each_fits}
use Rattle.causal_model.proofs.Delivery.Stability.{entry-stable, stable_stays}
use Rattle.causal_model.proofs.Delivery.Timestamps.{last_tag_is_counted, next_tag_has_counts}
use Rattle.causal_model.proofs.Delivery.Windows.{unstable_of-filter, windows_hold}

-- ---- the stable count is none above a known vector's entry, and that is none above the count

minimum-le : (xs : List ℕ) (i : ℕ) → i < length xs → minimum xs ≤ get_or xs i 0
minimum-le [] i l = absurd (omega arith)
minimum-le (x ∷ []) zero l = omega arith
minimum-le (x ∷ []) (suc i) l = absurd (omega arith)
minimum-le (x ∷ y ∷ xs) zero l = omega arith
minimum-le (x ∷ y ∷ xs) (suc i) l = omega (arith, minimum-le (y ∷ xs) i (omega arith))

pub stable_count-le-known : (n me : ℕ) (h : List Message) (x y : ℕ) → y < n → stable_count n me h x ≤ entry (known_vector n me h y) x
stable_count-le-known n me h x y l =
    let known : ℕ → ℕ = λ z. entry (known_vector n me h z) x in
    omega (arith, minimum-le (map known (members n)) y (omega (arith, length-map-range_with_len known 0 n)), get_or-map-range_with_len known 0 n y y 0 l (omega arith))

pub known_is_counted : (n w me : ℕ) (h : List Message) (y x : ℕ) → x < n → IsTrue (is_chapter n w me h) → entry (known_vector n me h y) x ≤ count_of h x
known_is_counted n w me h y x l t =
    elim (y == me) as (λ own. entry (if own then counts n h else last_tag n h y) x ≤ count_of h x) [
      | true ↦ omega (arith, entry-counts n h x l)
      | false ↦ last_tag_is_counted n w me h y x t
    ]

-- ---- what is stable stays stable, and the next message happened after it

-- the last message of a history is the next of what comes before it
pub last_is_next : (n w me : ℕ) (h : List Message) (m : Message) → IsTrue (is_chapter n w me (h ++ m ∷ [])) → IsTrue (is_chapter n w me h) × IsNext n w me h m
last_is_next n w me h m t =
    let parts = and_parts (is_chapter n w me h) (is_next n w me h m) (sym (is_chapter-push n w me h m) ∙ t) in
    (parts.0, IsNext-from_is_next n w me h m parts.1)

pub stable_stays_stable : (n w me : ℕ) (h later : List Message) (m : Message) → m.origin < n → IsTrue (is_chapter n w me (h ++ later)) → IsTrue (is_stable (stable_vector n me h) m) → IsTrue (is_stable (stable_vector n me (h ++ later)) m)
stable_stays_stable n w me h later m l t stable = induction_at_end (λ ms. IsTrue (is_chapter n w me (h ++ ms)) → IsTrue (is_stable (stable_vector n me (h ++ ms)) m)) (λ _. subst (λ ms. IsTrue (is_stable (stable_vector n me ms) m)) (sym (append-nil h)) stable) (λ ms e ih all.
    let parts = last_is_next n w me (h ++ ms) e (subst (λ g. IsTrue (is_chapter n w me g)) (sym (append_assoc h ms (e ∷ []))) all) in
    subst (λ g. IsTrue (is_stable (stable_vector n me g) m)) (append_assoc h ms (e ∷ [])) (stable_stays n me (h ++ ms) e parts.1.straight.risen m l (ih parts.0))) later t

-- the next message has seen all that its sender is known to have
pub next_has_known : (n w me : ℕ) (h : List Message) (m : Message) → IsNext n w me h m → (x : ℕ) → x < n → entry (known_vector n me h m.origin) x ≤ entry m.tag x
next_has_known n w me h m next x l = elim (cases_eq m.origin me) [
  | inl e ↦ rw (cond-true (m.origin == me) (counts n h) (last_tag n h m.origin) (eq-eqb m.origin me e), next.own e) (omega (arith, entry-counts n h x l, next_tag_has_counts n me h x (subst (λ y. y < n) e next.member) l))
  | inr ne ↦ rw (cond-false (m.origin == me) (counts n h) (last_tag n h m.origin) (ne_eqb m.origin me ne)) (next.straight.risen x l)
]

-- it is none of the messages that its sender is known to have
next_is_another : (n w me : ℕ) (h : List Message) (m next : Message) → m.origin < n → IsTrue (is_chapter n w me h) → IsNext n w me h next → number m ≤ entry (known_vector n me h next.origin) m.origin → same_id m next ≡ true → ⊥
next_is_another n w me h m next l t p low same =
    let both = and_parts (m.origin == next.origin) (number m == number next) same in
    absurd (omega (arith, low, known_is_counted n w me h next.origin m.origin l t, p.counted, ap (count_of h) (eqb-true m.origin next.origin both.0), eqb-true (number m) (number next) both.1))

pub next_is_after_stable : (n w me : ℕ) (h : List Message) (m next : Message) → m.origin < n → IsTrue (is_chapter n w me h) → IsTrue (is_next n w me h next) → IsTrue (is_stable (stable_vector n me h) m) → IsTrue (happened_before m next)
next_is_after_stable n w me h m next l t follows stable =
    let p = IsNext-from_is_next n w me h next follows in
    let low : number m ≤ entry (known_vector n me h next.origin) m.origin = omega (arith, leb-true (number m) (entry (stable_vector n me h) m.origin) stable, entry-stable n me h m.origin l, stable_count-le-known n me h m.origin next.origin p.member) in
    let apart = not_from_false (same_id m next) (false_from_ne_true (same_id m next) (next_is_another n w me h m next l t p low)) in
    and_from _ _ apart (le-leb (number m) (entry next.tag m.origin) (omega (arith, low, next_has_known n w me h next p m.origin l)))

-- ---- the windows

pub origins_are_members : (n w me : ℕ) (h : List Message) → IsTrue (is_chapter n w me h) → All (λ m. m.origin < n) h
origins_are_members n w me h t = All-weaker (λ m. (m.origin < n) × (0 < number m)) (λ m. m.origin < n) (λ m both. both.0) h (each_fits n w me h t)

-- no message is of an origin past the last member
unstable_of_none : (n w me x : ℕ) (h : List Message) → n ≤ x → IsTrue (is_chapter n w me h) → unstable_of n me h x ≡ []
unstable_of_none n w me x h past t =
    unstable_of-filter n me h x ∙ filter_none (λ m. (m.origin == x) && not (is_stable (stable_vector n me h) m)) h (All-weaker (λ m. m.origin < n) (λ m. ((m.origin == x) && not (is_stable (stable_vector n me h) m)) ≡ false) (λ m l. and_left (m.origin == x) (not (is_stable (stable_vector n me h) m)) (ne_eqb m.origin x (λ e. omega (arith, l, past, e)))) h (origins_are_members n w me h t))

pub few_are_unstable : (n w me x : ℕ) (h : List Message) → IsTrue (is_chapter n w me h) → (unstable_operations n me h x ≤ w) × (unstable_noops n me h x ≤ noop_window n w)
few_are_unstable n w me x h t = elim (cases_lt x n) [
  | inl l ↦ windows_hold n w me x h l t
  | inr past ↦
      let none = unstable_of_none n w me x h past t in
      (omega (arith, ap (λ ms. length (filter (λ m. carries_operation m.op) ms)) none), omega (arith, ap (λ ms. length (filter (λ m. not (carries_operation m.op)) ms)) none))
]
