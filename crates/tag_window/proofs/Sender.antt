-- A message that another member sends makes none of its sender's unstable messages stable: its sender is not the one whose
-- known vector is the least.
use Rattle.std.proofs.Common.{◌≡◌, ◌≢◌, ℕ, ◌+◌, ◌<◌, ◌≤◌, All, Bool, true, not, ◌==◌, IsTrue, List, [], ◌∷◌, ◌++◌, length, map, get_or, suc, refl, sym, ap, ◌∙◌, inl, inr, if◌then◌else◌, arith}
use Rattle.std.specs.List.{filter}
use Rattle.std.proofs.lemmas.Bool.{cases_eq, cases_lt, cond-true, cond-false, eqb-true, eq-eqb, ne_eqb, leb-false, lt-leb, not-true, not_from_false}
use Rattle.std.proofs.lemmas.List.Elements.{All-filter, filter-append, filter_passes}
use Rattle.std.proofs.lemmas.List.FromFn.{length-map-range_with_len, get_or-map-range_with_len}
use Rattle.op_base.specs.Message.{number}
use Rattle.op_base.specs.Timestamp.{entry}
use Rattle.op_base.specs.declared.message.Message.{Message}
use Rattle.causal_model.specs.Chapter.{is_chapter}
use Rattle.causal_model.specs.Counts.{members, count_of, counts}
use Rattle.causal_model.specs.Stability.{last_tag, known_vector, minimum, stable_count, stable_vector, is_stable, unstable_messages, unstable_of}
use Rattle.causal_model.proofs.Delivery.Chapters.{chapter_induction}
use Rattle.causal_model.proofs.Delivery.Counts.{entry-counts, count_of-push_own, count_of-push_other}
use Rattle.causal_model.proofs.Cells.ItemMaps.{filter_all_of}
use Rattle.causal_model.proofs.Delivery.Limits.{numbers_are_counted}
use Rattle.causal_model.proofs.Theory.Lists.{filter-filter}
use Rattle.causal_model.proofs.Delivery.Settling.{stable_count-le-known}
use Rattle.causal_model.proofs.Delivery.Stability.{last_tag-push, known_vector-push, entry-stable}
use Rattle.causal_model.proofs.Delivery.Timestamps.{entry-zero_tag}
use mathlib.Core.Bool.{and_comm}

-- the last timestamp of a member has the count of its messages
pub last_is_counted : (n w me x : ℕ) (h : List Message) → IsTrue (is_chapter n w me h) → entry (last_tag n h x) x ≡ count_of h x
last_is_counted n w me x = chapter_induction n w me (λ g. entry (last_tag n g x) x ≡ count_of g x) (entry-zero_tag n x) (λ g m _ next ih.
    elim (cases_eq m.origin x) [
      | inl e ↦
          ap (λ tag. entry tag x) (last_tag-push n g m x ∙ cond-true (m.origin == x) m.tag (last_tag n g x) (eq-eqb m.origin x e)) ∙ ap (entry m.tag) (sym e) ∙ next.counted ∙ ap (λ y. count_of g y + 1) e ∙ sym (count_of-push_own g m x e)
      | inr ne ↦ ap (λ tag. entry tag x) (last_tag-push n g m x ∙ cond-false (m.origin == x) m.tag (last_tag n g x) (ne_eqb m.origin x ne)) ∙ ih ∙ sym (count_of-push_other g m x ne)
    ])

-- the least of some numbers is one of them
minimum_is_there : (xs : List ℕ) → 0 < length xs → (i : ℕ) × (i < length xs) × (get_or xs i 0 ≡ minimum xs)
minimum_is_there [] some = absurd (omega (arith, some))
minimum_is_there (x ∷ []) some = (0, omega arith, refl)
minimum_is_there (x ∷ y ∷ xs) some =
    let rest = minimum_is_there (y ∷ xs) (omega arith) in
    elim (cases_lt (minimum (y ∷ xs)) x) [
      | inl low ↦ (suc rest.0, omega (arith, rest.1), omega (arith, rest.2, low))
      | inr high ↦ (0, omega arith, omega (arith, high))
    ]

-- so the stable count is what some member is known to have
stable_count_is_known : (n me : ℕ) (h : List Message) (x : ℕ) → 0 < n → (y : ℕ) × (y < n) × (entry (known_vector n me h y) x ≡ stable_count n me h x)
stable_count_is_known n me h x some =
    let known : ℕ → ℕ = λ y. entry (known_vector n me h y) x in
    let len = length-map-range_with_len known 0 n in
    let there = minimum_is_there (map known (members n)) (omega (arith, len, some)) in
    let member : there.0 < n = omega (arith, there.1, len) in
    (there.0, member, omega (arith, get_or-map-range_with_len known 0 n there.0 there.0 0 member (omega arith), there.2))

module _ (n w me : ℕ) (h : List Message) (m : Message) (t : IsTrue (is_chapter n w me h)) (other : m.origin ≢ me) (member : m.origin < n) where
  -- where one of the sender's messages is unstable, its stable count stays
  sender_stays : stable_count n me h m.origin < count_of h m.origin → stable_count n me (h ++ m ∷ []) m.origin ≤ stable_count n me h m.origin
  sender_stays some =
      let least = stable_count_is_known n me h m.origin (omega (arith, member)) in
      let y = least.0 in
      let not_me : y ≢ me = λ e. omega (arith, some, least.2, ap (λ z. entry (known_vector n me h z) m.origin) e, ap (λ tag. entry tag m.origin) (cond-true (me == me) (counts n h) (last_tag n h me) (eq-eqb me me refl)), entry-counts n h m.origin member) in
      let known : known_vector n me h y ≡ last_tag n h y = cond-false (y == me) (counts n h) (last_tag n h y) (ne_eqb y me not_me) in
      let not_sender : m.origin ≢ y = λ e. omega (arith, some, least.2, ap (λ tag. entry tag m.origin) known, ap (λ z. entry (last_tag n h z) m.origin) (sym e), last_is_counted n w me m.origin h t) in
      let same : known_vector n me (h ++ m ∷ []) y ≡ known_vector n me h y = known_vector-push n me h m y ∙ cond-false (y == me) _ _ (ne_eqb y me not_me) ∙ cond-false (m.origin == y) m.tag (known_vector n me h y) (ne_eqb m.origin y not_sender) in
      omega (arith, stable_count-le-known n me (h ++ m ∷ []) m.origin y least.1, ap (λ tag. entry tag m.origin) same, least.2)

  own : Message → Bool
  own e = e.origin == m.origin

  was : Message → Bool
  was e = not (is_stable (stable_vector n me h) e)

  now : Message → Bool
  now e = not (is_stable (stable_vector n me (h ++ m ∷ [])) e)

  -- an unstable message of the sender stays unstable
  stays_unstable : (e : Message) → number e ≤ count_of h e.origin → e.origin ≡ m.origin → was e ≡ true → now e ≡ true
  unfolding was now
  stays_unstable e counted is unstable =
      let above : entry (stable_vector n me h) e.origin < number e = leb-false (number e) (entry (stable_vector n me h) e.origin) (not-true (is_stable (stable_vector n me h) e) unstable) in
      let before : entry (stable_vector n me h) e.origin ≡ stable_count n me h m.origin = ap (entry (stable_vector n me h)) is ∙ entry-stable n me h m.origin member in
      let after : entry (stable_vector n me (h ++ m ∷ [])) e.origin ≡ stable_count n me (h ++ m ∷ []) m.origin = ap (entry (stable_vector n me (h ++ m ∷ []))) is ∙ entry-stable n me (h ++ m ∷ []) m.origin member in
      let some : stable_count n me h m.origin < count_of h m.origin = omega (arith, above, before, counted, ap (count_of h) is) in
      not_from_false (is_stable (stable_vector n me (h ++ m ∷ [])) e) (lt-leb (number e) (entry (stable_vector n me (h ++ m ∷ [])) e.origin) (omega (arith, above, before, after, sender_stays some)))

  -- so with the message the sender's unstable ones are those of before, and the message where it isn't stable
  pub unstable_of_sender : unstable_messages n me (h ++ m ∷ []) ≡ filter (λ e. not (is_stable (stable_vector n me (h ++ m ∷ [])) e)) (unstable_messages n me h ++ m ∷ [])
      → unstable_of n me (h ++ m ∷ []) m.origin ≡ unstable_of n me h m.origin ++ (if not (is_stable (stable_vector n me (h ++ m ∷ [])) m) then m ∷ [] else [])
  unfolding own was now
  unstable_of_sender pushed =
      let before = unstable_messages n me h in
      let swapped : filter own (filter now (before ++ m ∷ [])) ≡ filter now (filter own (before ++ m ∷ [])) = filter-filter now own (before ++ m ∷ []) ∙ (λ i. filter (λ e. and_comm (now e) (own e) i) (before ++ m ∷ [])) ∙ sym (filter-filter own now (before ++ m ∷ [])) in
      let last : filter own (m ∷ []) ≡ m ∷ [] = cond-true (own m) (m ∷ []) [] (eq-eqb m.origin m.origin refl) in
      let Counted : Message → Type 0 = λ e. number e ≤ count_of h e.origin in
      let each : All (λ e. now e ≡ true) (filter own before) = λ i d l. stays_unstable (get_or (filter own before) i d) (All-filter own Counted before (All-filter was Counted h (numbers_are_counted n w me h t)) i d l) (eqb-true (get_or (filter own before) i d).origin m.origin (filter_passes own before i d l)) (All-filter own (λ e. was e ≡ true) before (filter_passes was h) i d l) in
      ap (filter own) pushed ∙ swapped ∙ ap (filter now) (filter-append own before (m ∷ []) ∙ ap (λ ms. filter own before ++ ms) last) ∙ filter-append now (filter own before) (m ∷ []) ∙ ap (λ ms. ms ++ filter now (m ∷ [])) (filter_all_of now (filter own before) each)
