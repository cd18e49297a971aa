-- The unstable messages of a member are numbered one after the other, from the first that isn't stable on.
use Rattle.std.proofs.Common.{◌≡◌, ℕ, ◌+◌, ◌-◌, ◌<◌, ◌≤◌, All, Contains, Bool, true, false, not, ◌==◌, cond, nat_le, IsTrue, Some, List, [], ◌∷◌, ◌++◌, length, map, get_or, zero, suc, refl, sym, ap, subst, ◌∙◌, inl, inr, append-nil, arith}
use Rattle.std.proofs.Math.Bool.{and_comm}
use Rattle.std.specs.List.{filter, slice_get, range_with_len}
use Rattle.std.specs.Option.{option_map}
use Rattle.std.proofs.lemmas.Bool.{and_parts, and_from, cases_Bool, cases_eq, cases_lt, cond_both, cond-true, cond-false, eqb-true, eq-eqb, ne_eqb, le-leb, lt-leb, not_from_true, not_from_false, both_ways}
use Rattle.std.proofs.lemmas.List.{length-map, map-append, get_or_default}
use Rattle.std.proofs.lemmas.List.Elements.{All-head, All-tail, All-cons, All-nil, All-weaker, All-filter, All-contains, All-contains_itself, Contains-get_or, filter-append}
use Rattle.std.proofs.lemmas.List.Filters.{length-filter_both}
use Rattle.std.proofs.lemmas.List.FromFn.{map-range_with_len_more, length-range_with_len, get_or-range_with_len}
use Rattle.std.proofs.lemmas.Option.{slice_get_within, get_or_from_slice_get, slice_get-map}
use Rattle.op_base.specs.Message.{number}
use Rattle.op_base.specs.Timestamp.{entry}
use Rattle.op_base.specs.declared.message.Message.{Message}
use Rattle.causal_model.specs.Chapter.{is_chapter}
use Rattle.causal_model.specs.Counts.{count_of}
use Rattle.causal_model.specs.Crook.{tag_of}
use Rattle.causal_model.specs.Order.{same_id}
use Rattle.causal_model.specs.Stability.{stable_count, stable_vector, is_stable, carries_operation, unstable_of, unstable_operations, unstable_noops, noop_window}
use Rattle.causal_model.proofs.Delivery.Apart.{ids_are_apart}
use Rattle.causal_model.proofs.Delivery.Chapters.{chapter_induction}
use Rattle.causal_model.proofs.Delivery.Counts.{count_of-push_own, count_of-push_other}
use Rattle.causal_model.proofs.Delivery.Limits.{numbers_are_counted}
use Rattle.causal_model.proofs.Theory.Lists.{filter_none, filter-filter}
use Rattle.causal_model.proofs.Delivery.Orders.{each_number_is_there}
use Rattle.causal_model.proofs.Delivery.Rooms.{room_for_next}
use Rattle.causal_model.proofs.Delivery.Settling.{last_is_next, stable_count-le-known, known_is_counted, few_are_unstable}
use Rattle.causal_model.proofs.Delivery.Stability.{entry-stable}
use Rattle.causal_model.proofs.Delivery.Timestamps.{entry-zero_tag}
use Rattle.causal_model.proofs.Delivery.Unclosed.{is_numbered, tag_of_has_numbered}

-- ---- ranges and filters

map_id : (xs : List ℕ) → map (λ x. x) xs ≡ xs
map_id [] = refl
map_id (x ∷ xs) = ap (λ ys. x ∷ ys) (map_id xs)

range-push : (a n : ℕ) → range_with_len a (n + 1) ≡ range_with_len a n ++ (a + n) ∷ []
range-push a n = sym (map_id (range_with_len a (n + 1))) ∙ map-range_with_len_more (λ x. x) a n (a + n) refl ∙ ap (λ xs. xs ++ (a + n) ∷ []) (map_id (range_with_len a n))

-- of the numbers from 1 to c those above k
above_in_range : (k c : ℕ) → k ≤ c → filter (λ s. not (nat_le s k)) (range_with_len 1 c) ≡ range_with_len (k + 1) (c - k)
above_in_range k zero l =
    let none : 0 - k ≡ 0 = omega (arith, l) in
    sym (ap (range_with_len (k + 1)) none)
above_in_range k (suc c) l =
    let above : ℕ → Bool = λ s. not (nat_le s k) in
    let next : suc c ≡ c + 1 = omega arith in
    let all : range_with_len 1 (suc c) ≡ range_with_len 1 c ++ (1 + c) ∷ [] = ap (range_with_len 1) next ∙ range-push 1 c in
    ap (filter above) all ∙ filter-append above (range_with_len 1 c) ((1 + c) ∷ []) ∙ elim (cases_lt c k) [
      | inr low ↦
          let last : filter above ((1 + c) ∷ []) ≡ (1 + c) ∷ [] = cond-true (above (1 + c)) ((1 + c) ∷ []) [] (not_from_false (nat_le (1 + c) k) (lt-leb (1 + c) k (omega (arith, low)))) in
          let end : 1 + c ≡ (k + 1) + (c - k) = omega (arith, low) in
          let longer : (c - k) + 1 ≡ suc c - k = omega (arith, low) in
          ap (λ xs. xs ++ filter above ((1 + c) ∷ [])) (above_in_range k c low) ∙ ap (λ xs. range_with_len (k + 1) (c - k) ++ xs) (last ∙ ap (λ x. x ∷ []) end)
          ∙ sym (range-push (k + 1) (c - k)) ∙ ap (range_with_len (k + 1)) longer
      | inl high ↦
          let gone : suc c - k ≡ 0 = omega (arith, high, l) in
          let none : All (λ s. above s ≡ false) (range_with_len 1 c) = λ i d il. not_from_true (nat_le (get_or (range_with_len 1 c) i d) k) (le-leb (get_or (range_with_len 1 c) i d) k (omega (arith, get_or-range_with_len 1 c i d (omega (arith, il, length-range_with_len 1 c)), il, length-range_with_len 1 c, high))) in
          let last : filter above ((1 + c) ∷ []) ≡ [] = cond-false (above (1 + c)) ((1 + c) ∷ []) [] (not_from_true (nat_le (1 + c) k) (le-leb (1 + c) k (omega (arith, high)))) in
          ap (λ xs. xs ++ filter above ((1 + c) ∷ [])) (filter_none above (range_with_len 1 c) none) ∙ last ∙ sym (ap (range_with_len (k + 1)) gone)
    ]

filter_passes : {X : Type 0} (p : X → Bool) (xs : List X) → All (λ x. p x ≡ true) (filter p xs)
filter_passes p [] = All-nil (λ x. p x ≡ true)
filter_passes p (x ∷ xs) = cond_both (p x) (x ∷ filter p xs) (filter p xs) (All (λ y. p y ≡ true)) (λ passed. All-cons (λ y. p y ≡ true) x (filter p xs) passed (filter_passes p xs)) (λ _. filter_passes p xs)

-- a filter by a test of something is a filter of that
map-filter : {X : Type 0} (f : X → ℕ) (p : X → Bool) (r : ℕ → Bool) (xs : List X) → All (λ x. p x ≡ r (f x)) xs → map f (filter p xs) ≡ filter r (map f xs)
map-filter f p r [] each = refl
map-filter f p r (x ∷ xs) each =
    let rest = map-filter f p r xs (All-tail (λ y. p y ≡ r (f y)) x xs each) in
    either (p x) ∙ ap (λ ys. cond (p x) (f x ∷ ys) ys) rest ∙ ap (λ b. cond b (f x ∷ filter r (map f xs)) (filter r (map f xs))) (All-head (λ y. p y ≡ r (f y)) x xs each) where
      either : (b : Bool) → map f (cond b (x ∷ filter p xs) (filter p xs)) ≡ cond b (f x ∷ map f (filter p xs)) (map f (filter p xs))
      either true = refl
      either false = refl

-- ---- the messages of a member

-- they are numbered from 1
numbers_of_member : (n w me x : ℕ) (h : List Message) → IsTrue (is_chapter n w me h) → map number (filter (λ m. m.origin == x) h) ≡ range_with_len 1 (count_of h x)
numbers_of_member n w me x = chapter_induction n w me (λ g. map number (filter (λ m. m.origin == x) g) ≡ range_with_len 1 (count_of g x)) refl (λ g m _ next ih.
    let own : Message → Bool = λ e. e.origin == x in
    ap (map number) (filter-append own g (m ∷ [])) ∙ map-append number (filter own g) (filter own (m ∷ [])) ∙ ap (λ xs. xs ++ map number (filter own (m ∷ []))) ih ∙ elim (cases_eq m.origin x) [
      | inl e ↦
          ap (λ ms. range_with_len 1 (count_of g x) ++ map number ms) (cond-true (own m) (m ∷ []) [] (eq-eqb m.origin x e)) ∙ ap (λ s. range_with_len 1 (count_of g x) ++ s ∷ []) (omega (arith, next.counted, ap (count_of g) e))
          ∙ sym (range-push 1 (count_of g x)) ∙ ap (range_with_len 1) (sym (count_of-push_own g m x e))
      | inr ne ↦
          ap (λ ms. range_with_len 1 (count_of g x) ++ map number ms) (cond-false (own m) (m ∷ []) [] (ne_eqb m.origin x ne)) ∙ append-nil (range_with_len 1 (count_of g x)) ∙ ap (range_with_len 1) (sym (count_of-push_other g m x ne))
    ])

-- no more of them are stable than there are
pub stable_is_counted : (n w me x : ℕ) (h : List Message) → x < n → IsTrue (is_chapter n w me h) → stable_count n me h x ≤ count_of h x
stable_is_counted n w me x h l t = omega (arith, stable_count-le-known n me h x x l, known_is_counted n w me h x x l t)

-- the unstable ones are those above the stable count
pub unstable_are_numbered : (n w me x : ℕ) (h : List Message) → x < n → IsTrue (is_chapter n w me h)
    → map number (unstable_of n me h x) ≡ range_with_len (stable_count n me h x + 1) (count_of h x - stable_count n me h x)
unstable_are_numbered n w me x h l t =
    let own : Message → Bool = λ e. e.origin == x in
    let unstable : Message → Bool = λ e. not (is_stable (stable_vector n me h) e) in
    let k = stable_count n me h x in
    let swapped : unstable_of n me h x ≡ filter unstable (filter own h) = filter-filter unstable own h ∙ (λ i. filter (λ e. and_comm (unstable e) (own e) i) h) ∙ sym (filter-filter own unstable h) in
    let alike = All-weaker (λ e. own e ≡ true) (λ e. unstable e ≡ not (nat_le (number e) k)) (λ e o. ap (λ s. not (nat_le (number e) s)) (ap (entry (stable_vector n me h)) (eqb-true e.origin x o) ∙ entry-stable n me h x l)) (filter own h) (filter_passes own h) in
    ap (map number) swapped ∙ map-filter number unstable (λ s. not (nat_le s k)) (filter own h) alike ∙ ap (filter (λ s. not (nat_le s k))) (numbers_of_member n w me x h t) ∙ above_in_range k (count_of h x) (stable_is_counted n w me x h l t)

-- two messages of one id at two places of a chapter are one
one_of_id : (n w me : ℕ) (h : List Message) (m e : Message) → IsTrue (is_chapter n w me h) → Contains h m → Contains h e → same_id m e ≡ true → same_id e m ≡ true → m ≡ e
one_of_id n w me h m e t has_m has_e same back =
    let apart = ids_are_apart n w me h t in
    let Apart : Message → Message → Type 0 = λ a b. same_id a b ≡ false in
    let at_e = get_or_default h has_e.0 e m has_e.1 in
    elim (cases_eq has_m.0 has_e.0) [
      | inl here ↦ sym has_m.2 ∙ ap (λ k. get_or h k m) here ∙ sym at_e ∙ has_e.2
      | inr ne ↦ elim (cases_lt has_m.0 has_e.0) [
        | inl before ↦ absurd (both_ways (same_id m e) (subst (λ b. Apart m b) (sym at_e ∙ has_e.2) (subst (λ a. Apart a (get_or h has_e.0 m)) has_m.2 (apart has_m.0 has_e.0 m before has_e.1))) same)
        | inr after ↦ absurd (both_ways (same_id e m) (subst (λ b. Apart b m) (sym at_e ∙ has_e.2) (subst (λ b. Apart (get_or h has_e.0 m) b) has_m.2 (apart has_e.0 has_m.0 m (omega (arith, after, ne)) has_m.1))) back)
      ]
    ]

-- one at a place has the number of the place
unstable_number : (n w me x i : ℕ) (h : List Message) (e : Message) → x < n → IsTrue (is_chapter n w me h) → slice_get (unstable_of n me h x) i ≡ Some e → number e ≡ stable_count n me h x + 1 + i
unstable_number n w me x i h e l t at =
    let unstable = unstable_of n me h x in
    let at_number = slice_get-map number unstable i ∙ ap (option_map number) at in
    let within = slice_get_within (map number unstable) i (number e) at_number in
    let numbers = unstable_are_numbered n w me x h l t in
    sym (get_or_from_slice_get (map number unstable) i (number e) 0 at_number) ∙ ap (λ xs. get_or xs i 0) numbers ∙ get_or-range_with_len (stable_count n me h x + 1) (count_of h x - stable_count n me h x) i 0 (omega (arith, within, ap length numbers, length-range_with_len (stable_count n me h x + 1) (count_of h x - stable_count n me h x)))

-- so one is found by its number
pub found_by_number : (n w me x i : ℕ) (h : List Message) (e : Message) → x < n → IsTrue (is_chapter n w me h) → slice_get (unstable_of n me h x) i ≡ Some e
    → tag_of n h x (stable_count n me h x + 1 + i) ≡ e.tag
found_by_number n w me x i h e l t at =
    let unstable = unstable_of n me h x in
    let s = stable_count n me h x + 1 + i in
    let own : Message → Bool = λ y. y.origin == x in
    let lies : Message → Bool = λ y. not (is_stable (stable_vector n me h) y) in
    let numbered = unstable_number n w me x i h e l t at in
    let has_e : Contains unstable e = subst (Contains unstable) (get_or_from_slice_get unstable i e e at) (Contains-get_or unstable i e (slice_get_within unstable i e at)) in
    let origin : e.origin ≡ x = eqb-true e.origin x (All-contains (λ y. own y ≡ true) unstable e (filter_passes own (filter lies h)) has_e) in
    let there : Contains h e = All-contains (Contains h) unstable e (All-filter own (Contains h) (filter lies h) (All-filter lies (Contains h) h (All-contains_itself h))) has_e in
    let each : All (λ m. is_numbered x s m ≡ true → entry m.tag x ≡ s → m.tag ≡ e.tag) h = All-weaker (Contains h) (λ m. is_numbered x s m ≡ true → entry m.tag x ≡ s → m.tag ≡ e.tag) (λ m has_m t_m _.
    let both = and_parts (m.origin == x) (number m == s) t_m in
    let o = eqb-true m.origin x both.0 ∙ sym origin in
    let k = eqb-true (number m) s both.1 ∙ sym numbered in
    ap (λ y. y.tag) (one_of_id n w me h m e t has_m there (and_from _ _ (eq-eqb m.origin e.origin o) (eq-eqb (number m) (number e) k)) (and_from _ _ (eq-eqb e.origin m.origin (sym o)) (eq-eqb (number e) (number m) (sym k))))) h (All-contains_itself h) in
    tag_of_has_numbered (λ tag. entry tag x ≡ s → tag ≡ e.tag) n h x s (λ none. absurd (omega (arith, none, entry-zero_tag n x))) each
    (each_number_is_there n w me h t x s (omega arith) (omega (arith, numbered, ap (count_of h) origin, All-contains (λ y. number y ≤ count_of h y.origin) h e (numbers_are_counted n w me h t) there)))

-- the next message comes right after the unstable ones of its origin, and finds room among them
pub next_follows_unstable : (n w me : ℕ) (h : List Message) (m : Message) → me < n → 1 ≤ w → IsTrue (is_chapter n w me (h ++ m ∷ []))
    → (length (unstable_of n me h m.origin) < w + noop_window n w)
    × ((e : Message) → 0 < length (unstable_of n me h m.origin) → slice_get (unstable_of n me h m.origin) (length (unstable_of n me h m.origin) - 1) ≡ Some e → number e + 1 ≡ number m)
next_follows_unstable n w me h m l some t =
    let parts = last_is_next n w me h m t in
    let k = m.origin in
    let unstable = unstable_of n me h k in
    let carries : Message → Bool = λ e. carries_operation e.op in
    let all : unstable_operations n me h k + unstable_noops n me h k ≡ length unstable = length-filter_both carries (λ e. not (carries e)) (λ e. refl) unstable in
    let few = few_are_unstable n w me k h parts.0 in
    let room = room_for_next n w me h m l some t in
    let counted = sym (length-map unstable number) ∙ ap length (unstable_are_numbered n w me k h parts.1.member parts.0) ∙ length-range_with_len (stable_count n me h k + 1) (count_of h k - stable_count n me h k) in (
      elim (cases_Bool (carries m)) [ inl update ↦ omega (arith, all, few.1, room.0 update) | inr none ↦ omega (arith, all, few.0, room.1 none) ],
      λ e there last. omega (arith, unstable_number n w me k (length unstable - 1) h e parts.1.member parts.0 last, counted, there, parts.1.counted),
    )
