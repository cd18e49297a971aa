-- Ranks of elements: what happened before has the lower one, and no two events have one.
use Rattle.std.proofs.Common.{◌≡◌, ℕ, ◌<◌, ◌≤◌, true, false, not, All, AllPairs, Contains, IsTrue, List, [], ◌∷◌, length, get_or, suc, refl, sym, ap, subst, ◌∙◌, inl, inr, arith, zero, ◌+◌}
use Rattle.std.specs.Prelude.{sum}
use Rattle.std.proofs.lemmas.Bool.{and_parts, and_from, both_ways, eqb-true, eq-eqb, le-leb, cases_lt, cases_eq, false_from_ne_true}
use Rattle.std.proofs.lemmas.List.Elements.{All-contains, All-weaker, All-push, Contains-get_or}
use Rattle.std.proofs.lemmas.List.Sums.{sum_by-cons}
use Rattle.std.proofs.lemmas.Cmp.{ranked}
use Rattle.std.specs.Ordering.{MatchOrdering, nat_cmp, ordering_then}
use Rattle.std.specs.declared.cmp.Ordering.{Ordering}
use Rattle.std.specs.declared.cmp.Ordering.TheVariants.{Less, Equal, Greater}
use Rattle.op_base.specs.Order.{text_cmp}
use Rattle.op_base.specs.Timestamp.{entry}
use Rattle.op_base.specs.Message.{number}
use Rattle.op_base.specs.declared.message.Message.{Message}
use Rattle.causal_model.specs.Chapter.{is_chapter}
use Rattle.causal_model.specs.Elements.{rank_of}
use Rattle.causal_model.specs.History.{Chapter, History, Event, events, chapters, is_before, is_history, is_chapter_of}
use Rattle.causal_model.specs.Order.{same_id, happened_before}
use Rattle.causal_model.proofs.Delivery.Apart.{ids_are_apart}
use Rattle.causal_model.proofs.Delivery.Chapters.{chapter_induction}
use Rattle.causal_model.proofs.Events.Events.{before_cases, is_event, one_chapter, event_of, events_of_chapters, pairs_of_events, chapters_are_followed, is_chapter-from_followed}
use Rattle.causal_model.proofs.Delivery.Orders.{Sees-from_happened, IsBelow, seen_is_below, each_fits, order_is_asymmetric}

-- ---- sums of timestamps

sum_cons : (x : ℕ) (xs : List ℕ) → sum (x ∷ xs) ≡ x + sum xs
sum_cons x xs = sum_by-cons (λ y. y) x xs

sum_at_most : (xs ys : List ℕ) → length xs ≡ length ys → ((k : ℕ) → k < length ys → entry xs k ≤ entry ys k) → sum xs ≤ sum ys
sum_at_most [] ys e h = omega arith
sum_at_most (x ∷ xs) [] e h = absurd (omega (arith, e))
sum_at_most (x ∷ xs) (y ∷ ys) e h =
    let first : x ≤ y = h 0 (omega arith) in
    let rest = sum_at_most xs ys (omega (arith, e)) (λ k l. h (suc k) (omega (arith, l))) in
    omega (arith, first, rest, sum_cons x xs, sum_cons y ys)

sum_below : (xs ys : List ℕ) (at : ℕ) → length xs ≡ length ys → ((k : ℕ) → k < length ys → entry xs k ≤ entry ys k) → at < length ys → entry xs at < entry ys at → sum xs < sum ys
sum_below [] [] at e h l low = absurd (omega (arith, l))
sum_below [] (y ∷ ys) at e h l low = absurd (omega (arith, e))
sum_below (x ∷ xs) [] at e h l low = absurd (omega (arith, e))
sum_below (x ∷ xs) (y ∷ ys) zero e h l low =
    let first : x < y = low in
    let rest = sum_at_most xs ys (omega (arith, e)) (λ k l. h (suc k) (omega (arith, l))) in
    omega (arith, first, rest, sum_cons x xs, sum_cons y ys)
sum_below (x ∷ xs) (y ∷ ys) (suc at) e h l low =
    let first : x ≤ y = h 0 (omega arith) in
    let rest = sum_below xs ys at (omega (arith, e)) (λ k l. h (suc k) (omega (arith, l))) (omega (arith, l)) low in
    omega (arith, first, rest, sum_cons x xs, sum_cons y ys)

-- ---- in a chapter

same_id_back : (a b : Message) → same_id a b ≡ false → same_id b a ≡ false
same_id_back a b e = false_from_ne_true (same_id b a) (λ t.
    let both = and_parts _ _ t in
    both_ways (same_id a b) e (and_from _ _ (eq-eqb a.origin b.origin (sym (eqb-true b.origin a.origin both.0))) (eq-eqb (number a) (number b) (sym (eqb-true (number b) (number a) both.1)))))

module _ (n w me : ℕ) (h : List Message) (t : IsTrue (is_chapter n w me h)) where
  lengths : All (λ m. length m.tag ≡ n) h
  lengths = chapter_induction n w me (λ g. All (λ m. length m.tag ≡ n) g) (λ k d l. absurd (omega (arith, l))) (λ g m _ next ih. All-push (λ m. length m.tag ≡ n) g m ih next.entries) h t

  pub ranks_rise : (a b : Message) → Contains h a → Contains h b → IsTrue (happened_before a b) → sum a.tag < sum b.tag
  ranks_rise a b in_a in_b before =
      let unlike : same_id a b ≡ false = not_true (same_id a b) (and_parts _ _ before).0 in
      let fits_b = All-contains (λ m. (m.origin < n) × (0 < number m)) h b (each_fits n w me h t) in_b in
      let below : IsBelow n a b = All-contains (IsBelow n a) h b (All-contains (λ z. All (IsBelow n z) h) h a (seen_is_below n w me h t) in_a) in_b in
      let at_most = below (Sees-from_happened a b before) in
      let len_a = All-contains (λ m. length m.tag ≡ n) h a lengths in_a in
      let len_b = All-contains (λ m. length m.tag ≡ n) h b lengths in_b in
      sum_below a.tag b.tag b.origin (len_a ∙ sym len_b) (λ k l. at_most k (subst (λ z. k < z) len_b l)) (subst (λ z. b.origin < z) (sym len_b) fits_b.0) (elim (cases_lt (entry a.tag b.origin) (number b)) [
        | inl low ↦ low
        | inr high ↦ absurd (both_ways (happened_before b a) (order_is_asymmetric n w me h a b t in_a in_b before) (and_from _ _ (ap not (same_id_back a b unlike)) (le-leb (number b) (entry a.tag b.origin) high)))
      ]) where
        not_true : (x : _) → not x ≡ true → x ≡ false
        not_true false e = refl
        not_true true e = sym e

  -- of two messages of one member one happened before the other
  own_before : (a b : Message) → same_id a b ≡ false → a.origin ≡ b.origin → number a < number b → IsTrue (happened_before a b)
  own_before a b unlike origin less = and_from _ _ (ap not unlike) (le-leb (number a) (entry b.tag a.origin) (subst (λ o. number a ≤ entry b.tag o) (sym origin) (omega (arith, less))))

  pub sums_differ : AllPairs (λ a b. a.origin ≡ b.origin → sum a.tag ≡ sum b.tag → ⊥) h
  sums_differ i j d l within origin sums =
      let a : Message = get_or h i d in
      let b : Message = get_or h j d in
      let in_a : Contains h a = Contains-get_or h i d (omega (arith, l, within)) in
      let in_b : Contains h b = Contains-get_or h j d within in
      let unlike : same_id a b ≡ false = ids_are_apart n w me h t i j d l within in
      elim (cases_lt (number a) (number b)) [
        | inl less ↦ omega (arith, sums, ranks_rise a b in_a in_b (own_before a b unlike origin less))
        | inr most ↦ elim (cases_eq (number a) (number b)) [
          | inl alike ↦ both_ways (same_id a b) unlike (and_from _ _ (eq-eqb a.origin b.origin origin) (eq-eqb (number a) (number b) alike))
          | inr differ ↦ omega (arith, sums, ranks_rise b a in_b in_a (own_before b a (same_id_back a b unlike) (sym origin) (omega (arith, most, differ))))
        ]
      ]

-- ---- in a history

-- that two events have two ranks
abbrev pub Ranked : Event → Event → Type 0
Ranked a b = rank_of a ≡ rank_of b → ⊥

pub ranks_differ : (w : ℕ) (h : History) → IsTrue (is_history w h) → AllPairs Ranked (events h)
ranks_differ w h t = subst (AllPairs Ranked) (sym (events_of_chapters h)) (pairs_of_events Ranked epochs 0 (chapters h) (All-weaker (λ c. IsTrue (is_chapter_of w c)) (λ c. (j : ℕ) → AllPairs (λ a b. Ranked (event_of j a) (event_of j b)) c.messages) each (chapters h) (chapters_are_followed w h t))) where
  epochs : (a b : Event) → a.epoch < b.epoch → Ranked a b
  epochs a b low e = let same : a.epoch ≡ b.epoch = ap (λ l. get_or l 0 0) e in omega (arith, low, same)

  each : (c : Chapter) → IsTrue (is_chapter_of w c) → (j : ℕ) → AllPairs (λ a b. Ranked (event_of j a) (event_of j b)) c.messages
  each c followed j i k d l within e = sums_differ c.n w c.me c.messages (is_chapter-from_followed w c followed) i k d l within (ap (λ r. get_or r 2 0) e) (ap (λ r. get_or r 1 0) e)

-- ---- what happened before has the lower rank

less : (m n : ℕ) → m < n → nat_cmp m n ≡ Less
less m n l = by (nat_cmp m n) (ranked m n (nat_cmp m n) refl) where
  by : (o : Ordering) → MatchOrdering o (m < n) (m ≡ n) (n < m) → o ≡ Less
  by Less _ = refl
  by Equal e = absurd (omega (arith, l, e))
  by Greater g = absurd (omega (arith, l, g))

level : (m n : ℕ) → m ≡ n → nat_cmp m n ≡ Equal
level m n e = by (nat_cmp m n) (ranked m n (nat_cmp m n) refl) where
  by : (o : Ordering) → MatchOrdering o (m < n) (m ≡ n) (n < m) → o ≡ Equal
  by Less l = absurd (omega (arith, l, e))
  by Equal _ = refl
  by Greater g = absurd (omega (arith, g, e))

pub lower_rank_before : (w : ℕ) (h : History) (a b : Event) → IsTrue (is_history w h) → Contains (events h) a → Contains (events h) b → IsTrue (is_before a b) → text_cmp (rank_of a) (rank_of b) ≡ Less
lower_rank_before w h a b t in_a in_b before =
    let rest : Ordering → Ordering = λ o. ordering_then o (text_cmp (sum a.message.tag ∷ a.message.origin ∷ []) (sum b.message.tag ∷ b.message.origin ∷ [])) in
    elim (before_cases a b before) [
      | inl low ↦ ap rest (less a.epoch b.epoch low)
      | inr one ↦
          let p = is_event w h t a in_a in
          let q = is_event w h t b in_b in
          let there_b = subst (λ (z : Chapter). Contains z.messages b.message) (sym (one_chapter w h a b p q one.0)) q.there in
          let sums : sum a.message.tag < sum b.message.tag = ranks_rise p.chapter.n w p.chapter.me p.chapter.messages (is_chapter-from_followed w p.chapter p.followed) a.message b.message p.there there_b one.1 in
          ap rest (level a.epoch b.epoch one.0) ∙ ap (λ o. ordering_then o (text_cmp (a.message.origin ∷ []) (b.message.origin ∷ []))) (less (sum a.message.tag) (sum b.message.tag) sums)
    ]
