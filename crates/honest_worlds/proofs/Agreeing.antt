-- Two chapters that agree: of one id they have one message. What a member had sent before one of its messages is what each
-- other member has that can deliver this: so there no known vector is below what the sender's was, and it is not crooked.
use Rattle.std.proofs.Common.{◌≡◌, ◌≢◌, ℕ, zero, ◌+◌, ◌<◌, ◌≤◌, All, Bool, true, not, ◌&&◌, ◌==◌, cond, Contains, IsTrue, List, [], ◌∷◌, ◌++◌, length, get_or, refl, sym, ap, subst, ◌∙◌, inl, inr, arith}
use Rattle.std.specs.List.{filter, count_by}
use Rattle.std.proofs.lemmas.Bool.{and_parts, and_from, cases_eq, cases_lt, cond_both, cond-true, cond-false, eqb-true, eq-eqb, ne_eqb, leb-true, le-leb, not-true, not_from_false, false_from_ne_true, both_ways}
use Rattle.std.proofs.lemmas.List.Elements.{All-contains, All-contains_itself, All-filter, Contains-get_or, All-head, All-tail, All-weaker, Contains-append_left, Contains-push, filter_passes}
use Rattle.std.proofs.lemmas.List.Sums.{length-filter, sum_by_push}
use Rattle.op_base.specs.Timestamp.{entry, zero_tag}
use Rattle.op_base.specs.Message.{number}
use Rattle.op_base.specs.declared.message.Message.{Message}
use Rattle.causal_model.specs.Chapter.{is_chapter}
use Rattle.causal_model.specs.Counts.{count_of, counts}
use Rattle.causal_model.specs.Stability.{last_tag, known_vector, stable_count, stable_vector, is_stable, carries_operation, unstable_of, unstable_operations, unstable_noops, noop_window}
use Rattle.causal_model.proofs.Delivery.Chapters.{IsNext, chapter_induction}
use Rattle.causal_model.proofs.Delivery.Counts.{entry-counts, count_of-push_own, count_of-push_other, count_of_grows, entry-next_tag_other}
use Rattle.causal_model.proofs.Delivery.Crooks.{IsStraight}
use Rattle.causal_model.proofs.States.Early.{IsDeliverable}
use Rattle.causal_model.proofs.Delivery.Limits.{numbers_are_counted}
use Rattle.causal_model.proofs.Theory.Finds.{Contains-cons}
use Rattle.causal_model.proofs.Theory.Lists.{induction_at_end, filter-filter, count_by-le-count_by}
use Rattle.world_model.proofs.Messages.{AreNumbered, own_are_numbered}
use mathlib.Core.Bool.{and_assoc}
use Rattle.causal_model.proofs.Delivery.Orders.{each_fits, last_tag_is_last}
use Rattle.causal_model.proofs.Delivery.Settling.{last_is_next}
use Rattle.causal_model.proofs.Delivery.Stability.{entry-stable, last_tag-push}
use Rattle.causal_model.proofs.Delivery.Timestamps.{tags_are_counted, entry-zero_tag, next_tag_has_counts}
use Rattle.causal_model.proofs.Delivery.Unclosed.{tag_of_has_numbered}
use Rattle.causal_model.proofs.Delivery.Windows.{unstable-count, windows_hold}
use Rattle.honest_worlds.proofs.Lists.{minimum-range-le}

-- ---- messages by their numbers

-- under each number up to the count there is a message
pub message_numbered : (n w me : ℕ) (h : List Message) → IsTrue (is_chapter n w me h) → (x s : ℕ) → 0 < s → s ≤ count_of h x
    → (e : Message) × (Contains h e × (e.origin ≡ x) × (number e ≡ s))
message_numbered n w me = chapter_induction n w me (λ g. (x s : ℕ) → 0 < s → s ≤ count_of g x → (e : Message) × (Contains g e × (e.origin ≡ x) × (number e ≡ s))) (λ x s some low. absurd (omega (arith, some, low))) (λ g m _ next ih x s some low.
    elim (cases_lt (count_of g x) s) [
      | inr old ↦ let e = ih x s some old in (e.0, (Contains-append_left g (m ∷ []) e.0 e.1.0, e.1.1, e.1.2))
      | inl past ↦ elim (cases_eq m.origin x) [
        | inl e ↦ (m, (Contains-push g m, e, omega (arith, past, low, next.counted, ap (count_of g) e, count_of-push_own g m x e)))
        | inr ne ↦ absurd (omega (arith, past, low, count_of-push_other g m x ne))
      ]
    ])

-- what holds of all zeros, and of each timestamp of a member, holds of its last
pub last_tag_has_of : (P : List ℕ → Type 0) (n : ℕ) (h : List Message) (x : ℕ) → P (zero_tag n) → ((e : Message) → Contains h e → e.origin ≡ x → P e.tag) → P (last_tag n h x)
last_tag_has_of P n h x none each = from h each where
  from : (g : List Message) → ((e : Message) → Contains g e → e.origin ≡ x → P e.tag) → P (last_tag n g x)
  from = induction_at_end (λ g. ((e : Message) → Contains g e → e.origin ≡ x → P e.tag) → P (last_tag n g x)) (λ _. none) (λ g m ih here.
      subst P (sym (last_tag-push n g m x)) (cond_both (m.origin == x) m.tag (last_tag n g x) P (λ t. here m (Contains-push g m) (eqb-true m.origin x t)) (λ _. ih (λ e has. here e (Contains-append_left g (m ∷ []) e has)))))

-- ---- two lists that agree

-- of one id they have one message
abbrev pub Agree : List Message → List Message → Type 0
Agree g h = (a b : Message) → Contains g a → Contains h b → a.origin ≡ b.origin → number a ≡ number b → a ≡ b

-- a message of one is in the other, where that has as many messages of its origin
Contains-head : (m : Message) (ms : List Message) → Contains (m ∷ ms) m
Contains-head m ms = (zero, omega arith, refl)

pub is_there_too : (n w me : ℕ) (g h : List Message) → IsTrue (is_chapter n w me h) → Agree g h → (e : Message) → Contains g e → 0 < number e → number e ≤ count_of h e.origin → Contains h e
is_there_too n w me g h t agree e has some low =
    let other = message_numbered n w me h t e.origin (number e) some low in
    subst (Contains h) (sym (agree e other.0 has other.1.0 (sym other.1.1) (sym other.1.2))) other.1.0

-- ---- the messages of one member

-- numbered lists that agree and are as long are one
numbered_are_one : (x first : ℕ) (xs ys : List Message) → All (λ e. e.origin ≡ x) xs → All (λ e. e.origin ≡ x) ys → AreNumbered first xs → AreNumbered first ys → length xs ≡ length ys → Agree xs ys → xs ≡ ys
numbered_are_one x first [] [] all all_too are are_too long agree = refl
numbered_are_one x first [] (y ∷ ys) all all_too are are_too long agree = absurd (omega (arith, long))
numbered_are_one x first (a ∷ xs) [] all all_too are are_too long agree = absurd (omega (arith, long))
numbered_are_one x first (a ∷ xs) (b ∷ ys) all all_too are are_too long agree =
    let O : Message → Type 0 = λ e. e.origin ≡ x in
    let head : a ≡ b = agree a b (Contains-head a xs) (Contains-head b ys) (All-head O a xs all ∙ sym (All-head O b ys all_too)) (are.0 ∙ sym are_too.0) in
    let rest : xs ≡ ys = numbered_are_one x (first + 1) xs ys (All-tail O a xs all) (All-tail O b ys all_too) are.1 are_too.1 (omega (arith, long)) (λ c d in_xs in_ys. agree c d (Contains-cons a xs c in_xs) (Contains-cons b ys d in_ys)) in
    (λ i. head i ∷ rest i)

-- chapters that agree and have as many messages of a member have the same of it
pub own_of_both : (n w me other x : ℕ) (g h : List Message) → IsTrue (is_chapter n w me g) → IsTrue (is_chapter n w other h) → Agree g h → count_of g x ≡ count_of h x
    → filter (λ e. e.origin == x) g ≡ filter (λ e. e.origin == x) h
own_of_both n w me other x g h t too agree same =
    let own : Message → Bool = λ e. e.origin == x in
    let origins : (ms : List Message) → All (λ e. e.origin ≡ x) (filter own ms) = λ ms. All-weaker (λ e. own e ≡ true) (λ e. e.origin ≡ x) (λ e passes. eqb-true e.origin x passes) (filter own ms) (filter_passes own ms) in
    numbered_are_one x 1 (filter own g) (filter own h) (origins g) (origins h) (own_are_numbered n w me x g t) (own_are_numbered n w other x h too) (omega (arith, length-filter own g, length-filter own h, same))
    (λ a b in_g in_h. agree a b (All-contains (Contains g) (filter own g) a (All-filter own (Contains g) g (All-contains_itself g)) in_g) (All-contains (Contains h) (filter own h) b (All-filter own (Contains h) h (All-contains_itself h)) in_h))

-- ---- a message that member k sent after g, and that member r can deliver after h

module _ (n w k r : ℕ) (g h : List Message) (m : Message)
    (sent : IsTrue (is_chapter n w k (g ++ m ∷ []))) (t : IsTrue (is_chapter n w r h)) (own : m.origin ≡ k) (other : k ≢ r) (member : r < n)
    (agree : Agree g h) (can : IsDeliverable n (counts n h) m) where
  before : IsTrue (is_chapter n w k g)
  before = (last_is_next n w k g m sent).0

  next : IsNext n w k g m
  next = (last_is_next n w k g m sent).1

  sender : k < n
  sender = subst (λ y. y < n) own next.member

  -- it has seen what its sender had
  sees : (x : ℕ) → x < n → count_of g x ≤ entry m.tag x
  sees x l = subst (λ tag. count_of g x ≤ entry tag x) (sym (next.own own)) (next_tag_has_counts n k g x sender l)

  sees_other : (x : ℕ) → x < n → x ≢ k → entry m.tag x ≡ count_of g x
  sees_other x l ne = ap (λ tag. entry tag x) (next.own own) ∙ entry-next_tag_other n k g x l ne

  -- so the receiver has as many messages of each member as the sender had
  has_as_many : (x : ℕ) → x < n → count_of g x ≤ count_of h x
  has_as_many x l = elim (cases_eq x k) [
    | inl e ↦ omega (arith, next.counted, can.next, ap (count_of g) (e ∙ sym own), entry-counts n h m.origin next.member, ap (count_of h) (e ∙ sym own))
    | inr ne ↦ omega (arith, sees_other x l ne, can.seen x l (λ e. ne (e ∙ own)), entry-counts n h x l)
  ]

  -- and each of the sender's messages
  is_received : (e : Message) → Contains g e → Contains h e
  is_received e has =
      let fit = All-contains (λ z. (z.origin < n) × (0 < number z)) g e (each_fits n w k g before) has in
      is_there_too n w r g h t agree e has fit.1 (omega (arith, All-contains (λ z. number z ≤ count_of g z.origin) g e (numbers_are_counted n w k g before) has, has_as_many e.origin fit.0))

  -- no known vector is below what the sender's was
  pub known_is_received : (y x : ℕ) → y < n → x < n → entry (known_vector n k (g ++ m ∷ []) y) x ≤ entry (known_vector n r (h ++ m ∷ []) y) x
  known_is_received y x member_y member_x = elim (cases_eq y k) [
    | inl is_k ↦
        let here : last_tag n (h ++ m ∷ []) y ≡ m.tag = last_tag-push n h m y ∙ cond-true (m.origin == y) m.tag (last_tag n h y) (eq-eqb m.origin y (own ∙ sym is_k)) in
        let low : count_of (g ++ m ∷ []) x ≤ entry m.tag x = elim (cases_eq m.origin x) [
          | inl e ↦ omega (arith, count_of-push_own g m x e, next.counted, ap (count_of g) e, ap (entry m.tag) e)
          | inr ne ↦ omega (arith, count_of-push_other g m x ne, sees x member_x)
        ] in
        rw (cond-true (y == k) (counts n (g ++ m ∷ [])) (last_tag n (g ++ m ∷ []) y) (eq-eqb y k is_k), cond-false (y == r) (counts n (h ++ m ∷ [])) (last_tag n (h ++ m ∷ []) y) (ne_eqb y r (λ e. other (sym is_k ∙ e))), here)
        (omega (arith, entry-counts n (g ++ m ∷ []) x member_x, low))
    | inr not_k ↦
        let there : last_tag n (g ++ m ∷ []) y ≡ last_tag n g y = last_tag-push n g m y ∙ cond-false (m.origin == y) m.tag (last_tag n g y) (ne_eqb m.origin y (λ e. not_k (sym e ∙ own))) in
        let here : last_tag n (h ++ m ∷ []) y ≡ last_tag n h y = last_tag-push n h m y ∙ cond-false (m.origin == y) m.tag (last_tag n h y) (ne_eqb m.origin y (λ e. not_k (sym e ∙ own))) in
        rw (cond-false (y == k) (counts n (g ++ m ∷ [])) (last_tag n (g ++ m ∷ []) y) (ne_eqb y k not_k), there) (elim (cases_eq y r) [
          | inl is_r ↦
              rw (cond-true (y == r) (counts n (h ++ m ∷ [])) (last_tag n (h ++ m ∷ []) y) (eq-eqb y r is_r))
              (last_tag_has_of (λ tag. entry tag x ≤ entry (counts n (h ++ m ∷ [])) x) n g y (omega (arith, entry-zero_tag n x)) (λ e has _.
              omega (arith, All-contains (λ z. (v : ℕ) → entry z.tag v ≤ count_of h v) h e (tags_are_counted n w r h t) (is_received e has) x, entry-counts n (h ++ m ∷ []) x member_x, count_of_grows h m x)))
          | inr not_r ↦
              rw (cond-false (y == r) (counts n (h ++ m ∷ [])) (last_tag n (h ++ m ∷ []) y) (ne_eqb y r not_r), here)
              (last_tag_has_of (λ tag. entry tag x ≤ entry (last_tag n h y) x) n g y (omega (arith, entry-zero_tag n x)) (λ e has o.
              let last = All-contains (λ b. (v : ℕ) → v < n → entry b.tag v ≤ entry (last_tag n h b.origin) v) h e (last_tag_is_last n w r h t) (is_received e has) x member_x in
              subst (λ z. entry e.tag x ≤ entry (last_tag n h z) x) o last))
        ])
  ]

  -- so no stable count is
  pub stable_is_received : (x : ℕ) → x < n → stable_count n k (g ++ m ∷ []) x ≤ stable_count n r (h ++ m ∷ []) x
  stable_is_received x l = minimum-range-le (λ y. entry (known_vector n k (g ++ m ∷ []) y) x) (λ y. entry (known_vector n r (h ++ m ∷ []) y) x) 0 n (λ y _ high. known_is_received y x (omega (arith, high)) l)

  -- ---- the windows

  same_count : count_of g k ≡ count_of h k
  same_count = omega (arith, next.counted, can.next, ap (count_of g) own, entry-counts n h m.origin next.member, ap (count_of h) own)

  -- both have the same messages of the sender
  same_own : filter (λ e. e.origin == k) h ≡ filter (λ e. e.origin == k) g
  same_own = sym (own_of_both n w k r k g h before t agree same_count)

  is_own : Message → Bool
  is_own e = e.origin == k

  counted_own : (q : Message → Bool) (ms : List Message) → count_by (λ e. is_own e && q e) ms ≡ length (filter q (filter is_own ms))
  counted_own q ms = sym (length-filter (λ e. is_own e && q e) ms) ∙ ap length (sym (filter-filter is_own q ms))

  same_counted : (q : Message → Bool) → count_by (λ e. is_own e && q e) (h ++ m ∷ []) ≡ count_by (λ e. is_own e && q e) (g ++ m ∷ [])
  unfolding is_own
  same_counted q = omega (arith, sum_by_push (λ e. cond (is_own e && q e) 1 0) h m, sum_by_push (λ e. cond (is_own e && q e) 1 0) g m, counted_own q h, counted_own q g, ap (λ ms. length (filter q ms)) same_own)

  -- no more of the sender's messages are unstable at the receiver than were at the sender
  unstable_is_received : (test : Message → Bool) → length (filter test (unstable_of n r (h ++ m ∷ []) k)) ≤ length (filter test (unstable_of n k (g ++ m ∷ []) k))
  unfolding is_own
  unstable_is_received test =
      let at_k = stable_vector n k (g ++ m ∷ []) in
      let at_r = stable_vector n r (h ++ m ∷ []) in
      let was : Message → Bool = λ e. not (is_stable at_k e) && test e in
      let now : Message → Bool = λ e. not (is_stable at_r e) && test e in
      let count_k = unstable-count test n k (g ++ m ∷ []) k ∙ (λ i. count_by (λ e. and_assoc (e.origin == k) (not (is_stable at_k e)) (test e) i) (g ++ m ∷ [])) in
      let count_r = unstable-count test n r (h ++ m ∷ []) k ∙ (λ i. count_by (λ e. and_assoc (e.origin == k) (not (is_stable at_r e)) (test e) i) (h ++ m ∷ [])) in
      let fewer = count_by-le-count_by (λ e. is_own e && now e) (λ e. is_own e && was e) (h ++ m ∷ []) (λ e passes.
      let both = and_parts (e.origin == k) (now e) passes in
      let parts = and_parts (not (is_stable at_r e)) (test e) both.1 in
      let o : e.origin ≡ k = eqb-true e.origin k both.0 in
      and_from _ _ both.0 (and_from _ _ (not_from_false (is_stable at_k e) (false_from_ne_true (is_stable at_k e) (λ stable.
      both_ways (is_stable at_r e) (not-true (is_stable at_r e) parts.0) (le-leb (number e) (entry at_r e.origin) (omega (arith, leb-true (number e) (entry at_k e.origin) stable, ap (entry at_k) o, ap (entry at_r) o, entry-stable n k (g ++ m ∷ []) k sender, entry-stable n r (h ++ m ∷ []) k sender, stable_is_received k sender)))))) parts.1)) in
      omega (arith, count_k, count_r, fewer, same_counted was)

  -- ---- it is not crooked

  is_straight : IsStraight n w r h m
  is_straight =
      let windows = windows_hold n w k k (g ++ m ∷ []) sender sent in
      record {
        risen = λ x l. last_tag_has_of (λ tag. entry tag x ≤ entry m.tag x) n h m.origin (omega (arith, entry-zero_tag n x)) (λ e has o.
            let low : number e ≤ count_of g k = omega (arith, All-contains (λ z. number z ≤ count_of h z.origin) h e (numbers_are_counted n w r h t) has, ap (count_of h) (o ∙ own), same_count) in
            let there = is_there_too n w k h g before (λ a b in_h in_g eo en. sym (agree b a in_g in_h (sym eo) (sym en))) e has (All-contains (λ z. (z.origin < n) × (0 < number z)) h e (each_fits n w r h t) has).1 (subst (λ y. number e ≤ count_of g y) (sym (o ∙ own)) low) in
            omega (arith, All-contains (λ z. (v : ℕ) → entry z.tag v ≤ count_of g v) g e (tags_are_counted n w k g before) there x, sees x l));
        closed = λ x y member_x member_y ne some. tag_of_has_numbered (λ tag. entry tag y ≤ entry m.tag y) n h x (entry m.tag x) (omega (arith, entry-zero_tag n y)) (λ i d l is.
            let e = get_or h i d in
            let both = and_parts (e.origin == x) (number e == entry m.tag x) is in
            let ox : e.origin ≡ x = eqb-true e.origin x both.0 in
            let s : number e ≡ entry m.tag x = eqb-true (number e) (entry m.tag x) both.1 in
            let low : number e ≤ count_of g x = omega (arith, s, sees_other x member_x (λ same. ne (same ∙ sym own))) in
            let there = is_there_too n w k h g before (λ a b in_h in_g eo en. sym (agree b a in_g in_h (sym eo) (sym en))) e (Contains-get_or h i d l) (omega (arith, s, some)) (subst (λ z. number e ≤ count_of g z) (sym ox) low) in
            omega (arith, All-contains (λ z. (v : ℕ) → entry z.tag v ≤ count_of g v) g e (tags_are_counted n w k g before) there y, sees y member_y));
        operations = subst (λ y. unstable_operations n r (h ++ m ∷ []) y ≤ w) (sym own) (omega (arith, windows.0, unstable_is_received (λ e. carries_operation e.op)));
        noops = subst (λ y. unstable_noops n r (h ++ m ∷ []) y ≤ noop_window n w) (sym own) (omega (arith, windows.1, unstable_is_received (λ e. not (carries_operation e.op))));
      }

  -- so it is the receiver's next
  pub is_received_next : IsNext n w r h m
  is_received_next = record {
    entries = next.entries;
    member = next.member;
    counted = omega (arith, can.next, entry-counts n h m.origin next.member);
    seen = λ x l ne. omega (arith, can.seen x l ne, entry-counts n h x l);
    straight = is_straight;
    own = λ e. absurd (other (sym own ∙ e));
  }
