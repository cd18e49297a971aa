-- How many own no-ops can be unstable where messages are shared and each own no-op was due.
use Rattle.std.proofs.Common.{◌≡◌, ◌≢◌, ℕ, zero, suc, ◌+◌, ◌-◌, ◌*◌, ◌<◌, ◌≤◌, All, Bool, true, false, not, ◌&&◌, ◌||◌, ◌==◌, nat_lt, cond, Contains, IsTrue, List, [], ◌∷◌, ◌++◌, length, get_or, refl, sym, ap, subst, ◌∙◌, inl, inr, ◌⊎◌, append_assoc, append-nil, arith}
use Rattle.std.specs.List.{list_any, sum_by, filter, count_by}
use Rattle.std.proofs.lemmas.Bool.{cases_Bool, and_parts, and_from, cases_eq, cases_lt, cond-true, cond-false, eqb-true, eq-eqb, ne_eqb, leb-true, le-leb, ltb-true, ltb-false, eqb-false, false≢true, not-true, not_from_false, false_from_ne_true, both_ways}
use Rattle.std.proofs.lemmas.List.Elements.{All-nil, All-push, All-contains, All-weaker, Contains-append_left, Contains-append_right, Contains-append_cases, Contains-push, Contains-get_or}
use Rattle.std.proofs.lemmas.List.Sums.{length-filter, sum_by_push, sum_by-cons, sum_by-append}
use Rattle.op_base.specs.Timestamp.{entry}
use Rattle.op_base.specs.Message.{number}
use Rattle.op_base.specs.declared.message.Message.{Message}
use Rattle.causal_model.specs.Chapter.{is_chapter}
use Rattle.causal_model.specs.Counts.{members, count_of, counts}
use Rattle.causal_model.specs.Sending.{is_noop_due}
use Rattle.causal_model.specs.Stability.{last_tag, known_vector, stable_count, stable_vector, is_stable, carries_operation, unstable_noops, noop_window}
use Rattle.causal_model.proofs.Delivery.Counts.{entry-counts, count_of-push_own}
use Rattle.causal_model.proofs.Delivery.Limits.{numbers_are_counted}
use Rattle.causal_model.proofs.Theory.Lists.{induction_at_end, filter-filter, count_by-le-count_by}
use Rattle.causal_model.proofs.Delivery.Orders.{last_tag_is_last, IsBelow, seen_is_below}
use Rattle.causal_model.proofs.Delivery.Sends.{is_noop_due-push}
use Rattle.causal_model.proofs.Delivery.Settling.{last_is_next, stable_count-le-known, stable_stays_stable}
use Rattle.causal_model.proofs.Delivery.Stability.{entry-stable, last_tag-push}
use Rattle.causal_model.proofs.Delivery.Timestamps.{tags_are_counted, entry-zero_tag, next_tag_has_counts}
use Rattle.causal_model.proofs.Delivery.Windows.{unstable-count, windows_hold}
use mathlib.Core.Bool.{and_assoc, and-false}
use Rattle.std.proofs.lemmas.List.FromFn.{length-range_with_len, get_or-range_with_len}
use Rattle.causal_model.proofs.Theory.Elements.{list_any-from_item}
use Rattle.causal_model.proofs.Theory.Members.{member_here, member_later, member_cases}
use Rattle.honest_worlds.proofs.Lists.{split_at, Split, count_by-split, split_count, count_by-le-on, count_by_none, count_by-le-kinds, item-le-sum_by, sum_by-add, member_there, first_passing, least_is_no_less}
use Rattle.honest_worlds.proofs.Agreeing.{last_tag_has_of, Agree, own_of_both, stable_is_received}
use Rattle.honest_worlds.proofs.Shared.{front_is_chapter, later_is_above, deliverable_from_next, AreShared, fits_of, at_origin, chapters_agree, parts_agree}

-- ---- the rule of no-ops

-- each own no-op was due
abbrev pub IsDueBefore : ℕ → List Message → Type 0
IsDueBefore r h = (before later : List Message) (m : Message) → h ≡ before ++ m ∷ later → m.origin ≡ r → carries_operation m.op ≡ false → is_noop_due r before ≡ true

abbrev own_noop : ℕ → Message → Bool
own_noop r e = (e.origin == r) && not (carries_operation e.op)

abbrev other_operation : ℕ → Message → Bool
other_operation r e = not (e.origin == r) && carries_operation e.op

-- after an own message there are at least as many operations of others as own no-ops, and one more where one is due
module _ (r : ℕ) (h : List Message) (due : IsDueBefore r h) (a b : List Message) (o : Message) (whole : h ≡ a ++ o ∷ b) (own : o.origin ≡ r) where
  abbrev Tells : List Message → Type 0
  Tells ms = (rest : List Message) → b ≡ ms ++ rest → count_by (own_noop r) ms + cond (is_noop_due r (a ++ o ∷ ms)) 1 0 ≤ count_by (other_operation r) ms

  one_more : (mine operation was : Bool) → (mine ≡ true → operation ≡ false → was ≡ true) → cond (mine && not operation) 1 0 + cond (not mine && (was || operation)) 1 0 ≤ cond (not mine && operation) 1 0 + cond was 1 0
  one_more true true was f = omega arith
  one_more true false was f = omega (arith, cond-true {A = ℕ} was 1 0 (f refl refl))
  one_more false true true f = omega arith
  one_more false true false f = omega arith
  one_more false false true f = omega arith
  one_more false false false f = omega arith

  due_tells : (ms : List Message) → Tells ms
  due_tells = induction_at_end Tells
      (λ rest e. omega (arith, ap (λ x. cond {A = ℕ} x 1 0) (is_noop_due-push r a o ∙ ap (λ x. not x && (is_noop_due r a || carries_operation o.op)) (eq-eqb o.origin r own))))
      (λ ms m ih rest e.
      let before = a ++ o ∷ ms in
      let joined : a ++ o ∷ (ms ++ m ∷ []) ≡ before ++ m ∷ [] = sym (append_assoc a (o ∷ ms) (m ∷ [])) in
      let tail : b ≡ ms ++ m ∷ rest = e ∙ append_assoc ms (m ∷ []) rest in
      let place : h ≡ before ++ m ∷ rest = whole ∙ ap (λ ys. a ++ o ∷ ys) tail ∙ sym (append_assoc a (o ∷ ms) (m ∷ rest)) in
      let step = one_more (m.origin == r) (carries_operation m.op) (is_noop_due r before) (λ t f. due before rest m place (eqb-true m.origin r t) f) in
      let now : cond {A = ℕ} (is_noop_due r (a ++ o ∷ (ms ++ m ∷ []))) 1 0 ≡ cond (not (m.origin == r) && (is_noop_due r before || carries_operation m.op)) 1 0 = ap (λ x. cond {A = ℕ} x 1 0) (ap (is_noop_due r) joined ∙ is_noop_due-push r before m) in
      omega (arith, ih (m ∷ rest) tail, step, now, sum_by_push (λ y. cond (own_noop r y) 1 0) ms m, sum_by_push (λ y. cond (other_operation r y) 1 0) ms m))

-- the operation of another member that made a no-op due: no operation and no own message came since
record MadeDue (r : ℕ) (h : List Message) : Type 0 where
  before : List Message
  item : Message
  later : List Message
  whole : h ≡ before ++ item ∷ later
  other : item.origin ≢ r
  carries : carries_operation item.op ≡ true
  none : All (λ e. carries_operation e.op ≡ false) later
  others : All (λ e. e.origin ≢ r) later

made_due : (r : ℕ) (h : List Message) → is_noop_due r h ≡ true → MadeDue r h
made_due r = induction_at_end (λ h. is_noop_due r h ≡ true → MadeDue r h) (λ due. absurd (false≢true due)) (λ h m ih due.
    let both = and_parts (not (m.origin == r)) (is_noop_due r h || carries_operation m.op) (sym (is_noop_due-push r h m) ∙ due) in
    let ne : m.origin ≢ r = eqb-false m.origin r (not-true (m.origin == r) both.0) in
    elim (cases_Bool (carries_operation m.op)) [
      | inl carries ↦ record { before = h; item = m; later = []; whole = refl; other = ne; carries = carries; none = All-nil (λ e. carries_operation e.op ≡ false); others = All-nil (λ e. e.origin ≢ r) }
      | inr none ↦
          let d = ih (left_of (is_noop_due r h) (carries_operation m.op) both.1 none) in
          record {
            before = d.before;
            item = d.item;
            later = d.later ++ m ∷ [];
            whole = ap (λ ms. ms ++ m ∷ []) d.whole ∙ append_assoc d.before (d.item ∷ d.later) (m ∷ []);
            other = d.other;
            carries = d.carries;
            none = All-push (λ e. carries_operation e.op ≡ false) d.later m d.none none;
            others = All-push (λ e. e.origin ≢ r) d.later m d.others ne;
          }
    ]) where
      left_of : (a b : Bool) → (a || b) ≡ true → b ≡ false → a ≡ true
      left_of true b t f = refl
      left_of false b t f = absurd (both_ways b f t)

-- ---- the window of a sender

abbrev operation_of : ℕ → Message → Bool
operation_of q e = (e.origin == q) && carries_operation e.op

-- Member r delivered a message y of q, and before it as many operations of q as the window has after H. So when q sent y,
-- more was stable there of its messages than stand in H.
window_forces : (n w q r : ℕ) (g H B : List Message) (y : Message) → q < n → IsTrue (is_chapter n w r (H ++ (B ++ y ∷ []))) → IsTrue (is_chapter n w q (g ++ y ∷ []))
    → Agree (H ++ (B ++ y ∷ [])) (g ++ y ∷ []) → operation_of q y ≡ true → w ≤ count_by (operation_of q) B → count_of H q < stable_count n q (g ++ y ∷ []) q
window_forces n w q r g H B y l t sent agree passes full = elim (cases_lt (count_of H q) (stable_count n q (g ++ y ∷ []) q)) [
  | inl more ↦ more
  | inr few ↦
      let here = H ++ (B ++ y ∷ []) in
      let there = g ++ y ∷ [] in
      let stable = stable_vector n q there in
      let lies : Message → Bool = λ e. not (is_stable stable e) && carries_operation e.op in
      let own : y.origin ≡ q = eqb-true y.origin q (and_parts (y.origin == q) (carries_operation y.op) passes).0 in
      let number_here = (last_is_next n w r (H ++ B) y (subst (λ ms. IsTrue (is_chapter n w r ms)) (sym (append_assoc H B (y ∷ []))) t)).1.counted in
      let number_there = (last_is_next n w q g y sent).1.counted in
      let count_here : count_of here q ≡ number y = ap (λ ms. count_of ms q) (sym (append_assoc H B (y ∷ []))) ∙ count_of-push_own (H ++ B) y q own ∙ ap (λ z. count_of (H ++ B) z + 1) (sym own) ∙ sym number_here in
      let count_there : count_of there q ≡ number y = count_of-push_own g y q own ∙ ap (λ z. count_of g z + 1) (sym own) ∙ sym number_there in
      let same = own_of_both n w r q q here there t sent agree (count_here ∙ sym count_there) in
      let at_q = unstable-count (λ e. carries_operation e.op) n q there q ∙ (λ i. count_by (λ e. and_assoc (e.origin == q) (not (is_stable stable e)) (carries_operation e.op) i) there) in
      let by_own : (ms : List Message) → count_by (λ e. (e.origin == q) && lies e) ms ≡ length (filter lies (filter (λ e. e.origin == q) ms)) = λ ms. sym (length-filter (λ e. (e.origin == q) && lies e) ms) ∙ ap length (sym (filter-filter (λ e. e.origin == q) lies ms)) in
      let late = later_is_above n w r H (B ++ y ∷ []) t in
      let unstable = count_by-le-on (operation_of q) (λ e. (e.origin == q) && lies e) (B ++ y ∷ []) (All-weaker (λ e. count_of H e.origin < number e) (λ e. operation_of q e ≡ true → ((e.origin == q) && lies e) ≡ true) (λ e above test.
      let both = and_parts (e.origin == q) (carries_operation e.op) test in
      let o : e.origin ≡ q = eqb-true e.origin q both.0 in
      and_from _ _ both.0 (and_from _ _ (not_from_false (is_stable stable e) (false_from_ne_true (is_stable stable e) (λ is.
      omega (arith, leb-true (number e) (entry stable e.origin) is, ap (entry stable) o, entry-stable n q there q l, few, above, ap (count_of H) o)))) both.1)) (B ++ y ∷ []) late) in
      let parts = sum_by-append (λ e. cond ((e.origin == q) && lies e) 1 0) H (B ++ y ∷ []) in
      let more = sum_by_push (λ e. cond (operation_of q e) 1 0) B y in
      let held = (windows_hold n w q q there l sent).0 in
      absurd (omega (arith, held, at_q, by_own there, by_own here, ap (λ ms. length (filter lies ms)) same, parts, unstable, more, cond-true {A = ℕ} (operation_of q y) 1 0 passes, full))
]

-- ---- what an operation of another member had seen

module _ (n w r : ℕ) (P : ℕ → List Message) (are : AreShared n w P) (l : r < n) where
  -- what another member sent, at its place among that member's messages
  record SentAt (q : ℕ) (m : Message) : Type 0 where
    before : List Message
    later : List Message
    whole : P q ≡ before ++ m ∷ later
    sent : IsTrue (is_chapter n w q (before ++ m ∷ []))

  sent_at : (q : ℕ) (m : Message) → q < n → m.origin ≡ q → Contains (P r) m → SentAt q m
  sent_at q m k own has =
      let s = split_at (P q) m (subst (λ x. Contains (P x) m) own (at_origin n w P are r m l has)) in
      record {
        before = s.0;
        later = s.1;
        whole = s.2;
        sent = front_is_chapter n w q (s.0 ++ m ∷ []) s.1 (subst (λ ms. IsTrue (is_chapter n w q ms)) (s.2 ∙ sym (append_assoc s.0 (m ∷ []) s.1)) (are.chapter q k));
      }

  in_sent : (q : ℕ) (m : Message) (at : SentAt q m) (e : Message) → Contains (at.before ++ m ∷ []) e → Contains (P q) e
  in_sent q m at e has = subst (λ ms. Contains ms e) (append_assoc at.before (m ∷ []) at.later ∙ sym at.whole) (Contains-append_left (at.before ++ m ∷ []) at.later e has)

  -- Member r delivered an operation x of q, and before it, after H, as many of q as the window has. Its own messages after H
  -- are not numbered below o.
  module _ (q : ℕ) (k : q < n) (ne : q ≢ r) (H B rest : List Message) (x o : Message) (whole : P r ≡ H ++ (B ++ x ∷ rest)) (op_x : operation_of q x ≡ true)
      (full : w ≤ count_by (operation_of q) B) (behind : (e : Message) → Contains (B ++ x ∷ rest) e → e.origin ≡ r → number o ≤ number e) where
    to_x : P r ≡ (H ++ (B ++ x ∷ [])) ++ rest
    to_x = whole ∙ ap (λ ms. H ++ ms) (sym (append_assoc B (x ∷ []) rest)) ∙ sym (append_assoc H (B ++ x ∷ []) rest)

    own_x : x.origin ≡ q
    own_x = eqb-true x.origin q (and_parts (x.origin == q) (carries_operation x.op) op_x).0

    chapter_x : IsTrue (is_chapter n w r (H ++ (B ++ x ∷ [])))
    chapter_x = front_is_chapter n w r (H ++ (B ++ x ∷ [])) rest (subst (λ ms. IsTrue (is_chapter n w r ms)) to_x (are.chapter r l))

    chapter_H : IsTrue (is_chapter n w r H)
    chapter_H = front_is_chapter n w r H (B ++ x ∷ []) chapter_x

    in_x : (e : Message) → Contains (H ++ (B ++ x ∷ [])) e → Contains (P r) e
    in_x e has = subst (λ ms. Contains ms e) (sym to_x) (Contains-append_left (H ++ (B ++ x ∷ [])) rest e has)

    at_x : SentAt q x
    at_x = sent_at q x k own_x (in_x x (Contains-append_right H (B ++ x ∷ []) x (Contains-push B x)))

    agree_x : Agree (H ++ (B ++ x ∷ [])) (at_x.before ++ x ∷ [])
    agree_x = parts_agree (P r) (P q) (H ++ (B ++ x ∷ [])) (at_x.before ++ x ∷ []) in_x (in_sent q x at_x) (chapters_agree n w P are r q l k)

    -- the sender of x knew that r had more of its messages than stand in H
    knows : count_of H q < entry (last_tag n at_x.before r) q
    knows =
        let more = window_forces n w q r at_x.before H B x k chapter_x at_x.sent agree_x op_x full in
        let known = stable_count-le-known n q (at_x.before ++ x ∷ []) q r l in
        let vector : known_vector n q (at_x.before ++ x ∷ []) r ≡ last_tag n at_x.before r =
        cond-false (r == q) (counts n (at_x.before ++ x ∷ [])) (last_tag n (at_x.before ++ x ∷ []) r) (ne_eqb r q (λ e. ne (sym e)))
        ∙ last_tag-push n at_x.before x r ∙ cond-false (x.origin == r) x.tag (last_tag n at_x.before r) (ne_eqb x.origin r (λ e. ne (sym own_x ∙ e))) in
        omega (arith, more, known, ap (λ tag. entry tag q) vector)

    -- from a message of r that came after these, so x has seen o
    has_seen : number o ≤ entry x.tag r
    has_seen =
        let parts = last_is_next n w q at_x.before x at_x.sent in
        let sees : count_of at_x.before r ≤ entry x.tag r = subst (λ tag. count_of at_x.before r ≤ entry tag r) (sym (parts.1.own own_x)) (next_tag_has_counts n q at_x.before r k l) in
        elim (last_tag_has_of (λ tag. (entry tag q ≤ count_of H q) ⊎ (number o ≤ entry x.tag r)) n at_x.before r (inl (omega (arith, entry-zero_tag n q))) (λ e has own_e.
        elim (cases_lt (count_of H q) (entry e.tag q)) [
          | inr low ↦ inl low
          | inl high ↦
              let in_q : Contains (P q) e = in_sent q x at_x e (Contains-append_left at_x.before (x ∷ []) e has) in
              let in_r : Contains (H ++ (B ++ x ∷ rest)) e = subst (λ ms. Contains ms e) whole (subst (λ z. Contains (P z) e) own_e (at_origin n w P are q e k in_q)) in
              elim (Contains-append_cases H (B ++ x ∷ rest) e in_r) [
                | inl early ↦ absurd (omega (arith, high, All-contains (λ z. (v : ℕ) → entry z.tag v ≤ count_of H v) H e (tags_are_counted n w r H chapter_H) early q))
                | inr late ↦
                    let within = All-contains (λ z. number z ≤ count_of at_x.before z.origin) at_x.before e (numbers_are_counted n w q at_x.before parts.0) has in
                    inr (omega (arith, behind e late own_e, within, sees, ap (count_of at_x.before) own_e))
              ]
        ])) [
          | inl low ↦ absurd (omega (arith, low, knows))
          | inr seen ↦ seen
        ]

  -- Member r delivered an operation y of q, and before it, from x on, as many of q as the window has: so x was stable at the
  -- sender of y, and is at r.
  module _ (q : ℕ) (k : q < n) (ne : q ≢ r) (H C later : List Message) (x y : Message) (whole : P r ≡ H ++ (x ∷ C ++ y ∷ later)) (own_x : x.origin ≡ q) (op_y : operation_of q y ≡ true)
      (full : w ≤ count_by (operation_of q) (x ∷ C)) where
    to_y : P r ≡ (H ++ (x ∷ C ++ y ∷ [])) ++ later
    to_y = whole ∙ ap (λ ms. H ++ ms) (sym (append_assoc (x ∷ C) (y ∷ []) later)) ∙ sym (append_assoc H (x ∷ C ++ y ∷ []) later)

    own_y : y.origin ≡ q
    own_y = eqb-true y.origin q (and_parts (y.origin == q) (carries_operation y.op) op_y).0

    chapter_y : IsTrue (is_chapter n w r (H ++ (x ∷ C ++ y ∷ [])))
    chapter_y = front_is_chapter n w r (H ++ (x ∷ C ++ y ∷ [])) later (subst (λ ms. IsTrue (is_chapter n w r ms)) to_y (are.chapter r l))

    in_y : (e : Message) → Contains (H ++ (x ∷ C ++ y ∷ [])) e → Contains (P r) e
    in_y e has = subst (λ ms. Contains ms e) (sym to_y) (Contains-append_left (H ++ (x ∷ C ++ y ∷ [])) later e has)

    at_y : SentAt q y
    at_y = sent_at q y k own_y (in_y y (Contains-append_right H (x ∷ C ++ y ∷ []) y (Contains-push (x ∷ C) y)))

    agree_y : Agree (H ++ (x ∷ C ++ y ∷ [])) (at_y.before ++ y ∷ [])
    agree_y = parts_agree (P r) (P q) (H ++ (x ∷ C ++ y ∷ [])) (at_y.before ++ y ∷ []) in_y (in_sent q y at_y) (chapters_agree n w P are r q l k)

    is_stable_here : number x ≤ stable_count n r (P r) q
    is_stable_here =
        let more = window_forces n w q r at_y.before H (x ∷ C) y k chapter_y at_y.sent agree_y op_y full in
        let numbered = (last_is_next n w r H x (front_is_chapter n w r (H ++ x ∷ []) (C ++ y ∷ []) (subst (λ ms. IsTrue (is_chapter n w r ms)) (sym (append_assoc H (x ∷ []) (C ++ y ∷ []))) chapter_y))).1.counted in
        let joined : H ++ (x ∷ C ++ y ∷ []) ≡ (H ++ x ∷ C) ++ y ∷ [] = sym (append_assoc H (x ∷ C) (y ∷ [])) in
        let parts = last_is_next n w r (H ++ x ∷ C) y (subst (λ ms. IsTrue (is_chapter n w r ms)) joined chapter_y) in
        let agree = parts_agree (P q) (P r) at_y.before (H ++ x ∷ C) (λ e has. in_sent q y at_y e (Contains-append_left at_y.before (y ∷ []) e has)) (λ e has. in_y e (subst (λ ms. Contains ms e) (sym joined) (Contains-append_left (H ++ x ∷ C) (y ∷ []) e has))) (chapters_agree n w P are q r k l) in
        let passed = stable_is_received n w q r at_y.before (H ++ x ∷ C) y at_y.sent parts.0 own_y ne l agree (deliverable_from_next n w r (H ++ x ∷ C) y parts.1) q k in
        let there = (H ++ x ∷ C) ++ y ∷ [] in
        let low : x.origin < n = subst (λ z. z < n) (sym own_x) k in
        let was : IsTrue (is_stable (stable_vector n r there) x) = le-leb (number x) (entry (stable_vector n r there) x.origin) (omega (arith, more, passed, numbered, ap (count_of H) own_x, ap (entry (stable_vector n r there)) own_x, entry-stable n r there q k)) in
        let all : P r ≡ there ++ later = to_y ∙ ap (λ ms. ms ++ later) joined in
        let still = stable_stays_stable n w r there later x low (subst (λ ms. IsTrue (is_chapter n w r ms)) all (are.chapter r l)) was in
        let now = leb-true (number x) (entry (stable_vector n r (there ++ later)) x.origin) still in
        omega (arith, now, ap (λ ms. entry (stable_vector n r ms) q) all, ap (entry (stable_vector n r (there ++ later))) own_x, entry-stable n r (P r) q k)

  -- ---- behind an own message that is not stable

  module _ (a b : List Message) (o : Message) (split : P r ≡ a ++ o ∷ b) (own_o : o.origin ≡ r) (unstable : is_stable (stable_vector n r (P r)) o ≡ false) where
    o_there : Contains (P r) o
    o_there = subst (λ ms. Contains ms o) (sym split) (Contains-append_right a (o ∷ b) o (member_here o b))

    -- some member doesn't show that it has seen o
    not_by_all : ((v : ℕ) → v < n → number o ≤ entry (known_vector n r (P r) v) r) → ⊥
    not_by_all known =
        let least = least_is_no_less n (number o) (λ v. entry (known_vector n r (P r) v) r) (omega (arith, l)) known in
        both_ways (is_stable (stable_vector n r (P r)) o) unstable (le-leb (number o) (entry (stable_vector n r (P r)) o.origin) (omega (arith, least, ap (entry (stable_vector n r (P r))) own_o, entry-stable n r (P r) r l)))

    -- the own messages from o on are not numbered below it
    from_o : (e : Message) → Contains (o ∷ b) e → e.origin ≡ r → number o ≤ number e
    from_o e has own = elim (member_cases o b e has) [
      | inl same ↦ omega (arith, ap number same)
      | inr later ↦
          let whole : IsTrue (is_chapter n w r ((a ++ o ∷ []) ++ b)) = subst (λ ms. IsTrue (is_chapter n w r ms)) (split ∙ sym (append_assoc a (o ∷ []) b)) (are.chapter r l) in
          let above = All-contains (λ z. count_of (a ++ o ∷ []) z.origin < number z) b e (later_is_above n w r (a ++ o ∷ []) b whole) later in
          let counted = All-contains (λ z. number z ≤ count_of (a ++ o ∷ []) z.origin) (a ++ o ∷ []) o (numbers_are_counted n w r (a ++ o ∷ []) (front_is_chapter n w r (a ++ o ∷ []) b whole)) (Contains-push a o) in
          omega (arith, above, counted, ap (count_of (a ++ o ∷ [])) (own_o ∙ sym own))
    ]

    -- where x has seen o, and is stable, all show it
    known_by_all : (q : ℕ) (x : Message) → q < n → Contains (P r) x → x.origin ≡ q → number o ≤ entry x.tag r → number x ≤ stable_count n r (P r) q → (v : ℕ) → v < n → number o ≤ entry (known_vector n r (P r) v) r
    known_by_all q x k has_x own_x seen stable v lv =
        let chapter = are.chapter r l in
        let known = stable_count-le-known n r (P r) q v lv in
        elim (cases_eq v r) [
          | inl e ↦ subst (λ tag. number o ≤ entry tag r) (sym (cond-true (v == r) (counts n (P r)) (last_tag n (P r) v) (eq-eqb v r e)))
              (omega (arith, entry-counts n (P r) r l, All-contains (λ z. number z ≤ count_of (P r) z.origin) (P r) o (numbers_are_counted n w r (P r) chapter) o_there, ap (count_of (P r)) own_o))
          | inr not_r ↦
              let vector : known_vector n r (P r) v ≡ last_tag n (P r) v = cond-false (v == r) (counts n (P r)) (last_tag n (P r) v) (ne_eqb v r not_r) in
              let some = (fits_of n w P are r x l has_x).1 in
              let told = last_tag_has_of (λ tag. number x ≤ entry tag q → number o ≤ entry tag r) n (P r) v (λ has. absurd (omega (arith, has, entry-zero_tag n q, some))) (λ e has _ above.
              let below = All-contains (IsBelow n x) (P r) e (All-contains (λ z. All (IsBelow n z) (P r)) (P r) x (seen_is_below n w r (P r) chapter) has_x) has in
              let up = below (omega (arith, above, ap (entry e.tag) own_x)) r l in
              omega (arith, up, seen)) in
              subst (λ tag. number o ≤ entry tag r) (sym vector) (told (omega (arith, stable, known, ap (λ tag. entry tag q) vector)))
        ]

    -- Of another member q. Where B, with at most w operations of q, stands right before b, and no own message in it is numbered
    -- below o, then it and b have at most twice the window of them, and no more than it where q doesn't show o.
    module _ (q : ℕ) (k : q < n) (ne : q ≢ r) (H B : List Message) (joined : P r ≡ H ++ (B ++ b)) (few : count_by (operation_of q) B ≤ w) (behind : (e : Message) → Contains (B ++ b) e → e.origin ≡ r → number o ≤ number e) where
      -- the operation after which w of q stand
      module _ (s : Split (operation_of q) b (w - count_by (operation_of q) B)) where
        whole : P r ≡ H ++ ((B ++ s.before) ++ s.item ∷ s.later)
        whole = joined ∙ ap (λ ms. H ++ (B ++ ms)) s.whole ∙ ap (λ ms. H ++ ms) (sym (append_assoc B s.before (s.item ∷ s.later)))

        full : w ≤ count_by (operation_of q) (B ++ s.before)
        full = omega (arith, sum_by-append (λ e. cond (operation_of q e) 1 0) B s.before, s.counted, few)

        own_item : s.item.origin ≡ q
        own_item = eqb-true s.item.origin q (and_parts (s.item.origin == q) (carries_operation s.item.op) s.passes).0

        item_there : Contains (P r) s.item
        item_there = subst (λ ms. Contains ms s.item) (sym whole) (Contains-append_right H ((B ++ s.before) ++ s.item ∷ s.later) s.item (Contains-append_right (B ++ s.before) (s.item ∷ s.later) s.item (member_here s.item s.later)))

        item_has_seen : number o ≤ entry s.item.tag r
        item_has_seen = has_seen q k ne H (B ++ s.before) s.later s.item o whole s.passes full (λ e has. behind e (subst (λ ms. Contains ms e) (append_assoc B s.before (s.item ∷ s.later) ∙ ap (λ ms. B ++ ms) (sym s.whole)) has))

        -- so q shows o
        shows : number o ≤ entry (known_vector n r (P r) q) r
        shows =
            let last = All-contains (λ z. (v : ℕ) → v < n → entry z.tag v ≤ entry (last_tag n (P r) z.origin) v) (P r) s.item (last_tag_is_last n w r (P r) (are.chapter r l)) item_there r l in
            let vector : known_vector n r (P r) q ≡ last_tag n (P r) q = cond-false (q == r) (counts n (P r)) (last_tag n (P r) q) (ne_eqb q r ne) in
            omega (arith, item_has_seen, last, ap (λ z. entry (last_tag n (P r) z) r) own_item, ap (λ tag. entry tag r) vector)

        -- and behind it stand fewer than w of q
        few_later : 1 ≤ w → count_by (operation_of q) s.later < w
        few_later wide = elim (cases_lt (count_by (operation_of q) s.later) w) [
          | inl fewer ↦ fewer
          | inr many ↦
              let t = split_count (operation_of q) s.later (w - 1) (omega (arith, many, wide)) in
              let place : P r ≡ (H ++ (B ++ s.before)) ++ (s.item ∷ t.before ++ t.item ∷ t.later) = whole ∙ sym (append_assoc H (B ++ s.before) (s.item ∷ s.later)) ∙ ap (λ ms. (H ++ (B ++ s.before)) ++ (s.item ∷ ms)) t.whole in
              let held : w ≤ count_by (operation_of q) (s.item ∷ t.before) = omega (arith, sum_by-cons (λ e. cond (operation_of q e) 1 0) s.item t.before, cond-true {A = ℕ} (operation_of q s.item) 1 0 s.passes, t.counted, wide) in
              absurd (not_by_all (known_by_all q s.item k item_there own_item item_has_seen (is_stable_here q k ne (H ++ (B ++ s.before)) t.before t.later s.item t.item place own_item t.passes held)))
        ]

      at_most_twice : 1 ≤ w → count_by (operation_of q) B + count_by (operation_of q) b ≤ 2 * w
      at_most_twice wide = elim (cases_lt (w - count_by (operation_of q) B) (count_by (operation_of q) b)) [
        | inr past ↦ omega (arith, past, few)
        | inl more ↦
            let s = split_count (operation_of q) b (w - count_by (operation_of q) B) more in
            omega (arith, few_later s wide, ap (count_by (operation_of q)) s.whole, count_by-split (operation_of q) s.before s.item s.later, s.counted, few, cond-true {A = ℕ} (operation_of q s.item) 1 0 s.passes)
      ]

      at_most_once : entry (known_vector n r (P r) q) r < number o → count_by (operation_of q) B + count_by (operation_of q) b ≤ w
      at_most_once less = elim (cases_lt (w - count_by (operation_of q) B) (count_by (operation_of q) b)) [
        | inr past ↦ omega (arith, past, few)
        | inl more ↦ absurd (omega (arith, less, shows (split_count (operation_of q) b (w - count_by (operation_of q) B) more)))
      ]

    -- ---- the count

    -- some other member doesn't show o
    some_other : (q : ℕ) × (q < n) × (q ≢ r) × (entry (known_vector n r (P r) q) r < number o)
    some_other = elim (first_passing (λ v. nat_lt (entry (known_vector n r (P r) v) r) (number o)) n) [
      | inr none ↦ absurd (not_by_all (λ v lv. ltb-false (entry (known_vector n r (P r) v) r) (number o) (none v lv)))
      | inl found ↦
          let less = ltb-true (entry (known_vector n r (P r) found.0) r) (number o) found.2 in (
            found.0,
            found.1,
            (λ e.
                let here : known_vector n r (P r) found.0 ≡ counts n (P r) = cond-true (found.0 == r) (counts n (P r)) (last_tag n (P r) found.0) (eq-eqb found.0 r e) in
                omega (arith, less, ap (λ tag. entry tag r) here, entry-counts n (P r) r l, All-contains (λ z. number z ≤ count_of (P r) z.origin) (P r) o (numbers_are_counted n w r (P r) (are.chapter r l)) o_there, ap (count_of (P r)) own_o)),
            less,
          )
    ]

    -- Where o is a no-op that an operation of another member made due, b has at most three windows and one less than twice a
    -- window for each member of operations of others.
    operations_are_few : 1 ≤ w → carries_operation o.op ≡ false → is_noop_due r a ≡ true → count_by (other_operation r) b + (3 * w + 1) ≤ n * (2 * w)
    operations_are_few wide none due =
        let d = made_due r a due in
        let u = some_other in
        let member : d.item.origin < n = (fits_of n w P are r d.item l (subst (λ ms. Contains ms d.item) (sym split) (Contains-append_left a (o ∷ b) d.item (subst (λ ms. Contains ms d.item) (sym d.whole) (Contains-append_right d.before (d.item ∷ d.later) d.item (member_here d.item d.later)))))).0 in
        let share_r : ℕ → ℕ = λ q. cond (q == r) (2 * w) 0 in
        let share_u : ℕ → ℕ = λ q. cond (q == u.0) w 0 in
        let share_d : ℕ → ℕ = λ q. cond (q == d.item.origin) 1 0 in
        let share : ℕ → ℕ = λ q. (share_r q + share_u q) + share_d q in
        let of_r : 2 * w ≤ sum_by share_r (members n) = omega (arith, item-le-sum_by share_r (members n) r (member_there n r l), cond-true (r == r) (2 * w) 0 (eq-eqb r r refl)) in
        let of_u : w ≤ sum_by share_u (members n) = omega (arith, item-le-sum_by share_u (members n) u.0 (member_there n u.0 u.1), cond-true (u.0 == u.0) w 0 (eq-eqb u.0 u.0 refl)) in
        let of_d : 1 ≤ sum_by share_d (members n) = omega (arith, item-le-sum_by share_d (members n) d.item.origin (member_there n d.item.origin member), cond-true {A = ℕ} (d.item.origin == d.item.origin) 1 0 (eq-eqb d.item.origin d.item.origin refl)) in
        let bound = count_by-le-kinds (λ (e : Message). e.origin) (other_operation r) share (2 * w) b (members n) (λ i z low.
        let q = get_or (members n) i z in
        each q (omega (arith, low, length-range_with_len 0 n, get_or-range_with_len 0 n i z (omega (arith, low, length-range_with_len 0 n)))) u d) in
        let all = count_by-le-on (other_operation r) (λ e. list_any (λ q. e.origin == q) (members n) && other_operation r e) b (λ i z low t.
        let e = get_or b i z in
        let fit = fits_of n w P are r e l (subst (λ ms. Contains ms e) (sym split) (Contains-append_right a (o ∷ b) e (member_later o b e (Contains-get_or b i z low)))) in
        and_from _ _ (list_any-from_item (λ q. e.origin == q) (members n) e.origin (member_there n e.origin fit.0) (eq-eqb e.origin e.origin refl)) t) in
        omega (arith, bound, all, of_r, of_u, of_d, sum_by-add (λ q. share_r q + share_u q) share_d (members n), sum_by-add share_r share_u (members n), ap (λ z. z * (2 * w)) (length-range_with_len 0 n)) where
          each : (q : ℕ) → q < n → (u : (v : ℕ) × (v < n) × (v ≢ r) × (entry (known_vector n r (P r) v) r < number o)) (d : MadeDue r a)
              → count_by (λ e. (e.origin == q) && other_operation r e) b + ((cond (q == r) (2 * w) 0 + cond (q == u.0) w 0) + cond (q == d.item.origin) 1 0) ≤ 2 * w
          each q k u d = elim (cases_eq q r) [
            | inl own ↦
                let no = count_by-le-on (λ e. (e.origin == q) && other_operation r e) (λ e. false) b (λ i z low t.
                let both = and_parts ((get_or b i z).origin == q) (other_operation r (get_or b i z)) t in
                absurd (eqb-false (get_or b i z).origin r (not-true ((get_or b i z).origin == r) (and_parts (not ((get_or b i z).origin == r)) (carries_operation (get_or b i z).op) both.1).0) (eqb-true (get_or b i z).origin q both.0 ∙ own))) in
                omega (arith, no, count_by_none b, cond-true (q == r) (2 * w) 0 (eq-eqb q r own), cond-false (q == u.0) w 0 (ne_eqb q u.0 (λ e. u.2 (sym e ∙ own))), cond-false {A = ℕ} (q == d.item.origin) 1 0 (ne_eqb q d.item.origin (λ e. d.other (sym e ∙ own))))
            | inr ne ↦
                let fewer = count_by-le-count_by (λ e. (e.origin == q) && other_operation r e) (operation_of q) b (λ e t.
                let both = and_parts (e.origin == q) (other_operation r e) t in
                and_from _ _ both.0 (and_parts (not (e.origin == r)) (carries_operation e.op) both.1).1) in
                let no_r = cond-false (q == r) (2 * w) 0 (ne_eqb q r ne) in
                elim (cases_eq q d.item.origin) [
                  | inl made ↦
                      let B = d.item ∷ d.later ++ o ∷ [] in
                      let joined : P r ≡ d.before ++ (B ++ b) = split ∙ ap (λ ms. ms ++ o ∷ b) d.whole ∙ append_assoc d.before (d.item ∷ d.later) (o ∷ b) ∙ ap (λ ms. d.before ++ ms) (sym (append_assoc (d.item ∷ d.later) (o ∷ []) b)) in
                      let no_o : operation_of q o ≡ false = ap (λ c. (o.origin == q) && c) none ∙ and-false (o.origin == q) in
                      let no_later = count_by-le-on (operation_of q) (λ e. false) d.later (λ i z low t. absurd (both_ways (carries_operation (get_or d.later i z).op) (d.none i z low) (and_parts ((get_or d.later i z).origin == q) (carries_operation (get_or d.later i z).op) t).1)) in
                      let one : count_by (operation_of q) B ≡ 1 = omega (arith, sum_by_push (λ e. cond (operation_of q e) 1 0) (d.item ∷ d.later) o, sum_by-cons (λ e. cond (operation_of q e) 1 0) d.item d.later, no_later, count_by_none d.later, cond-false {A = ℕ} (operation_of q o) 1 0 no_o, cond-true {A = ℕ} (operation_of q d.item) 1 0 (and_from _ _ (eq-eqb d.item.origin q (sym made)) d.carries)) in
                      let behind : (e : Message) → Contains (B ++ b) e → e.origin ≡ r → number o ≤ number e = λ e has own.
                      elim (Contains-append_cases (d.item ∷ d.later) (o ∷ b) e (subst (λ ms. Contains ms e) (append_assoc (d.item ∷ d.later) (o ∷ []) b) has)) [
                        | inr from ↦ from_o e from own
                        | inl before ↦ elim (member_cases d.item d.later e before) [
                          | inl same ↦ absurd (d.other (ap (λ y. y.origin) same ∙ own))
                          | inr later ↦ absurd (All-contains (λ y. y.origin ≢ r) d.later e d.others later own)
                        ]
                      ] in
                      let few : count_by (operation_of q) B ≤ w = omega (arith, one, wide) in
                      let is_d = cond-true {A = ℕ} (q == d.item.origin) 1 0 (eq-eqb q d.item.origin made) in
                      elim (cases_eq q u.0) [
                        | inl last ↦ omega (arith, at_most_once q k ne d.before B joined few behind (subst (λ v. entry (known_vector n r (P r) v) r < number o) (sym last) u.3), one, fewer, no_r, is_d, cond-true (q == u.0) w 0 (eq-eqb q u.0 last))
                        | inr more ↦ omega (arith, at_most_twice q k ne d.before B joined few behind wide, one, fewer, no_r, is_d, cond-false (q == u.0) w 0 (ne_eqb q u.0 more))
                      ]
                  | inr other ↦
                      let joined : P r ≡ (a ++ o ∷ []) ++ ([] ++ b) = split ∙ sym (append_assoc a (o ∷ []) b) in
                      let behind : (e : Message) → Contains b e → e.origin ≡ r → number o ≤ number e = λ e has own. from_o e (member_later o b e has) own in
                      let not_d = cond-false {A = ℕ} (q == d.item.origin) 1 0 (ne_eqb q d.item.origin other) in
                      elim (cases_eq q u.0) [
                        | inl last ↦ omega (arith, at_most_once q k ne (a ++ o ∷ []) [] joined (omega arith) behind (subst (λ v. entry (known_vector n r (P r) v) r < number o) (sym last) u.3), fewer, no_r, not_d, cond-true (q == u.0) w 0 (eq-eqb q u.0 last))
                        | inr more ↦ omega (arith, at_most_twice q k ne (a ++ o ∷ []) [] joined (omega arith) behind wide, fewer, no_r, not_d, cond-false (q == u.0) w 0 (ne_eqb q u.0 more))
                      ]
                ]
          ]

-- ---- the bound

few_of_more : (m w u : ℕ) → u + 3 * w ≤ suc (suc m) * (2 * w) → u ≤ (2 * m + 1) * w
few_of_more m w u most = grind arith

twice_less_three : (m : ℕ) → 2 * suc (suc m) - 3 ≡ 2 * m + 1
twice_less_three m = omega arith

few_by : (n w u : ℕ) → 1 ≤ w → u + 3 * w ≤ n * (2 * w) → u ≤ (2 * n - 3) * w
few_by zero w u wide most = absurd (omega (arith, most, wide))
few_by (suc zero) w u wide most = absurd (omega (arith, most, wide))
few_by (suc (suc m)) w u wide most = rw (twice_less_three m) (few_of_more m w u most)

below_of_more : (m w : ℕ) → (2 * m + 1) * w < 2 * suc m * w + 1
below_of_more m w = grind arith

-- which is fewer than their window
pub few_is_below_window : (n w : ℕ) → (2 * n - 3) * w < noop_window n w
few_is_below_window zero w = omega arith
few_is_below_window (suc zero) w = omega arith
few_is_below_window (suc (suc m)) w =
    let e : suc (suc m) - 1 ≡ suc m = omega arith in
    rw (twice_less_three m, e) (below_of_more m w)

module _ (n w r : ℕ) (P : ℕ → List Message) (are : AreShared n w P) (l : r < n) where
  -- At most so many own no-ops are unstable, and none in a store of one member.
  pub noops_are_few : 1 ≤ w → IsDueBefore r (P r) → unstable_noops n r (P r) r ≤ (2 * n - 3) * w
  noops_are_few wide due =
      let h = P r in
      let lies : Message → Bool = λ e. ((e.origin == r) && not (is_stable (stable_vector n r h) e)) && not (carries_operation e.op) in
      let counted : unstable_noops n r h r ≡ count_by lies h = unstable-count (λ e. not (carries_operation e.op)) n r h r in
      elim (cases_lt 0 (count_by lies h)) [
        | inr nothing ↦ omega (arith, counted, nothing)
        | inl some ↦
            let s = split_count lies h 0 some in
            let both = and_parts ((s.item.origin == r) && not (is_stable (stable_vector n r h) s.item)) (not (carries_operation s.item.op)) s.passes in
            let parts = and_parts (s.item.origin == r) (not (is_stable (stable_vector n r h) s.item)) both.0 in
            let own : s.item.origin ≡ r = eqb-true s.item.origin r parts.0 in
            let none = not-true (carries_operation s.item.op) both.1 in
            let others = due_tells r h due s.before s.later s.item s.whole own s.later [] (sym (append-nil s.later)) in
            let noops = count_by-le-count_by lies (own_noop r) s.later (λ e t.
            let two = and_parts ((e.origin == r) && not (is_stable (stable_vector n r h) e)) (not (carries_operation e.op)) t in
            and_from _ _ (and_parts (e.origin == r) (not (is_stable (stable_vector n r h) e)) two.0).0 two.1) in
            let split = ap (count_by lies) s.whole ∙ count_by-split lies s.before s.item s.later in
            let few = operations_are_few n w r P are l s.before s.later s.item s.whole own (not-true (is_stable (stable_vector n r h) s.item) parts.1) wide none (due s.before s.later s.item s.whole own none) in
            few_by n w (unstable_noops n r h r) wide (omega (arith, counted, split, s.counted, cond-true {A = ℕ} (lies s.item) 1 0 s.passes, noops, others, few))
      ]
