-- The order of messages on a history: no timestamp that a message has seen is above its own, and what it has seen
-- stands at an earlier place. So the order is transitive, whatever bytes came.
use Rattle.std.proofs.Common.{◌≡◌, ℕ, ◌+◌, ◌<◌, ◌≤◌, ◌&&◌, ◌==◌, true, false, not, nat_le, All, Contains, IsTrue, Some, List, [], ◌∷◌, ◌++◌, length, get_or, refl, sym, ap, subst, ◌∙◌, inl, inr, ◌⊎◌, arith}
use Rattle.std.specs.List.{slice_get}
use Rattle.std.proofs.Math.Seq.{get_or-append_seam}
use Rattle.std.proofs.lemmas.Bool.{and_parts, and_from, and_left, cases_eq, cases_lt, cond_both, cond-true, cond-false, eqb-true, eq-eqb, leb-true, le-leb, not_from_false, both_ways, false_from_ne_true}
use Rattle.std.proofs.lemmas.List.{get_or_append_left, length_push}
use Rattle.std.proofs.lemmas.List.Elements.{All-nil, All-push, All-contains}
use Rattle.std.proofs.lemmas.Option.{slice_get_within, get_or_from_slice_get, slice_get_read}
use Rattle.op_base.specs.Timestamp.{entry, zero_tag}
use Rattle.op_base.specs.Message.{number}
use Rattle.op_base.specs.declared.message.Message.{Message}
use Rattle.causal_model.specs.Counts.{count_of}
use Rattle.causal_model.specs.Stability.{last_tag}
use Rattle.causal_model.specs.Crook.{tag_of}
use Rattle.causal_model.specs.Chapter.{is_chapter}
use Rattle.causal_model.specs.Order.{same_id, happened_before}
use Rattle.causal_model.proofs.Delivery.Counts.{count_of-push_own, count_of-push_other}
use Rattle.causal_model.proofs.Delivery.Chapters.{IsNext, chapter_induction}
use Rattle.causal_model.proofs.Delivery.Stability.{last_tag-push, last_tag_grows}
use Rattle.causal_model.proofs.Delivery.Timestamps.{tag_of_has, entry-zero_tag, tags_are_counted}

-- ---- what the order says

-- that the sender of b had seen a, or a is b
abbrev pub Sees : Message → Message → Type 0
Sees b a = number a ≤ entry b.tag a.origin

pub same_id_itself : (m : Message) → same_id m m ≡ true
same_id_itself m = and_from (m.origin == m.origin) (number m == number m) (eq-eqb m.origin m.origin refl) (eq-eqb (number m) (number m) refl)

pub never_before_itself : (m : Message) → happened_before m m ≡ false
never_before_itself m = and_left (not (same_id m m)) (nat_le (number m) (number m)) (ap not (same_id_itself m))

pub Sees-from_happened : (a b : Message) → IsTrue (happened_before a b) → Sees b a
Sees-from_happened a b t = leb-true (number a) (entry b.tag a.origin) (and_parts (not (same_id a b)) (nat_le (number a) (entry b.tag a.origin)) t).1

-- ---- timestamps that are looked up

numbered : (m : Message) (x s : ℕ) → ((m.origin == x) && (number m == s)) ≡ true → entry m.tag x ≡ s
numbered m x s t =
    let both = and_parts (m.origin == x) (number m == s) t in
    ap (entry m.tag) (sym (eqb-true m.origin x both.0)) ∙ eqb-true (number m) s both.1

-- what is found by its number is found with one message more, and so is the new one
tag_of_is_numbered : (n : ℕ) (h : List Message) (m : Message) (x s : ℕ) → 0 < s → (entry (tag_of n h x s) x ≡ s) ⊎ (((m.origin == x) && (number m == s)) ≡ true) → entry (tag_of n (h ++ m ∷ []) x s) x ≡ s
tag_of_is_numbered n [] m x s some (inl e) = absurd (omega (arith, e, some, entry-zero_tag n x))
tag_of_is_numbered n [] m x s some (inr t) = ap (λ tag. entry tag x) (cond-true ((m.origin == x) && (number m == s)) m.tag (zero_tag n) t) ∙ numbered m x s t
tag_of_is_numbered n (y ∷ h) m x s some has =
    let test = (y.origin == x) && (number y == s) in
    cond_both test y.tag (tag_of n (h ++ m ∷ []) x s) (λ tag. entry tag x ≡ s) (numbered y x s) (λ f. tag_of_is_numbered n h m x s some (elim has [
      | inl e ↦ inl (ap (λ tag. entry tag x) (sym (cond-false test y.tag (tag_of n h x s) f)) ∙ e)
      | inr t ↦ inr t
    ]))

module _ (n w me : ℕ) where
  -- under each number up to the count a timestamp with that number is found
  pub each_number_is_there : (h : List Message) → IsTrue (is_chapter n w me h) → (x s : ℕ) → 0 < s → s ≤ count_of h x → entry (tag_of n h x s) x ≡ s
  each_number_is_there = chapter_induction n w me (λ g. (x s : ℕ) → 0 < s → s ≤ count_of g x → entry (tag_of n g x s) x ≡ s) (λ x s some low. absurd (omega (arith, some, low))) (λ g m _ next ih x s some low.
      tag_of_is_numbered n g m x s some (elim (cases_lt (count_of g x) s) [
        | inr old ↦ inl (ih x s some old)
        | inl past ↦ elim (cases_eq m.origin x) [
          | inl e ↦ inr (and_from _ _ (eq-eqb m.origin x e) (eq-eqb (number m) s (omega (arith, past, low, next.counted, ap (count_of g) e, count_of-push_own g m x e))))
          | inr ne ↦ absurd (omega (arith, past, low, count_of-push_other g m x ne))
        ]
      ]))

  -- no timestamp is above the last one of its origin
  pub last_tag_is_last : (h : List Message) → IsTrue (is_chapter n w me h) → All (λ b. (y : ℕ) → y < n → entry b.tag y ≤ entry (last_tag n h b.origin) y) h
  last_tag_is_last = chapter_induction n w me (λ g. All (λ b. (y : ℕ) → y < n → entry b.tag y ≤ entry (last_tag n g b.origin) y) g) (All-nil (λ b. (y : ℕ) → y < n → entry b.tag y ≤ entry (last_tag n [] b.origin) y)) (λ g m _ next ih.
      All-push (λ b. (y : ℕ) → y < n → entry b.tag y ≤ entry (last_tag n (g ++ m ∷ []) b.origin) y) g m (λ k d l y low. omega (arith, ih k d l y low, last_tag_grows n me g m next.straight.risen (get_or g k d).origin y low)) (λ y low.
      omega (arith, ap (λ tag. entry tag y) (last_tag-push n g m m.origin ∙ cond-true (m.origin == m.origin) m.tag (last_tag n g m.origin) (eq-eqb m.origin m.origin refl)))))

  pub each_fits : (h : List Message) → IsTrue (is_chapter n w me h) → All (λ m. (m.origin < n) × (0 < number m)) h
  each_fits = chapter_induction n w me (λ g. All (λ m. (m.origin < n) × (0 < number m)) g) (All-nil (λ m. (m.origin < n) × (0 < number m))) (λ g m _ next ih.
      All-push (λ b. (b.origin < n) × (0 < number b)) g m ih (next.member, omega (arith, next.counted)))

-- ---- what a message has seen is not above it

-- that no entry of b is above that of c, if c has seen b
abbrev pub IsBelow : ℕ → Message → Message → Type 0
IsBelow n b c = Sees c b → (y : ℕ) → y < n → entry b.tag y ≤ entry c.tag y

module _ (n w me : ℕ) (h : List Message) (m : Message) (t : IsTrue (is_chapter n w me h)) (next : IsNext n w me h m) where
  -- no message of a history has seen the next one
  pub next_is_unseen : All (λ e. entry e.tag m.origin < number m) h
  next_is_unseen k d l = omega (arith, next.counted, tags_are_counted n w me h t k d l m.origin)

  -- what the next one has seen is not above it: of its own origin by the last timestamp, of another by the last that it
  -- has seen
  seen_by_next : (b : Message) → b.origin < n → 0 < number b → All (IsBelow n b) h → ((y : ℕ) → y < n → entry b.tag y ≤ entry (last_tag n h b.origin) y) → IsBelow n b m
  seen_by_next b low some below last seen y l = elim (cases_eq b.origin m.origin) [
    | inl e ↦ omega (arith, last y l, next.straight.risen y l, ap (λ x. entry (last_tag n h x) y) e)
    | inr ne ↦
        let s : ℕ = entry m.tag b.origin in
        let there = each_number_is_there n w me h t b.origin s (omega (arith, seen, some)) (next.seen b.origin low ne) in
        let between = tag_of_has (λ tag. number b ≤ entry tag b.origin → entry b.tag y ≤ entry tag y) n h b.origin s (λ none. absurd (omega (arith, none, some, entry-zero_tag n b.origin))) (λ k d kl had. below k d kl had y l) (omega (arith, there, seen)) in
        omega (arith, between, next.straight.closed b.origin y low l ne (omega (arith, seen, some)))
  ]

module _ (n w me : ℕ) where
  pub seen_is_below : (h : List Message) → IsTrue (is_chapter n w me h) → All (λ b. All (IsBelow n b) h) h
  seen_is_below = chapter_induction n w me (λ g. All (λ b. All (IsBelow n b) g) g) (All-nil (λ b. All (IsBelow n b) [])) (λ g m t next ih.
      All-push (λ b. All (IsBelow n b) (g ++ m ∷ [])) g m (λ k d l.
      let b = get_or g k d in
      let fit = each_fits n w me g t k d l in
      All-push (IsBelow n b) g m (ih k d l) (seen_by_next n w me g m t next b fit.0 fit.1 (ih k d l) (last_tag_is_last n w me g t k d l)))
      (All-push (IsBelow n m) g m (λ k d l seen. absurd (omega (arith, seen, next_is_unseen n w me g m t next k d l))) (λ _ y _. omega arith)))

  -- ---- what a message has seen is not later

  unseen_before : (h : List Message) → IsTrue (is_chapter n w me h) → (i j : ℕ) (d : Message) → i < length h → j < i → entry (get_or h j d).tag (get_or h i d).origin < number (get_or h i d)
  unseen_before = chapter_induction n w me (λ g. (i j : ℕ) (d : Message) → i < length g → j < i → entry (get_or g j d).tag (get_or g i d).origin < number (get_or g i d)) (λ i j d l _. absurd (omega (arith, l))) (λ g m t next ih i j d l before.
      let within : i < length g + 1 = omega (arith, l, length_push g m) in
      let Unseen : Message → Message → Type 0 = λ b a. entry b.tag a.origin < number a in
      let old_j : j < length g = omega (arith, within, before) in
      subst (λ b. Unseen b (get_or (g ++ m ∷ []) i d)) (sym (get_or_append_left g (m ∷ []) d j old_j)) (elim (cases_lt i (length g)) [
        | inl old ↦ subst (Unseen (get_or g j d)) (sym (get_or_append_left g (m ∷ []) d i old)) (ih i j d old before)
        | inr last ↦
            let e : length g ≡ i = omega (arith, last, within) in
            subst (λ k. Unseen (get_or g j d) (get_or (g ++ m ∷ []) k d)) e (subst (Unseen (get_or g j d)) (sym (get_or-append_seam g m [] d)) (next_is_unseen n w me g m t next j d old_j))
      ]))

  pub seen_is_not_later : (h : List Message) (i j : ℕ) (a b : Message) → IsTrue (is_chapter n w me h) → slice_get h i ≡ Some a → slice_get h j ≡ Some b → Sees b a → i ≤ j
  seen_is_not_later h i j a b t at_i at_j seen = elim (cases_lt j i) [
    | inr early ↦ early
    | inl late ↦
        let unseen = unseen_before h t i j a (slice_get_within h i a at_i) late in
        let found : entry b.tag a.origin < number a = subst (λ z. entry z.tag a.origin < number a) (get_or_from_slice_get h j b a at_j) (subst (λ z. entry (get_or h j a).tag z.origin < number z) (get_or_from_slice_get h i a a at_i) unseen) in
        absurd (omega (arith, found, seen))
  ]

  -- ---- the order is forward and transitive

  pub order_goes_forward : (h : List Message) (i j : ℕ) (a b : Message) → IsTrue (is_chapter n w me h) → slice_get h i ≡ Some a → slice_get h j ≡ Some b → IsTrue (happened_before a b) → i < j
  order_goes_forward h i j a b t at_i at_j before =
      let early = seen_is_not_later h i j a b t at_i at_j (Sees-from_happened a b before) in
      elim (cases_eq i j) [
        | inl e ↦
            let same : a ≡ b = sym (get_or_from_slice_get h i a a at_i) ∙ ap (λ k. get_or h k a) e ∙ get_or_from_slice_get h j b a at_j in
            absurd (both_ways (happened_before a b) (ap (λ z. happened_before a z) (sym same) ∙ never_before_itself a) before)
        | inr ne ↦ omega (arith, early, ne)
      ]

  pub order_is_transitive : (h : List Message) (a b c : Message) → IsTrue (is_chapter n w me h) → Contains h a → Contains h b → Contains h c → IsTrue (happened_before a b) → IsTrue (happened_before b c) → IsTrue (happened_before a c)
  order_is_transitive h a b c t has_a has_b has_c ab bc =
      let place_b = slice_get_read h (length h) has_b.0 b refl has_b.1 (sym has_b.2) in
      let place_c = slice_get_read h (length h) has_c.0 c refl has_c.1 (sym has_c.2) in
      let forward = order_goes_forward h has_b.0 has_c.0 b c t place_b place_c bc in
      let seen = Sees-from_happened a b ab in
      let below = All-contains (IsBelow n b) h c (All-contains (λ z. All (IsBelow n z) h) h b (seen_is_below h t) has_b) has_c in
      let through = below (Sees-from_happened b c bc) a.origin (All-contains (λ z. (z.origin < n) × (0 < number z)) h a (each_fits n w me h t) has_a).0 in
      let other : same_id a c ≡ false = false_from_ne_true (same_id a c) (λ same.
      let both = and_parts (a.origin == c.origin) (number a == number c) same in
      let back : Sees b c = omega (arith, seen, ap (entry b.tag) (eqb-true a.origin c.origin both.0), eqb-true (number a) (number c) both.1) in
      omega (arith, forward, seen_is_not_later h has_c.0 has_b.0 c b t place_c place_b back)) in
      and_from _ _ (not_from_false (same_id a c) other) (le-leb (number a) (entry c.tag a.origin) (omega (arith, seen, through)))

  pub order_is_asymmetric : (h : List Message) (a b : Message) → IsTrue (is_chapter n w me h) → Contains h a → Contains h b → IsTrue (happened_before a b) → happened_before b a ≡ false
  order_is_asymmetric h a b t has_a has_b ab = false_from_ne_true (happened_before b a) (λ ba.
      both_ways (happened_before a a) (never_before_itself a) (order_is_transitive h a b a t has_a has_b has_a ab ba))
