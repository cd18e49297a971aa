-- The unstable messages tell what the last one that a message has seen had seen, as far as that can be above the message:
-- a stable one was seen by the sender before, and whatever that had seen the sender had too.
use Rattle.std.proofs.Common.{◌≡◌, ◌≢◌, ℕ, ◌<◌, ◌≤◌, All, Bool, true, false, not, ◌&&◌, ◌||◌, ◌==◌, nat_le, nat_lt, IsTrue, Option, Some, None, List, [], ◌∷◌, ◌++◌, length, map, get_or, refl, sym, ap, ◌∙◌, inl, inr, if◌then◌else◌, arith}
use Rattle.std.specs.Prelude.{is_none}
use Rattle.std.specs.List.{filter}
use Rattle.std.specs.Option.{option_map}
use Rattle.std.proofs.lemmas.Bool.{and_parts, cases_eq, cases_lt, cond_both, cond-true, cond-false, eqb-true, ne_eqb, le-leb, lt-leb, eq-eqb, cases_Bool, ltb-true, false≢true, not_from_true, not_from_false, false_from_ne_true, both_ways, or_right}
use Rattle.std.proofs.lemmas.List.{same_lists}
use Rattle.std.proofs.lemmas.List.Elements.{All-head, All-tail, All-weaker}
use Rattle.std.proofs.lemmas.List.FromFn.{length-map-range_with_len, get_or-map-range_with_len}
use Rattle.op_base.specs.Message.{number, fits}
use Rattle.op_base.specs.Timestamp.{entry, zero_tag}
use Rattle.op_base.specs.declared.message.Message.{Message}
use Rattle.op_base.specs.declared.outcome.Crook.{Crook}
use Rattle.op_base.specs.declared.outcome.Crook.TheVariants.{Unclosed}
use Rattle.causal_model.specs.Chapter.{is_chapter}
use Rattle.causal_model.specs.Counts.{members, counts, is_deliverable}
use Rattle.causal_model.specs.Crook.{first_some, first_below, tag_of, regress_of, unclosed_at, unclosed_of}
use Rattle.causal_model.specs.Stability.{last_tag, known_vector, stable_count, stable_vector, is_stable, unstable_messages}
use Rattle.causal_model.proofs.Delivery.Crooks.{from_rises, risen_from_none}
use Rattle.causal_model.proofs.Delivery.Logs.{kept-push}
use Rattle.causal_model.proofs.Delivery.Orders.{seen_is_below}
use Rattle.causal_model.proofs.Delivery.Settling.{stable_count-le-known, origins_are_members}
use Rattle.causal_model.proofs.Delivery.Stability.{entry-stable, stable_stays}
use Rattle.causal_model.proofs.Delivery.Timestamps.{last_tag_has, entry-zero_tag}

-- ---- what is looked up among some of the messages

-- that a message is the one of a member with a number
abbrev pub is_numbered : ℕ → ℕ → Message → Bool
is_numbered x s m = (m.origin == x) && (number m == s)

-- what holds of all zeros, and of the message with a number, holds of what is looked up by that
pub tag_of_has_numbered : (P : List ℕ → Type 0) (n : ℕ) (h : List Message) (x s : ℕ) → P (zero_tag n) → All (λ m. is_numbered x s m ≡ true → P m.tag) h → P (tag_of n h x s)
tag_of_has_numbered P n [] x s none each = none
tag_of_has_numbered P n (m ∷ h) x s none each =
    cond_both (is_numbered x s m) m.tag (tag_of n h x s) P (All-head (λ y. is_numbered x s y ≡ true → P y.tag) m h each) (λ _. tag_of_has_numbered P n h x s none (All-tail (λ y. is_numbered x s y ≡ true → P y.tag) m h each))

-- where those with the number pass a test, looking up among those that pass finds the same
tag_of_passing : (p : Message → Bool) (n : ℕ) (h : List Message) (x s : ℕ) → ((m : Message) → is_numbered x s m ≡ true → p m ≡ true) → tag_of n (filter p h) x s ≡ tag_of n h x s
tag_of_passing p n [] x s each = refl
tag_of_passing p n (m ∷ h) x s each =
    let rest = tag_of_passing p n h x s each in
    elim (cases_Bool (p m)) [
      | inl passed ↦ ap (λ ms. tag_of n ms x s) (cond-true (p m) (m ∷ filter p h) (filter p h) passed) ∙ ap (λ tag. if is_numbered x s m then m.tag else tag) rest
      | inr failed ↦
          let other = false_from_ne_true (is_numbered x s m) (λ t. both_ways (p m) failed (each m t)) in
          ap (λ ms. tag_of n ms x s) (cond-false (p m) (m ∷ filter p h) (filter p h) failed) ∙ rest ∙ sym (cond-false (is_numbered x s m) m.tag (tag_of n h x s) other)
    ]

-- where those with the number fail a test, looking up among those that pass finds nothing
tag_of_failing : (p : Message → Bool) (n : ℕ) (h : List Message) (x s : ℕ) → ((m : Message) → is_numbered x s m ≡ true → p m ≡ false) → tag_of n (filter p h) x s ≡ zero_tag n
tag_of_failing p n [] x s each = refl
tag_of_failing p n (m ∷ h) x s each =
    let rest = tag_of_failing p n h x s each in
    elim (cases_Bool (p m)) [
      | inl passed ↦
          let other = false_from_ne_true (is_numbered x s m) (λ t. both_ways (p m) (each m t) passed) in
          ap (λ ms. tag_of n ms x s) (cond-true (p m) (m ∷ filter p h) (filter p h) passed) ∙ cond-false (is_numbered x s m) m.tag (tag_of n (filter p h) x s) other ∙ rest
      | inr failed ↦ ap (λ ms. tag_of n ms x s) (cond-false (p m) (m ∷ filter p h) (filter p h) failed) ∙ rest
    ]

none_from : {X : Type 0} (o : Option X) → is_none o ≡ true → o ≡ None
none_from None t = refl
none_from (Some x) t = absurd (false≢true t)

fits_member : (n : ℕ) (m : Message) → IsTrue (fits n m) → m.origin < n
fits_member n m t = ltb-true m.origin n (and_parts (length m.tag == n) (nat_lt m.origin n) (and_parts (length m.tag == n && nat_lt m.origin n) (nat_lt 0 (number m)) t).0).1

-- ---- stable messages

module _ (n w me : ℕ) (h : List Message) (m : Message) (t : IsTrue (is_chapter n w me h)) (risen : (x : ℕ) → x < n → entry (last_tag n h m.origin) x ≤ entry m.tag x) where
  -- what the sender's last message had seen is not above this one: whatever that had seen the sender had seen then
  seen_is_closed : (x y : ℕ) → x < n → y < n → 0 < entry m.tag x → entry m.tag x ≤ entry (last_tag n h m.origin) x → entry (tag_of n h x (entry m.tag x)) y ≤ entry m.tag y
  seen_is_closed x y kx ky some had =
      let s = entry m.tag x in
      let last = last_tag n h m.origin in
      let below = tag_of_has_numbered (λ tag. entry tag y ≤ entry last y) n h x s (omega (arith, entry-zero_tag n y)) (λ k d l numbered.
      let b = get_or h k d in
      let both = and_parts (b.origin == x) (number b == s) numbered in
      last_tag_has (λ tag. number b ≤ entry tag b.origin → entry b.tag y ≤ entry tag y) n h m.origin (λ none. absurd (omega (arith, none, eqb-true (number b) s both.1, some, entry-zero_tag n b.origin))) (λ i c il seen. seen_is_below n w me h t k d l i c il seen y ky)
      (omega (arith, had, eqb-true (number b) s both.1, ap (entry last) (eqb-true b.origin x both.0)))) in
      omega (arith, below, risen y ky)

  -- why it is unclosed at a member of which it has seen a message, by the timestamp of that
  told_of : ℕ → List ℕ → Option Crook
  told_of x had = option_map (λ y. Unclosed x y (entry had y) (entry m.tag y)) (first_below n had m.tag)

  none_told : (x : ℕ) (had : List ℕ) → ((y : ℕ) → y < n → entry had y ≤ entry m.tag y) → told_of x had ≡ None
  unfolding told_of
  none_told x had low = ap (option_map (λ y. Unclosed x y (entry had y) (entry m.tag y))) (none_from (first_below n had m.tag) (from_rises n had m.tag low))

  seen_some : (x : ℕ) → ((x == m.origin) || (entry m.tag x == 0)) ≡ false → 0 < entry m.tag x
  seen_some x some = elim (cases_eq (entry m.tag x) 0) [ inl e ↦ absurd (both_ways ((x == m.origin) || (entry m.tag x == 0)) some (or_right (x == m.origin) (entry m.tag x == 0) (eq-eqb (entry m.tag x) 0 e))) | inr ne ↦ omega (arith, ne) ]

  -- so it is closed at each member of which it has seen no more than its sender's last message had
  closed_where_seen : (x : ℕ) → x < n → entry m.tag x ≤ entry (last_tag n h m.origin) x → unclosed_at n h m x ≡ None
  unfolding told_of
  closed_where_seen x kx had = elim (cases_Bool ((x == m.origin) || (entry m.tag x == 0))) [
    | inl none ↦ cond-true ((x == m.origin) || (entry m.tag x == 0)) None _ none
    | inr some ↦ cond-false ((x == m.origin) || (entry m.tag x == 0)) None _ some ∙ none_told x (tag_of n h x (entry m.tag x)) (λ y ky. seen_is_closed x y kx ky (seen_some x some) had)
  ]

module _ (n w me : ℕ) (h : List Message) (m : Message) (t : IsTrue (is_chapter n w me h)) (other : m.origin ≢ me) (member : m.origin < n) (risen : (x : ℕ) → x < n → entry (last_tag n h m.origin) x ≤ entry m.tag x) where
  -- a stable message is one that the sender had seen before
  stable_was_seen : (x s : ℕ) → s ≤ stable_count n me h x → s ≤ entry (last_tag n h m.origin) x
  stable_was_seen x s stable =
      let known : known_vector n me h m.origin ≡ last_tag n h m.origin = cond-false (m.origin == me) _ _ (ne_eqb m.origin me other) in
      omega (arith, stable, stable_count-le-known n me h x m.origin member, ap (λ tag. entry tag x) known)

  -- at each member the unstable messages tell what all do
  unclosed_at_same : (x : ℕ) → x < n → unclosed_at n h m x ≡ unclosed_at n (unstable_messages n me h) m x
  unfolding told_of
  unclosed_at_same x kx = elim (cases_Bool ((x == m.origin) || (entry m.tag x == 0))) [
    | inl none ↦ cond-true ((x == m.origin) || (entry m.tag x == 0)) None _ none ∙ sym (cond-true ((x == m.origin) || (entry m.tag x == 0)) None _ none)
    | inr some ↦ cond-false ((x == m.origin) || (entry m.tag x == 0)) None _ some ∙ told (seen_some n w me h m t risen x some) ∙ sym (cond-false ((x == m.origin) || (entry m.tag x == 0)) None _ some)
  ] where
    s : ℕ
    s = entry m.tag x

    unstable : Message → Bool
    unstable e = not (is_stable (stable_vector n me h) e)

    stable_alike : (e : Message) → is_numbered x s e ≡ true → is_stable (stable_vector n me h) e ≡ nat_le s (stable_count n me h x)
    stable_alike e numbered =
        let both = and_parts (e.origin == x) (number e == s) numbered in
        (λ i. nat_le (eqb-true (number e) s both.1 i) (entry (stable_vector n me h) (eqb-true e.origin x both.0 i))) ∙ ap (nat_le s) (entry-stable n me h x kx)

    told : 0 < s → told_of n w me h m t risen x (tag_of n h x s) ≡ told_of n w me h m t risen x (tag_of n (unstable_messages n me h) x s)
    told some = elim (cases_lt (stable_count n me h x) s) [
      | inl above ↦ ap (told_of n w me h m t risen x) (sym (tag_of_passing unstable n h x s (λ e numbered. not_from_false _ (stable_alike e numbered ∙ lt-leb s (stable_count n me h x) above))))
      | inr low ↦
          let gone = tag_of_failing unstable n h x s (λ e numbered. not_from_true _ (stable_alike e numbered ∙ le-leb s (stable_count n me h x) low)) in
          none_told n w me h m t risen x (tag_of n h x s) (λ y ky. seen_is_closed n w me h m t risen x y kx ky some (stable_was_seen x s low))
          ∙ sym (none_told n w me h m t risen x (zero_tag n) (λ y ky. omega (arith, entry-zero_tag n y))) ∙ ap (told_of n w me h m t risen x) (sym gone)
    ]

-- a list of something for each member is told by each
each_map : {X : Type 0} (n : ℕ) (f g : ℕ → X) → ((x : ℕ) → x < n → f x ≡ g x) → map f (members n) ≡ map g (members n)
each_map n f g each = same_lists (map f (members n)) (map g (members n)) (length-map-range_with_len f 0 n ∙ sym (length-map-range_with_len g 0 n)) (λ x d l.
    let k : x < n = omega (arith, l, length-map-range_with_len f 0 n) in
    get_or-map-range_with_len f 0 n x x d k (omega arith) ∙ each x k ∙ sym (get_or-map-range_with_len g 0 n x x d k (omega arith)))

-- where its sender's timestamps don't fall, the unstable messages tell whether a message is closed
pub window_tells_unclosed : (n w me : ℕ) (h : List Message) (m : Message) → me < n → IsTrue (is_chapter n w me h) → IsTrue (fits n m) → IsTrue (is_deliverable n (counts n h) m) → m.origin ≢ me → regress_of n h m ≡ None
    → unclosed_of n h m ≡ unclosed_of n (unstable_messages n me h) m
window_tells_unclosed n w me h m l t fit deliverable other none =
    ap first_some (each_map n (unclosed_at n h m) (unclosed_at n (unstable_messages n me h) m) (unclosed_at_same n w me h m t other (fits_member n m fit) (risen_from_none n h m none)))

-- with such a message the unstable ones are those of before and itself that aren't stable then
pub unstable_messages-push : (n w me : ℕ) (h : List Message) (m : Message) → me < n → IsTrue (is_chapter n w me h) → IsTrue (fits n m) → IsTrue (is_deliverable n (counts n h) m) → regress_of n h m ≡ None
    → unstable_messages n me (h ++ m ∷ []) ≡ filter (λ e. not (is_stable (stable_vector n me (h ++ m ∷ [])) e)) (unstable_messages n me h ++ m ∷ [])
unstable_messages-push n w me h m l t fit deliverable none =
    let was : Message → Bool = λ e. not (is_stable (stable_vector n me h) e) in
    let now : Message → Bool = λ e. not (is_stable (stable_vector n me (h ++ m ∷ [])) e) in
    kept-push now was now true h m (All-weaker (λ e. e.origin < n) (λ e. now e ≡ (was e && now e)) (λ e k. still (is_stable (stable_vector n me h) e) (is_stable (stable_vector n me (h ++ m ∷ [])) e) (stable_stays n me h m (risen_from_none n h m none) e k)) h (origins_are_members n w me h t)) refl where
      still : (s after : Bool) → (s ≡ true → after ≡ true) → not after ≡ (not s && not after)
      still false after stays = refl
      still true after stays = not_from_true after (stays refl)

-- a message is closed at each member of which it has seen no more than its sender's last message had
pub seen_before_is_closed : (n w me x : ℕ) (h : List Message) (m : Message) → x < n → IsTrue (is_chapter n w me h) → regress_of n h m ≡ None → entry m.tag x ≤ entry (last_tag n h m.origin) x → unclosed_at n h m x ≡ None
seen_before_is_closed n w me x h m l t none had = closed_where_seen n w me h m t (risen_from_none n h m none) x l had
