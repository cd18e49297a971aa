-- What a window of a history's unstable messages tells of a message that comes: its cause over the whole history.
use Rattle.std.proofs.Common.{◌≡◌, ◌≢◌, ℕ, ◌+◌, ◌<◌, Bool, true, false, not, ◌&&◌, ◌||◌, ◌==◌, nat_le, nat_lt, IsTrue, Option, Some, None, List, [], ◌∷◌, ◌++◌, length, length-append, map, refl, sym, ap, ◌∙◌, inl, inr, if◌then◌else◌, arith}
use Rattle.std.specs.Prelude.{is_none}
use Rattle.std.specs.List.{filter, count_by}
use Rattle.std.specs.Option.{option_map}
use Rattle.std.proofs.lemmas.Bool.{cases_eq, cases_lt, cond-true, cond-false, eqb-true, ltb-true, eq-eqb, ne_eqb, le-leb, lt-leb, and_parts, cases_Bool, false≢true, or_right}
use Rattle.std.proofs.lemmas.List.{same_lists}
use Rattle.std.proofs.lemmas.List.FromFn.{length-map-range_with_len, get_or-map-range_with_len}
use Rattle.std.proofs.lemmas.List.Elements.{filter_agree, filter-append}
use Rattle.std.proofs.lemmas.List.Sums.{length-filter, sum_by-cons}
use Rattle.op_base.specs.Message.{number, fits}
use Rattle.op_base.specs.Timestamp.{entry, zero_tag}
use Rattle.op_base.specs.declared.message.Message.{Message}
use Rattle.op_base.specs.declared.outcome.Crook.{Crook}
use Rattle.op_base.specs.declared.outcome.Crook.TheVariants.{Overrun, NoopOverrun}
use Rattle.causal_model.specs.Chapter.{is_chapter}
use Rattle.causal_model.specs.Counts.{members, counts, is_deliverable}
use Rattle.causal_model.specs.Crook.{first_some, first_below, tag_of, regress_of, unclosed_at, unclosed_of, overrun_of, noop_overrun_of, crook_of}
use Rattle.causal_model.specs.Stability.{last_tag, stable_vector, is_stable, carries_operation, unstable_messages, unstable_of, unstable_operations, unstable_noops, noop_window}
use Rattle.causal_model.proofs.Delivery.Crooks.{from_rises}
use Rattle.causal_model.proofs.Delivery.Timestamps.{entry-zero_tag}
use Rattle.causal_model.proofs.Delivery.Unclosed.{window_tells_unclosed, seen_before_is_closed, unstable_messages-push}
use Rattle.tag_window.specs.declared.held.Held.{Held}
use Rattle.tag_window.specs.Window.{Window, held_of, is_of_kind, held_count}
use Rattle.tag_window.specs.Queue.{tag_held}
use Rattle.tag_window.specs.Check.{unclosed_by, unclosed_in, count_after, overrun_in, noop_overrun_in, crook_by, crook_in}
use Rattle.tag_window.specs.History.{held_message, IsWindowOf}
use Rattle.tag_window.proofs.Sender.{unstable_of_sender}

-- ---- counts

-- those of a kind that are held, counted as messages
count_by-held : (noop : Bool) (ms : List Message) → count_by (is_of_kind noop) (map held_message ms) ≡ length (filter (λ m. is_of_kind noop (held_message m)) ms)
count_by-held noop ms = counted ms ∙ sym (length-filter (λ m. is_of_kind noop (held_message m)) ms) where
  counted : (es : List Message) → count_by (is_of_kind noop) (map held_message es) ≡ count_by (λ m. is_of_kind noop (held_message m)) es
  counted [] = refl
  counted (e ∷ es) =
      let one : Held → ℕ = λ h. if is_of_kind noop h then 1 else 0 in
      omega (arith, sum_by-cons one (held_message e) (map held_message es), sum_by-cons (λ m. one (held_message m)) e es, counted es)

not-not : (b : Bool) → not (not b) ≡ b
not-not true = refl
not-not false = refl

-- how many of a kind of a member are unstable
abbrev pub unstable_of_kind : Bool → ℕ → ℕ → List Message → ℕ → ℕ
unstable_of_kind noop n me ms x = if noop then unstable_noops n me ms x else unstable_operations n me ms x

pub kind-length : (noop : Bool) (n me : ℕ) (ms : List Message) (x : ℕ) → length (filter (λ m. is_of_kind noop (held_message m)) (unstable_of n me ms x)) ≡ unstable_of_kind noop n me ms x
kind-length true n me ms x = refl
kind-length false n me ms x = ap length (filter_agree (λ m. not (not (carries_operation m.op))) (λ m. carries_operation m.op) (λ m. not-not (carries_operation m.op)) (unstable_of n me ms x))

-- a window counts them
pub held_count-is : (noop : Bool) (n w me : ℕ) (ms : List Message) (window : Window) (x : ℕ) → x < n → IsWindowOf n w me ms window → held_count window x noop ≡ unstable_of_kind noop n me ms x
held_count-is noop n w me ms window x l of = ap (count_by (is_of_kind noop)) (of.holds x l) ∙ count_by-held noop (unstable_of n me ms x) ∙ kind-length noop n me ms x

-- ---- what is found by its number

-- among the messages of a member the one with a number is found as it is held
pub tag_of-held : (n x : ℕ) (ms : List Message) (s : ℕ) → tag_of n ms x s ≡ tag_held n x (map held_message (filter (λ m. m.origin == x) ms)) s
tag_of-held n x [] s = refl
tag_of-held n x (m ∷ ms) s =
    let rest = tag_of-held n x ms s in
    let others = map held_message (filter (λ e. e.origin == x) ms) in
    elim (cases_eq m.origin x) [
      | inl e ↦
          let same = eq-eqb m.origin x e in
          ap (λ b. if b && (number m == s) then m.tag else tag_of n ms x s) same ∙ ap (λ y. if entry m.tag y == s then m.tag else tag_of n ms x s) e ∙ ap (λ tag. if entry m.tag x == s then m.tag else tag) rest
          ∙ sym (ap (λ hs. tag_held n x (map held_message hs) s) (cond-true (m.origin == x) (m ∷ filter (λ e. e.origin == x) ms) (filter (λ e. e.origin == x) ms) same))
      | inr ne ↦
          let other = ne_eqb m.origin x ne in
          ap (λ b. if b && (number m == s) then m.tag else tag_of n ms x s) other ∙ rest
          ∙ sym (ap (λ hs. tag_held n x (map held_message hs) s) (cond-false (m.origin == x) (m ∷ filter (λ e. e.origin == x) ms) (filter (λ e. e.origin == x) ms) other))
    ]

-- among those above stable counts the one with a number is found where that is above
tag_of-unstable : (stable : List ℕ) (n x : ℕ) (ms : List Message) (s : ℕ) → tag_of n (filter (λ e. not (is_stable stable e)) ms) x s ≡ (if not (nat_le s (entry stable x)) then tag_of n ms x s else zero_tag n)
tag_of-unstable stable n x [] s = elim (not (nat_le s (entry stable x))) as (λ b. zero_tag n ≡ (if b then zero_tag n else zero_tag n)) [ true ↦ refl | false ↦ refl ]
tag_of-unstable stable n x (m ∷ ms) s =
    let rest = tag_of-unstable stable n x ms s in
    let up = not (nat_le s (entry stable x)) in
    let is : Bool = (m.origin == x) && (number m == s) in
    let unstable : Bool = not (is_stable stable m) in
    let alike : is ≡ true → unstable ≡ up = λ t.
    let both = and_parts (m.origin == x) (number m == s) t in
    (λ i. not (nat_le (eqb-true (number m) s both.1 i) (entry stable (eqb-true m.origin x both.0 i)))) in
    let others = tag_of n (filter (λ e. not (is_stable stable e)) ms) x s in
    let kept = filter (λ e. not (is_stable stable e)) ms in
    let first : tag_of n (if unstable then m ∷ kept else kept) x s ≡ (if unstable then (if is then m.tag else others) else others) =
    elim unstable as (λ b. tag_of n (if b then m ∷ kept else kept) x s ≡ (if b then (if is then m.tag else others) else others)) [ true ↦ refl | false ↦ refl ] in
    first ∙ moved is unstable up m.tag others (tag_of n ms x s) (zero_tag n) alike rest where
      moved : (is unstable up : Bool) (tag others all none : List ℕ) → (is ≡ true → unstable ≡ up) → others ≡ (if up then all else none)
          → (if unstable then (if is then tag else others) else others) ≡ (if up then (if is then tag else all) else none)
      moved false true up tag others all none alike rest = rest
      moved false false up tag others all none alike rest = rest
      moved true true true tag others all none alike rest = refl
      moved true false false tag others all none alike rest = rest
      moved true true false tag others all none alike rest = absurd (false≢true (sym (alike refl)))
      moved true false true tag others all none alike rest = absurd (false≢true (alike refl))

-- ---- closed or not, at one member

none_from : {X : Type 0} (o : Option X) → is_none o ≡ true → o ≡ None
none_from None t = refl
none_from (Some x) t = absurd (false≢true t)

either_none : (b : Bool) → ◌≡◌ {A = Option Crook} (if b then None else None) None
either_none true = refl
either_none false = refl

none_of_zeros : (n : ℕ) (m : Message) (x : ℕ) → unclosed_by n m x (zero_tag n) ≡ None
none_of_zeros n m x = ap (option_map _) (none_from (first_below n (zero_tag n) m.tag) (from_rises n (zero_tag n) m.tag (λ y l. omega (arith, entry-zero_tag n y))))

-- where its last message of a member is not held, it is closed there
pub closed_where_none : (n : ℕ) (window : Window) (m : Message) (last : List ℕ) (x : ℕ) → tag_held n x (held_of window x) (entry m.tag x) ≡ zero_tag n → unclosed_in n window m last x ≡ None
closed_where_none n window m last x zero =
    let skips : Bool = (x == m.origin) || nat_le (entry m.tag x) (entry last x) in
    ap (λ (o : Option Crook). if skips then None else o) (ap (unclosed_by n m x) zero ∙ none_of_zeros n m x) ∙ either_none skips

-- a message that is closed at a member after all is closed there after the unstable ones
closed_among_unstable : (stable : List ℕ) (n x : ℕ) (ms : List Message) (m : Message) → unclosed_at n ms m x ≡ None → unclosed_at n (filter (λ e. not (is_stable stable e)) ms) m x ≡ None
closed_among_unstable stable n x ms m closed =
    let s = entry m.tag x in
    let skips : Bool = (x == m.origin) || (s == 0) in
    ap (λ tag. if skips then None else unclosed_by n m x tag) (tag_of-unstable stable n x ms s)
    ∙ elim (cases_Bool (not (nat_le s (entry stable x)))) [
      | inl up ↦ ap (λ b. if skips then None else unclosed_by n m x (if b then tag_of n ms x s else zero_tag n)) up ∙ closed
      | inr low ↦ ap (λ b. if skips then None else unclosed_by n m x (if b then tag_of n ms x s else zero_tag n)) low ∙ ap (λ (o : Option Crook). if skips then None else o) (none_of_zeros n m x) ∙ either_none skips
    ]

module _ (n w me : ℕ) (h : List Message) (m : Message) (window : Window) (t : IsTrue (is_chapter n w me h)) (of : IsWindowOf n w me h window) (none : regress_of n h m ≡ None) where
  -- a window tells of each member what the unstable messages tell
  unclosed_in_same : (x : ℕ) → x < n → unclosed_in n window m (last_tag n h m.origin) x ≡ unclosed_at n (unstable_messages n me h) m x
  unclosed_in_same x l =
      let s = entry m.tag x in
      let last = entry (last_tag n h m.origin) x in
      let told = unclosed_by n m x in
      elim (cases_lt last s) [
        | inl new ↦
            let fresh : nat_le s last ≡ false = lt-leb s last new in
            let some : (s == 0) ≡ false = ne_eqb s 0 (λ e. omega (arith, e, new)) in
            ap (λ b. if (x == m.origin) || b then None else told (tag_held n x (held_of window x) s)) (fresh ∙ sym some)
            ∙ ap (λ tag. if (x == m.origin) || (s == 0) then None else told tag) (ap (λ hs. tag_held n x hs s) (of.holds x l) ∙ sym (tag_of-held n x (unstable_messages n me h) s))
        | inr seen ↦
            cond-true ((x == m.origin) || nat_le s last) None (told (tag_held n x (held_of window x) s)) (or_right (x == m.origin) (nat_le s last) (le-leb s last seen))
            ∙ sym (closed_among_unstable (stable_vector n me h) n x h m (seen_before_is_closed n w me x h m l t none seen))
      ]

-- what is told of each member alike is told alike of all
each_map : {X : Type 0} (n : ℕ) (f g : ℕ → X) → ((x : ℕ) → x < n → f x ≡ g x) → map f (members n) ≡ map g (members n)
each_map n f g each = same_lists (map f (members n)) (map g (members n)) (length-map-range_with_len f 0 n ∙ sym (length-map-range_with_len g 0 n)) (λ x d l.
    let k : x < n = omega (arith, l, length-map-range_with_len f 0 n) in
    get_or-map-range_with_len f 0 n x x d k (omega arith) ∙ each x k ∙ sym (get_or-map-range_with_len g 0 n x x d k (omega arith)))

-- where the first is none, the others tell
others_tell : {X : Type 0} (r u u' o o' p p' : Option X) → (r ≡ None → (u ≡ u') × (o ≡ o') × (p ≡ p')) → first_some (r ∷ u ∷ o ∷ p ∷ []) ≡ first_some (r ∷ u' ∷ o' ∷ p' ∷ [])
others_tell (Some x) u u' o o' p p' same = refl
others_tell None u u' o o' p p' same = let all = same refl in λ i. first_some (all.0 i ∷ all.1 i ∷ all.2 i ∷ [])

-- ---- all four causes

pub fits_member : (n : ℕ) (m : Message) → IsTrue (fits n m) → m.origin < n
fits_member n m t = ltb-true m.origin n (and_parts (length m.tag == n) (nat_lt m.origin n) (and_parts (length m.tag == n && nat_lt m.origin n) (nat_lt 0 (number m)) t).0).1

module _ (n w me : ℕ) (h : List Message) (m : Message) (window : Window) (k : me < n) (t : IsTrue (is_chapter n w me h)) (of : IsWindowOf n w me h window) (fit : IsTrue (fits n m)) (deliverable : IsTrue (is_deliverable n (counts n h) m)) (other : m.origin ≢ me) (member : m.origin < n) where
  -- how many of a kind are unstable after it
  count_after-is : regress_of n h m ≡ None → (noop : Bool) → count_after noop window (stable_vector n me (h ++ m ∷ [])) m ≡ unstable_of_kind noop n me (h ++ m ∷ []) m.origin
  count_after-is none noop =
      let stable = stable_vector n me (h ++ m ∷ []) in
      let kind : Message → Bool = λ e. is_of_kind noop (held_message e) in
      let before = unstable_of n me h m.origin in
      let last = if not (is_stable stable m) then m ∷ [] else [] in
      let unstable : unstable_of n me (h ++ m ∷ []) m.origin ≡ before ++ last = unstable_of_sender n w me h m t other member (unstable_messages-push n w me h m k t fit deliverable none) in
      let split : length (filter kind (before ++ last)) ≡ length (filter kind before) + length (filter kind last) = ap length (filter-append kind before last) ∙ length-append (filter kind before) (filter kind last) in
      let one = one_more noop (not (is_stable stable m)) in
      omega (arith, held_count-is noop n w me h window m.origin member of, kind-length noop n me h m.origin, kind-length noop n me (h ++ m ∷ []) m.origin, ap (λ ms. length (filter kind ms)) unstable, split, one) where
        one_more : (b up : Bool) → length (filter (λ (e : Message). is_of_kind b (held_message e)) (if up then m ∷ [] else [])) ≡ (if is_of_kind b (held_message m) && up then 1 else 0)
        one_more b false = elim (is_of_kind b (held_message m)) as (λ c. ◌≡◌ {A = ℕ} 0 (if c && false then 1 else 0)) [ true ↦ refl | false ↦ refl ]
        one_more b true = elim (is_of_kind b (held_message m)) as (λ c. ◌≡◌ {A = ℕ} (length (if c then m ∷ [] else [])) (if c && true then 1 else 0)) [ true ↦ refl | false ↦ refl ]

  -- a window tells the cause over the whole history
  pub crook_told : crook_in window m (last_tag n h m.origin) (stable_vector n me (h ++ m ∷ [])) ≡ crook_of n w me h m
  crook_told =
      let stable = stable_vector n me (h ++ m ∷ []) in
      (λ i. crook_by (of.entries i) (of.bound i) window m (last_tag n h m.origin) stable)
      ∙ others_tell (regress_of n h m) (first_some (map (unclosed_in n window m (last_tag n h m.origin)) (members n))) (unclosed_of n h m) (overrun_in w window m stable) (overrun_of n w me h m) (noop_overrun_in (noop_window n w) window m stable) (noop_overrun_of n w me h m) (λ none. (
        ap first_some (each_map n (unclosed_in n window m (last_tag n h m.origin)) (unclosed_at n (unstable_messages n me h) m) (unclosed_in_same n w me h m window t of none)) ∙ sym (window_tells_unclosed n w me h m k t fit deliverable other none),
        ap (λ c. if nat_lt w c then Some (Overrun c) else None) (count_after-is none false),
        ap (λ c. if nat_lt (noop_window n w) c then Some (NoopOverrun c) else None) (count_after-is none true),
      ))
