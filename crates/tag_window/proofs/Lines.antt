-- The queues of all members, as what a window holds of each.
use Rattle.std.proofs.Common.{◌≡◌, ℕ, ◌+◌, ◌<◌, ◌≤◌, Bool, true, false, nat_lt, All, min, List, [], ◌∷◌, ◌++◌, length, map, set, get_or, replicate, zero, suc, refl, sym, ap, subst, ◌∙◌, inl, inr, arith, Option, Some, None}
use Rattle.std.specs.Prelude.{is_some}
use Rattle.std.specs.List.{filter, find, range_with_len}
use Rattle.std.proofs.lemmas.Bool.{cases_eq, cond-true, cond-false, lt-ltb, false≢true}
use Rattle.std.proofs.lemmas.List.{get_or-map, length-map, map-set, same_lists, set-get_or, get_or-set_same, get_or-set_other, length-set, get_or-replicate, length-replicate}
use Rattle.std.proofs.lemmas.List.Elements.{All-nil, All-push, All-weaker}
use Rattle.std.proofs.Math.Nat.{min-le_left, min-le_right}
use Rattle.causal_model.proofs.Cells.ItemMaps.{filter_all_of}
use Rattle.op_base.specs.Timestamp.{entry, zero_tag}
use Rattle.causal_model.specs.Counts.{members}
use Rattle.causal_model.specs.Crook.{first_some}
use Rattle.causal_model.specs.Stability.{noop_window}
use Rattle.tag_window.specs.declared.held.Held.{Held}
use Rattle.tag_window.specs.Queue.{Line, tag_held, left_of}
use Rattle.tag_window.specs.Queues.{AreQueues, AreFirsts}

-- what queues hold
abbrev pub held_by : List Line → List (List Held)
held_by lines = map (λ (q : Line). q.held) lines

-- what is held of a member is what its queue holds
pub held_by-at : (lines : List Line) (x : ℕ) (q : Line) → x < length lines → get_or (held_by lines) x [] ≡ (get_or lines x q).held
held_by-at lines x q l = get_or-map (λ (p : Line). p.held) lines x q [] l

-- a queue that took one more is the list with it at its end
pub held_by-push : (lines : List Line) (x : ℕ) (q new : Line) (h : Held) → x < length lines → q ≡ get_or lines x q → new ≡ record q { held = q.held ++ h ∷ [] }
    → held_by (set lines x new) ≡ set (held_by lines) x (get_or (held_by lines) x [] ++ h ∷ [])
held_by-push lines x q new h l at is =
    let same : new.held ≡ get_or (held_by lines) x [] ++ h ∷ [] = ap (λ (p : Line). p.held) is ∙ ap (λ (p : Line). p.held ++ h ∷ []) at ∙ ap (λ hs. hs ++ h ∷ []) (sym (held_by-at lines x q l)) in
    map-set (λ (p : Line). p.held) lines x new ∙ ap (set (held_by lines) x) same

-- what is not held in a member's queue is not held of the member
pub not_found : (w z : ℕ) (lines : List Line) (x : ℕ) (q : Line) (seq : ℕ) → AreQueues w z lines → x < length lines → q ≡ get_or lines x q → tag_held q.n q.origin q.held seq ≡ zero_tag q.n
    → tag_held (length (held_by lines)) x (get_or (held_by lines) x []) seq ≡ zero_tag (length (held_by lines))
not_found w z lines x q seq are l at none =
    let each = are.each x q l in
    let n : q.n ≡ length (held_by lines) = ap (λ (p : Line). p.n) at ∙ each.0 ∙ sym (length-map lines (λ (p : Line). p.held)) in
    let origin : q.origin ≡ x = ap (λ (p : Line). p.origin) at ∙ each.1 in
    let held : q.held ≡ get_or (held_by lines) x [] = ap (λ (p : Line). p.held) at ∙ sym (held_by-at lines x q l) in
    sym (λ i. tag_held (n i) (origin i) (held i) seq) ∙ none ∙ ap zero_tag n

-- queues that let go of the stable ones are the queues of a window
pub left_are_queues : (w z : ℕ) (stable : List ℕ) (old new : List Line) → AreQueues w z old → length new ≡ length old → ((x : ℕ) (q : Line) → x < length old → get_or new x q ≡ left_of stable (get_or old x q)) → AreQueues w z new
left_are_queues w z stable old new are same each = record {
  some = omega (arith, same, are.some);
  few = omega (arith, same, are.few);
  noops = are.noops ∙ ap (λ n. noop_window n w) (sym same);
  each = λ x q l.
      let k : x < length old = omega (arith, l, same) in
      let was = are.each x q k in
      let left = each x q k in
      (ap (λ (p : Line). p.n) left ∙ was.0 ∙ sym same, ap (λ (p : Line). p.origin) left ∙ was.1, ap (λ (p : Line). p.room) left ∙ was.2);
}

-- what they hold then
pub held_by-left : (w z : ℕ) (stable : List ℕ) (old new : List Line) → AreQueues w z old → length new ≡ length old → ((x : ℕ) (q : Line) → x < length old → get_or new x q ≡ left_of stable (get_or old x q))
    → (x : ℕ) → x < length (held_by old) → get_or (held_by new) x [] ≡ filter (λ h. nat_lt (entry stable x) (entry h.tag x)) (get_or (held_by old) x [])
held_by-left w z stable old new are same each x l =
    let q : Line = record { n = 0; origin = 0; room = 0; held = [] } in
    let k : x < length old = omega (arith, l, length-map old (λ (p : Line). p.held)) in
    held_by-at new x q (omega (arith, k, same)) ∙ ap (λ (p : Line). p.held) (each x q k)
    ∙ (λ i. filter (λ h. nat_lt (entry stable ((are.each x q k).1 i)) (entry h.tag ((are.each x q k).1 i))) (sym (held_by-at old x q k) i))

-- and so are those of which one changed what it holds
pub queues-set : (w z : ℕ) (lines : List Line) (x : ℕ) (q new : Line) → x < length lines → q ≡ get_or lines x q → new.n ≡ q.n → new.origin ≡ q.origin → new.room ≡ q.room → AreQueues w z lines → AreQueues w z (set lines x new)
queues-set w z lines x q new l at n origin room are =
    let same = length-set lines x new in record {
      some = omega (arith, same, are.some);
      few = omega (arith, same, are.few);
      noops = are.noops ∙ ap (λ k. noop_window k w) (sym same);
      each = λ y d k.
          let inside : y < length lines = omega (arith, k, same) in
          elim (cases_eq y x) [
            | inl e ↦
                let now : get_or (set lines x new) y d ≡ new = ap (λ i. get_or (set lines x new) i d) e ∙ get_or-set_same lines x new d l in
                let was = are.each x q l in
                (ap (λ (p : Line). p.n) now ∙ n ∙ ap (λ (p : Line). p.n) at ∙ was.0 ∙ sym same, ap (λ (p : Line). p.origin) now ∙ origin ∙ ap (λ (p : Line). p.origin) at ∙ was.1 ∙ sym e, ap (λ (p : Line). p.room) now ∙ room ∙ ap (λ (p : Line). p.room) at ∙ was.2)
            | inr ne ↦
                let stays = get_or-set_other lines x y new d ne in
                let was = are.each y d inside in
                (ap (λ (p : Line). p.n) stays ∙ was.0 ∙ sym same, ap (λ (p : Line). p.origin) stays ∙ was.1, ap (λ (p : Line). p.room) stays ∙ was.2)
          ];
    }

-- empty queues, one a member
pub empty_are_queues : (n w z room : ℕ) (lines : List Line) → 1 ≤ n → n ≤ 16 → z ≡ noop_window n w → room ≡ w + z → length lines ≡ n → ((x : ℕ) (q : Line) → x < n → get_or lines x q ≡ record { n = n; origin = x; room = room; held = [] }) → AreQueues w z lines
empty_are_queues n w z room lines some few noops is len each = record {
  some = omega (arith, some, len);
  few = omega (arith, few, len);
  noops = noops ∙ ap (λ k. noop_window k w) (sym len);
  each = λ x q l.
      let empty = each x q (omega (arith, l, len)) in
      (ap (λ (p : Line). p.n) empty ∙ sym len, ap (λ (p : Line). p.origin) empty, ap (λ (p : Line). p.room) empty ∙ is);
}

pub held_by-empty : (n room : ℕ) (lines : List Line) → length lines ≡ n → ((x : ℕ) (q : Line) → x < n → get_or lines x q ≡ record { n = n; origin = x; room = room; held = [] }) → held_by lines ≡ replicate n []
held_by-empty n room lines len each = same_lists (held_by lines) (replicate n []) (length-map lines (λ (p : Line). p.held) ∙ len ∙ sym (length-replicate n [])) (λ x d l.
    let q : Line = record { n = 0; origin = 0; room = 0; held = [] } in
    let k : x < n = omega (arith, l, length-map lines (λ (p : Line). p.held), len) in
    get_or-map (λ (p : Line). p.held) lines x q d (omega (arith, k, len)) ∙ ap (λ (p : Line). p.held) (each x q k) ∙ sym (get_or-replicate n x [] d k))

-- ---- a number for each member that is not above any number held of it

-- where it is above the stable count, nothing is stable
pub none_goes : (stable firsts : List ℕ) (x : ℕ) (held : List Held) → entry stable x < entry firsts x → All (λ h. entry firsts x ≤ entry h.tag x) held → filter (λ h. nat_lt (entry stable x) (entry h.tag x)) held ≡ held
none_goes stable firsts x held below lowest =
    filter_all_of (λ h. nat_lt (entry stable x) (entry h.tag x)) held
    (All-weaker (λ h. entry firsts x ≤ entry h.tag x) (λ h. nat_lt (entry stable x) (entry h.tag x) ≡ true) (λ h le. lt-ltb (entry stable x) (entry h.tag x) (omega (arith, le, below))) held lowest)

pub none_goes_of : (stable firsts : List ℕ) (lines : List Line) (x : ℕ) (q : Line) → (get_or lines x q).origin ≡ x → x < length lines → entry stable x < entry firsts x → AreFirsts firsts lines → set lines x (left_of stable (get_or lines x q)) ≡ lines
none_goes_of stable firsts lines x q origin l below are =
    let line = get_or lines x q in
    (λ i. set lines x (record line { held = filter (λ h. nat_lt (entry stable (origin i)) (entry h.tag (origin i))) line.held }))
    ∙ ap (λ held. set lines x (record line { held = held })) (none_goes stable firsts x line.held below (are.lowest x q l)) ∙ set-get_or lines x q

-- one queue that changes, and its number
pub firsts-set : (firsts : List ℕ) (lines : List Line) (x low : ℕ) (new : Line) → x < length lines → All (λ h. low ≤ entry h.tag x) new.held → AreFirsts firsts lines → AreFirsts (set firsts x low) (set lines x new)
firsts-set firsts lines x low new l lowest are = record {
  entries = omega (arith, are.entries, length-set firsts x low, length-set lines x new);
  lowest = λ y d k.
      let inside : y < length lines = omega (arith, k, length-set lines x new) in
      elim (cases_eq y x) [
        | inl e ↦
            let at : get_or (set lines x new) y d ≡ new = ap (λ z. get_or (set lines x new) z d) e ∙ get_or-set_same lines x new d l in
            let number : entry (set firsts x low) y ≡ low = ap (entry (set firsts x low)) e ∙ get_or-set_same firsts x low 0 (omega (arith, l, are.entries)) in
            subst (λ (q : Line). All (λ h. entry (set firsts x low) y ≤ entry h.tag y) q.held) (sym at)
            (All-weaker (λ h. low ≤ entry h.tag x) (λ h. entry (set firsts x low) y ≤ entry h.tag y) (λ h le. omega (arith, le, number, ap (entry h.tag) e)) new.held lowest)
        | inr ne ↦
            subst (λ (q : Line). All (λ h. entry (set firsts x low) y ≤ entry h.tag y) q.held) (sym (get_or-set_other lines x y new d ne))
            (All-weaker (λ h. entry firsts y ≤ entry h.tag y) (λ h. entry (set firsts x low) y ≤ entry h.tag y) (λ h le. omega (arith, le, get_or-set_other firsts x y low 0 ne)) (get_or lines y d).held (are.lowest y d inside))
      ];
}

-- one that takes one more
pub firsts-push : (firsts : List ℕ) (lines : List Line) (x low : ℕ) (q new : Line) (h : Held) → x < length lines → q ≡ get_or lines x q → new ≡ record q { held = q.held ++ h ∷ [] } → low ≡ min (entry firsts x) (entry h.tag x) → AreFirsts firsts lines
    → AreFirsts (set firsts x low) (set lines x new)
firsts-push firsts lines x low q new h l at is least are =
    let first : low ≤ entry firsts x = omega (arith, least, min-le_left (entry firsts x) (entry h.tag x)) in
    let last : low ≤ entry h.tag x = omega (arith, least, min-le_right (entry firsts x) (entry h.tag x)) in
    let lowest : All (λ e. entry firsts x ≤ entry e.tag x) q.held = subst (λ (p : Line). All (λ e. entry firsts x ≤ entry e.tag x) p.held) (sym at) (are.lowest x q l) in
    firsts-set firsts lines x low new l
    (subst (λ (p : Line). All (λ e. low ≤ entry e.tag x) p.held) (sym is) (All-push (λ e. low ≤ entry e.tag x) q.held h (All-weaker (λ e. entry firsts x ≤ entry e.tag x) (λ e. low ≤ entry e.tag x) (λ e le. omega (arith, le, first)) q.held lowest) last))
    are

-- zeros, where nothing is held
pub zeros_are_firsts : (n room : ℕ) (lines : List Line) → length lines ≡ n → ((x : ℕ) (q : Line) → x < n → get_or lines x q ≡ record { n = n; origin = x; room = room; held = [] }) → AreFirsts (zero_tag n) lines
zeros_are_firsts n room lines len each = record {
  entries = length-replicate n 0 ∙ sym len;
  lowest = λ x q l.
      subst (λ (p : Line). All (λ h. entry (zero_tag n) x ≤ entry h.tag x) p.held) (sym (each x q (omega (arith, l, len)))) (All-nil (λ h. entry (zero_tag n) x ≤ entry h.tag x));
}

-- ---- the first member of whom something is told

module _ {X : Type 0} (f : ℕ → Option X) where
  first_in_range : (a len k : ℕ) → k < len → ((y : ℕ) → y < k → f (a + y) ≡ None) → is_some (f (a + k)) ≡ true → first_some (map f (range_with_len a len)) ≡ f (a + k)
  first_in_range a zero k l before here = absurd (omega (arith, l))
  first_in_range a (suc len) zero l before here =
      let e : a + 0 ≡ a = omega arith in
      subst (λ b. first_some (f a ∷ map f (range_with_len (a + 1) len)) ≡ f b) (sym e) (told (f a) (map f (range_with_len (a + 1) len)) (subst (λ b. is_some (f b) ≡ true) e here)) where
        told : (o : Option X) (os : List (Option X)) → is_some o ≡ true → first_some (o ∷ os) ≡ o
        told None os t = absurd (false≢true t)
        told (Some x) os t = refl
  first_in_range a (suc len) (suc k) l before here =
      let next : (y : ℕ) → a + 1 + y ≡ a + suc y = λ y. omega arith in
      let none : f a ≡ None = ap f (omega arith) ∙ before 0 (omega arith) in
      ap (λ o. first_some (o ∷ map f (range_with_len (a + 1) len))) none
      ∙ first_in_range (a + 1) len k (omega (arith, l)) (λ y b. ap f (next y) ∙ before (suc y) (omega (arith, b))) (ap (λ b. is_some (f b)) (next k) ∙ here) ∙ ap f (next k)

  none_in_range : (a len : ℕ) → ((y : ℕ) → y < len → f (a + y) ≡ None) → first_some (map f (range_with_len a len)) ≡ None
  none_in_range a zero each = refl
  none_in_range a (suc len) each =
      ap (λ o. first_some (o ∷ map f (range_with_len (a + 1) len))) (ap f (omega arith) ∙ each 0 (omega arith))
      ∙ none_in_range (a + 1) len (λ y l. ap f (omega arith) ∙ each (suc y) (omega (arith, l)))

  pub first_told : (n k : ℕ) → k < n → ((y : ℕ) → y < k → f y ≡ None) → is_some (f k) ≡ true → first_some (map f (members n)) ≡ f k
  first_told n k l before here =
      let e : 0 + k ≡ k = omega arith in
      first_in_range 0 n k l (λ y b. ap f (omega arith) ∙ before y b) (ap (λ b. is_some (f b)) e ∙ here) ∙ ap f e

  pub none_told : (n : ℕ) → ((y : ℕ) → y < n → f y ≡ None) → first_some (map f (members n)) ≡ None
  none_told n each = none_in_range 0 n (λ y l. ap f (omega arith) ∙ each y l)

module _ (p : ℕ → Bool) where
  find_in_range : (a len k : ℕ) → k < len → ((y : ℕ) → y < k → p (a + y) ≡ false) → p (a + k) ≡ true → find p (range_with_len a len) ≡ Some (a + k)
  find_in_range a zero k l before here = absurd (omega (arith, l))
  find_in_range a (suc len) zero l before here =
      let e : a + 0 ≡ a = omega arith in
      cond-true (p a) (Some a) (find p (range_with_len (a + 1) len)) (ap p (sym e) ∙ here) ∙ ap Some (sym e)
  find_in_range a (suc len) (suc k) l before here =
      let next : (y : ℕ) → a + 1 + y ≡ a + suc y = λ y. omega arith in
      cond-false (p a) (Some a) (find p (range_with_len (a + 1) len)) (ap p (omega arith) ∙ before 0 (omega arith))
      ∙ find_in_range (a + 1) len k (omega (arith, l)) (λ y b. ap p (next y) ∙ before (suc y) (omega (arith, b))) (ap p (next k) ∙ here) ∙ ap Some (next k)

  find_none_in_range : (a len : ℕ) → ((y : ℕ) → y < len → p (a + y) ≡ false) → find p (range_with_len a len) ≡ None
  find_none_in_range a zero each = refl
  find_none_in_range a (suc len) each =
      cond-false (p a) (Some a) (find p (range_with_len (a + 1) len)) (ap p (omega arith) ∙ each 0 (omega arith))
      ∙ find_none_in_range (a + 1) len (λ y l. ap p (omega arith) ∙ each (suc y) (omega (arith, l)))

  pub least_found : (n k : ℕ) → k < n → ((y : ℕ) → y < k → p y ≡ false) → p k ≡ true → find p (members n) ≡ Some k
  least_found n k l before here =
      let e : 0 + k ≡ k = omega arith in
      find_in_range 0 n k l (λ y b. ap p (omega arith) ∙ before y b) (ap p e ∙ here) ∙ ap Some e

  pub none_found : (n : ℕ) → ((y : ℕ) → y < n → p y ≡ false) → find p (members n) ≡ None
  none_found n each = find_none_in_range 0 n (λ y l. ap p (omega arith) ∙ each y l)
