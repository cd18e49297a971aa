-- Early messages: they stand in one order, and their numbers lie between a count and the two windows above it.
use Rattle.std.proofs.Common.{◌≡◌, ◌≢◌, ℕ, ◌+◌, ◌*◌, ◌<◌, ◌≤◌, Bool, true, false, ◌&&◌, ◌||◌, ◌==◌, ◌↔◌, nat_le, nat_lt, IsTrue, All, AllPairs, Contains, List, [], ◌∷◌, length, get_or, sym, ap, ◌∙◌, inl, inr, ◌⊎◌, Some, arith}
use Rattle.std.specs.List.{filter, list_all}
use Rattle.std.proofs.lemmas.Bool.{and_parts, and_from, or_cases, or_parts, or_from, or_left, or_right, cases_eq, cases_order, cond_both, eqb-true, eqb-false, eq-eqb, ne_eqb, ltb-true, ltb-false, lt-ltb, le-ltb, leb-true, leb-false, le-leb, lt-leb, false≢true}
use Rattle.std.proofs.lemmas.List.Elements.{All-nil, All-cons, All-head, All-tail, All-filter, All-weaker, filter_passes}
use Rattle.std.proofs.lemmas.List.Kept.{AllPairs-cons, AllPairs-filter}
use Rattle.op_base.specs.Timestamp.{entry}
use Rattle.op_base.specs.Message.{number, fits}
use Rattle.op_base.specs.declared.message.Message.{Message}
use Rattle.causal_model.specs.Counts.{members, is_deliverable}
use Rattle.causal_model.specs.Order.{same_id}
use Rattle.causal_model.specs.Stability.{noop_window}
use Rattle.causal_model.specs.Receiving.{is_old, is_far, next_early}
use Rattle.causal_model.specs.Early.{is_again, stands_before, put_early}
use Rattle.causal_model.specs.States.{AreEarly}
use Rattle.causal_model.proofs.Theory.Finds.{found}
use Rattle.causal_model.proofs.Theory.Lists.{each_member, from_each_member}
use Rattle.causal_model.proofs.Theory.Risings.{AllPairs-nil, AllPairs-head, AllPairs-tail, first_is_least, equal_sets, rising_numbers, classes_are_few}

-- that a stands before b
abbrev pub StandsBefore : Message → Message → Type 0
StandsBefore a b = IsTrue (stands_before a b)

pub standing : (a b : Message) → StandsBefore a b → (a.origin < b.origin) ⊎ ((a.origin ≡ b.origin) × (number a < number b))
standing a b t = elim (or_cases (nat_lt a.origin b.origin) ((a.origin == b.origin) && nat_lt (number a) (number b)) t) [
  | inl low ↦ inl (ltb-true a.origin b.origin low)
  | inr both ↦ let parts = and_parts (a.origin == b.origin) (nat_lt (number a) (number b)) both in inr (eqb-true a.origin b.origin parts.0, ltb-true (number a) (number b) parts.1)
]

stands_by_origin : (a b : Message) → a.origin < b.origin → StandsBefore a b
stands_by_origin a b l = or_left (nat_lt a.origin b.origin) ((a.origin == b.origin) && nat_lt (number a) (number b)) (lt-ltb a.origin b.origin l)

stands_by_number : (a b : Message) → a.origin ≡ b.origin → number a < number b → StandsBefore a b
stands_by_number a b e l = or_right (nat_lt a.origin b.origin) ((a.origin == b.origin) && nat_lt (number a) (number b)) (and_from (a.origin == b.origin) (nat_lt (number a) (number b)) (eq-eqb a.origin b.origin e) (lt-ltb (number a) (number b) l))

standing_is_asymmetric : (a b : Message) → StandsBefore a b → StandsBefore b a → ⊥
standing_is_asymmetric a b ab ba = elim (standing a b ab) [
  | inl low ↦ elim (standing b a ba) [ inl back ↦ omega (arith, low, back) | inr same ↦ omega (arith, low, same.0) ]
  | inr same ↦ elim (standing b a ba) [ inl back ↦ omega (arith, back, same.0) | inr also ↦ omega (arith, same.1, also.1) ]
]

standing_is_transitive : (a b c : Message) → StandsBefore a b → StandsBefore b c → StandsBefore a c
standing_is_transitive a b c ab bc = elim (standing a b ab) [
  | inl low ↦ elim (standing b c bc) [ inl on ↦ stands_by_origin a c (omega (arith, low, on)) | inr same ↦ stands_by_origin a c (omega (arith, low, same.0)) ]
  | inr same ↦ elim (standing b c bc) [ inl on ↦ stands_by_origin a c (omega (arith, on, same.0)) | inr also ↦ stands_by_number a c (same.0 ∙ also.0) (omega (arith, same.1, also.1)) ]
]

-- of two messages with different ids one stands before the other
one_stands_before : (a b : Message) → same_id a b ≡ false → stands_before a b ≡ false → StandsBefore b a
one_stands_before a b apart fails = elim (cases_order a.origin b.origin) [
  | inl e ↦ elim (cases_order (number a) (number b)) [
    | inl same ↦ absurd (false≢true (sym apart ∙ and_from (a.origin == b.origin) (number a == number b) (eq-eqb a.origin b.origin e) (eq-eqb (number a) (number b) same)))
    | inr (inl l) ↦ absurd (false≢true (sym fails ∙ stands_by_number a b e l))
    | inr (inr l) ↦ stands_by_number b a (sym e) l
  ]
  | inr (inl l) ↦ absurd (false≢true (sym fails ∙ stands_by_origin a b l))
  | inr (inr l) ↦ stands_by_origin b a l
]

-- ---- where one more message is put

pub All-put_early : (P : Message → Type 0) (m : Message) (early : List Message) → P m → All P early → All P (put_early m early)
All-put_early P m [] here each = All-cons P m [] here (All-nil P)
All-put_early P m (e ∷ early) here each =
    cond_both (stands_before m e) (m ∷ e ∷ early) (e ∷ put_early m early) (All P) (λ _. All-cons P m (e ∷ early) here each) (λ _. All-cons P e (put_early m early) (All-head P e early each) (All-put_early P m early here (All-tail P e early each)))

pub put_early_rises : (m : Message) (early : List Message) → is_again early m ≡ false → AllPairs StandsBefore early → AllPairs StandsBefore (put_early m early)
put_early_rises m [] new rise = AllPairs-cons StandsBefore m [] (All-nil (StandsBefore m)) (AllPairs-nil StandsBefore)
put_early_rises m (e ∷ early) new rise =
    let apart = or_parts (same_id m e) (is_again early m) new in
    let above = AllPairs-head StandsBefore e early rise in
    cond_both (stands_before m e) (m ∷ e ∷ early) (e ∷ put_early m early) (AllPairs StandsBefore)
    (λ before. AllPairs-cons StandsBefore m (e ∷ early) (All-cons (StandsBefore m) e early before (All-weaker (StandsBefore e) (StandsBefore m) (λ y. standing_is_transitive m e y before) early above)) rise)
    (λ fails. AllPairs-cons StandsBefore e (put_early m early) (All-put_early (StandsBefore e) m early (one_stands_before m e apart.0 fails) above) (put_early_rises m early apart.1 (AllPairs-tail StandsBefore e early rise)))

-- ---- what can be delivered, and what is neither old nor far

-- that a message is deliverable where so many were delivered, in parts
pub record IsDeliverable (n : ℕ) (counted : List ℕ) (m : Message) : Type 0 where
  pub next : number m ≡ entry counted m.origin + 1
  pub seen : (x : ℕ) → x < n → x ≢ m.origin → entry m.tag x ≤ entry counted x

pub IsDeliverable-from_test : (n : ℕ) (counted : List ℕ) (m : Message) → is_deliverable n counted m ≡ true → IsDeliverable n counted m
IsDeliverable-from_test n counted m t =
    let Seen : ℕ → Bool = λ x. (x == m.origin) || nat_le (entry m.tag x) (entry counted x) in
    let both = and_parts (number m == entry counted m.origin + 1) (list_all Seen (members n)) t in
    record {
      next = eqb-true (number m) (entry counted m.origin + 1) both.0;
      seen = λ x l ne. elim (or_cases (x == m.origin) (nat_le (entry m.tag x) (entry counted x)) (each_member Seen n both.1 x l)) [ inl same ↦ absurd (ne (eqb-true x m.origin same)) | inr low ↦ leb-true (entry m.tag x) (entry counted x) low ];
    }

pub test-from_IsDeliverable : (n : ℕ) (counted : List ℕ) (m : Message) → IsDeliverable n counted m → is_deliverable n counted m ≡ true
test-from_IsDeliverable n counted m d =
    let Seen : ℕ → Bool = λ x. (x == m.origin) || nat_le (entry m.tag x) (entry counted x) in
    and_from (number m == entry counted m.origin + 1) (list_all Seen (members n)) (eq-eqb (number m) (entry counted m.origin + 1) d.next) (from_each_member Seen n (λ x l. elim (cases_eq x m.origin) [
      | inl e ↦ or_left (x == m.origin) (nat_le (entry m.tag x) (entry counted x)) (eq-eqb x m.origin e)
      | inr ne ↦ or_right (x == m.origin) (nat_le (entry m.tag x) (entry counted x)) (le-leb (entry m.tag x) (entry counted x) (d.seen x l ne))
    ]))

-- that a message is not old, in parts
pub record IsNew (me : ℕ) (counted : List ℕ) (m : Message) : Type 0 where
  pub other : m.origin ≢ me
  pub ahead : entry counted m.origin < number m

pub IsNew-from_test : (me : ℕ) (counted : List ℕ) (m : Message) → is_old me counted m ≡ false → IsNew me counted m
IsNew-from_test me counted m f =
    let parts = or_parts (m.origin == me) (nat_le (number m) (entry counted m.origin)) f in
    record { other = eqb-false m.origin me parts.0; ahead = leb-false (number m) (entry counted m.origin) parts.1 }

pub test-from_IsNew : (me : ℕ) (counted : List ℕ) (m : Message) → IsNew me counted m → is_old me counted m ≡ false
test-from_IsNew me counted m new =
    or_from (m.origin == me) (nat_le (number m) (entry counted m.origin)) (ne_eqb m.origin me new.other) (lt-leb (number m) (entry counted m.origin) new.ahead)

-- that a message is not far, in parts
pub record IsNear (n w me : ℕ) (counted : List ℕ) (m : Message) : Type 0 where
  pub within : number m ≤ entry counted m.origin + (w + noop_window n w)
  pub sent : entry m.tag me ≤ entry counted me

pub IsNear-from_test : (n w me : ℕ) (counted : List ℕ) (m : Message) → is_far n w me counted m ≡ false → IsNear n w me counted m
IsNear-from_test n w me counted m f =
    let parts = or_parts (nat_lt (entry counted m.origin + (w + noop_window n w)) (number m)) (nat_lt (entry counted me) (entry m.tag me)) f in
    record { within = ltb-false (entry counted m.origin + (w + noop_window n w)) (number m) parts.0; sent = ltb-false (entry counted me) (entry m.tag me) parts.1 }

pub test-from_IsNear : (n w me : ℕ) (counted : List ℕ) (m : Message) → IsNear n w me counted m → is_far n w me counted m ≡ false
test-from_IsNear n w me counted m near =
    or_from (nat_lt (entry counted m.origin + (w + noop_window n w)) (number m)) (nat_lt (entry counted me) (entry m.tag me)) (le-ltb (entry counted m.origin + (w + noop_window n w)) (number m) near.within) (le-ltb (entry counted me) (entry m.tag me) near.sent)

pub fits_member : (n : ℕ) (m : Message) → IsTrue (fits n m) → m.origin < n
fits_member n m t =
    let formed = and_parts (length m.tag == n && nat_lt m.origin n) (nat_lt 0 (number m)) t in
    ltb-true m.origin n (and_parts (length m.tag == n) (nat_lt m.origin n) formed.0).1

-- ---- the laws of early messages

-- two that can be delivered and stand one before the other are of two members
deliverable_are_apart : (n : ℕ) (counted : List ℕ) (a b : Message) → IsTrue (is_deliverable n counted a) → IsTrue (is_deliverable n counted b) → StandsBefore a b → a.origin < b.origin
deliverable_are_apart n counted a b at bt before = elim (standing a b before) [
  | inl low ↦ low
  | inr same ↦ absurd (omega (arith, same.1, (IsDeliverable-from_test n counted a at).next, (IsDeliverable-from_test n counted b bt).next, ap (entry counted) same.0))
]

-- the first that can be delivered is of the lowest member that has one
pub next_is_of_the_lowest : (n w limit me : ℕ) (counted : List ℕ) (early : List Message) (m : Message) → AreEarly n w limit me counted early → next_early n counted early ≡ Some m
    → Contains early m × IsTrue (is_deliverable n counted m) × All (λ e. IsTrue (is_deliverable n counted e) → (e ≡ m) ⊎ (m.origin < e.origin)) early
next_is_of_the_lowest n w limit me counted early m are e =
    let test = is_deliverable n counted in
    let there = found test early m e in (
      there.0,
      there.1,
      All-weaker (λ y. IsTrue (test y) → (y ≡ m) ⊎ StandsBefore m y) (λ y. IsTrue (test y) → (y ≡ m) ⊎ (m.origin < y.origin)) (λ y either t. elim (either t) [
        | inl same ↦ inl same
        | inr before ↦ inr (deliverable_are_apart n counted m y there.1 t before)
      ]) early (first_is_least StandsBefore test early m are.rise e),
    )

-- which early messages there are says in what list
pub equal_sets_are_equal_lists : (xs ys : List Message) → AllPairs StandsBefore xs → AllPairs StandsBefore ys → ((m : Message) → (Contains xs m ↔ Contains ys m)) → xs ≡ ys
equal_sets_are_equal_lists = equal_sets StandsBefore standing_is_asymmetric

module _ (n w limit me : ℕ) (counted : List ℕ) (early : List Message) (are : AreEarly n w limit me counted early) where
  -- the numbers of one member's lie between its count and the two windows above it
  pub early_is_bounded : (x : ℕ) → length (filter (λ m. m.origin == x) early) ≤ w + noop_window n w
  early_is_bounded x =
      let of_x : Message → Bool = λ m. m.origin == x in
      let theirs = filter of_x early in
      let at_x : All (λ m. m.origin ≡ x) theirs = λ k d l. eqb-true (get_or theirs k d).origin x (filter_passes of_x early k d l) in
      let rise : AllPairs (λ a b. number a < number b) theirs = λ i j d below inside. elim (standing (get_or theirs i d) (get_or theirs j d) (AllPairs-filter StandsBefore of_x early are.rise i j d below inside)) [
        | inl low ↦ absurd (omega (arith, low, at_x i d (omega (arith, below, inside)), at_x j d inside))
        | inr same ↦ same.1
      ] in
      let above : All (λ m. entry counted x < number m) theirs = λ k d l. let m = get_or theirs k d in
      omega (arith, (IsNew-from_test me counted m (All-filter of_x (λ e. is_old me counted e ≡ false) early are.new k d l)).ahead, ap (entry counted) (at_x k d l)) in
      let below : All (λ m. number m ≤ entry counted x + (w + noop_window n w)) theirs = λ k d l. let m = get_or theirs k d in
      omega (arith, (IsNear-from_test n w me counted m (All-filter of_x (λ e. is_far n w me counted e ≡ false) early are.near k d l)).within, ap (entry counted) (at_x k d l)) in
      omega (arith, rising_numbers number (entry counted x) (entry counted x + (w + noop_window n w)) theirs rise above below (omega arith))

  -- of n members there are at most n times as many
  pub all_early_is_bounded : length early ≤ n * (w + noop_window n w)
  all_early_is_bounded = classes_are_few (λ m. m.origin) (w + noop_window n w) n early (All-weaker (λ m. IsTrue (fits n m)) (λ m. m.origin < n) (fits_member n) early are.fit) early_is_bounded
