-- Rolls, and the items that were posted under one number.
use Rattle.std.proofs.Common.{◌≡◌, ◌≢◌, ℕ, ◌+◌, ◌<◌, ◌≤◌, Bool, true, false, cond, eqb, eq-eqb, ne_eqb, List, [], ◌∷◌, ◌++◌, length, sym, refl, ap, ◌∙◌, subst, length-append, arith, Some}
use Rattle.std.proofs.lemmas.Bool.Decides.{nat_tests}
use Rattle.std.proofs.lemmas.List.{append-nil, map-append, get_or_append_left}
use Rattle.std.proofs.lemmas.Option.{slice_get_within, get_or_from_slice_get}
use Rattle.std.proofs.lemmas.List.Elements.{filter-append, All-nil, All-cons, All-head, All-tail, All-contains, All-map, All-weaker}
use Rattle.std.specs.Prelude.{All, Contains, filter, slice_get}
use Rattle.mailboxes.specs.declared.seen.Line.{Line}
use Rattle.mailboxes.specs.declared.seen.Posted.{Posted}
use Rattle.mailboxes.specs.declared.seen.Seen.{Seen}
use Rattle.mailboxes.specs.Seen.{posted, line, items_of, items_by, numbers, enrolled, forked, newcomer, BeginsWith, HasItsLine, IsExact, IsNumbered, TookOnce, TookAll}
use Rattle.mailboxes.proofs.Fronts.{none_left}

pub All-front : {A : Type 0} (P : A → Type 0) (xs ys : List A) → All P (xs ++ ys) → All P xs
All-front P xs ys h k d lt = subst P (get_or_append_left xs ys d k lt) (h k d (omega (arith, length-append xs ys)))

module _ {T : Type 0} where
  pub items_by-append : (k : ℕ) (a b : List (Posted T)) → items_by k (a ++ b) ≡ items_by k a ++ items_by k b
  items_by-append k a b = ap items_of (filter-append (λ p. eqb p.by k) a b) ∙ map-append (λ (p : Posted T). p.item) (filter (λ p. eqb p.by k) a) (filter (λ p. eqb p.by k) b)

  one_item : (k : ℕ) (p : Posted T) (b : Bool) → eqb p.by k ≡ b → items_by k (p ∷ []) ≡ cond b (p.item ∷ []) []
  one_item k p true is = ap (λ c. items_of (cond c (p ∷ []) [])) is
  one_item k p false is = ap (λ c. items_of (cond c (p ∷ []) [])) is

  -- one item more, of the number or of another
  pub items_by_more : (k : ℕ) (x : T) (list : List (Posted T)) → items_by k (list ++ posted k x ∷ []) ≡ items_by k list ++ x ∷ []
  items_by_more k x list = items_by-append k list (posted k x ∷ []) ∙ ap (λ l. items_by k list ++ l) (one_item k (posted k x) true (eq-eqb k k refl))

  pub items_by_same : (k n : ℕ) (x : T) (list : List (Posted T)) → k ≢ n → items_by k (list ++ posted n x ∷ []) ≡ items_by k list
  items_by_same k n x list other =
      items_by-append k list (posted n x ∷ [])
      ∙ (ap (λ l. items_by k list ++ l) (one_item k (posted n x) false (ne_eqb n k (λ e. other (sym e)))) ∙ append-nil (items_by k list))

  -- no item has a number above the greatest
  pub items_by_none : (most k : ℕ) (list : List (Posted T)) → most < k → All (λ p. p.by ≤ most) list → items_by k list ≡ []
  items_by_none most k [] above h = refl
  items_by_none most k (p ∷ ps) above h =
      let low = All-head (λ (q : Posted T). q.by ≤ most) p ps h in
      let other : p.by ≢ k = λ e. omega arith in
      ap (λ b. items_of (cond b (p ∷ filter (λ q. eqb q.by k) ps) (filter (λ q. eqb q.by k) ps))) (ne_eqb p.by k other)
      ∙ items_by_none most k ps above (All-tail (λ (q : Posted T). q.by ≤ most) p ps h)

  -- a list between two that have the same items of a number has them too
  pub items_by_between : (k : ℕ) (l m s : List (Posted T)) (xs : List T) → BeginsWith l m → BeginsWith m s → items_by k l ≡ xs → items_by k s ≡ xs → items_by k m ≡ xs
  items_by_between k l m s xs p q whole front =
      let inner = ap (items_by k) q.1 ∙ items_by-append k s q.0 in
      let outer = ap (items_by k) p.1 ∙ items_by-append k m p.0 in
      let a = ap length inner ∙ length-append (items_by k s) (items_by k q.0) in
      let b = ap length outer ∙ length-append (items_by k m) (items_by k p.0) in
      let c = ap length whole in
      let d = ap length front in
      inner ∙ (ap (λ l. items_by k s ++ l) (none_left (items_by k q.0) (omega arith)) ∙ (append-nil (items_by k s) ∙ front))

  same_number : (k : ℕ) (x : T) (l : Line T) (b : Bool) → eqb l.by k ≡ b → (cond b (line k (l.items ++ x ∷ [])) l).by ≡ l.by
  same_number k x l true is = grind (arith, nat_tests)
  same_number k x l false is = refl

  pub numbers-enrolled : (k : ℕ) (x : T) (roll : List (Line T)) → numbers (enrolled k x roll) ≡ numbers roll
  numbers-enrolled k x [] = refl
  numbers-enrolled k x (l ∷ ls) = λ i. same_number k x l (eqb l.by k) refl i ∷ numbers-enrolled k x ls i

  -- its own number is on a pass's roll
  pub its_number : (s : Seen T) → HasItsLine s → Contains (numbers s.roll) s.number
  its_number s own = (0, slice_get_within (numbers s.roll) 0 s.number own, get_or_from_slice_get (numbers s.roll) 0 s.number s.number own)

  -- a roll begins with the same number where another is put behind it
  pub first-append : (a b : List (Line T)) (k : ℕ) → slice_get (numbers a) 0 ≡ Some k → slice_get (numbers (a ++ b)) 0 ≡ Some k
  first-append [] b k e = absurd (cc)
  first-append (l ∷ ls) b k e = e

  -- what holds of the number of each line holds of each number
  pub of_number : (P : ℕ → Type 0) (roll : List (Line T)) (k : ℕ) → All (λ l. P l.by) roll → Contains (numbers roll) k → P k
  of_number P roll k h there = All-contains P (numbers roll) k (All-map P (λ (l : Line T). l.by) roll h) there

  pub newcomer_is_exact : (s : Seen T) → All (λ p. p.by ≤ s.forks) s.posted → IsExact (newcomer s)
  newcomer_is_exact s low =
      All-cons (λ (l : Line T). items_by l.by s.posted ≡ l.items) (line (s.forks + 1) []) [] (items_by_none s.forks (s.forks + 1) s.posted (omega arith) low) (All-nil (λ (l : Line T). items_by l.by s.posted ≡ l.items))

  pub newcomer_is_numbered : (s : Seen T) → IsNumbered (newcomer s)
  newcomer_is_numbered s e = absurd (omega arith)

  pub newcomer_took_once : (s : Seen T) → TookOnce (newcomer s)
  newcomer_took_once s = record { apart = λ i j d l m. absurd (omega arith); below = All-nil (λ k. k < s.taken) }

  pub newcomer_took_all : (s : Seen T) → TookAll (newcomer s)
  newcomer_took_all s knows = absurd (let e = knows.0 in omega arith)

  pub forked_is_numbered : (s : Seen T) → IsNumbered s → IsNumbered (forked s)
  forked_is_numbered s low is = All-weaker (λ (p : Posted T). p.by ≤ s.forks) (λ (p : Posted T). p.by ≤ s.forks + 1) (λ p le. omega arith) s.posted (low is)

  -- where a pass that was just forked from is said to know all, it also did before
  pub forked_took_all : (s : Seen T) → TookAll s → TookAll (forked s)
  forked_took_all s whole knows k lt = whole (knows.0, λ i le. knows.1 i (omega arith)) k lt
