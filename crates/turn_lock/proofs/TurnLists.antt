-- Lists of turns: those of one number, and fronts of a list.
use Rattle.std.proofs.Common.{◌≡◌, ◌≢◌, ◌⊎◌, ℕ, suc, ◌<◌, ◌≤◌, Bool, true, false, cond, eqb, eq-eqb, ne_eqb, List, [], ◌∷◌, ◌++◌, length, sym, refl, ap, ◌∙◌, ⊎_elim, arith, nat_lt, append_assoc, subst}
use Rattle.std.proofs.lemmas.Bool.Decides.{nat_tests}
use Rattle.std.specs.List.Sorted.{IsPermutation}
use Rattle.std.proofs.lemmas.List.Sorted.{IsPermutation-refl, IsPermutation-sym, IsPermutation-trans, IsPermutation-cons, IsPermutation-middle}
use Rattle.turn_lock.specs.declared.view.TurnEntry.{TurnEntry}
use Rattle.turn_lock.specs.Turns.{StartsWith, longer, turn, turns_of}

module _ {E : Type 0} where
  picks : (c : Bool) (t : TurnEntry E) (l a b : List (TurnEntry E)) → l ≡ a ++ b → cond c (t ∷ l) l ≡ cond c (t ∷ a) a ++ b
  picks true t l a b e = ap (λ y. t ∷ y) e
  picks false t l a b e = e

  pub turns_of-append : (k : ℕ) (a b : List (TurnEntry E)) → turns_of k (a ++ b) ≡ turns_of k a ++ turns_of k b
  turns_of-append k [] b = refl
  turns_of-append k (t ∷ ts) b = picks (eqb t.by k) t (turns_of k (ts ++ b)) (turns_of k ts) (turns_of k b) (turns_of-append k ts b)

  keeps_own : (n : ℕ) (t : TurnEntry E) (l : List (TurnEntry E)) (c : Bool) → eqb t.by n ≡ c → turns_of n l ≡ l → turns_of n (cond c (t ∷ l) l) ≡ cond c (t ∷ l) l
  keeps_own n t l true is e = ap (λ b. cond b (t ∷ turns_of n l) (turns_of n l)) is ∙ ap (λ y. t ∷ y) e
  keeps_own n t l false is e = e

  pub turns_of-same : (n : ℕ) (l : List (TurnEntry E)) → turns_of n (turns_of n l) ≡ turns_of n l
  turns_of-same n [] = refl
  turns_of-same n (t ∷ ts) = keeps_own n t (turns_of n ts) (eqb t.by n) refl (turns_of-same n ts)

  drops_own : (k n : ℕ) → k ≢ n → (t : TurnEntry E) (l : List (TurnEntry E)) (c : Bool) → eqb t.by n ≡ c → turns_of k l ≡ [] → turns_of k (cond c (t ∷ l) l) ≡ []
  drops_own k n ne t l true is e = let same : t.by ≡ n = grind (arith, nat_tests) in ap (λ b. cond b (t ∷ turns_of k l) (turns_of k l)) (ne_eqb t.by k (λ q. ne (sym q ∙ same))) ∙ e
  drops_own k n ne t l false is e = e

  pub turns_of-other : (k n : ℕ) → k ≢ n → (l : List (TurnEntry E)) → turns_of k (turns_of n l) ≡ []
  turns_of-other k n ne [] = refl
  turns_of-other k n ne (t ∷ ts) = drops_own k n ne t (turns_of n ts) (eqb t.by n) refl (turns_of-other k n ne ts)

  -- turns that are all of the pass n
  abbrev pub Mine : ℕ → List (TurnEntry E) → Type 0
  Mine n turns = (turns_of n turns ≡ turns) × ((k : ℕ) → k ≢ n → turns_of k turns ≡ [])

  pub one_turn : (n : ℕ) (e : E) → Mine n (turn n e ∷ [])
  one_turn n e = (ap (λ b. cond b (turn n e ∷ []) []) (eq-eqb n n refl), λ k other. ap (λ b. cond b (turn n e ∷ []) []) (ne_eqb n k (λ q. other (sym q))))

  -- one turn more of the number
  pub one_more : (n : ℕ) (e : E) (seen own : List (TurnEntry E)) → turns_of n seen ≡ own → turns_of n (seen ++ turn n e ∷ []) ≡ own ++ turn n e ∷ []
  one_more n e seen own is = turns_of-append n seen (turn n e ∷ []) ∙ (λ i. is i ++ (one_turn n e).0 i)

  none_left : (l : List (TurnEntry E)) → length l ≤ 0 → l ≡ []
  none_left [] h = refl
  none_left (x ∷ xs) h = absurd (omega arith)

  pub prefix_whole : (log seen : List (TurnEntry E)) → StartsWith log seen → length log ≤ length seen → seen ≡ log
  prefix_whole log [] p le = sym (none_left log le)
  prefix_whole log (y ∷ ys) p le = let n : length log ≡ suc (length (ys ++ p.0)) = ap length p.1 in ap (λ z. y ∷ z) (prefix_whole (ys ++ p.0) ys (p.0, refl) (omega arith)) ∙ sym p.1

  pub prefix_le : (log seen : List (TurnEntry E)) → StartsWith log seen → length seen ≤ length log
  prefix_le log [] p = omega arith
  prefix_le log (y ∷ ys) p = let n : length log ≡ suc (length (ys ++ p.0)) = ap length p.1 in let q = prefix_le (ys ++ p.0) ys (p.0, refl) in omega arith

  pub longer_begins : (log a b : List (TurnEntry E)) → StartsWith log a → StartsWith log b → StartsWith log (longer a b)
  longer_begins log a b p q = pick (nat_lt (length a) (length b))
    where
      pick : (c : Bool) → StartsWith log (cond c b a)
      pick true = q
      pick false = p

  pub longer_whole : (log a b : List (TurnEntry E)) → StartsWith log a → StartsWith log b → (a ≡ log) ⊎ (b ≡ log) → longer a b ≡ log
  longer_whole log a b p q t = let x = prefix_le log a p in let y = prefix_le log b q in pick (nat_lt (length a) (length b)) refl
    where
      pick : (c : Bool) → nat_lt (length a) (length b) ≡ c → cond c b a ≡ log
      pick true is = let lt : length a < length b = grind (arith, nat_tests) in
          ⊎_elim (λ e. let n : length a ≡ length log = ap length e in let y = prefix_le log b q in absurd (omega arith)) (λ e. e) t
      pick false is = let ge : length b ≤ length a = grind (arith, nat_tests) in
          ⊎_elim (λ e. e) (λ e. let n : length b ≡ length log = ap length e in prefix_whole log a p (omega arith)) t

  -- a longer list begins with what the list began with
  pub fronts : (log seen more : List (TurnEntry E)) → StartsWith log seen → StartsWith (log ++ more) seen
  fronts log seen more p = (p.0 ++ more, ap (λ l. l ++ more) p.1 ∙ append_assoc seen p.0 more)

  same_head : (a b : TurnEntry E) (xs ys : List (TurnEntry E)) → a ∷ xs ≡ b ∷ ys → a ≡ b
  same_head a b xs ys e = ap head e
    where
      head : List (TurnEntry E) → TurnEntry E
      head [] = a
      head (z ∷ zs) = z

  same_tail : (a b : TurnEntry E) (xs ys : List (TurnEntry E)) → a ∷ xs ≡ b ∷ ys → xs ≡ ys
  same_tail a b xs ys e = ap tail e
    where
      tail : List (TurnEntry E) → List (TurnEntry E)
      tail [] = []
      tail (z ∷ zs) = zs

  some_turn : (t : TurnEntry E) (ts : List (TurnEntry E)) → t ∷ ts ≢ []
  some_turn t ts e = let n : suc (length ts) ≡ 0 = ap length e in absurd (omega arith)

  -- the turns of a number in a list with one turn in front, which is of the number or not
  with_own : (n : ℕ) (t : TurnEntry E) (ts : List (TurnEntry E)) → eqb t.by n ≡ true → turns_of n (t ∷ ts) ≡ t ∷ turns_of n ts
  with_own n t ts is = ap (λ b. cond b (t ∷ turns_of n ts) (turns_of n ts)) is

  with_other : (n : ℕ) (t : TurnEntry E) (ts : List (TurnEntry E)) → eqb t.by n ≡ false → turns_of n (t ∷ ts) ≡ turns_of n ts
  with_other n t ts is = ap (λ b. cond b (t ∷ turns_of n ts) (turns_of n ts)) is

  -- where the turns of a turn's number begin with it, the list has it behind turns of other numbers
  at_first : (t : TurnEntry E) (rest ys : List (TurnEntry E)) → turns_of t.by ys ≡ t ∷ rest → (front back : List (TurnEntry E)) × (ys ≡ front ++ t ∷ back) × (turns_of t.by front ≡ [])
  at_first t rest [] e = absurd (some_turn t rest (sym e))
  at_first t rest (y ∷ ys) e = pick (eqb y.by t.by) refl (λ q. at_first t rest ys q)
    where
      pick : (b : Bool) → eqb y.by t.by ≡ b → (turns_of t.by ys ≡ t ∷ rest → (front back : List (TurnEntry E)) × (ys ≡ front ++ t ∷ back) × (turns_of t.by front ≡ []))
          → (front back : List (TurnEntry E)) × (y ∷ ys ≡ front ++ t ∷ back) × (turns_of t.by front ≡ [])
      pick true is _ = ([], ys, ap (λ z. z ∷ ys) (same_head y t (turns_of t.by ys) rest (sym (with_own t.by y ys is) ∙ e)), refl)
      pick false is behind = let later = behind (sym (with_other t.by y ys is) ∙ e) in
          (y ∷ later.0, later.1, ap (λ l. y ∷ l) later.2, with_other t.by y later.0 is ∙ later.3)

  -- two lists with the same turns of each number have them still without a turn that is the first of its number in both
  without : (t : TurnEntry E) (ts front back : List (TurnEntry E)) → turns_of t.by front ≡ [] → (n : ℕ) → turns_of n (t ∷ ts) ≡ turns_of n (front ++ t ∷ back) → turns_of n ts ≡ turns_of n (front ++ back)
  without t ts front back none n same = pick (eqb t.by n) refl
    where
      pick : (b : Bool) → eqb t.by n ≡ b → turns_of n ts ≡ turns_of n (front ++ back)
      pick true is = let this : t.by ≡ n = grind (arith, nat_tests) in let nothing : turns_of n front ≡ [] = ap (λ k. turns_of k front) (sym this) ∙ none in
          same_tail t t (turns_of n ts) (turns_of n back) (sym (with_own n t ts is) ∙ (same ∙ (turns_of-append n front (t ∷ back) ∙ (λ i. nothing i ++ with_own n t back is i))))
          ∙ sym (turns_of-append n front back ∙ ap (λ l. l ++ turns_of n back) nothing)
      pick false is = sym (with_other n t ts is) ∙ (same ∙ (turns_of-append n front (t ∷ back) ∙ (ap (λ l. turns_of n front ++ l) (with_other n t back is) ∙ sym (turns_of-append n front back))))

  no_turns : (ys : List (TurnEntry E)) → ((n : ℕ) → turns_of n ys ≡ []) → ys ≡ []
  no_turns [] h = refl
  no_turns (y ∷ ys) h = absurd (some_turn y (turns_of y.by ys) (sym (with_own y.by y ys (eq-eqb y.by y.by refl)) ∙ h y.by))

  -- two lists with the same turns of each number have the same turns
  pub rearranged : (xs ys : List (TurnEntry E)) → ((n : ℕ) → turns_of n xs ≡ turns_of n ys) → IsPermutation xs ys
  rearranged [] ys same = subst (IsPermutation []) (sym (no_turns ys (λ n. sym (same n)))) (IsPermutation-refl [])
  rearranged (t ∷ ts) ys same = let there = at_first t (turns_of t.by ts) ys (sym (same t.by) ∙ with_own t.by t ts (eq-eqb t.by t.by refl)) in
      let front = there.0 in let back = there.1 in
      let left : (n : ℕ) → turns_of n ts ≡ turns_of n (front ++ back) = λ n. without t ts front back there.3 n (same n ∙ ap (turns_of n) there.2) in
      subst (IsPermutation (t ∷ ts)) (sym there.2)
      (IsPermutation-trans (t ∷ ts) (t ∷ (front ++ back)) (front ++ t ∷ back) (IsPermutation-cons t ts (front ++ back) (rearranged ts (front ++ back) left)) (IsPermutation-sym (front ++ t ∷ back) (t ∷ (front ++ back)) (IsPermutation-middle front t back)))
