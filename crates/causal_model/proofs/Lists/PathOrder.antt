-- Where an element stands that is put behind another: behind those of higher rank that follow. An element is its path: the
-- ranks from its topmost ancestor down to itself.
use Rattle.std.proofs.Common.{◌≡◌, ◌⊎◌, ℕ, true, ◌&&◌, List, [], ◌∷◌, ◌++◌, refl, sym, ap, subst, ◌∙◌, inl, inr}
use Rattle.std.specs.Cmp.{IsTotalOrder}
use Rattle.std.specs.Cmp.Lexicographic.{texts_ties, bytes_decides}
use Rattle.std.specs.Ordering.{is_lt, is_eq, ordering_reverse}
use Rattle.std.specs.declared.cmp.Ordering.{Ordering}
use Rattle.std.specs.declared.cmp.Ordering.TheVariants.{Less, Equal, Greater}
use Rattle.std.proofs.lemmas.Bool.{and_parts, and_from, or_cases, or_left, or_right, false≢true}
use Rattle.std.proofs.lemmas.Cmp.{nat_list_cmp_total}
use Rattle.op_base.specs.Name.{same_text}
use Rattle.op_base.specs.Order.{text_cmp}
use Rattle.causal_model.specs.Elements.{comes_before}

-- an item is there, each passes, and each is before each later one, by cases on the list
abbrev pub In : {X : Type 0} → X → List X → Type 0
In x [] = ⊥
In x (y ∷ ys) = (y ≡ x) ⊎ In x ys

abbrev pub Each : {X : Type 0} → (X → Type 0) → List X → Type 0
Each P [] = Unit {0}
Each P (x ∷ xs) = P x × Each P xs

abbrev pub Sorted : {X : Type 0} → (X → X → Type 0) → List X → Type 0
Sorted R [] = Unit {0}
Sorted R (x ∷ xs) = Each (R x) xs × Sorted R xs

at : {X : Type 0} (P : X → Type 0) (xs : List X) (x : X) → Each P xs → In x xs → P x
at P [] x each there = absurd there
at P (y ∷ ys) x each (inl e) = subst P e each.0
at P (y ∷ ys) x each (inr there) = at P ys x each.1 there

in_left : {X : Type 0} (xs ys : List X) (x : X) → In x xs → In x (xs ++ ys)
in_left [] ys x there = absurd there
in_left (z ∷ zs) ys x (inl e) = inl e
in_left (z ∷ zs) ys x (inr there) = inr (in_left zs ys x there)

in_right : {X : Type 0} (xs ys : List X) (x : X) → In x ys → In x (xs ++ ys)
in_right [] ys x there = there
in_right (z ∷ zs) ys x there = inr (in_right zs ys x there)

in_either : {X : Type 0} (xs ys : List X) (x : X) → In x (xs ++ ys) → In x xs ⊎ In x ys
in_either [] ys x there = inr there
in_either (z ∷ zs) ys x (inl e) = inl (inl e)
in_either (z ∷ zs) ys x (inr there) = elim (in_either zs ys x there) [
  | inl left ↦ inl (inr left)
  | inr right ↦ inr right
]

-- in a sorted list what stands in the front is before what stands behind
across : {X : Type 0} (R : X → X → Type 0) (xs ys : List X) (x y : X) → Sorted R (xs ++ ys) → In x xs → In y ys → R x y
across R [] ys x y sorted here there = absurd here
across R (z ∷ zs) ys x y sorted (inl e) there = subst (λ v. R v y) e (at (R z) (zs ++ ys) y sorted.0 (in_right zs ys y there))
across R (z ∷ zs) ys x y sorted (inr here) there = across R zs ys x y sorted.1 here there

behind_sorted : {X : Type 0} (R : X → X → Type 0) (xs ys : List X) → Sorted R (xs ++ ys) → Sorted R ys
behind_sorted R [] ys sorted = sorted
behind_sorted R (x ∷ xs) ys sorted = behind_sorted R xs ys sorted.1

-- ---- ranks

abbrev Rank : Type 0
Rank = List ℕ

total : IsTotalOrder text_cmp
total = nat_list_cmp_total

-- one rank is the lower
abbrev pub Below : Rank → Rank → Type 0
Below a b = text_cmp a b ≡ Less

pub trans : (a b c : Rank) → Below a b → Below b c → Below a c
trans a b c = total.trans a b c

pub tied : (a b : Rank) → text_cmp a b ≡ Equal → a ≡ b
tied a b e = (bytes_decides a b).0 (texts_ties a b ∙ ap is_eq e)

turned : (a b : Rank) → text_cmp a b ≡ Greater → Below b a
turned a b e = total.antisymm b a ∙ ap ordering_reverse e

pub irreflexive : (a : Rank) → Below a a → ⊥
irreflexive a low = clash (sym low ∙ total.antisymm a a ∙ ap ordering_reverse low) where
  clash : Less ≡ Greater → ⊥
  clash e = cc

pub compare : (a b : Rank) → Below a b ⊎ ((a ≡ b) ⊎ Below b a)
compare a b = by (text_cmp a b) refl where
  by : (o : Ordering) → text_cmp a b ≡ o → Below a b ⊎ ((a ≡ b) ⊎ Below b a)
  by Less e = inl e
  by Equal e = inr (inl (tied a b e))
  by Greater e = inr (inr (turned a b e))

-- ---- paths

-- an ancestor before those below it; and where two part, the higher first
abbrev pub Before : List Rank → List Rank → Type 0
Before [] [] = ⊥
Before [] (y ∷ ys) = Unit {0}
Before (x ∷ xs) [] = ⊥
Before (x ∷ xs) (y ∷ ys) = Below y x ⊎ ((x ≡ y) × Before xs ys)

pub never : (xs : List Rank) → Before xs xs → ⊥
never [] t = absurd t
never (x ∷ xs) (inl low) = irreflexive x low
never (x ∷ xs) (inr rest) = never xs rest.1

pub before_then : (xs ys zs : List Rank) → Before xs ys → Before ys zs → Before xs zs
before_then [] [] zs first second = absurd first
before_then [] (y ∷ ys) [] first second = absurd second
before_then (x ∷ xs) [] zs first second = absurd first
before_then (x ∷ xs) (y ∷ ys) [] first second = absurd second
before_then [] (y ∷ ys) (z ∷ zs) first second = tt
before_then (x ∷ xs) (y ∷ ys) (z ∷ zs) (inl low) (inl lower) = inl (trans z y x lower low)
before_then (x ∷ xs) (y ∷ ys) (z ∷ zs) (inl low) (inr rest) = inl (subst (λ v. Below v x) rest.0 low)
before_then (x ∷ xs) (y ∷ ys) (z ∷ zs) (inr rest) (inl lower) = inl (subst (Below z) (sym rest.0) lower)
before_then (x ∷ xs) (y ∷ ys) (z ∷ zs) (inr rest) (inr more) = inr (rest.0 ∙ more.0, before_then xs ys zs rest.1 more.1)

pub never_both : (xs ys : List Rank) → Before xs ys → Before ys xs → ⊥
never_both xs ys first second = never xs (before_then xs ys xs first second)

-- the test of paths is this order
lower : (a b : Rank) → is_lt (text_cmp a b) ≡ true → Below a b
lower a b t = by (text_cmp a b) t where
  by : (o : Ordering) → is_lt o ≡ true → o ≡ Less
  by Less t = refl
  by Equal t = absurd (false≢true t)
  by Greater t = absurd (false≢true t)

pub Before-from_test : (xs ys : List Rank) → comes_before xs ys ≡ true → Before xs ys
Before-from_test [] [] t = absurd (false≢true t)
Before-from_test (x ∷ xs) [] t = absurd (false≢true t)
Before-from_test [] (y ∷ ys) t = tt
Before-from_test (x ∷ xs) (y ∷ ys) t = elim (or_cases (is_lt (text_cmp y x)) (same_text x y && comes_before xs ys) t) [
  | inl low ↦ inl (lower y x low)
  | inr both ↦ let parts = and_parts (same_text x y) (comes_before xs ys) both in inr ((bytes_decides x y).0 parts.0, Before-from_test xs ys parts.1)
]

pub test-from_Before : (xs ys : List Rank) → Before xs ys → comes_before xs ys ≡ true
test-from_Before [] [] before = absurd before
test-from_Before (x ∷ xs) [] before = absurd before
test-from_Before [] (y ∷ ys) before = refl
test-from_Before (x ∷ xs) (y ∷ ys) (inl low) = or_left _ _ (ap is_lt low)
test-from_Before (x ∷ xs) (y ∷ ys) (inr rest) = or_right _ _ (and_from _ _ ((bytes_decides x y).1 rest.0) (test-from_Before xs ys rest.1))

-- of two paths one comes before the other
pub one_before : (xs ys : List Rank) → Before xs ys ⊎ ((xs ≡ ys) ⊎ Before ys xs)
one_before [] [] = inr (inl refl)
one_before (x ∷ xs) [] = inr (inr tt)
one_before [] (y ∷ ys) = inl tt
one_before (x ∷ xs) (y ∷ ys) = elim (compare x y) [
  | inl low ↦ inr (inr (inl low))
  | inr other ↦ elim other [
    | inl same ↦ elim (one_before xs ys) [
      | inl before ↦ inl (inr (same, before))
      | inr rest ↦ elim rest [
        | inl alike ↦ inr (inl (λ i. same i ∷ alike i))
        | inr behind ↦ inr (inr (inr (sym same, behind)))
      ]
    ]
    | inr low ↦ inl (inl low)
  ]
]

-- b is below p
pub record Extends (p b : List Rank) : Type 0 where
  pub c : Rank
  pub cs : List Rank
  pub is : b ≡ p ++ c ∷ cs

-- p and b part, at a higher rank of p
pub record Part (p b : List Rank) : Type 0 where
  pub front : List Rank
  pub p0 : Rank
  pub ps : List Rank
  pub q0 : Rank
  pub qs : List Rank
  pub is_p : p ≡ front ++ p0 ∷ ps
  pub is_b : b ≡ front ++ q0 ∷ qs
  pub low : Below q0 p0

pub split : (p b : List Rank) → Before p b → Extends p b ⊎ Part p b
split [] [] t = absurd t
split (x ∷ xs) [] t = absurd t
split [] (y ∷ ys) t = inl (record { c = y; cs = ys; is = refl })
split (x ∷ xs) (y ∷ ys) (inl low) = inr (record { front = []; p0 = x; ps = xs; q0 = y; qs = ys; is_p = refl; is_b = refl; low = low })
split (x ∷ xs) (y ∷ ys) (inr rest) = elim (split xs ys rest.1) [
  | inl e ↦ inl (record { c = e.c; cs = e.cs; is = λ i. sym rest.0 i ∷ e.is i })
  | inr e ↦ inr (record { front = x ∷ e.front; p0 = e.p0; ps = e.ps; q0 = e.q0; qs = e.qs; is_p = ap (λ l. x ∷ l) e.is_p; is_b = λ i. sym rest.0 i ∷ e.is_b i; low = e.low })
]

-- the last rank of a path: an element's own
abbrev pub last : Rank → List Rank → Rank
last d [] = d
last d (x ∷ xs) = last x xs

pub last_behind : (d : Rank) (xs : List Rank) (c : Rank) (cs : List Rank) → last d (xs ++ c ∷ cs) ≡ last c cs
last_behind d [] c cs = refl
last_behind d (x ∷ xs) c cs = last_behind x xs c cs

-- ranks rise along a path
abbrev pub Up : List Rank → Type 0
Up [] = Unit {0}
Up (x ∷ []) = Unit {0}
Up (x ∷ y ∷ ys) = Below x y × Up (y ∷ ys)

up_tail : (x : Rank) (xs : List Rank) → Up (x ∷ xs) → Up xs
up_tail x [] up = tt
up_tail x (y ∷ ys) up = up.1

up_behind : (xs ys : List Rank) → Up (xs ++ ys) → Up ys
up_behind [] ys up = up
up_behind (x ∷ xs) ys up = up_behind xs ys (up_tail x (xs ++ ys) up)

first_is_low : (x : Rank) (xs : List Rank) → Up (x ∷ xs) → (x ≡ last x xs) ⊎ Below x (last x xs)
first_is_low x [] up = inl refl
first_is_low x (y ∷ ys) up = inr (elim (first_is_low y ys up.1) [
  | inl e ↦ subst (Below x) e up.0
  | inr low ↦ trans x y (last y ys) up.0 low
])

-- below a common front, the higher first
pub front_before : (front xs ys : List Rank) → Before xs ys → Before (front ++ xs) (front ++ ys)
front_before [] xs ys t = t
front_before (x ∷ front) xs ys t = inr (refl, front_before front xs ys t)

-- a front with one rank more is a path, or has it in front
one_or_before : (front : List Rank) (q : Rank) (qs : List Rank) → (front ++ q ∷ [] ≡ front ++ q ∷ qs) ⊎ Before (front ++ q ∷ []) (front ++ q ∷ qs)
one_or_before front q [] = inl refl
one_or_before front q (y ∷ ys) = inr (front_before front (q ∷ []) (q ∷ y ∷ ys) (inr (refl, tt)))

module _ (p : List Rank) (r : Rank) (passed rest : List (List Rank))
    (up : Up (p ++ r ∷ []))
    (behind : Each (Before p) (passed ++ rest))
    (sorted : Sorted Before (passed ++ rest))
    (rise : Each Up (passed ++ rest))
    (apart : Each (λ b. last r b ≡ r → ⊥) (passed ++ rest))
    (closed : (front : List Rank) (q : Rank) (qs : List Rank) → In (front ++ q ∷ qs) (passed ++ rest) → Before p (front ++ q ∷ []) → In (front ++ q ∷ []) (passed ++ rest))
    (higher : Each (λ b. Below r (last r b)) passed) where
  all : List (List Rank)
  all = passed ++ rest

  -- what would have stopped the search doesn't stand in front of what is passed
  no_stop : (f b : List Rank) → In b passed → In f (passed ++ rest) → Below (last r f) r → (f ≡ b) ⊎ Before f b → ⊥
  no_stop f b here there low early = elim (in_either passed rest f there) [
    | inl too ↦ irreflexive r (trans r (last r f) r (at (λ g. Below r (last r g)) passed f higher too) low)
    | inr later ↦
        let after : Before b f = across Before passed rest b f sorted here later in
        elim early [
          | inl same ↦ never b (subst (Before b) same after)
          | inr before ↦ never b (before_then b f b after before)
        ]
  ]

  -- each rank of the reference is below the new one
  low_in_p : (front ps : List Rank) (p0 : Rank) → p ≡ front ++ p0 ∷ ps → Below p0 r
  low_in_p front ps p0 is = in_path front p up is where
    in_path : (front p : List Rank) → Up (p ++ r ∷ []) → p ≡ front ++ p0 ∷ ps → Below p0 r
    in_path front p up is = below_last ps (up_behind front ((p0 ∷ ps) ++ r ∷ []) (subst Up (same front) (subst (λ l. Up (l ++ r ∷ [])) is up))) where
      same : (front : List Rank) → (front ++ p0 ∷ ps) ++ r ∷ [] ≡ front ++ ((p0 ∷ ps) ++ r ∷ [])
      same [] = refl
      same (x ∷ xs) = ap (λ l. x ∷ l) (same xs)

      below_last : (ps : List Rank) → Up ((p0 ∷ ps) ++ r ∷ []) → Below p0 r
      below_last [] up = up.0
      below_last (y ∷ ys) up = trans p0 y r up.0 (elim (first_is_low y (ys ++ r ∷ []) up.1) [
        | inl e ↦ absurd (none y ys up.1 e)
        | inr low ↦ subst (Below y) (last_behind y ys r []) low
      ]) where
        none : (y : Rank) (ys : List Rank) → Up ((y ∷ ys) ++ r ∷ []) → y ≡ last y (ys ++ r ∷ []) → ⊥
        none y [] up e = irreflexive y (subst (Below y) (sym e) up.0)
        none y (z ∷ zs) up e = elim (first_is_low z (zs ++ r ∷ []) up.1) [
          | inl alike ↦ irreflexive y (subst (Below y) (alike ∙ sym e) up.0)
          | inr low ↦ irreflexive y (subst (Below y) (sym e) (trans y z (last z (zs ++ r ∷ [])) up.0 low))
        ]

  -- what is passed stands before the new element
  pub passed_is_before : (b : List Rank) → In b passed → Before b (p ++ r ∷ [])
  passed_is_before b here = elim (split p b (at (Before p) (passed ++ rest) b behind (in_left passed rest b here))) [
    | inl e ↦ elim (compare r e.c) [
      | inl high ↦ subst (λ l. Before l (p ++ r ∷ [])) (sym e.is) (front_before p (e.c ∷ e.cs) (r ∷ []) (inl high))
      | inr other ↦
          let f : List Rank = p ++ e.c ∷ [] in
          let there : In f (passed ++ rest) = closed p e.c e.cs (subst (λ l. In l (passed ++ rest)) e.is (in_left passed rest b here)) (p_before p e.c) in
          let own : last r f ≡ e.c = last_behind r p e.c [] in
          absurd (elim other [
            | inl same ↦ at (λ g. last r g ≡ r → ⊥) (passed ++ rest) f apart there (own ∙ sym same)
            | inr low ↦ no_stop f b here there (subst (λ v. Below v r) (sym own) low) (subst (λ l. (f ≡ l) ⊎ Before f l) (sym e.is) (one_or_before p e.c e.cs))
          ])
    ]
    | inr e ↦
        let f : List Rank = e.front ++ e.q0 ∷ [] in
        let p_then : Before p f = subst (λ l. Before l f) (sym e.is_p) (front_before e.front (e.p0 ∷ e.ps) (e.q0 ∷ []) (inl e.low)) in
        let there : In f (passed ++ rest) = closed e.front e.q0 e.qs (subst (λ l. In l (passed ++ rest)) e.is_b (in_left passed rest b here)) p_then in
        let own : last r f ≡ e.q0 = last_behind r e.front e.q0 [] in
        let low : Below e.q0 r = trans e.q0 e.p0 r e.low (low_in_p e.front e.ps e.p0 e.is_p) in
        absurd (no_stop f b here there (subst (λ v. Below v r) (sym own) low) (subst (λ l. (f ≡ l) ⊎ Before f l) (sym e.is_b) (one_or_before e.front e.q0 e.qs)))
  ] where
    p_before : (p : List Rank) (c : Rank) → Before p (p ++ c ∷ [])
    p_before [] c = tt
    p_before (x ∷ xs) c = inr (refl, p_before xs c)

  -- an element that isn't passed stands behind the new one
  pub stop_is_behind : (b : List Rank) → In b (passed ++ rest) → Below (last r b) r → Before (p ++ r ∷ []) b
  stop_is_behind b there low = elim (split p b (at (Before p) (passed ++ rest) b behind there)) [
    | inl e ↦
        let own : last r b ≡ last e.c e.cs = ap (last r) e.is ∙ last_behind r p e.c e.cs in
        let under : Below (last e.c e.cs) r = subst (λ v. Below v r) own low in
        let c_low : Below e.c r = elim (first_is_low e.c e.cs (up_behind p (e.c ∷ e.cs) (subst Up e.is (at Up (passed ++ rest) b rise there)))) [
          | inl same ↦ subst (λ v. Below v r) (sym same) under
          | inr more ↦ trans e.c (last e.c e.cs) r more under
        ] in
        subst (Before (p ++ r ∷ [])) (sym e.is) (front_before p (r ∷ []) (e.c ∷ e.cs) (inl c_low))
    | inr e ↦
        subst (λ l. Before (l ++ r ∷ []) b) (sym e.is_p) (subst (Before ((e.front ++ e.p0 ∷ e.ps) ++ r ∷ [])) (sym e.is_b) (parted e.front e.p0 e.q0 e.ps e.qs e.low))
  ] where
    parted : (front : List Rank) (p0 q0 : Rank) (ps qs : List Rank) → Below q0 p0 → Before ((front ++ p0 ∷ ps) ++ r ∷ []) (front ++ q0 ∷ qs)
    parted [] p0 q0 ps qs low = inl low
    parted (x ∷ xs) p0 q0 ps qs low = inr (refl, parted xs p0 q0 ps qs low)

  -- so all of what is left does, where its first isn't passed
  pub rest_is_behind : (b : List Rank) (others : List (List Rank)) → rest ≡ b ∷ others → Below (last r b) r → (c : List Rank) → In c rest → Before (p ++ r ∷ []) c
  rest_is_behind b others is low c there =
      let first : Before (p ++ r ∷ []) b = stop_is_behind b (in_right passed rest b (subst (In b) (sym is) (inl refl))) low in
      elim (subst (In c) is there) [
        | inl same ↦ subst (Before (p ++ r ∷ [])) same first
        | inr later ↦ before_then (p ++ r ∷ []) b c first (at (Before b) others c (subst (Sorted Before) is (behind_sorted Before passed rest sorted)).0 later)
      ]
