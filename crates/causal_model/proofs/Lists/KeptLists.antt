-- Elements that are kept: what walks the list from behind, and looks at depths, keeps those that aren't gone and those above such.
use Rattle.std.proofs.Common.{◌≡◌, ◌⊎◌, ℕ, ◌<◌, Bool, true, false, not, ◌&&◌, ◌||◌, All, AllPairs, Contains, List, [], ◌∷◌, ◌++◌, length, get_or, refl, sym, ap, subst, ◌∙◌, inl, inr, arith, drop, ◌≤◌}
use Rattle.std.specs.Prelude.{map, nat_lt, if◌then◌else◌}
use Rattle.std.specs.List.{filter, list_any}
use Rattle.std.specs.Cmp.Lexicographic.{bytes_decides}
use Rattle.std.proofs.lemmas.Bool.{and_parts, and_from, false_from_ne_true, false≢true, lt-ltb, ltb-true}
use Rattle.std.proofs.lemmas.List.{length-append}
use Rattle.std.proofs.lemmas.List.Elements.{All-contains, All-head, All-tail, filter_passes, All-filter}
use Rattle.std.proofs.lemmas.List.Kept.{AllPairs-filter}
use Rattle.op_base.specs.Name.{same_text}
use Rattle.causal_model.specs.Elements.{Element, element_of, rank_of, inserted_value}
use Rattle.causal_model.specs.KeptElements.{KeptElement, begins_with}
use Rattle.causal_model.specs.ListSteps.{keep, pruned}
use Rattle.causal_model.proofs.Theory.Elements.{item_from_list_any, list_any-from_item, list_any-from_none, same_tests}
use Rattle.causal_model.proofs.Theory.Lists.{filter-filter}
use Rattle.causal_model.proofs.Theory.Members.{no_member, member_here, member_later, member_cases, member_of_filter, member_from_filter, pairs_head, pairs_tail}
use Rattle.causal_model.proofs.Lists.PathOrder.{Below, trans, irreflexive, Before, before_then, never, split, front_before}
use Rattle.causal_model.proofs.Lists.SameLists.{Ahead}

-- two tests that agree at each item keep the same items
pub filter_same : {X : Type 0} (p q : X → Bool) (xs : List X) → All (λ x. p x ≡ q x) xs → filter p xs ≡ filter q xs
filter_same p q [] same = refl
filter_same p q (x ∷ xs) same = λ i. if All-head (λ x. p x ≡ q x) x xs same i then x ∷ filter_same p q xs (All-tail (λ x. p x ≡ q x) x xs same) i else filter_same p q xs (All-tail (λ x. p x ≡ q x) x xs same) i

-- ---- paths that begin with others

pub begins_itself : (p : List (List ℕ)) → begins_with p p ≡ true
begins_itself [] = refl
begins_itself (x ∷ xs) = and_from _ _ ((bytes_decides x x).1 refl) (begins_itself xs)

pub begins_front : (p rest : List (List ℕ)) → begins_with p (p ++ rest) ≡ true
begins_front [] rest = refl
begins_front (x ∷ xs) rest = and_from _ _ ((bytes_decides x x).1 refl) (begins_front xs rest)

pub begins_then : (p q r : List (List ℕ)) → begins_with p q ≡ true → begins_with q r ≡ true → begins_with p r ≡ true
begins_then [] q r first second = refl
begins_then (x ∷ xs) [] r first second = absurd (false≢true first)
begins_then (x ∷ xs) (y ∷ ys) [] first second = absurd (false≢true second)
begins_then (x ∷ xs) (y ∷ ys) (z ∷ zs) first second =
    let one = and_parts (same_text x y) (begins_with xs ys) first in
    let two = and_parts (same_text y z) (begins_with ys zs) second in
    and_from _ _ ((bytes_decides x z).1 ((bytes_decides x y).0 one.0 ∙ (bytes_decides y z).0 two.0)) (begins_then xs ys zs one.1 two.1)

-- a path doesn't begin with one behind it
pub begins_not_behind : (p q : List (List ℕ)) → Before p q → begins_with q p ≡ true → ⊥
begins_not_behind [] [] before begins = absurd before
begins_not_behind [] (y ∷ ys) before begins = absurd (false≢true begins)
begins_not_behind (x ∷ xs) [] before begins = absurd before
begins_not_behind (x ∷ xs) (y ∷ ys) (inl low) begins = irreflexive x (subst (λ z. Below z x) ((bytes_decides y x).0 (and_parts (same_text y x) (begins_with ys xs) begins).0) low)
begins_not_behind (x ∷ xs) (y ∷ ys) (inr rest) begins = begins_not_behind xs ys rest.1 (and_parts (same_text y x) (begins_with ys xs) begins).1

grouped : (front : List (List ℕ)) (q : List ℕ) (qs : List (List ℕ)) → front ++ q ∷ qs ≡ (front ++ q ∷ []) ++ qs
grouped [] q qs = refl
grouped (x ∷ xs) q qs = ap (λ l. x ∷ l) (grouped xs q qs)

-- what begins with another and isn't before it is longer
pub begins_longer : (p q : List (List ℕ)) → Before p q → begins_with p q ≡ true → length p < length q
begins_longer [] [] before begins = absurd before
begins_longer [] (y ∷ ys) before begins = omega arith
begins_longer (x ∷ xs) [] before begins = absurd before
begins_longer (x ∷ xs) (y ∷ ys) (inl low) begins = absurd (irreflexive x (subst (λ z. Below z x) (sym ((bytes_decides x y).0 (and_parts (same_text x y) (begins_with xs ys) begins).0)) low))
begins_longer (x ∷ xs) (y ∷ ys) (inr rest) begins = let more = begins_longer xs ys rest.1 (and_parts (same_text x y) (begins_with xs ys) begins).1 in omega (arith, more)

-- what stands between a path and one that begins with it begins with it too
pub begins_between : (p q r : List (List ℕ)) → Before p q → ((q ≡ r) ⊎ Before q r) → begins_with p r ≡ true → begins_with p q ≡ true
begins_between [] q r before early begins = refl
begins_between (x ∷ xs) q r before (inl same) begins = subst (λ z. begins_with (x ∷ xs) z ≡ true) (sym same) begins
begins_between (x ∷ xs) [] r before (inr early) begins = absurd before
begins_between (x ∷ xs) (y ∷ ys) [] before (inr early) begins = absurd early
begins_between (x ∷ xs) (y ∷ ys) (z ∷ zs) before (inr early) begins =
    let parts = and_parts (same_text x z) (begins_with xs zs) begins in
    by ((bytes_decides x z).0 parts.0) before early (λ first second. begins_between xs ys zs first (inr second) parts.1) where
      by : x ≡ z → Below y x ⊎ ((x ≡ y) × Before xs ys) → Below z y ⊎ ((y ≡ z) × Before ys zs) → (Before xs ys → Before ys zs → begins_with xs ys ≡ true) → begins_with (x ∷ xs) (y ∷ ys) ≡ true
      by is (inl low) (inl lower) rest = absurd (irreflexive x (trans x y x (subst (λ v. Below v y) (sym is) lower) low))
      by is (inl low) (inr same) rest = absurd (irreflexive x (subst (λ v. Below v x) (same.0 ∙ sym is) low))
      by is (inr same) (inl lower) rest = absurd (irreflexive z (subst (Below z) (sym same.0 ∙ is) lower))
      by is (inr same) (inr more) rest = and_from _ _ ((bytes_decides x y).1 same.0) (rest same.1 more.1)

-- ---- lists of elements in order, with those above each

-- each element that stands above one of these, behind some path, is one of these
abbrev pub ClosedBehind : List (List ℕ) → List Element → Type 0
ClosedBehind bound l = (z : Element) → Contains l z → (front : List (List ℕ)) (q : List ℕ) (qs : List (List ℕ)) → z.path ≡ front ++ q ∷ qs → Before bound (front ++ q ∷ []) → (f : Element) × (Contains l f × (f.path ≡ front ++ q ∷ []))

pub closed_rest : (bound : List (List ℕ)) (e : Element) (es : List Element) → AllPairs Ahead (e ∷ es) → Before bound e.path → ClosedBehind bound (e ∷ es) → ClosedBehind e.path es
closed_rest bound e es sorted early closed z there front q qs is behind =
    let f = closed z (member_later e es z there) front q qs is (before_then bound e.path (front ++ q ∷ []) early behind) in
    elim (member_cases e es f.0 f.1.0) [
      | inl here ↦ absurd (never e.path (subst (λ p. Before e.path p) (sym f.1.1 ∙ ap (λ (v : Element). v.path) (sym here)) behind))
      | inr later ↦ (f.0, (later, f.1.1))
    ]

module _ (g : Element → Bool) where
  -- an element as a list keeps it
  abbrev pub seen : Element → KeptElement
  seen e = record { id = element_of e.event; rank = rank_of e.event; depth = length e.path; value = inserted_value e.event.message.op; gone = g e }

  -- it is kept for this one
  abbrev pub holds : Element → Element → Bool
  holds e other = begins_with e.path other.path && not (g other)

  abbrev pub keeps : List Element → Element → Bool
  keeps l e = list_any (holds e) l

  -- what is kept of a list
  abbrev pub kept_in : List Element → List Element
  kept_in l = filter (keeps l) l

  -- what begins with an element that is kept for another is above that too
  pub keeps_above : (l : List Element) (a e : Element) → begins_with a.path e.path ≡ true → keeps l e ≡ true → keeps l a ≡ true
  keeps_above l a e above t =
      let found = item_from_list_any (holds e) l t in
      let both = and_parts (begins_with e.path found.0.path) (not (g found.0)) found.1.1 in
      list_any-from_item (holds a) l found.0 found.1.0 (and_from _ _ (begins_then a.path e.path found.0.path above both.0) both.1)

  pub keeps_itself : (l : List Element) (e : Element) → Contains l e → not (g e) ≡ true → keeps l e ≡ true
  keeps_itself l e there t = list_any-from_item (holds e) l e there (and_from _ _ (begins_itself e.path) t)

  -- what is kept of a closed list is closed
  pub kept_closed : (bound : List (List ℕ)) (l : List Element) → ClosedBehind bound l → ClosedBehind bound (kept_in l)
  kept_closed bound l closed z there front q qs is behind =
      let f = closed z (member_from_filter (keeps l) l z there) front q qs is behind in
      let above : begins_with f.0.path z.path ≡ true = subst (λ p. begins_with p z.path ≡ true) (sym f.1.1) (subst (λ p. begins_with (front ++ q ∷ []) p ≡ true) (sym (is ∙ grouped front q qs)) (begins_front (front ++ q ∷ []) qs)) in
      (f.0, (member_of_filter (keeps l) l f.0 f.1.0 (keeps_above l f.0 z above (All-contains (λ e. keeps l e ≡ true) (kept_in l) z (filter_passes (keeps l) l) there)), f.1.1))

  -- ---- the first that is kept behind an element stands below it where it is deeper

  deeper_is_below : (e : Element) (es : List Element) (z : Element) (zs : List Element) → AllPairs Ahead (e ∷ es) → ClosedBehind e.path es → kept_in es ≡ z ∷ zs → length e.path < length z.path → begins_with e.path z.path ≡ true
  deeper_is_below e es z zs sorted closed is deeper =
      elim (split e.path z.path (All-contains (Ahead e) es z (pairs_head Ahead e es sorted) (member_from_filter (keeps es) es z in_kept))) [
        | inl below ↦ subst (λ p. begins_with e.path p ≡ true) (sym below.is) (begins_front e.path (below.c ∷ below.cs))
        | inr part ↦ absurd (apart part.front part.p0 part.ps part.q0 part.qs part.is_p part.is_b part.low)
      ] where
        in_kept : Contains (kept_in es) z
        in_kept = subst (λ l. Contains l z) (sym is) (member_here z zs)

        apart : (front : List (List ℕ)) (p0 : List ℕ) (ps : List (List ℕ)) (q0 : List ℕ) (qs : List (List ℕ)) → e.path ≡ front ++ p0 ∷ ps → z.path ≡ front ++ q0 ∷ qs → Below q0 p0 → ⊥
        apart front p0 ps q0 [] is_p is_b low = omega (arith, deeper, ap length is_p, ap length is_b, length-append front (p0 ∷ ps), length-append front (q0 ∷ []))
        apart front p0 ps q0 (q1 ∷ qs) is_p is_b low =
            let behind : Before e.path (front ++ q0 ∷ []) = subst (λ p. Before p (front ++ q0 ∷ [])) (sym is_p) (front_before front (p0 ∷ ps) (q0 ∷ []) (inl low)) in
            let f = closed z (member_from_filter (keeps es) es z in_kept) front q0 (q1 ∷ qs) is_b behind in
            let early : Ahead f.0 z = subst (λ p. Before p z.path) (sym f.1.1) (subst (Before (front ++ q0 ∷ [])) (sym is_b) (front_before front (q0 ∷ []) (q0 ∷ q1 ∷ qs) (inr (refl, tt)))) in
            let above : begins_with f.0.path z.path ≡ true = subst (λ p. begins_with p z.path ≡ true) (sym f.1.1) (subst (λ p. begins_with (front ++ q0 ∷ []) p ≡ true) (sym (is_b ∙ grouped front q0 (q1 ∷ qs))) (begins_front (front ++ q0 ∷ []) (q1 ∷ qs))) in
            let kept : Contains (z ∷ zs) f.0 = subst (λ l. Contains l f.0) is (member_of_filter (keeps es) es f.0 f.1.0 (keeps_above es f.0 z above (All-contains (λ e. keeps es e ≡ true) (kept_in es) z (filter_passes (keeps es) es) in_kept))) in
            let order : AllPairs Ahead (z ∷ zs) = subst (AllPairs Ahead) is (AllPairs-filter Ahead (keeps es) es (pairs_tail Ahead e es sorted)) in
            elim (member_cases z zs f.0 kept) [
              | inl here ↦ never z.path (subst (λ (v : Element). Ahead v z) (sym here) early)
              | inr later ↦ never z.path (before_then z.path f.0.path z.path (All-contains (Ahead z) zs f.0 (pairs_head Ahead z zs order) later) early)
            ]

  -- an element in front of a list is kept for one of it exactly where the first that is kept is deeper
  kept_for : (e : Element) (es : List Element) (z : Element) (zs : List Element) → AllPairs Ahead (e ∷ es) → ClosedBehind e.path es → kept_in es ≡ z ∷ zs → nat_lt (length e.path) (length z.path) ≡ keeps es e
  kept_for e es z zs sorted closed is = same_tests (nat_lt (length e.path) (length z.path)) (keeps es e)
      (λ deeper.
      keeps_above es e z (deeper_is_below e es z zs sorted closed is (ltb-true (length e.path) (length z.path) deeper)) (All-contains (λ e. keeps es e ≡ true) (kept_in es) z (filter_passes (keeps es) es) in_kept))
      (λ kept.
      let found = item_from_list_any (holds e) es kept in
      let both = and_parts (begins_with e.path found.0.path) (not (g found.0)) found.1.1 in
      let there : Contains (z ∷ zs) found.0 = subst (λ l. Contains l found.0) is (member_of_filter (keeps es) es found.0 found.1.0 (keeps_itself es found.0 found.1.0 both.1)) in
      let before : Ahead e z = All-contains (Ahead e) es z (pairs_head Ahead e es sorted) (member_from_filter (keeps es) es z in_kept) in
      let early : (z.path ≡ found.0.path) ⊎ Before z.path found.0.path = elim (member_cases z zs found.0 there) [
        | inl here ↦ inl (ap (λ (v : Element). v.path) here)
        | inr later ↦ inr (All-contains (Ahead z) zs found.0 (pairs_head Ahead z zs order) later)
      ] in
      lt-ltb (length e.path) (length z.path) (begins_longer e.path z.path before (begins_between e.path z.path found.0.path before early both.0))) where
        in_kept : Contains (kept_in es) z
        in_kept = subst (λ l. Contains l z) (sym is) (member_here z zs)

        order : AllPairs Ahead (z ∷ zs)
        order = subst (AllPairs Ahead) is (AllPairs-filter Ahead (keeps es) es (pairs_tail Ahead e es sorted))

  -- and for none where none is
  kept_for_none : (e : Element) (es : List Element) → kept_in es ≡ [] → keeps es e ≡ false
  kept_for_none e es is = list_any-from_none (holds e) es (λ o there t.
      no_member o (subst (λ l. Contains l o) is (member_of_filter (keeps es) es o there (keeps_itself es o there (and_parts (begins_with e.path o.path) (not (g o)) t).1))))

  -- what is kept of one element more in front
  kept_in_cons : (e : Element) (es : List Element) → All (Ahead e) es → kept_in (e ∷ es) ≡ (if not (g e) || keeps es e then e ∷ kept_in es else kept_in es)
  kept_in_cons e es ahead = (λ i. if first i then e ∷ filter (keeps (e ∷ es)) es else filter (keeps (e ∷ es)) es) ∙ ap (λ l. if not (g e) || keeps es e then e ∷ l else l) (filter_same (keeps (e ∷ es)) (keeps es) es (λ k d within. other (get_or es k d) (ahead k d within))) where
    first : keeps (e ∷ es) e ≡ (not (g e) || keeps es e)
    first = ap (λ b. (b && not (g e)) || keeps es e) (begins_itself e.path)

    other : (z : Element) → Ahead e z → keeps (e ∷ es) z ≡ keeps es z
    other z before = ap (λ b. (b && not (g e)) || keeps es z) (false_from_ne_true (begins_with z.path e.path) (begins_not_behind e.path z.path before))

  -- so pruning from behind gives exactly those that are kept
  pub pruned_is_kept : (bound : List (List ℕ)) (l : List Element) → AllPairs Ahead l → All (λ e. Before bound e.path) l → ClosedBehind bound l → pruned (map seen l) ≡ map seen (kept_in l)
  pruned_is_kept bound [] sorted early closed = refl
  pruned_is_kept bound (e ∷ es) sorted early closed =
      let closed_es = closed_rest bound e es sorted (All-head (λ e. Before bound e.path) e es early) closed in
      ap (keep (seen e)) (pruned_is_kept e.path es (pairs_tail Ahead e es sorted) (pairs_head Ahead e es sorted) closed_es)
      ∙ by (kept_in es) refl closed_es
      ∙ sym (ap (map seen) (kept_in_cons e es (pairs_head Ahead e es sorted))) where
        alone : (gone : Bool) (kept : Bool) → kept ≡ false → (if gone then [] else seen e ∷ []) ≡ map seen (if not gone || kept then e ∷ [] else [])
        alone true true t = absurd (false≢true (sym t))
        alone true false t = refl
        alone false kept t = refl

        beside : (gone deeper kept : Bool) (z : Element) (zs : List Element) → deeper ≡ kept → (if gone && not deeper then seen z ∷ map seen zs else seen e ∷ seen z ∷ map seen zs) ≡ map seen (if not gone || kept then e ∷ z ∷ zs else z ∷ zs)
        beside true true true z zs t = refl
        beside true true false z zs t = absurd (false≢true (sym t))
        beside true false true z zs t = absurd (false≢true t)
        beside true false false z zs t = refl
        beside false deeper kept z zs t = refl

        by : (l : List Element) → kept_in es ≡ l → ClosedBehind e.path es → keep (seen e) (map seen (kept_in es)) ≡ map seen (if not (g e) || keeps es e then e ∷ kept_in es else kept_in es)
        by [] is closed_es = subst (λ l. keep (seen e) (map seen l) ≡ map seen (if not (g e) || keeps es e then e ∷ l else l)) (sym is) (alone (g e) (keeps es e) (kept_for_none e es is))
        by (z ∷ zs) is closed_es = subst (λ l. keep (seen e) (map seen l) ≡ map seen (if not (g e) || keeps es e then e ∷ l else l)) (sym is) (beside (g e) (nat_lt (length e.path) (length z.path)) (keeps es e) z zs (kept_for e es z zs sorted closed_es is))

-- where more go, as many are kept of the list as of what was kept before
pub kept_of_kept : (g more : Element → Bool) (l : List Element) → ((e : Element) → g e ≡ true → more e ≡ true) → kept_in more (kept_in g l) ≡ kept_in more l
kept_of_kept g more l within =
    filter-filter (keeps g l) (keeps more (kept_in g l)) l
    ∙ filter_same (λ e. keeps g l e && keeps more (kept_in g l) e) (keeps more l) l (λ k d inside. one (get_or l k d)) where
      less : (e : Element) → not (more e) ≡ true → not (g e) ≡ true
      less e t = by (g e) (within e) where
        by : (b : Bool) → (b ≡ true → more e ≡ true) → not b ≡ true
        by true w = absurd (false≢true (sym (ap not (w refl)) ∙ t))
        by false w = refl

      one : (e : Element) → (keeps g l e && keeps more (kept_in g l) e) ≡ keeps more l e
      one e = same_tests (keeps g l e && keeps more (kept_in g l) e) (keeps more l e)
          (λ t.
          let found = item_from_list_any (holds more e) (kept_in g l) (and_parts (keeps g l e) (keeps more (kept_in g l) e) t).1 in
          list_any-from_item (holds more e) l found.0 (member_from_filter (keeps g l) l found.0 found.1.0) found.1.1)
          (λ t.
          let found = item_from_list_any (holds more e) l t in
          let both = and_parts (begins_with e.path found.0.path) (not (more found.0)) found.1.1 in
          let kept = keeps_itself g l found.0 found.1.0 (less found.0 both.1) in
          and_from _ _ (keeps_above g l e found.0 both.0 kept) (list_any-from_item (holds more e) (kept_in g l) found.0 (member_of_filter (keeps g l) l found.0 found.1.0 kept) found.1.1))

-- ---- what is pruned already

length-keep : (e : KeptElement) (l : List KeptElement) → (keep e l ≡ l) ⊎ (keep e l ≡ e ∷ l)
length-keep e [] = by e.gone where
  by : (b : Bool) → ((if b then [] else e ∷ []) ≡ []) ⊎ ((if b then [] else e ∷ []) ≡ e ∷ [])
  by true = inl refl
  by false = inr refl
length-keep e (x ∷ xs) = by (e.gone && not (nat_lt e.depth x.depth)) where
  by : (b : Bool) → ((if b then x ∷ xs else e ∷ x ∷ xs) ≡ x ∷ xs) ⊎ ((if b then x ∷ xs else e ∷ x ∷ xs) ≡ e ∷ x ∷ xs)
  by true = inl refl
  by false = inr refl

pruned_is_short : (l : List KeptElement) → length (pruned l) ≤ length l
pruned_is_short [] = omega arith
pruned_is_short (e ∷ l) = let rest = pruned_is_short l in elim (length-keep e (pruned l)) [
  | inl less ↦ omega (arith, rest, ap length less)
  | inr same ↦ omega (arith, rest, ap length same)
]

-- of a pruned list all but the first is pruned, and the first stays before it
pruned_parts : (e : KeptElement) (l : List KeptElement) → pruned (e ∷ l) ≡ e ∷ l → (pruned l ≡ l) × (keep e l ≡ e ∷ l)
pruned_parts e l h = elim (length-keep e (pruned l)) [
  | inl less ↦ absurd (omega (arith, pruned_is_short l, ap length (sym less ∙ h)))
  | inr same ↦ let tail : pruned l ≡ l = ap (λ (k : List KeptElement). drop 1 k) (sym same ∙ h) in (tail, sym (ap (keep e) tail) ∙ h)
]

-- an element that stays before a list stays before any other with the same first
keep_by_first : (e f : KeptElement) (rest others : List KeptElement) → keep e (f ∷ rest) ≡ e ∷ f ∷ rest → keep e (f ∷ others) ≡ e ∷ f ∷ others
keep_by_first e f rest others h = by (e.gone && not (nat_lt e.depth f.depth)) h where
  by : (b : Bool) → (if b then f ∷ rest else e ∷ f ∷ rest) ≡ e ∷ f ∷ rest → (if b then f ∷ others else e ∷ f ∷ others) ≡ e ∷ f ∷ others
  by true t = absurd (omega (arith, ap length t))
  by false t = refl

-- what stands in front of an element that stays is as it was, whatever goes behind
pub pruned_in_front : (front : List KeptElement) (f : KeptElement) (rest others : List KeptElement) → pruned (front ++ f ∷ rest) ≡ front ++ f ∷ rest → pruned (f ∷ others) ≡ f ∷ others → pruned (front ++ f ∷ others) ≡ front ++ f ∷ others
pruned_in_front [] f rest others was now = now
pruned_in_front (e ∷ []) f rest others was now =
    let parts = pruned_parts e (f ∷ rest) was in
    ap (keep e) now ∙ keep_by_first e f rest others parts.1
pruned_in_front (e ∷ g ∷ front) f rest others was now =
    let parts = pruned_parts e (g ∷ (front ++ f ∷ rest)) was in
    ap (keep e) (pruned_in_front (g ∷ front) f rest others parts.0 now) ∙ keep_by_first e g (front ++ f ∷ rest) (front ++ f ∷ others) parts.1

-- what is kept of a list is pruned
pub kept_is_pruned : (g : Element → Bool) (l : List Element) → AllPairs Ahead l → All (λ e. Before [] e.path) l → ClosedBehind [] l → pruned (map (seen g) (kept_in g l)) ≡ map (seen g) (kept_in g l)
kept_is_pruned g l sorted early closed =
    pruned_is_kept g [] (kept_in g l) (AllPairs-filter Ahead (keeps g l) l sorted) (All-filter (keeps g l) (λ e. Before [] e.path) l early) (kept_closed g [] l closed)
    ∙ ap (map (seen g)) (kept_of_kept g g l (λ e t. t))

-- what goes behind a list goes behind it where one is put in front
pub pruned_behind : (front rest others : List KeptElement) → pruned rest ≡ pruned others → pruned (front ++ rest) ≡ pruned (front ++ others)
pruned_behind [] rest others same = same
pruned_behind (e ∷ front) rest others same = ap (keep e) (pruned_behind front rest others same)
