-- Where a new element stands among others by their ranks alone: behind those of higher rank that follow its parent.
use Rattle.std.proofs.Common.{◌≡◌, ℕ, ◌+◌, Bool, true, false, All, AllPairs, Contains, List, [], ◌∷◌, ◌++◌, length, get_or, refl, sym, ap, subst, ◌∙◌, inl, inr, arith, if◌then◌else◌, append_assoc}
use Rattle.std.specs.Prelude.{map}
use Rattle.std.specs.Ordering.{is_lt}
use Rattle.std.specs.declared.cmp.Ordering.{Ordering}
use Rattle.std.specs.declared.cmp.Ordering.TheVariants.{Less, Equal, Greater}
use Rattle.std.proofs.lemmas.Bool.{false≢true, false_from_ne_true}
use Rattle.std.proofs.lemmas.List.{length-append, map-append}
use Rattle.std.proofs.lemmas.List.Elements.{All-contains, All-head, All-tail, All-nil, All-push, Contains-push, Contains-append_right}
use Rattle.op_base.specs.Order.{text_cmp}
use Rattle.causal_model.specs.Elements.{Element, element_of, rank_of, same_element, comes_before, put_element}
use Rattle.causal_model.specs.ListSteps.{put_down, put_behind, at_depth}
use Rattle.causal_model.proofs.Theory.Members.{no_member, member_here, member_later, member_cases, pairs_head, pairs_tail}
use Rattle.causal_model.proofs.Lists.KeptLists.{ClosedBehind, closed_rest, seen}
use Rattle.causal_model.proofs.Lists.PathOrder.{In, Each, Sorted, Below, compare, irreflexive, trans, Before, before_then, never_both, Before-from_test, test-from_Before, last, last_behind, Up, passed_is_before, stop_is_behind}
use Rattle.causal_model.proofs.Lists.SameLists.{Ahead, EndsIn}

-- ---- elements and their paths

abbrev paths : List Element → List (List (List ℕ))
paths l = map (λ e. e.path) l

each_path : (P : List (List ℕ) → Type 0) (l : List Element) → All (λ e. P e.path) l → Each P (paths l)
each_path P [] each = tt
each_path P (e ∷ es) each = (All-head (λ e. P e.path) e es each, each_path P es (All-tail (λ e. P e.path) e es each))

sorted_paths : (l : List Element) → AllPairs Ahead l → Sorted Before (paths l)
sorted_paths [] sorted = tt
sorted_paths (e ∷ es) sorted = (each_path (Before e.path) es (pairs_head Ahead e es sorted), sorted_paths es (pairs_tail Ahead e es sorted))

in_paths : (l : List Element) (e : Element) → Contains l e → In e.path (paths l)
in_paths [] e there = absurd (no_member e there)
in_paths (x ∷ xs) e there = elim (member_cases x xs e there) [
  | inl here ↦ inl (ap (λ (v : Element). v.path) here)
  | inr later ↦ inr (in_paths xs e later)
]

from_paths : (l : List Element) (p : List (List ℕ)) → In p (paths l) → (e : Element) × (Contains l e × (e.path ≡ p))
from_paths [] p there = absurd there
from_paths (x ∷ xs) p (inl here) = (x, (member_here x xs, here))
from_paths (x ∷ xs) p (inr later) = let e = from_paths xs p later in (e.0, (member_later x xs e.0 e.1.0, e.1.1))

-- that an element's path rises and ends in its rank
pub record IsPlaced (e : Element) : Type 0 where
  pub ends : EndsIn e.event e.path
  pub up : Up e.path

last_is : (r : List ℕ) (e : Element) → IsPlaced e → last r e.path ≡ rank_of e.event
last_is r e is = ap (last r) is.ends.is ∙ last_behind r is.ends.front (rank_of e.event) []

-- ---- an element that comes before a new one is passed

pass : (x e : Element) (es : List Element) → Ahead e x → put_element x (e ∷ es) ≡ e ∷ put_element x es
pass x e es before = ap (λ b. if b then x ∷ e ∷ es else e ∷ put_element x es) (false_from_ne_true (comes_before x.path e.path) (λ t. never_both e.path x.path before (Before-from_test x.path e.path t)))

stop : (x e : Element) (es : List Element) → Ahead x e → put_element x (e ∷ es) ≡ x ∷ e ∷ es
stop x e es behind = ap (λ b. if b then x ∷ e ∷ es else e ∷ put_element x es) (test-from_Before x.path e.path behind)

higher_is : (a b : List ℕ) → Below a b → is_lt (text_cmp a b) ≡ true
higher_is a b low = ap is_lt low

not_higher : (a b : List ℕ) → Below b a → is_lt (text_cmp a b) ≡ false
not_higher a b low = by (text_cmp a b) refl where
  by : (o : Ordering) → text_cmp a b ≡ o → is_lt o ≡ false
  by Less e = absurd (irreflexive a (trans a b a e low))
  by Equal e = refl
  by Greater e = refl

module _ (g : Element → Bool) (x : Element) (above : List (List ℕ)) (x_is : x.path ≡ above ++ rank_of x.event ∷ []) (x_up : Up x.path) where
  abbrev pub r : List ℕ
  r = rank_of x.event

  -- of the elements behind its parent, or of all for the head: so many were passed, and were higher
  module _ (l : List Element) (sorted : AllPairs Ahead l) (behind : All (λ e. Before above e.path) l) (closed : ClosedBehind above l) (placed : All IsPlaced l) (apart : All (λ e. rank_of e.event ≡ r → ⊥) l) where
    last_apart : All (λ e. last r e.path ≡ r → ⊥) l
    last_apart k d within same = apart k d within (sym (last_is r (get_or l k d) (placed k d within)) ∙ same)

    module _ (passed rest : List Element) (is : l ≡ passed ++ rest) (higher : All (λ e. Below r (rank_of e.event)) passed) (placed_passed : All IsPlaced passed) where
      parts : paths l ≡ paths passed ++ paths rest
      parts = ap paths is ∙ map-append (λ (e : Element). e.path) passed rest

      up_is : Up (above ++ r ∷ [])
      up_is = subst Up x_is x_up

      all_behind : Each (Before above) (paths passed ++ paths rest)
      all_behind = subst (Each (Before above)) parts (each_path (Before above) l behind)

      all_sorted : Sorted Before (paths passed ++ paths rest)
      all_sorted = subst (Sorted Before) parts (sorted_paths l sorted)

      all_rise : Each Up (paths passed ++ paths rest)
      all_rise = subst (Each Up) parts (each_path Up l (λ k d within. (placed k d within).up))

      all_apart : Each (λ b. last r b ≡ r → ⊥) (paths passed ++ paths rest)
      all_apart = subst (Each (λ b. last r b ≡ r → ⊥)) parts (each_path (λ b. last r b ≡ r → ⊥) l last_apart)

      all_closed : (front : List (List ℕ)) (q : List ℕ) (qs : List (List ℕ)) → In (front ++ q ∷ qs) (paths passed ++ paths rest) → Before above (front ++ q ∷ []) → In (front ++ q ∷ []) (paths passed ++ paths rest)
      all_closed front q qs there before =
          let z = from_paths l (front ++ q ∷ qs) (subst (In (front ++ q ∷ qs)) (sym parts) there) in
          let f = closed z.0 z.1.0 front q qs z.1.1 before in
          subst (In (front ++ q ∷ [])) parts (subst (λ p. In p (paths l)) f.1.1 (in_paths l f.0 f.1.0))

      all_higher : Each (λ b. Below r (last r b)) (paths passed)
      all_higher = each_path (λ b. Below r (last r b)) passed (λ k d within. subst (Below r) (sym (last_is r (get_or passed k d) (placed_passed k d within))) (higher k d within))

      pub passed_before : (b : Element) → Contains passed b → Ahead b x
      passed_before b there = subst (Before b.path) (sym x_is) (passed_is_before above r (paths passed) (paths rest) up_is all_behind all_sorted all_rise all_apart all_closed all_higher b.path (in_paths passed b there))

      pub stop_behind : (b : Element) → Contains l b → IsPlaced b → Below (rank_of b.event) r → Ahead x b
      stop_behind b there at low = subst (λ p. Before p b.path) (sym x_is) (stop_is_behind above r (paths passed) (paths rest) up_is all_behind all_sorted all_rise all_apart all_closed all_higher b.path (subst (In b.path) parts (in_paths l b there)) (subst (λ v. Below v r) (sym (last_is r b at)) low))

    -- so the place by paths is the place by ranks
    placed_from : (passed rest : List Element) → l ≡ passed ++ rest → All (λ e. Below r (rank_of e.event)) passed → All IsPlaced passed → All IsPlaced rest → All (λ e. rank_of e.event ≡ r → ⊥) rest
        → map (seen g) (put_element x rest) ≡ put_down (seen g x) (map (seen g) rest)
    placed_from passed [] is higher at_passed at_rest far = refl
    placed_from passed (y ∷ ys) is higher at_passed at_rest far =
        let at_y = All-head IsPlaced y ys at_rest in
        let more : l ≡ (passed ++ y ∷ []) ++ ys = is ∙ sym (append_assoc passed (y ∷ []) ys) in
        elim (compare r (rank_of y.event)) [
          | inl low ↦
              let higher_more = All-push (λ e. Below r (rank_of e.event)) passed y higher low in
              let at_more = All-push IsPlaced passed y at_passed at_y in
              ap (map (seen g)) (pass x y ys (passed_before (passed ++ y ∷ []) ys more higher_more at_more y (Contains-push passed y)))
              ∙ ap (λ others. seen g y ∷ others) (placed_from (passed ++ y ∷ []) ys more higher_more at_more (All-tail IsPlaced y ys at_rest) (All-tail (λ e. rank_of e.event ≡ r → ⊥) y ys far))
              ∙ sym (ap (λ b. if b then seen g y ∷ put_down (seen g x) (map (seen g) ys) else seen g x ∷ seen g y ∷ map (seen g) ys) (higher_is r (rank_of y.event) low))
          | inr other ↦ elim other [
            | inl same ↦ absurd (All-head (λ e. rank_of e.event ≡ r → ⊥) y ys far (sym same))
            | inr low ↦
                ap (map (seen g)) (stop x y ys (stop_behind passed (y ∷ ys) is higher at_passed y (subst (λ v. Contains v y) (sym is) (Contains-append_right passed (y ∷ ys) y (member_here y ys))) at_y low))
                ∙ sym (ap (λ b. if b then seen g y ∷ put_down (seen g x) (map (seen g) ys) else seen g x ∷ seen g y ∷ map (seen g) ys) (not_higher r (rank_of y.event) low))
          ]
        ]

    pub placed_down : map (seen g) (put_element x l) ≡ put_down (seen g x) (map (seen g) l)
    placed_down = placed_from [] l refl (All-nil (λ e. Below r (rank_of e.event))) (All-nil IsPlaced) placed apart

-- behind a parent that is among others, found by its id
pub placed_behind : (g : Element → Bool) (x p : Element) → x.path ≡ p.path ++ rank_of x.event ∷ [] → Up x.path → (bound : List (List ℕ)) (l : List Element) → AllPairs Ahead l → All (λ e. Before bound e.path) l → ClosedBehind bound l → All IsPlaced l
    → All (λ e. rank_of e.event ≡ rank_of x.event → ⊥) l → ((e : Element) → Contains l e → same_element (element_of e.event) (element_of p.event) ≡ true → e.path ≡ p.path) → same_element (element_of p.event) (element_of p.event) ≡ true → Contains l p
    → map (seen g) (put_element x l) ≡ put_behind (element_of p.event) (seen g x) (map (seen g) l)
placed_behind g x p x_is x_up bound [] sorted early closed placed apart ids itself there = absurd (no_member p there)
placed_behind g x p x_is x_up bound (e ∷ es) sorted early closed placed apart ids itself there =
    by (same_element (element_of e.event) (element_of p.event)) refl (λ later. placed_behind g x p x_is x_up e.path es (pairs_tail Ahead e es sorted) (pairs_head Ahead e es sorted) closed_es (All-tail IsPlaced e es placed)
    (All-tail (λ e. rank_of e.event ≡ rank_of x.event → ⊥) e es apart) (λ v in_es. ids v (member_later e es v in_es)) itself later) where
      closed_es : ClosedBehind e.path es
      closed_es = closed_rest bound e es sorted (All-head (λ e. Before bound e.path) e es early) closed

      in_front : (q : List (List ℕ)) (r : List ℕ) → Before q (q ++ r ∷ [])
      in_front [] r = tt
      in_front (y ∷ ys) r = inr (refl, in_front ys r)

      p_first : Before p.path x.path
      p_first = subst (Before p.path) (sym x_is) (in_front p.path (rank_of x.event))

      by : (same : Bool) → same_element (element_of e.event) (element_of p.event) ≡ same → (Contains es p → map (seen g) (put_element x es) ≡ put_behind (element_of p.event) (seen g x) (map (seen g) es))
          → map (seen g) (put_element x (e ∷ es)) ≡ (if same then seen g e ∷ put_down (at_depth (seen g x) (length e.path + 1)) (map (seen g) es) else seen g e ∷ put_behind (element_of p.event) (seen g x) (map (seen g) es))
      by true is rest =
          let path : e.path ≡ p.path = ids e (member_here e es) is in
          let x_below : x.path ≡ e.path ++ rank_of x.event ∷ [] = x_is ∙ ap (λ q. q ++ rank_of x.event ∷ []) (sym path) in
          let deep : length x.path ≡ length e.path + 1 = omega (arith, ap length x_below, length-append e.path (rank_of x.event ∷ [])) in
          ap (map (seen g)) (pass x e es (subst (λ q. Before q x.path) (sym path) p_first))
          ∙ ap (λ others. seen g e ∷ others) (placed_down g x e.path x_below x_up es (pairs_tail Ahead e es sorted) (pairs_head Ahead e es sorted) closed_es (All-tail IsPlaced e es placed) (All-tail (λ e. rank_of e.event ≡ rank_of x.event → ⊥) e es apart)
          ∙ ap (λ d. put_down (at_depth (seen g x) d) (map (seen g) es)) deep)
      by false is rest =
          elim (member_cases e es p there) [
            | inl here ↦ absurd (false≢true (sym is ∙ ap (λ (v : Element). same_element (element_of v.event) (element_of p.event)) here ∙ itself))
            | inr later ↦ ap (map (seen g)) (pass x e es (before_then e.path p.path x.path (All-contains (Ahead e) es p (pairs_head Ahead e es sorted) later) p_first)) ∙ ap (λ others. seen g e ∷ others) (rest later)
          ]
