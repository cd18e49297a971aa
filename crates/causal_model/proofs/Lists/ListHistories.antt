-- The elements of a history's list: they stand in order, each with those above it.
use Rattle.std.proofs.Common.{◌≡◌, ◌⊎◌, ℕ, zero, suc, ◌≤◌, Bool, true, false, All, AllPairs, Contains, IsTrue, List, [], ◌∷◌, ◌++◌, length, get_or, refl, sym, ap, subst, ◌∙◌, inl, inr, arith, if◌then◌else◌, append_assoc}
use Rattle.std.specs.Prelude.{Option, Some, None}
use Rattle.std.specs.Option.{option_map, option_and_then}
use Rattle.std.proofs.lemmas.List.{length-append}
use Rattle.std.proofs.lemmas.List.Elements.{Contains-get_or}
use Rattle.std.proofs.lemmas.Option.{same_Some, none-some}
use Rattle.op_base.specs.declared.name.ObjectId.{ObjectId}
use Rattle.causal_model.specs.Elements.{puts_at, is_head, parent_of, rank_of, path_within, path_of, Element, elements_of}
use Rattle.causal_model.specs.History.{History, Event, events, is_before, is_history, is_act_on}
use Rattle.causal_model.proofs.Events.Events.{events_go_forward}
use Rattle.causal_model.proofs.Lists.KeptLists.{ClosedBehind}
use Rattle.causal_model.proofs.Lists.ListPlaces.{IsPlaced}
use Rattle.causal_model.proofs.Theory.Members.{no_member}
use Rattle.causal_model.proofs.Lists.PathOrder.{Below, Before, Up}
use Rattle.causal_model.proofs.Lists.Paths.{GoForward, parent_is, above_is}
use Rattle.causal_model.proofs.Lists.Ranks.{ranks_differ, lower_rank_before}
use Rattle.causal_model.proofs.Lists.SameLists.{Ahead, path_ends, IsOf, from_keeps, from_cases, elements_sorted}

-- ---- paths that rise

up_push : (front : List (List ℕ)) (a r : List ℕ) → Up (front ++ a ∷ []) → Below a r → Up ((front ++ a ∷ []) ++ r ∷ [])
up_push [] a r up low = (low, tt)
up_push (x ∷ []) a r up low = (up.0, (low, tt))
up_push (x ∷ y ∷ ys) a r up low = (up.0, up_push (y ∷ ys) a r up.1 low)

-- a list is empty, or has a last item
last_cases : (xs : List (List ℕ)) → (xs ≡ []) ⊎ ((front : List (List ℕ)) × ((r : List ℕ) × (xs ≡ front ++ r ∷ [])))
last_cases [] = inl refl
last_cases (x ∷ xs) = inr (elim (last_cases xs) [
  | inl none ↦ ([], (x, ap (λ l. x ∷ l) none))
  | inr some ↦ (x ∷ some.0, (some.1.0, ap (λ l. x ∷ l) some.1.1))
])

-- all but the last
abbrev front_of : List (List ℕ) → List (List ℕ)
front_of [] = []
front_of (x ∷ []) = []
front_of (x ∷ y ∷ ys) = x ∷ front_of (y ∷ ys)

front_is : (xs : List (List ℕ)) (r : List ℕ) → front_of (xs ++ r ∷ []) ≡ xs
front_is [] r = refl
front_is (x ∷ []) r = refl
front_is (x ∷ y ∷ ys) r = ap (λ l. x ∷ l) (front_is (y ∷ ys) r)

same_front : (xs ys : List (List ℕ)) (a b : List ℕ) → xs ++ a ∷ [] ≡ ys ++ b ∷ [] → xs ≡ ys
same_front xs ys a b e = sym (front_is xs a) ∙ ap front_of e ∙ front_is ys b

module _ (w : ℕ) (h : History) (t : IsTrue (is_history w h)) (object : ObjectId) where
  pub goes_forward : GoForward (events h)
  goes_forward i j a b at_i at_j before = events_go_forward w h i j a b t at_i at_j before

  up_within : (most : ℕ) (e : Event) → Contains (events h) e → (path : List (List ℕ)) → path_within most object (events h) e ≡ Some path → Up path
  up_within zero e there path is = absurd (none-some path is)
  up_within (suc most) e there path is = by (is_act_on object (puts_at is_head) e) (parent_of object (events h) e) refl is (λ p found q its. up_within most p (parent_is object (events h) e p found).0 q its) where
    above : (p : Event) → parent_of object (events h) e ≡ Some p → (o : Option (List (List ℕ))) → path_within most object (events h) p ≡ o → option_map (λ q. q ++ rank_of e ∷ []) o ≡ Some path → ((q : List (List ℕ)) → path_within most object (events h) p ≡ Some q → Up q) → Up path
    above p found None its same up = absurd (none-some path same)
    above p found (Some q) its same up =
        let is = parent_is object (events h) e p found in
        let ends = path_ends most object (events h) p q its in
        let low : Below (rank_of p) (rank_of e) = lower_rank_before w h p e t is.0 there is.1 in
        subst Up (same_Some (q ++ rank_of e ∷ []) path same) (subst (λ l. Up (l ++ rank_of e ∷ [])) (sym ends.is) (up_push ends.front (rank_of p) (rank_of e) (subst Up ends.is (up q its)) low))

    by : (head : Bool) (o : Option Event) → parent_of object (events h) e ≡ o → (if head then Some (rank_of e ∷ []) else option_map (λ q. q ++ rank_of e ∷ []) (option_and_then (λ parent. path_within most object (events h) parent) o)) ≡ Some path
        → ((p : Event) → parent_of object (events h) e ≡ Some p → (q : List (List ℕ)) → path_within most object (events h) p ≡ Some q → Up q) → Up path
    by true o found same up = subst Up (same_Some (rank_of e ∷ []) path same) tt
    by false None found same up = absurd (none-some path same)
    by false (Some p) found same up = above p found (path_within most object (events h) p) refl same (up p found)

  abbrev pub elements : List Element
  elements = elements_of object (events h)

  -- an element is one of an event and its path
  pub element_is : (e : Element) → Contains elements e → IsOf (path_of object (events h)) (events h) e
  element_is e there = elim (from_cases (path_of object (events h)) e (events h) [] there) [
    | inl none ↦ absurd (no_member e none)
    | inr is ↦ is
  ]

  pub is_element : (e : Element) → IsOf (path_of object (events h)) (events h) e → Contains elements e
  is_element e is = from_keeps (path_of object (events h)) e (events h) [] (inr is)

  pub elements_in_order : AllPairs Ahead elements
  elements_in_order = elements_sorted (path_of object (events h)) (path_ends (length (events h)) object (events h)) (events h) (ranks_differ w h t)

  pub element_placed : (e : Element) → Contains elements e → IsPlaced e
  element_placed e there =
      let is = element_is e there in
      record { ends = path_ends (length (events h)) object (events h) e.event e.path is.1; up = up_within (length (events h)) e.event is.0 e.path is.1 }

  pub elements_placed : All IsPlaced elements
  elements_placed k d within = element_placed (get_or elements k d) (Contains-get_or elements k d within)

  pub elements_early : All (λ e. Before [] e.path) elements
  elements_early k d within = let ends = (elements_placed k d within).ends in subst (Before []) (sym ends.is) (some ends.front (rank_of (get_or elements k d).event)) where
    some : (front : List (List ℕ)) (r : List ℕ) → Before [] (front ++ r ∷ [])
    some [] r = tt
    some (x ∷ xs) r = tt

  closed_within : (most : ℕ) (z : Element) → Contains elements z → length z.path ≤ most → (front : List (List ℕ)) (q : List ℕ) (qs : List (List ℕ)) → z.path ≡ front ++ q ∷ qs → (f : Element) × (Contains elements f × (f.path ≡ front ++ q ∷ []))
  closed_within zero z there short front q qs is = absurd (omega (arith, short, ap length is, length-append front (q ∷ qs)))
  closed_within (suc most) z there short front q qs is = by (last_cases qs) (above_is object (events h) goes_forward z.event (element_is z there).0 z.path (element_is z there).1) (closed_within most) where
    Here : Type 0
    Here = (f : Element) × (Contains elements f × (f.path ≡ front ++ q ∷ []))

    grouped : (front : List (List ℕ)) (q : List ℕ) (qs : List (List ℕ)) (r : List ℕ) → front ++ q ∷ (qs ++ r ∷ []) ≡ (front ++ q ∷ qs) ++ r ∷ []
    grouped front q qs r = sym (append_assoc front (q ∷ qs) (r ∷ []))

    by : (qs ≡ []) ⊎ ((more : List (List ℕ)) × ((r : List ℕ) × (qs ≡ more ++ r ∷ [])))
        → (z.path ≡ rank_of z.event ∷ []) ⊎ ((p : Event) × ((above : List (List ℕ)) × (Contains (events h) p × (IsTrue (is_before p z.event) × ((path_of object (events h) p ≡ Some above) × (z.path ≡ above ++ rank_of z.event ∷ []))))))
        → ((p : Element) → Contains elements p → length p.path ≤ most → (front : List (List ℕ)) (q : List ℕ) (qs : List (List ℕ)) → p.path ≡ front ++ q ∷ qs → (f : Element) × (Contains elements f × (f.path ≡ front ++ q ∷ []))) → Here
    by (inl none) above rest = (z, (there, is ∙ ap (λ l. front ++ q ∷ l) none))
    by (inr some) (inl head) rest = absurd (omega (arith, ap length head, ap length is, length-append front (q ∷ qs), ap length some.1.1, length-append some.0 (some.1.0 ∷ [])))
    by (inr some) (inr up) rest =
        let p : Element = record { event = up.0; path = up.1.0 } in
        let whole : up.1.0 ++ rank_of z.event ∷ [] ≡ (front ++ q ∷ some.0) ++ some.1.0 ∷ [] = sym up.1.1.1.1.1 ∙ is ∙ ap (λ l. front ++ q ∷ l) some.1.1 ∙ grouped front q some.0 some.1.0 in
        rest p (is_element p (up.1.1.0, up.1.1.1.1.0)) (omega (arith, short, ap length up.1.1.1.1.1, length-append up.1.0 (rank_of z.event ∷ []))) front q some.0 (same_front up.1.0 (front ++ q ∷ some.0) (rank_of z.event) some.1.0 whole)

  pub elements_closed : ClosedBehind [] elements
  elements_closed z there front q qs is behind = closed_within (length z.path) z there (omega arith) front q qs is
