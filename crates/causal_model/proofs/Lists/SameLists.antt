-- Elements in their order: which they are, that they stand sorted, and that lists of the same events have the same ones.
use Rattle.std.proofs.Common.{◌≡◌, ◌↔◌, ◌⊎◌, ℕ, ◌==◌, ◌<◌, zero, suc, Bool, true, false, not, ◌&&◌, ◌||◌, All, AllPairs, Contains, List, [], ◌∷◌, ◌++◌, length, refl, sym, ap, subst, ◌∙◌, inl, inr, arith, if◌then◌else◌, cond}
use Rattle.std.specs.List.{filter, fold, find, list_any, slice_index_or}
use Rattle.std.specs.Option.{option_map, option_and_then}
use Rattle.std.specs.Prelude.{map, Option, Some, None}
use Rattle.std.proofs.lemmas.Bool.{and_parts, both_ways, cases_lt, cases_eq, false≢true}
use Rattle.std.proofs.lemmas.Option.{same_Some, none-some}
use Rattle.std.proofs.lemmas.List.Elements.{All-nil, All-cons, All-weaker, All-head, All-tail, All-contains, All-contains_itself, filter_agree}
use Rattle.std.proofs.lemmas.List.{get_or_default}
use Rattle.std.proofs.lemmas.List.Kept.{AllPairs-cons}
use Rattle.op_base.specs.declared.name.ObjectId.{ObjectId}
use Rattle.op_base.specs.declared.operation.Act.{Act}
use Rattle.op_base.specs.declared.operation.Act.TheVariants.{Ins}
use Rattle.op_base.specs.declared.operation.Op.{Op}
use Rattle.op_base.specs.declared.operation.Op.TheVariants as op
use Rattle.op_base.specs.declared.tag.ElementId.{ElementId}
use Rattle.std.proofs.lemmas.Bool.{eqb-true, eq-eqb, and_from}
use Rattle.causal_model.specs.Acts.{acts_on}
use Rattle.causal_model.specs.Order.{same_id}
use Rattle.causal_model.proofs.Theory.Elements.{list_any-from_item}
use Rattle.causal_model.specs.Elements.{same_element, puts_at, is_head, is_behind, takes_out, inserted_value, element_of, is_deleted, past_of, parent_of, rank_of, path_within, path_of, Element, comes_before, put_element, put_event, elements_of, list_values}
use Rattle.causal_model.specs.History.{Event, is_before, is_act_on}
use Rattle.causal_model.proofs.Theory.Members.{no_member, member_here, member_later, member_cases, member_from_filter, filter_within, list_any_members, pairs_head, pairs_tail, one_rising_list}
use Rattle.causal_model.proofs.Lists.PathOrder.{Before, before_then, never_both, one_before, Before-from_test, test-from_Before, last, last_behind}
use Rattle.causal_model.proofs.Lists.Ranks.{Ranked}

-- ---- a path ends in its element's rank

pub record EndsIn (e : Event) (path : List (List ℕ)) : Type 0 where
  pub front : List (List ℕ)
  pub is : path ≡ front ++ rank_of e ∷ []

pub path_ends : (most : ℕ) (object : ObjectId) (es : List Event) (e : Event) (path : List (List ℕ)) → path_within most object es e ≡ Some path → EndsIn e path
path_ends zero object es e path h = absurd (none-some path h)
path_ends (suc most) object es e path h = by (is_act_on object (puts_at is_head) e) (option_and_then (λ parent. path_within most object es parent) (parent_of object es e)) h where
  by : (b : Bool) (o : Option (List (List ℕ))) → (if b then Some (rank_of e ∷ []) else option_map (λ p. p ++ rank_of e ∷ []) o) ≡ Some path → EndsIn e path
  by true o t = record { front = []; is = sym (same_Some (rank_of e ∷ []) path t) }
  by false None t = absurd (none-some path t)
  by false (Some p) t = record { front = p; is = sym (same_Some (p ++ rank_of e ∷ []) path t) }

-- so elements of two ranks have two paths
pub paths_differ : (a b : Event) (p q : List (List ℕ)) → EndsIn a p → EndsIn b q → Ranked a b → p ≡ q → ⊥
paths_differ a b p q ends too apart same =
    apart (sym (last_behind [] ends.front (rank_of a) []) ∙ ap (last []) (sym ends.is ∙ same ∙ too.is) ∙ last_behind [] too.front (rank_of b) [])

-- ---- elements put among others

-- an element stands before another
abbrev pub Ahead : Element → Element → Type 0
Ahead a b = Before a.path b.path

abbrev put_by : Bool → Element → Element → List Element → List Element → List Element
put_by before e other others later = if before then e ∷ other ∷ others else other ∷ later

pub put_has : (P : Element → Type 0) (e : Element) (l : List Element) → P e → All P l → All P (put_element e l)
put_has P e [] new each = All-cons P e [] new each
put_has P e (x ∷ xs) new each = by (comes_before e.path x.path) (put_has P e xs new (All-tail P x xs each)) where
  by : (b : Bool) → All P (put_element e xs) → All P (put_by b e x xs (put_element e xs))
  by true later = All-cons P e (x ∷ xs) new each
  by false later = All-cons P x (put_element e xs) (All-head P x xs each) later

pub put_sorted : (e : Element) (l : List Element) → AllPairs Ahead l → All (λ x. x.path ≡ e.path → ⊥) l → AllPairs Ahead (put_element e l)
put_sorted e [] sorted apart = AllPairs-cons Ahead e [] (All-nil (Ahead e)) sorted
put_sorted e (x ∷ xs) sorted apart = by (comes_before e.path x.path) refl (put_sorted e xs (pairs_tail Ahead x xs sorted) (All-tail (λ x. x.path ≡ e.path → ⊥) x xs apart)) where
  behind : comes_before e.path x.path ≡ false → Ahead x e
  behind not = elim (one_before x.path e.path) [
    | inl before ↦ before
    | inr other ↦ elim other [
      | inl same ↦ absurd (All-head (λ x. x.path ≡ e.path → ⊥) x xs apart same)
      | inr before ↦ absurd (false≢true (sym not ∙ test-from_Before e.path x.path before))
    ]
  ]

  by : (b : Bool) → comes_before e.path x.path ≡ b → AllPairs Ahead (put_element e xs) → AllPairs Ahead (put_by b e x xs (put_element e xs))
  by true is later =
      let before : Ahead e x = Before-from_test e.path x.path is in
      AllPairs-cons Ahead e (x ∷ xs) (All-cons (Ahead e) x xs before (All-weaker (Ahead x) (Ahead e) (λ y more. before_then e.path x.path y.path before more) xs (pairs_head Ahead x xs sorted))) sorted
  by false is later = AllPairs-cons Ahead x (put_element e xs) (put_has (Ahead x) e xs (behind is) (pairs_head Ahead x xs sorted)) later

pub put_there : (e : Element) (l : List Element) → Contains (put_element e l) e
put_there e [] = member_here e []
put_there e (x ∷ xs) = by (comes_before e.path x.path) (put_there e xs) where
  by : (b : Bool) → Contains (put_element e xs) e → Contains (put_by b e x xs (put_element e xs)) e
  by true later = member_here e (x ∷ xs)
  by false later = member_later x (put_element e xs) e later

pub put_keeps : (v e : Element) (l : List Element) → Contains l v → Contains (put_element e l) v
put_keeps v e [] h = absurd (no_member v h)
put_keeps v e (x ∷ xs) h = by (comes_before e.path x.path) (put_keeps v e xs) where
  by : (b : Bool) → (Contains xs v → Contains (put_element e xs) v) → Contains (put_by b e x xs (put_element e xs)) v
  by true keeps = member_later e (x ∷ xs) v h
  by false keeps = elim (member_cases x xs v h) [
    | inl here ↦ subst (Contains (x ∷ put_element e xs)) here (member_here x (put_element e xs))
    | inr later ↦ member_later x (put_element e xs) v (keeps later)
  ]

-- what is there was there, or is the new one
pub put_cases : (v e : Element) (l : List Element) → Contains (put_element e l) v → (e ≡ v) ⊎ Contains l v
put_cases v e l h = All-contains (λ x. (e ≡ x) ⊎ Contains l x) (put_element e l) v (put_has (λ x. (e ≡ x) ⊎ Contains l x) e l (inl refl) (λ k d within. inr (All-contains_itself l k d within))) h

-- ---- elements of events, by their paths

-- by any rule of paths, put among others
abbrev pub elements_from : (Event → Option (List (List ℕ))) → List Element → List Event → List Element
elements_from path elements es = fold (λ elements e. put_event e (path e) elements) elements es

module _ (path : Event → Option (List (List ℕ))) where
  abbrev pub IsOf : List Event → Element → Type 0
  IsOf es x = Contains es x.event × (path x.event ≡ Some x.path)

  pub from_keeps : (x : Element) (es : List Event) (l : List Element) → Contains l x ⊎ IsOf es x → Contains (elements_from path l es) x
  from_keeps x [] l (inl there) = there
  from_keeps x [] l (inr is) = absurd (no_member x.event is.0)
  from_keeps x (e ∷ es) l (inl there) = from_keeps x es (put_event e (path e) l) (inl (by (path e))) where
    by : (o : Option (List (List ℕ))) → Contains (put_event e o l) x
    by None = there
    by (Some p) = put_keeps x (record { event = e; path = p }) l there
  from_keeps x (e ∷ es) l (inr is) = from_keeps x es (put_event e (path e) l) (elim (member_cases e es x.event is.0) [
    | inl here ↦ inl (by (path e) (ap path here ∙ is.1) here)
    | inr later ↦ inr (later, is.1)
  ]) where
    by : (o : Option (List (List ℕ))) → o ≡ Some x.path → e ≡ x.event → Contains (put_event e o l) x
    by None t here = absurd (none-some x.path t)
    by (Some p) t here = subst (Contains (put_element (record { event = e; path = p }) l)) (λ i. record { event = here i; path = same_Some p x.path t i }) (put_there (record { event = e; path = p }) l)

  pub from_cases : (x : Element) (es : List Event) (l : List Element) → Contains (elements_from path l es) x → Contains l x ⊎ IsOf es x
  from_cases x [] l h = inl h
  from_cases x (e ∷ es) l h = elim (from_cases x es (put_event e (path e) l) h) [
    | inl there ↦ by (path e) refl there
    | inr is ↦ inr (member_later e es x.event is.0, is.1)
  ] where
    by : (o : Option (List (List ℕ))) → path e ≡ o → Contains (put_event e o l) x → Contains l x ⊎ IsOf (e ∷ es) x
    by None t there = inl there
    by (Some p) t there = elim (put_cases x (record { event = e; path = p }) l there) [
      | inl same ↦ inr (subst (λ (v : Element). IsOf (e ∷ es) v) same (member_here e es, t))
      | inr old ↦ inl old
    ]

  module _ (ends : (e : Event) (p : List (List ℕ)) → path e ≡ Some p → EndsIn e p) where
    -- that an element's path ends in its rank, which is none of some others'
    abbrev IsApart : List Event → Element → Type 0
    IsApart es x = EndsIn x.event x.path × All (Ranked x.event) es

    from_sorted : (es : List Event) (l : List Element) → AllPairs Ahead l → AllPairs Ranked es → All (IsApart es) l → AllPairs Ahead (elements_from path l es)
    from_sorted [] l sorted apart each = sorted
    from_sorted (e ∷ es) l sorted apart each = let next = step (path e) refl in from_sorted es (put_event e (path e) l) next.0 (pairs_tail Ranked e es apart) next.1 where
      later : All (IsApart es) l
      later = All-weaker (IsApart (e ∷ es)) (IsApart es) (λ x is. (is.0, All-tail (Ranked x.event) e es is.1)) l each

      step : (o : Option (List (List ℕ))) → path e ≡ o → AllPairs Ahead (put_event e o l) × All (IsApart es) (put_event e o l)
      step None t = (sorted, later)
      step (Some p) t =
          let new : Element = record { event = e; path = p } in (
            put_sorted new l sorted (All-weaker (IsApart (e ∷ es)) (λ x. x.path ≡ p → ⊥) (λ x is. paths_differ x.event e x.path p is.0 (ends e p t) (All-head (Ranked x.event) e es is.1)) l each),
            put_has (IsApart es) new l (ends e p t, pairs_head Ranked e es apart) later,
          )

    pub elements_sorted : (es : List Event) → AllPairs Ranked es → AllPairs Ahead (elements_from path [] es)
    elements_sorted es apart = from_sorted es [] (λ i j d l within. absurd (omega (arith, within))) apart (All-nil (IsApart es))

-- ---- the first that passes a test that at most one passes

module _ {X : Type 0} (p : X → Bool) where
  pub find_is : (xs : List X) (x : X) → find p xs ≡ Some x → Contains xs x × (p x ≡ true)
  find_is [] x h = absurd (none-some x h)
  find_is (y ∷ xs) x h = by (p y) refl (find_is xs x) h where
    by : (b : Bool) → p y ≡ b → (find p xs ≡ Some x → Contains xs x × (p x ≡ true)) → cond b (Some y) (find p xs) ≡ Some x → Contains (y ∷ xs) x × (p x ≡ true)
    by true t later is = let same : y ≡ x = same_Some y x is in (subst (Contains (y ∷ xs)) same (member_here y xs), ap p (sym same) ∙ t)
    by false t later is = let rest = later is in (member_later y xs x rest.0, rest.1)

  pub find_none : (xs : List X) → find p xs ≡ None → list_any p xs ≡ false
  find_none [] h = refl
  find_none (y ∷ xs) h = by (p y) (find_none xs) h where
    by : (b : Bool) → (find p xs ≡ None → list_any p xs ≡ false) → cond b (Some y) (find p xs) ≡ None → (b || list_any p xs) ≡ false
    by true later is = absurd (none-some y (sym is))
    by false later is = later is

  pub same_find : (xs ys : List X) → ((x : X) → (Contains xs x ↔ Contains ys x)) → ((x y : X) → Contains xs x → Contains xs y → p x ≡ true → p y ≡ true → x ≡ y) → find p xs ≡ find p ys
  same_find xs ys same unique = by (find p xs) (find p ys) refl refl where
    missed : (xs ys : List X) (x : X) → ((x : X) → Contains xs x → Contains ys x) → find p xs ≡ Some x → find p ys ≡ None → ⊥
    missed xs ys x within is none = let found = find_is xs x is in both_ways (list_any p ys) (find_none ys none) (list_any-from_item p ys x (within x found.0) found.1)

    by : (a b : Option X) → find p xs ≡ a → find p ys ≡ b → a ≡ b
    by None None e g = refl
    by (Some x) None e g = absurd (missed xs ys x (λ v. (same v).0) e g)
    by None (Some y) e g = absurd (missed ys xs y (λ v. (same v).1) g e)
    by (Some x) (Some y) e g =
        let here = find_is xs x e in
        let there = find_is ys y g in
        ap Some (unique x y here.0 ((same y).1 there.0) here.1 there.1)

-- ---- the same events

-- whether two events are of one epoch and id
abbrev pub one_id : Event → Event → Bool
one_id a b = (a.epoch == b.epoch) && same_id a.message b.message

-- of events no two of which have one id, two with one are one
pub one_of_id : (es : List Event) (a b : Event) → AllPairs (λ (a b : Event). one_id a b ≡ false) es → Contains es a → Contains es b → one_id a b ≡ true → one_id b a ≡ true → a ≡ b
one_of_id es a b apart in_a in_b same back = elim (cases_lt in_a.0 in_b.0) [
  | inl less ↦ absurd (both_ways (one_id a b) (at in_a.0 in_b.0 a b less in_b.1 in_a.2 in_b.2) same)
  | inr most ↦ elim (cases_eq in_a.0 in_b.0) [
    | inl one ↦ sym in_a.2 ∙ get_or_default es in_a.0 a b in_a.1 ∙ ap (λ k. slice_index_or es k b) one ∙ in_b.2
    | inr differ ↦ absurd (both_ways (one_id b a) (at in_b.0 in_a.0 b a (omega (arith, most, differ)) in_a.1 in_b.2 in_a.2) back)
  ]
] where
  at : (i j : ℕ) (a b : Event) → i < j → j < length es → slice_index_or es i a ≡ a → slice_index_or es j b ≡ b → one_id a b ≡ false
  at i j a b l within here there =
      let pair = apart i j a l within in
      subst (λ x. one_id a x ≡ false) (get_or_default es j a b within ∙ there) (subst (λ x. one_id x (slice_index_or es j a) ≡ false) here pair)

-- a place is behind one element
named_once : (object : ObjectId) (a b : ElementId) (o : Op) → acts_on object (puts_at (is_behind a)) o ≡ true → acts_on object (puts_at (is_behind b)) o ≡ true → same_element a b ≡ true
named_once object a b op.NoOp first second = absurd (false≢true first)
named_once object a b (op.Update u) first second = by u.act (and_parts _ _ first).1 (and_parts _ _ second).1 where
  one : (x y z : ℕ) → (z == x) ≡ true → (z == y) ≡ true → (x == y) ≡ true
  one x y z e g = eq-eqb x y (sym (eqb-true z x e) ∙ eqb-true z y g)

  by : (act : Act) → puts_at (is_behind a) act ≡ true → puts_at (is_behind b) act ≡ true → same_element a b ≡ true
  by (Ins v (Some id)) s t =
      let p = and_parts (id.epoch == a.epoch) ((id.origin == a.origin) && (id.seq == a.seq)) s in
      let q = and_parts (id.epoch == b.epoch) ((id.origin == b.origin) && (id.seq == b.seq)) t in
      let p2 = and_parts (id.origin == a.origin) (id.seq == a.seq) p.1 in
      let q2 = and_parts (id.origin == b.origin) (id.seq == b.seq) q.1 in
      and_from _ _ (one a.epoch b.epoch id.epoch p.0 q.0) (and_from _ _ (one a.origin b.origin id.origin p2.0 q2.0) (one a.seq b.seq id.seq p2.1 q2.1))
  by act s t = absurd (false≢true s)

module _ (object : ObjectId) (es gs : List Event) (same : (x : Event) → (Contains es x ↔ Contains gs x)) (apart : AllPairs (λ (a b : Event). one_id a b ≡ false) es) where
  same_past : (e : Event) → (x : Event) → (Contains (past_of es e) x ↔ Contains (past_of gs e) x)
  same_past e x = (filter_within (λ earlier. is_before earlier e) es gs (λ v. (same v).0) x, filter_within (λ earlier. is_before earlier e) gs es (λ v. (same v).1) x)

  same_deleted : (e : Event) → is_deleted object es e ≡ is_deleted object gs e
  same_deleted e = list_any_members (λ later. is_act_on object (takes_out (element_of e)) later && is_before e later) es gs same

  same_parent : (e : Event) → parent_of object es e ≡ parent_of object gs e
  same_parent e =
      let here : Event → Bool = λ parent. is_act_on object (puts_at (is_behind (element_of parent))) e && not (is_deleted object (past_of es e) parent) in
      let one : (parent : Event) → is_deleted object (past_of es e) parent ≡ is_deleted object (past_of gs e) parent
      = λ parent. list_any_members (λ later. is_act_on object (takes_out (element_of parent)) later && is_before parent later) (past_of es e) (past_of gs e) (same_past e) in
      same_find here (past_of es e) (past_of gs e) (same_past e) (λ x y in_x in_y t u.
      let names : same_element (element_of x) (element_of y) ≡ true = named_once object (element_of x) (element_of y) e.message.op (and_parts _ _ t).0 (and_parts _ _ u).0 in
      let back : same_element (element_of y) (element_of x) ≡ true = named_once object (element_of y) (element_of x) e.message.op (and_parts _ _ u).0 (and_parts _ _ t).0 in
      one_of_id es x y apart (member_from_filter (λ earlier. is_before earlier e) es x in_x) (member_from_filter (λ earlier. is_before earlier e) es y in_y) names back)
      ∙ (λ i. find (λ parent. is_act_on object (puts_at (is_behind (element_of parent))) e && not (one parent i)) (past_of gs e))

  same_path_within : (most : ℕ) (e : Event) → path_within most object es e ≡ path_within most object gs e
  same_path_within zero e = refl
  same_path_within (suc most) e = λ i.
      if is_act_on object (puts_at is_head) e then Some (rank_of e ∷ [])
      else option_map (λ path. path ++ rank_of e ∷ []) (option_and_then (λ parent. same_path_within most parent i) (same_parent e i))

  pub same_elements : AllPairs Ranked es → AllPairs Ranked gs → length es ≡ length gs → elements_of object es ≡ elements_of object gs
  same_elements ranked too len =
      let path : Event → Option (List (List ℕ)) = path_of object gs in
      let one : (e : Event) → path_of object es e ≡ path e = λ e. (λ i. path_within (len i) object es e) ∙ same_path_within (length gs) e in
      let ends : (e : Event) (p : List (List ℕ)) → path e ≡ Some p → EndsIn e p = path_ends (length gs) object gs in
      (λ i. fold (λ elements e. put_event e (one e i) elements) [] es)
      ∙ one_rising_list Ahead (λ a b. never_both a.path b.path) (elements_from path [] es) (elements_from path [] gs) (elements_sorted path ends es ranked) (elements_sorted path ends gs too) (λ x.
      (λ h. from_keeps path x gs [] (inr (moved es gs x (λ v. (same v).0) (from_cases path x es [] h))), λ h. from_keeps path x es [] (inr (moved gs es x (λ v. (same v).1) (from_cases path x gs [] h))))) where
        moved : (fs hs : List Event) (x : Element) → ((v : Event) → Contains fs v → Contains hs v) → Contains [] x ⊎ IsOf (path_of object gs) fs x → IsOf (path_of object gs) hs x
        moved fs hs x within (inl none) = absurd (no_member x none)
        moved fs hs x within (inr is) = (within x.event is.0, is.1)

  pub same_list_values : AllPairs Ranked es → AllPairs Ranked gs → length es ≡ length gs → list_values object es ≡ list_values object gs
  same_list_values ranked too len =
      ap (map (λ e. inserted_value e.event.message.op)) (filter_agree (λ e. not (is_deleted object es e.event)) (λ e. not (is_deleted object gs e.event)) (λ e. ap not (same_deleted e.event)) (elements_of object es)
      ∙ ap (filter (λ e. not (is_deleted object gs e.event))) (same_elements ranked too len))
