-- Paths of elements: they need no more steps than there are events, what one event more makes of them, and that what stands
-- above an element is an element too.
use Rattle.std.proofs.Common.{◌≡◌, ◌⊎◌, ℕ, zero, suc, ◌<◌, ◌≤◌, Bool, true, false, not, ◌&&◌, All, Contains, IsTrue, List, [], ◌∷◌, ◌++◌, length, get_or, refl, sym, ap, ◌∙◌, inl, inr, arith, if◌then◌else◌, append-nil}
use Rattle.std.specs.Prelude.{Option, Some, None}
use Rattle.std.specs.List.{find, slice_get}
use Rattle.std.specs.Option.{option_map, option_and_then}
use Rattle.std.proofs.lemmas.Bool.{cond-false}
use Rattle.std.proofs.lemmas.List.{length-append}
use Rattle.std.proofs.lemmas.List.Elements.{All-contains, All-head, All-tail, Contains-get_or, Contains-push, filter-append, filter_passes}
use Rattle.std.proofs.lemmas.Option.{slice_get-get_or, same_Some, none-some}
use Rattle.op_base.specs.declared.name.ObjectId.{ObjectId}
use Rattle.causal_model.specs.Elements.{puts_at, is_head, is_behind, element_of, is_deleted, past_of, parent_of, rank_of, path_below, path_within, path_of, Element, put_event, elements_of}
use Rattle.causal_model.specs.History.{Event, is_before, is_act_on}
use Rattle.causal_model.proofs.Theory.Members.{member_from_filter}
use Rattle.causal_model.proofs.Lists.SameLists.{find_is, elements_from}

-- of these events none happened before an earlier one
abbrev pub GoForward : List Event → Type 0
GoForward es = (i j : ℕ) (a b : Event) → slice_get es i ≡ Some a → slice_get es j ≡ Some b → IsTrue (is_before a b) → i < j

found_at : (es : List Event) (e : Event) (there : Contains es e) → slice_get es there.0 ≡ Some e
found_at es e there = slice_get-get_or es there.0 e there.1 ∙ ap Some there.2

module _ (object : ObjectId) where
  -- an event's parent is there, and happened before it
  pub parent_is : (es : List Event) (e p : Event) → parent_of object es e ≡ Some p → Contains es p × IsTrue (is_before p e)
  parent_is es e p h =
      let there = (find_is (λ parent. is_act_on object (puts_at (is_behind (element_of parent))) e && not (is_deleted object (past_of es e) parent)) (past_of es e) p h).0 in
      (member_from_filter (λ earlier. is_before earlier e) es p there, All-contains (λ x. is_before x e ≡ true) (past_of es e) p (filter_passes (λ earlier. is_before earlier e) es) there)

  -- paths below two rules are one where the rules agree at the parent
  pub below_alike : (f g : Event → Option (List (List ℕ))) (es : List Event) (e : Event) → ((p : Event) → parent_of object es e ≡ Some p → f p ≡ g p) → path_below f object es e ≡ path_below g object es e
  below_alike f g es e same = ap (λ o. if is_act_on object (puts_at is_head) e then Some (rank_of e ∷ []) else option_map (λ above. above ++ rank_of e ∷ []) o) (by (parent_of object es e) same) where
    by : (o : Option Event) → ((p : Event) → o ≡ Some p → f p ≡ g p) → option_and_then f o ≡ option_and_then g o
    by None same = refl
    by (Some p) same = same p refl

  -- ---- the number of steps

  enough : (es : List Event) → GoForward es → (b : ℕ) (e : Event) (j : ℕ) → slice_get es j ≡ Some e → j < b → (k l : ℕ) → b ≤ k → b ≤ l → path_within k object es e ≡ path_within l object es e
  enough es forward zero e j at low k l most more = absurd (omega (arith, low))
  enough es forward (suc b) e j at low zero l most more = absurd (omega (arith, most))
  enough es forward (suc b) e j at low (suc k) zero most more = absurd (omega (arith, more))
  enough es forward (suc b) e j at low (suc k) (suc l) most more =
      below_alike (λ parent. path_within k object es parent) (λ parent. path_within l object es parent) es e (λ p is.
      let there = parent_is es e p is in
      let earlier : there.0.0 < j = forward there.0.0 j p e (found_at es p there.0) at there.1 in
      enough es forward b p there.0.0 (found_at es p there.0) (omega (arith, earlier, low)) k l (omega (arith, most)) (omega (arith, more)))

  pub more_steps : (es : List Event) → GoForward es → (e : Event) → Contains es e → (k : ℕ) → length es ≤ k → path_within k object es e ≡ path_of object es e
  more_steps es forward e there k most = enough es forward (length es) e there.0 (found_at es e there) there.1 k (length es) most (omega arith)

  -- so the path of an element is below its parent's
  pub path_is_below : (es : List Event) → GoForward es → (e : Event) → Contains es e → path_of object es e ≡ path_below (path_of object es) object es e
  path_is_below es forward e there =
      sym (more_steps es forward e there (suc (length es)) (omega arith))
      ∙ refl

  -- ---- one event more

  module _ (es : List Event) (x : Event) (forward : GoForward (es ++ x ∷ [])) where
    -- it happened before none that was there, nor before itself
    abbrev NotBefore : Event → Type 0
    NotBefore e = is_before x e ≡ false

    past_of_old : (e : Event) → is_before x e ≡ false → past_of (es ++ x ∷ []) e ≡ past_of es e
    past_of_old e apart = filter-append (λ earlier. is_before earlier e) es (x ∷ []) ∙ ap (λ (l : List Event). past_of es e ++ l) (cond-false (is_before x e) (x ∷ []) [] apart) ∙ append-nil (past_of es e)

    parent_of_old : (e : Event) → is_before x e ≡ false → parent_of object (es ++ x ∷ []) e ≡ parent_of object es e
    parent_of_old e apart = ap (λ past. find (λ parent. is_act_on object (puts_at (is_behind (element_of parent))) e && not (is_deleted object past parent)) past) (past_of_old e apart)

    old_path : ((e : Event) → Contains es e → is_before x e ≡ false) → (k : ℕ) (e : Event) → Contains es e → path_within k object (es ++ x ∷ []) e ≡ path_within k object es e
    old_path last zero e there = refl
    old_path last (suc k) e there =
        ap (λ o. if is_act_on object (puts_at is_head) e then Some (rank_of e ∷ []) else option_map (λ above. above ++ rank_of e ∷ []) (option_and_then (λ parent. path_within k object (es ++ x ∷ []) parent) o)) (parent_of_old e (last e there))
        ∙ below_alike (λ parent. path_within k object (es ++ x ∷ []) parent) (λ parent. path_within k object es parent) es e (λ p is. old_path last k p (parent_is es e p is).0)

    from_push : (f : Event → Option (List (List ℕ))) (l : List Element) (gs : List Event) → elements_from f l (gs ++ x ∷ []) ≡ put_event x (f x) (elements_from f l gs)
    from_push f l [] = refl
    from_push f l (g ∷ gs) = from_push f (put_event g (f g) l) gs

    from_alike : (f g : Event → Option (List (List ℕ))) (l : List Element) (gs : List Event) → All (λ e. f e ≡ g e) gs → elements_from f l gs ≡ elements_from g l gs
    from_alike f g l [] same = refl
    from_alike f g l (e ∷ gs) same = ap (λ o. elements_from f (put_event e o l) gs) (All-head (λ e. f e ≡ g e) e gs same) ∙ from_alike f g (put_event e (g e) l) gs (All-tail (λ e. f e ≡ g e) e gs same)

    -- the path of what was there is what it was, and the new one's is below its parent's
    pub path_of_old : ((e : Event) → Contains es e → is_before x e ≡ false) → GoForward es → (e : Event) → Contains es e → path_of object (es ++ x ∷ []) e ≡ path_of object es e
    path_of_old last before e there = old_path last (length (es ++ x ∷ [])) e there ∙ more_steps es before e there (length (es ++ x ∷ [])) (omega (arith, length-append es (x ∷ [])))

    pub path_of_new : ((e : Event) → Contains es e → is_before x e ≡ false) → GoForward es → is_before x x ≡ false → path_of object (es ++ x ∷ []) x ≡ path_below (path_of object es) object es x
    path_of_new last before apart =
        path_is_below (es ++ x ∷ []) forward x (Contains-push es x)
        ∙ ap (λ o. if is_act_on object (puts_at is_head) x then Some (rank_of x ∷ []) else option_map (λ above. above ++ rank_of x ∷ []) (option_and_then (path_of object (es ++ x ∷ [])) o)) (parent_of_old x apart)
        ∙ below_alike (path_of object (es ++ x ∷ [])) (path_of object es) es x (λ p is. path_of_old last before p (parent_is es x p is).0)

    -- so the elements are those that were there, and the new one put among them where it has a path
    pub elements_of_one_more : ((e : Event) → Contains es e → is_before x e ≡ false) → GoForward es → is_before x x ≡ false
        → elements_of object (es ++ x ∷ []) ≡ put_event x (path_below (path_of object es) object es x) (elements_of object es)
    elements_of_one_more last before apart =
        let path : Event → Option (List (List ℕ)) = path_of object (es ++ x ∷ []) in
        from_push path [] es
        ∙ (λ i. put_event x (path_of_new last before apart i) (from_alike path (path_of object es) [] es (λ k d l. path_of_old last before (get_or es k d) (Contains-get_or es k d l)) i))

  -- ---- what stands above an element

  -- where an event has a path, it stands at the head, or its parent has the front of it
  pub above_is : (es : List Event) → GoForward es → (e : Event) → Contains es e → (path : List (List ℕ)) → path_of object es e ≡ Some path
      → (path ≡ rank_of e ∷ []) ⊎ ((p : Event) × ((above : List (List ℕ)) × (Contains es p × (IsTrue (is_before p e) × ((path_of object es p ≡ Some above) × (path ≡ above ++ rank_of e ∷ []))))))
  above_is es forward e there path h = by (is_act_on object (puts_at is_head) e) (parent_of object es e) refl (sym (path_is_below es forward e there) ∙ h) where
    Above : Type 0
    Above = (p : Event) × ((above : List (List ℕ)) × (Contains es p × (IsTrue (is_before p e) × ((path_of object es p ≡ Some above) × (path ≡ above ++ rank_of e ∷ [])))))

    found : (p : Event) → parent_of object es e ≡ Some p → (o : Option (List (List ℕ))) → path_of object es p ≡ o → option_map (λ above. above ++ rank_of e ∷ []) o ≡ Some path → Above
    found p is None there t = absurd (none-some path t)
    found p is (Some above) there t = (p, (above, ((parent_is es e p is).0, ((parent_is es e p is).1, (there, sym (same_Some (above ++ rank_of e ∷ []) path t))))))

    by : (head : Bool) (o : Option Event) → parent_of object es e ≡ o → (if head then Some (rank_of e ∷ []) else option_map (λ above. above ++ rank_of e ∷ []) (option_and_then (path_of object es) o)) ≡ Some path → (path ≡ rank_of e ∷ []) ⊎ Above
    by true o is t = inl (sym (same_Some (rank_of e ∷ []) path t))
    by false None is t = absurd (none-some path t)
    by false (Some p) is t = inr (found p is (path_of object es p) refl t)
