-- Rows that only change their places: so do those of them that pass a test.
use Rattle.std.proofs.Common.{◌≡◌, ℕ, ◌+◌, ◌-◌, ◌<◌, suc, Bool, List, [], ◌∷◌, ◌++◌, length, take, drop, set, get_or, drop-cons, drop-drop, get_or-drop, append_assoc, length-append, length-take-le, length-drop, inl, inr, refl, sym, ap, subst, ◌∙◌, arith}
use Rattle.std.specs.List.{filter, swap}
use Rattle.std.specs.List.Sorted.{IsPermutation}
use Rattle.std.proofs.lemmas.Bool.{cases_lt, cases_eq}
use Rattle.std.proofs.lemmas.List.Edits.{swap_is}
use Rattle.std.proofs.lemmas.List.Sorted.{IsPermutation-refl, IsPermutation-trans, IsPermutation-append_left, IsPermutation-append_right, IsPermutation-append_comm, IsPermutation-keeps}
use Rattle.polog.proofs.Freed.{set-behind}
use Rattle.polog.proofs.Laid.{joined}
use Rattle.polog.proofs.Orders.{filter-join}
use Rattle.polog.proofs.Tables.{swap-itself}

module _ {X : Type 0} where
  -- of three parts the outer ones change places
  outer-swapped : (xs ys zs rest : List X) → IsPermutation (xs ++ (ys ++ (zs ++ rest))) (zs ++ (ys ++ (xs ++ rest)))
  outer-swapped xs ys zs rest =
      let there = sym (append_assoc xs ys (zs ++ rest)) ∙ sym (append_assoc (xs ++ ys) zs rest) in
      let back = sym (append_assoc zs ys (xs ++ rest)) ∙ sym (append_assoc (zs ++ ys) xs rest) in
      let inner = IsPermutation-trans ((xs ++ ys) ++ zs) (zs ++ (xs ++ ys)) ((zs ++ ys) ++ xs) (IsPermutation-append_comm (xs ++ ys) zs)
      (subst (IsPermutation (zs ++ (xs ++ ys))) (sym (append_assoc zs ys xs)) (IsPermutation-append_right zs (xs ++ ys) (ys ++ xs) (IsPermutation-append_comm xs ys))) in
      subst (λ l. IsPermutation l (zs ++ (ys ++ (xs ++ rest)))) (sym there) (subst (IsPermutation (((xs ++ ys) ++ zs) ++ rest)) (sym back)
      (IsPermutation-append_left rest ((xs ++ ys) ++ zs) ((zs ++ ys) ++ xs) inner))

  module _ (p : X → Bool) where
    apart : (front mid back : List X) (x y : X) → filter p (front ++ x ∷ (mid ++ y ∷ back)) ≡ filter p front ++ (filter p (x ∷ []) ++ (filter p mid ++ (filter p (y ∷ []) ++ filter p back)))
    apart front mid back x y =
        filter-join p front (x ∷ (mid ++ y ∷ back)) ∙ ap (λ l. filter p front ++ l) (
        filter-join p (x ∷ []) (mid ++ y ∷ back) ∙ ap (λ l. filter p (x ∷ []) ++ l) (filter-join p mid (y ∷ back) ∙ ap (λ l. filter p mid ++ l) (filter-join p (y ∷ []) back)))

    exchanged : (front mid back : List X) (x y : X) → IsPermutation (filter p (front ++ x ∷ (mid ++ y ∷ back))) (filter p (front ++ y ∷ (mid ++ x ∷ back)))
    exchanged front mid back x y =
        subst (λ l. IsPermutation l (filter p (front ++ y ∷ (mid ++ x ∷ back)))) (sym (apart front mid back x y))
        (subst (IsPermutation (filter p front ++ (filter p (x ∷ []) ++ (filter p mid ++ (filter p (y ∷ []) ++ filter p back))))) (sym (apart front mid back y x))
        (IsPermutation-append_right (filter p front) _ _ (outer-swapped (filter p (x ∷ [])) (filter p mid) (filter p (y ∷ [])) (filter p back))))

    -- a list by two of its places
    parted : (l : List X) (i j : ℕ) (d : X) → i < j → j < length l → l ≡ take i l ++ get_or l i d ∷ (take (j - (i + 1)) (drop (i + 1) l) ++ get_or l j d ∷ drop (j + 1) l)
    parted l i j d less inside =
        let k : ℕ = j - (i + 1) in
        let rest = drop (i + 1) l in
        let next : suc i ≡ i + 1 = omega arith in
        let there : i + 1 + k ≡ j = omega (arith, less) in
        let more : k < length rest = omega (arith, length-drop (i + 1) l, less, inside) in
        let first : drop i l ≡ get_or l i d ∷ rest = drop-cons l i d (omega (arith, less, inside)) ∙ ap (λ n. get_or l i d ∷ drop n l) next in
        let beyond : i + 1 + suc k ≡ j + 1 = omega (arith, less) in
        let second : drop k rest ≡ get_or l j d ∷ drop (j + 1) l =
        drop-cons rest k d more ∙ (λ t. (get_or-drop (i + 1) l k d ∙ ap (λ n. get_or l n d) there) t ∷ (drop-drop (suc k) (i + 1) l ∙ ap (λ n. drop n l) beyond) t) in
        sym (joined i l) ∙ ap (λ xs. take i l ++ xs) (first ∙ ap (λ xs. get_or l i d ∷ xs) (sym (joined k rest) ∙ ap (λ xs. take k rest ++ xs) second))

    -- and with others there
    put-both : (front mid back : List X) (x y u v : X) → set (set (front ++ x ∷ (mid ++ y ∷ back)) (length front) u) (length front + 1 + length mid) v ≡ front ++ u ∷ (mid ++ v ∷ back)
    put-both front mid back x y u v =
        let whole = front ++ u ∷ mid in
        let at : length front + 1 + length mid ≡ length whole = omega (arith, length-append front (u ∷ mid)) in
        ap (λ l. set l (length front + 1 + length mid) v) (set-behind front (mid ++ y ∷ back) x u ∙ sym (append_assoc front (u ∷ mid) (y ∷ back)))
        ∙ ap (λ n. set (whole ++ y ∷ back) n v) at ∙ set-behind whole back y v ∙ append_assoc front (u ∷ mid) (v ∷ back)

    put-back : (front mid back : List X) (x y u v : X) → set (set (front ++ x ∷ (mid ++ y ∷ back)) (length front + 1 + length mid) v) (length front) u ≡ front ++ u ∷ (mid ++ v ∷ back)
    put-back front mid back x y u v =
        let whole = front ++ x ∷ mid in
        let at : length front + 1 + length mid ≡ length whole = omega (arith, length-append front (x ∷ mid)) in
        ap (λ l. set l (length front) u) (ap (λ l. set l (length front + 1 + length mid) v) (sym (append_assoc front (x ∷ mid) (y ∷ back)))
        ∙ ap (λ n. set (whole ++ y ∷ back) n v) at ∙ set-behind whole back y v ∙ append_assoc front (x ∷ mid) (v ∷ back))
        ∙ set-behind front (mid ++ v ∷ back) x u

    in-order : (l : List X) (i j : ℕ) → i < j → j < length l → IsPermutation (filter p l) (filter p (swap l i j)) × IsPermutation (filter p l) (filter p (swap l j i))
    in-order l i j less inside = any l i j less inside l refl where
      any : (l : List X) (i j : ℕ) → i < j → j < length l → (m : List X) → m ≡ l → IsPermutation (filter p l) (filter p (swap l i j)) × IsPermutation (filter p l) (filter p (swap l j i))
      any l i j less inside [] same = absurd (omega (arith, ap length same, inside))
      any l i j less inside (d ∷ others) same =
          let x = get_or l i d in
          let y = get_or l j d in
          let front = take i l in
          let mid = take (j - (i + 1)) (drop (i + 1) l) in
          let back = drop (j + 1) l in
          let is = parted l i j d less inside in
          let here : length front ≡ i = length-take-le i l (omega (arith, less, inside)) in
          let there : length front + 1 + length mid ≡ j = let long = length-take-le (j - (i + 1)) (drop (i + 1) l) (omega (arith, length-drop (i + 1) l, inside, less)) in omega (arith, here, long, less) in
          let moved = subst (λ k. IsPermutation (filter p k) (filter p (front ++ y ∷ (mid ++ x ∷ back)))) (sym is) (exchanged front mid back x y) in
          let first : swap l i j ≡ front ++ y ∷ (mid ++ x ∷ back) =
          sym (swap_is l i j d (omega (arith, less, inside)) inside) ∙ (λ t. set (set (is t) (sym here t) y) (sym there t) x) ∙ put-both front mid back x y y x in
          let second : swap l j i ≡ front ++ y ∷ (mid ++ x ∷ back) =
          sym (swap_is l j i d inside (omega (arith, less, inside))) ∙ (λ t. set (set (is t) (sym there t) x) (sym here t) y) ∙ put-back front mid back x y y x in
          (subst (λ k. IsPermutation (filter p l) (filter p k)) (sym first) moved, subst (λ k. IsPermutation (filter p l) (filter p k)) (sym second) moved)

    pub kept-moved : (xs ys : List X) → IsPermutation xs ys → IsPermutation (filter p xs) (filter p ys)
    kept-moved xs ys moved =
        IsPermutation-keeps xs (λ l. IsPermutation (filter p xs) (filter p l)) (IsPermutation-refl (filter p xs)) (λ l i j m n h. IsPermutation-trans (filter p xs) (filter p l) (filter p (swap l i j)) h (step l i j m n)) ys moved where
          step : (l : List X) (i j : ℕ) → i < length l → j < length l → IsPermutation (filter p l) (filter p (swap l i j))
          step l i j m n = elim (cases_lt i j) [
            | inl less ↦ (in-order l i j less n).0
            | inr more ↦ elim (cases_eq i j) [
              | inl same ↦ subst (λ k. IsPermutation (filter p l) (filter p (swap l i k))) same (subst (λ k. IsPermutation (filter p l) (filter p k)) (sym (swap-itself i l)) (IsPermutation-refl (filter p l)))
              | inr other ↦ (in-order l j i (omega (arith, more, other)) m).1
            ]
          ]
