-- A list of messages that is joined of parts, as of queues or of places: what one part has, the list has.
use Rattle.std.proofs.Common.{◌≡◌, ◌≢◌, ℕ, zero, suc, ◌+◌, ◌*◌, ◌<◌, ◌≤◌, Bool, true, false, not, cond, ◌||◌, All, List, [], ◌∷◌, ◌++◌, length, get_or, set, refl, sym, ap, ap₂, ◌∙◌, Some, None, arith}
use Rattle.std.specs.List.{filter, find, flat_map, list_any}
use Rattle.std.specs.Option.{is_some}
use Rattle.std.proofs.lemmas.Bool.{cond-true, cond-false, cond_both, not_from_false, false≢true}
use Rattle.std.proofs.lemmas.List.{length-append}
use Rattle.std.proofs.lemmas.List.Concat.{flat_map-append}
use Rattle.std.proofs.lemmas.List.Elements.{All-nil, All-cons, All-head, All-tail, All-append, All-weaker, filter-append}
use Rattle.op_base.specs.declared.message.Message.{Message}
use Rattle.causal_model.specs.Early.{stands_before, put_early}
use Rattle.causal_model.proofs.Theory.Finds.{none_found, none_passes}
use Rattle.causal_model.proofs.Cells.ItemMaps.{filter_all_of}

module _ {X : Type 0} (P : X → Type 0) where
  pub All-left : (xs ys : List X) → All P (xs ++ ys) → All P xs
  All-left [] ys each = All-nil P
  All-left (x ∷ xs) ys each = All-cons P x xs (All-head P x (xs ++ ys) each) (All-left xs ys (All-tail P x (xs ++ ys) each))

  pub All-right : (xs ys : List X) → All P (xs ++ ys) → All P ys
  All-right [] ys each = each
  All-right (x ∷ xs) ys each = All-right xs ys (All-tail P x (xs ++ ys) each)

module _ {X : Type 0} (p : X → Bool) where
  -- whether one passes is whether one is found
  pub any_is_found : (xs : List X) → list_any p xs ≡ is_some (find p xs)
  any_is_found [] = refl
  any_is_found (x ∷ xs) = elim (p x) as (λ b. (b || list_any p xs) ≡ is_some (cond b (Some x) (find p xs))) [ true ↦ refl | false ↦ any_is_found xs ]

  pub find-append_left : (xs ys : List X) → is_some (find p xs) ≡ true → find p (xs ++ ys) ≡ find p xs
  find-append_left [] ys e = absurd (false≢true e)
  find-append_left (z ∷ xs) ys e = by (find-append_left xs ys) (p z) e where
    by : (is_some (find p xs) ≡ true → find p (xs ++ ys) ≡ find p xs) → (b : Bool) → is_some (cond b (Some z) (find p xs)) ≡ true → cond b (Some z) (find p (xs ++ ys)) ≡ cond b (Some z) (find p xs)
    by later true f = refl
    by later false f = later f

  pub find-append_right : (xs ys : List X) → All (λ x. p x ≡ false) xs → find p (xs ++ ys) ≡ find p ys
  find-append_right [] ys none = refl
  find-append_right (x ∷ xs) ys none = cond-false (p x) (Some x) (find p (xs ++ ys)) (All-head (λ z. p z ≡ false) x xs none) ∙ find-append_right xs ys (All-tail (λ z. p z ≡ false) x xs none)

  pub find-append_none : (xs ys : List X) → All (λ x. p x ≡ false) ys → find p (xs ++ ys) ≡ find p xs
  find-append_none [] ys none = none_found p ys none
  find-append_none (x ∷ xs) ys none = ap (λ r. cond (p x) (Some x) r) (find-append_none xs ys none)

-- ---- where a message is put

-- before all that it stands before
put-append_left : (m : Message) (xs ys : List Message) → All (λ e. stands_before m e ≡ true) ys → put_early m (xs ++ ys) ≡ put_early m xs ++ ys
put-append_left m [] [] behind = refl
put-append_left m [] (e ∷ ys) behind = cond-true (stands_before m e) (m ∷ e ∷ ys) (e ∷ put_early m ys) (All-head (λ x. stands_before m x ≡ true) e ys behind)
put-append_left m (x ∷ xs) ys behind =
    let rest = put-append_left m xs ys behind in
    elim (stands_before m x) as (λ b. cond b (m ∷ x ∷ (xs ++ ys)) (x ∷ put_early m (xs ++ ys)) ≡ cond b (m ∷ x ∷ xs) (x ∷ put_early m xs) ++ ys) [ true ↦ refl | false ↦ ap (λ l. x ∷ l) rest ]

-- behind all others
put-append_right : (m : Message) (xs ys : List Message) → All (λ e. stands_before m e ≡ false) xs → put_early m (xs ++ ys) ≡ xs ++ put_early m ys
put-append_right m [] ys before = refl
put-append_right m (x ∷ xs) ys before =
    cond-false (stands_before m x) (m ∷ x ∷ (xs ++ ys)) (x ∷ put_early m (xs ++ ys)) (All-head (λ e. stands_before m e ≡ false) x xs before)
    ∙ ap (λ l. x ∷ l) (put-append_right m xs ys (All-tail (λ e. stands_before m e ≡ false) x xs before))

-- it is found, where all that it doesn't stand before fail a test that it passes
pub find-put_early : (p : Message → Bool) (m : Message) (early : List Message) → p m ≡ true → All (λ e. stands_before m e ≡ false → p e ≡ false) early → find p (put_early m early) ≡ Some m
find-put_early p m [] passes fail = cond-true (p m) (Some m) None passes
find-put_early p m (e ∷ early) passes fail =
    let rest = find-put_early p m early passes (All-tail (λ x. stands_before m x ≡ false → p x ≡ false) e early fail) in
    cond_both (stands_before m e) (m ∷ e ∷ early) (e ∷ put_early m early) (λ l. find p l ≡ Some m) (λ _. cond-true (p m) (Some m) (find p (e ∷ early)) passes)
    (λ not_before. cond-false (p e) (Some e) (find p (put_early m early)) (All-head (λ x. stands_before m x ≡ false → p x ≡ false) e early fail not_before) ∙ rest)

-- of messages that fail a test all stay
pub all_stay : (p : Message → Bool) (xs : List Message) → All (λ m. p m ≡ false) xs → filter (λ m. not (p m)) xs ≡ xs
all_stay p xs none = filter_all_of (λ m. not (p m)) xs (All-weaker (λ m. p m ≡ false) (λ m. not (p m) ≡ true) (λ m e. not_from_false (p m) e) xs none)

module _ {Q : Type 0} (f : Q → List Message) where
  pub All-flat : (P : Message → Type 0) (qs : List Q) → ((x : ℕ) (d : Q) → x < length qs → All P (f (get_or qs x d))) → All P (flat_map f qs)
  All-flat P [] each = All-nil P
  All-flat P (q ∷ qs) each = All-append P (f q) (flat_map f qs) (each 0 q (omega arith)) (All-flat P qs (λ x d l. each (suc x) d (omega (arith, l))))

  pub All-part : (P : Message → Type 0) (qs : List Q) (x : ℕ) (d : Q) → x < length qs → All P (flat_map f qs) → All P (f (get_or qs x d))
  All-part P [] x d l each = absurd (omega (arith, l))
  All-part P (q ∷ qs) zero d l each = All-left P (f q) (flat_map f qs) each
  All-part P (q ∷ qs) (suc x) d l each = All-part P qs x d (omega (arith, l)) (All-right P (f q) (flat_map f qs) each)

  -- a message stands before those of the parts behind one, and not before those of the parts before it
  pub record IsPartFor (m : Message) (x : ℕ) (qs : List Q) : Type 0 where
    pub lower : (y : ℕ) (d : Q) → y < x → All (λ e. stands_before m e ≡ false) (f (get_or qs y d))
    pub higher : (y : ℕ) (d : Q) → x < y → y < length qs → All (λ e. stands_before m e ≡ true) (f (get_or qs y d))

  -- a message put into its part is put into the list
  pub put_flat : (m : Message) (qs : List Q) (x : ℕ) (q d : Q) → x < length qs → IsPartFor m x qs → f q ≡ put_early m (f (get_or qs x d)) → flat_map f (set qs x q) ≡ put_early m (flat_map f qs)
  put_flat m [] x q d l part is = absurd (omega (arith, l))
  put_flat m (y ∷ qs) zero q d l part is =
      let behind : All (λ e. stands_before m e ≡ true) (flat_map f qs) = All-flat (λ e. stands_before m e ≡ true) qs (λ z c i. part.higher (suc z) c (omega arith) (omega (arith, i))) in
      ap (λ l. l ++ flat_map f qs) is ∙ sym (put-append_left m (f y) (flat_map f qs) behind)
  put_flat m (y ∷ qs) (suc x) q d l part is =
      let rest : IsPartFor m x qs = record {
        lower = λ z c i. part.lower (suc z) c (omega (arith, i));
        higher = λ z c i j. part.higher (suc z) c (omega (arith, i)) (omega (arith, j));
      } in
      ap (λ l. f y ++ l) (put_flat m qs x q d (omega (arith, l)) rest is) ∙ sym (put-append_right m (f y) (flat_map f qs) (part.lower 0 y (omega arith)))

  module _ (p : Message → Bool) where
    -- outside of one part no message passes
    abbrev pub FailElsewhere : ℕ → List Q → Type 0
    FailElsewhere x qs = (y : ℕ) (d : Q) → y < length qs → y ≢ x → All (λ m. p m ≡ false) (f (get_or qs y d))

    tail_fails : (q : Q) (qs : List Q) → FailElsewhere 0 (q ∷ qs) → All (λ m. p m ≡ false) (flat_map f qs)
    tail_fails q qs fail = All-flat (λ m. p m ≡ false) qs (λ y d l. fail (suc y) d (omega (arith, l)) (λ e. omega (arith, e)))

    rest_fails : (x : ℕ) (q : Q) (qs : List Q) → FailElsewhere (suc x) (q ∷ qs) → FailElsewhere x qs
    rest_fails x q qs fail y d l ne = fail (suc y) d (omega (arith, l)) (λ e. ne (omega (arith, e)))

    -- what passes is found in that part
    pub find_flat : (qs : List Q) (x : ℕ) (d : Q) → x < length qs → FailElsewhere x qs → find p (flat_map f qs) ≡ find p (f (get_or qs x d))
    find_flat [] x d l fail = absurd (omega (arith, l))
    find_flat (q ∷ qs) zero d l fail = find-append_none p (f q) (flat_map f qs) (tail_fails q qs fail)
    find_flat (q ∷ qs) (suc x) d l fail =
        find-append_right p (f q) (flat_map f qs) (fail 0 q (omega arith) (λ e. omega (arith, e))) ∙ find_flat qs x d (omega (arith, l)) (rest_fails x q qs fail)

    -- what is left of that part is left of the list
    pub without_flat : (qs : List Q) (x : ℕ) (q d : Q) → x < length qs → FailElsewhere x qs → f q ≡ filter (λ m. not (p m)) (f (get_or qs x d)) → flat_map f (set qs x q) ≡ filter (λ m. not (p m)) (flat_map f qs)
    without_flat [] x q d l fail is = absurd (omega (arith, l))
    without_flat (y ∷ qs) zero q d l fail is =
        ap₂ (λ l r. l ++ r) is (sym (all_stay p (flat_map f qs) (tail_fails y qs fail))) ∙ sym (filter-append (λ m. not (p m)) (f y) (flat_map f qs))
    without_flat (y ∷ qs) (suc x) q d l fail is =
        ap₂ (λ l r. l ++ r) (sym (all_stay p (f y) (fail 0 y (omega arith) (λ e. omega (arith, e))))) (without_flat qs x q d (omega (arith, l)) (rest_fails x y qs fail) is)
        ∙ sym (filter-append (λ m. not (p m)) (f y) (flat_map f qs))

    -- what is found in a part is found in the list, where nothing is found in the parts before it
    pub first_flat : (qs : List Q) (x : ℕ) (d : Q) → x < length qs → ((k : ℕ) (d : Q) → k < x → find p (f (get_or qs k d)) ≡ None)
        → is_some (find p (f (get_or qs x d))) ≡ true → find p (flat_map f qs) ≡ find p (f (get_or qs x d))
    first_flat [] x d l none some = absurd (omega (arith, l))
    first_flat (q ∷ qs) zero d l none some = find-append_left p (f q) (flat_map f qs) some
    first_flat (q ∷ qs) (suc x) d l none some =
        find-append_right p (f q) (flat_map f qs) (none_passes p (f q) (none 0 q (omega arith)))
        ∙ first_flat qs x d (omega (arith, l)) (λ k c below. none (suc k) c (omega (arith, below))) some

    -- so it is found where one more is put behind that part
    pub first_put : (m : Message) (qs : List Q) (x : ℕ) (d : Q) → x < length qs → ((k : ℕ) (d : Q) → k ≤ x → All (λ e. stands_before m e ≡ false) (f (get_or qs k d)))
        → ((k : ℕ) (d : Q) → k < x → find p (f (get_or qs k d)) ≡ None) → is_some (find p (f (get_or qs x d))) ≡ true → find p (put_early m (flat_map f qs)) ≡ find p (f (get_or qs x d))
    first_put m [] x d l before none some = absurd (omega (arith, l))
    first_put m (q ∷ qs) zero d l before none some =
        ap (find p) (put-append_right m (f q) (flat_map f qs) (before 0 q (omega arith))) ∙ find-append_left p (f q) (put_early m (flat_map f qs)) some
    first_put m (q ∷ qs) (suc x) d l before none some =
        ap (find p) (put-append_right m (f q) (flat_map f qs) (before 0 q (omega arith))) ∙ find-append_right p (f q) (put_early m (flat_map f qs)) (none_passes p (f q) (none 0 q (omega arith)))
        ∙ first_put m qs x d (omega (arith, l)) (λ k c le. before (suc k) c (omega (arith, le))) (λ k c below. none (suc k) c (omega (arith, below))) some

    pub none_flat : (qs : List Q) → ((k : ℕ) (d : Q) → k < length qs → find p (f (get_or qs k d)) ≡ None) → find p (flat_map f qs) ≡ None
    none_flat [] none = refl
    none_flat (q ∷ qs) none =
        find-append_right p (f q) (flat_map f qs) (none_passes p (f q) (none 0 q (omega arith)))
        ∙ none_flat qs (λ k d l. none (suc k) d (omega (arith, l)))

  -- there are few messages where there are few in each part
  pub length-flat : (most : ℕ) (qs : List Q) → ((x : ℕ) (d : Q) → x < length qs → length (f (get_or qs x d)) ≤ most) → length (flat_map f qs) ≤ length qs * most
  length-flat most [] few = omega arith
  length-flat most (q ∷ qs) few =
      omega (arith, few 0 q (omega arith), length-flat most qs (λ x d l. few (suc x) d (omega (arith, l))), length-append (f q) (flat_map f qs))

  -- where one part has fewer, so many fewer are in the list
  pub length-set_flat : (qs : List Q) (x : ℕ) (q d : Q) → x < length qs → length (flat_map f (set qs x q)) + length (f (get_or qs x d)) ≡ length (flat_map f qs) + length (f q)
  length-set_flat [] x q d l = absurd (omega (arith, l))
  length-set_flat (y ∷ qs) zero q d l = omega (arith, length-append (f q) (flat_map f qs), length-append (f y) (flat_map f qs))
  length-set_flat (y ∷ qs) (suc x) q d l =
      omega (arith, length-set_flat qs x q d (omega (arith, l)), length-append (f y) (flat_map f (set qs x q)), length-append (f y) (flat_map f qs))

  -- where one part has the same, the list has
  pub set_alike : (qs : List Q) (x : ℕ) (q d : Q) → x < length qs → f q ≡ f (get_or qs x d) → flat_map f (set qs x q) ≡ flat_map f qs
  set_alike [] x q d l same = absurd (omega (arith, l))
  set_alike (y ∷ qs) zero q d l same = ap (λ part. part ++ flat_map f qs) same
  set_alike (y ∷ qs) (suc x) q d l same = ap (λ rest. f y ++ rest) (set_alike qs x q d (omega (arith, l)) same)

  pub none_of_all : (qs : List Q) → ((k : ℕ) (d : Q) → k < length qs → f (get_or qs k d) ≡ []) → flat_map f qs ≡ []
  none_of_all [] each = refl
  none_of_all (q ∷ qs) each = ap₂ (λ l r. l ++ r) (each 0 q (omega arith)) (none_of_all qs (λ k d l. each (suc k) d (omega (arith, l))))

  pub none_more : (qs : List Q) (q : Q) → flat_map f qs ≡ [] → f q ≡ [] → flat_map f (qs ++ q ∷ []) ≡ []
  none_more qs q e none = flat_map-append f qs (q ∷ []) ∙ ap₂ (λ l r. l ++ (r ++ [])) e none
