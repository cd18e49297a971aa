-- What is kept of a laid out tree: by its meaning, after more is gone, and when one element leaves.
use Rattle.std.proofs.Common.{◌≡◌, ℕ, suc, ◌≤◌, Bool, true, false, not, ◌&&◌, ◌||◌, List, [], ◌∷◌, ◌++◌, map, length, ltb, refl, sym, ap, ◌∙◌, arith}
use Rattle.std.proofs.lemmas.Bool.{lt-ltb, both_ways, and_parts, and_from, ltb-true, ltb-false, le-ltb, not-true}
use Rattle.std.specs.List.{list_any}
use Rattle.list_type.specs.Depths.{is_deeper, leaves, put_before, pruned, has_live_below, kept}

module _ {X : Type 0} (depth : X → ℕ) (gone : X → Bool) where
  -- ---- depths

  -- what isn't deeper than less isn't deeper than more
  not_deeper_than_more : (less more : ℕ) (xs : List X) → less ≤ more → is_deeper depth gone less xs ≡ false → is_deeper depth gone more xs ≡ false
  not_deeper_than_more less more [] le not_deeper = refl
  not_deeper_than_more less more (x ∷ xs) le not_deeper = le-ltb more (depth x) (omega (arith, ltb-false less (depth x) not_deeper, le))

  -- whether an element that leaves had one below it
  not_below : (x : X) (rest : List X) → leaves depth gone x rest ≡ true → is_deeper depth gone (depth x) rest ≡ false
  not_below x rest l = not-true (is_deeper depth gone (depth x) rest) (and_parts (gone x) (not (is_deeper depth gone (depth x) rest)) l).1

  -- where the first isn't deeper, the first of what is kept isn't
  pub pruned_not_deeper : (d : ℕ) (xs : List X) → is_deeper depth gone d xs ≡ false → is_deeper depth gone d (pruned depth gone xs) ≡ false
  pruned_not_deeper d [] not_deeper = refl
  pruned_not_deeper d (x ∷ xs) not_deeper = by (leaves depth gone x (pruned depth gone xs)) refl where
    by : (b : Bool) → leaves depth gone x (pruned depth gone xs) ≡ b → is_deeper depth gone d (put_before depth gone b x (pruned depth gone xs)) ≡ false
    by true l = not_deeper_than_more (depth x) d (pruned depth gone xs) (ltb-false d (depth x) not_deeper) (not_below x (pruned depth gone xs) l)
    by false l = not_deeper

  -- ---- by its meaning

  -- an element below, kept or not, with what is behind it
  with_it : (d : ℕ) (x : X) (rest : List X) (live : Bool) → ltb d (depth x) ≡ true → is_deeper depth gone d rest ≡ live
      → (g : Bool) → gone x ≡ g → (l : Bool) → leaves depth gone x rest ≡ l → is_deeper depth gone d (put_before depth gone l x rest) ≡ (not g || live)
  with_it d x rest live lt same true is true l = same
  with_it d x rest live lt same false is true l = absurd (both_ways (gone x) is (and_parts (gone x) (not (is_deeper depth gone (depth x) rest)) l).0)
  with_it d x rest live lt same false is false l = lt
  with_it d x rest true lt same true is false l = lt
  with_it d x rest false lt same true is false l =
      let none = not_deeper_than_more d (depth x) rest (omega (arith, ltb-true d (depth x) lt)) same in
      absurd (both_ways (leaves depth gone x rest) l (and_from (gone x) (not (is_deeper depth gone (depth x) rest)) is (ap not none)))

  -- the first of what is kept is deeper exactly where one below isn't gone
  pub deeper_is_live : (d : ℕ) (xs : List X) → is_deeper depth gone d (pruned depth gone xs) ≡ has_live_below depth gone d xs
  deeper_is_live d [] = refl
  deeper_is_live d (x ∷ xs) = by (deeper_is_live d xs) (ltb d (depth x)) refl where
    rest : List X
    rest = pruned depth gone xs

    by : is_deeper depth gone d rest ≡ has_live_below depth gone d xs → (b : Bool) → ltb d (depth x) ≡ b → is_deeper depth gone d (pruned depth gone (x ∷ xs)) ≡ (b && (not (gone x) || has_live_below depth gone d xs))
    by same true lt = with_it d x rest (has_live_below depth gone d xs) lt same (gone x) refl (leaves depth gone x rest) refl
    by same false lt = pruned_not_deeper d (x ∷ xs) lt

  pub pruned_is_kept : (xs : List X) → pruned depth gone xs ≡ kept depth gone xs
  pruned_is_kept [] = refl
  pruned_is_kept (x ∷ xs) = λ i. put_before depth gone (gone x && not (deeper_is_live (depth x) xs i)) x (pruned_is_kept xs i)

  -- ---- one element leaves

  -- what is kept of a list goes by what is kept of its end
  pub same_end : (xs ys zs : List X) → pruned depth gone ys ≡ pruned depth gone zs → pruned depth gone (xs ++ ys) ≡ pruned depth gone (xs ++ zs)
  same_end [] ys zs same = same
  same_end (x ∷ xs) ys zs same = ap (λ rest. put_before depth gone (leaves depth gone x rest) x rest) (same_end xs ys zs same)

  -- an element that leaves makes no difference
  pub without_it : (xs ys : List X) (x : X) → pruned depth gone ys ≡ ys → leaves depth gone x ys ≡ true → pruned depth gone (xs ++ x ∷ ys) ≡ pruned depth gone (xs ++ ys)
  without_it xs ys x whole l =
      same_end xs (x ∷ ys) ys
      (ap (λ rest. put_before depth gone (leaves depth gone x rest) x rest) whole ∙ ap (λ b. put_before depth gone b x ys) l ∙ sym whole)

  pub no_longer : (xs : List X) → length (pruned depth gone xs) ≤ length xs
  no_longer [] = omega arith
  no_longer (x ∷ xs) = by (no_longer xs) (leaves depth gone x (pruned depth gone xs)) where
    by : length (pruned depth gone xs) ≤ length xs → (b : Bool) → length (put_before depth gone b x (pruned depth gone xs)) ≤ suc (length xs)
    by le true = omega arith
    by le false = omega arith

  -- of a list that is kept whole each end is, and no element leaves in front of the rest
  pub record IsWhole (x : X) (xs : List X) : Type 0 where
    pub stays : leaves depth gone x xs ≡ false
    pub rest : pruned depth gone xs ≡ xs

  pub whole : (x : X) (xs : List X) → pruned depth gone (x ∷ xs) ≡ x ∷ xs → IsWhole x xs
  whole x xs is = by (leaves depth gone x (pruned depth gone xs)) refl is where
    by : (b : Bool) → leaves depth gone x (pruned depth gone xs) ≡ b → put_before depth gone b x (pruned depth gone xs) ≡ x ∷ xs → IsWhole x xs
    by true l same = absurd (omega (arith, ap length same, no_longer xs))
    by false l same =
        let rest : pruned depth gone xs ≡ xs = cc in
        record { stays = sym (ap (leaves depth gone x) rest) ∙ l; rest = rest }

  pub whole_from : (x : X) (xs : List X) → leaves depth gone x xs ≡ false → pruned depth gone xs ≡ xs → pruned depth gone (x ∷ xs) ≡ x ∷ xs
  whole_from x xs stays rest = ap (λ ys. put_before depth gone (leaves depth gone x ys) x ys) rest ∙ ap (λ b. put_before depth gone b x xs) stays

  -- ---- lists one behind the other

  -- no element of a list has a lower depth
  abbrev pub IsAtLeast : ℕ → List X → Type 0
  IsAtLeast d [] = Unit {0}
  IsAtLeast d (x ∷ xs) = (d ≤ depth x) × IsAtLeast d xs

  pub at_least-append : (d : ℕ) (xs ys : List X) → IsAtLeast d xs → IsAtLeast d ys → IsAtLeast d (xs ++ ys)
  at_least-append d [] ys first second = second
  at_least-append d (x ∷ xs) ys first second = (first.0, at_least-append d xs ys first.1 second)

  pub at_least_less : (less more : ℕ) (xs : List X) → less ≤ more → IsAtLeast more xs → IsAtLeast less xs
  at_least_less less more [] le deep = tt
  at_least_less less more (x ∷ xs) le deep = (omega (arith, le, deep.0), at_least_less less more xs le deep.1)

  -- what is kept of two lists, where none of the first is above the first of the second
  pub pruned-append : (d : ℕ) (xs ys : List X) → IsAtLeast d xs → is_deeper depth gone d (pruned depth gone ys) ≡ false → pruned depth gone (xs ++ ys) ≡ pruned depth gone xs ++ pruned depth gone ys
  pruned-append d [] ys deep none = refl
  pruned-append d (x ∷ xs) ys deep none =
      let rest = pruned-append d xs ys deep.1 none in
      ap (λ zs. put_before depth gone (leaves depth gone x zs) x zs) rest
      ∙ ap (λ b. put_before depth gone (gone x && not b) x (pruned depth gone xs ++ pruned depth gone ys)) (first (pruned depth gone xs))
      ∙ joined (leaves depth gone x (pruned depth gone xs)) where
        first : (zs : List X) → is_deeper depth gone (depth x) (zs ++ pruned depth gone ys) ≡ is_deeper depth gone (depth x) zs
        first [] = not_deeper_than_more d (depth x) (pruned depth gone ys) deep.0 none
        first (z ∷ zs) = refl

        joined : (b : Bool) → put_before depth gone b x (pruned depth gone xs ++ pruned depth gone ys) ≡ put_before depth gone b x (pruned depth gone xs) ++ pruned depth gone ys
        joined true = refl
        joined false = refl

  -- where all are deeper, one is live below exactly where one is
  pub all_below : (d : ℕ) (xs : List X) → IsAtLeast (suc d) xs → has_live_below depth gone d xs ≡ list_any (λ x. not (gone x)) xs
  all_below d [] deep = refl
  all_below d (x ∷ xs) deep =
      ap (λ b. b && (not (gone x) || has_live_below depth gone d xs)) (lt-ltb d (depth x) (omega (arith, deep.0)))
      ∙ ap (λ b. not (gone x) || b) (all_below d xs deep.1)

  -- ---- more is gone

  module _ (f : X → X) (same_depth : (x : X) → depth (f x) ≡ depth x) (still_gone : (x : X) → gone x ≡ true → gone (f x) ≡ true) where
    deeper-map : (d : ℕ) (xs : List X) → is_deeper depth gone d (map f xs) ≡ is_deeper depth gone d xs
    deeper-map d [] = refl
    deeper-map d (x ∷ xs) = ap (ltb d) (same_depth x)

    -- what was left out before more was gone is left out after
    pub pruned_again : (xs : List X) → pruned depth gone (map f (pruned depth gone xs)) ≡ pruned depth gone (map f xs)
    pruned_again [] = refl
    pruned_again (x ∷ xs) = by (pruned_again xs) (leaves depth gone x rest) refl where
      rest : List X
      rest = pruned depth gone xs

      after : List X
      after = pruned depth gone (map f xs)

      by : pruned depth gone (map f rest) ≡ after → (b : Bool) → leaves depth gone x rest ≡ b → pruned depth gone (map f (put_before depth gone b x rest)) ≡ put_before depth gone (leaves depth gone (f x) after) (f x) after
      by same true l =
          let gone_still = still_gone x (and_parts (gone x) (not (is_deeper depth gone (depth x) rest)) l).0 in
          let none : is_deeper depth gone (depth (f x)) after ≡ false =
          (λ i. is_deeper depth gone (same_depth x i) (sym same i)) ∙ pruned_not_deeper (depth x) (map f rest) (deeper-map (depth x) rest ∙ not_below x rest l) in
          same ∙ ap (λ b. put_before depth gone b (f x) after) (sym (and_from (gone (f x)) (not (is_deeper depth gone (depth (f x)) after)) gone_still (ap not none)))
      by same false l = ap (λ ys. put_before depth gone (leaves depth gone (f x) ys) (f x) ys) same
