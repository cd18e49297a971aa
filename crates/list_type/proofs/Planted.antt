-- A node that is put into a forest stands behind that of its place, past those there that pass.
use Rattle.std.proofs.Common.{◌≡◌, ◌⊎◌, ℕ, zero, suc, Bool, true, false, cond, List, [], ◌∷◌, ◌++◌, refl, sym, ap, subst, ◌∙◌, inl, inr, append_assoc}
use Rattle.std.specs.List.{flat_map}
use Rattle.std.proofs.lemmas.Bool.{both_ways}
use Rattle.std.proofs.lemmas.Grind.{flat_map-append}
use Rattle.list_type.specs.Forests.{laid}
use Rattle.list_type.specs.Planted.{front, rest, FirstFails, AllPass, EachOf, IsElsewhere, IsBelow, children_with, IsPut, IsRanked}

-- ---- those that pass

module _ {X : Type 0} (pass : X → Bool) where
  all_pass-append : (xs ys : List X) → AllPass pass xs → AllPass pass ys → AllPass pass (xs ++ ys)
  all_pass-append [] ys first second = second
  all_pass-append (x ∷ xs) ys first second = (first.0, all_pass-append xs ys first.1 second)

  all_pass_at : (xs ys : List X) (y : X) → AllPass pass (xs ++ y ∷ ys) → pass y ≡ true
  all_pass_at [] ys y all = all.0
  all_pass_at (x ∷ xs) ys y all = all_pass_at xs ys y all.1

  first_fails-append : (xs ys : List X) → FirstFails pass xs → FirstFails pass ys → FirstFails pass (xs ++ ys)
  first_fails-append [] ys first second = second
  first_fails-append (x ∷ xs) ys first second = first

  record IsSplit (xs : List X) : Type 0 where
    joined : front pass xs ++ rest pass xs ≡ xs
    passing : AllPass pass (front pass xs)
    failing : FirstFails pass (rest pass xs)

  split : (xs : List X) → IsSplit xs
  split [] = record { joined = refl; passing = tt; failing = tt }
  split (x ∷ xs) = by (split xs) (pass x) refl where
    by : IsSplit xs → (b : Bool) → pass x ≡ b → IsSplit (x ∷ xs)
    by more true is = record {
      joined = (λ i. cond (is i) (x ∷ front pass xs) [] ++ cond (is i) (rest pass xs) (x ∷ xs)) ∙ ap (λ ys. x ∷ ys) more.joined;
      passing = subst (λ b. AllPass pass (cond b (x ∷ front pass xs) [])) (sym is) (is, more.passing);
      failing = subst (λ b. FirstFails pass (cond b (rest pass xs) (x ∷ xs))) (sym is) more.failing;
    }
    by more false is = record {
      joined = λ i. cond (is i) (x ∷ front pass xs) [] ++ cond (is i) (rest pass xs) (x ∷ xs);
      passing = subst (λ b. AllPass pass (cond b (x ∷ front pass xs) [])) (sym is) tt;
      failing = subst (λ b. FirstFails pass (cond b (rest pass xs) (x ∷ xs))) (sym is) is;
    }

  front_none : (xs : List X) → FirstFails pass xs → front pass xs ≡ []
  front_none [] fails = refl
  front_none (x ∷ xs) fails = ap (λ b. cond b (x ∷ front pass xs) []) fails

  rest_all : (xs : List X) → FirstFails pass xs → rest pass xs ≡ xs
  rest_all [] fails = refl
  rest_all (x ∷ xs) fails = ap (λ b. cond b (rest pass xs) (x ∷ xs)) fails

  -- what is behind one that doesn't pass makes no difference
  front-append : (xs ys : List X) → FirstFails pass ys → front pass (xs ++ ys) ≡ front pass xs
  front-append [] ys fails = front_none ys fails
  front-append (x ∷ xs) ys fails = ap (λ zs. cond (pass x) (x ∷ zs) []) (front-append xs ys fails)

  rest-append : (xs ys : List X) → FirstFails pass ys → rest pass (xs ++ ys) ≡ rest pass xs ++ ys
  rest-append [] ys fails = rest_all ys fails
  rest-append (x ∷ xs) ys fails = ap (λ zs. cond (pass x) zs (x ∷ (xs ++ ys))) (rest-append xs ys fails) ∙ by (pass x) where
    by : (b : Bool) → cond b (rest pass xs ++ ys) (x ∷ (xs ++ ys)) ≡ cond b (rest pass xs) (x ∷ xs) ++ ys
    by true = refl
    by false = refl

  front_all : (xs : List X) → AllPass pass xs → front pass xs ≡ xs
  front_all [] all = refl
  front_all (x ∷ xs) all = (λ i. cond (all.0 i) (x ∷ front pass xs) []) ∙ ap (λ ys. x ∷ ys) (front_all xs all.1)

  rest_none : (xs : List X) → AllPass pass xs → rest pass xs ≡ []
  rest_none [] all = refl
  rest_none (x ∷ xs) all = (λ i. cond (all.0 i) (rest pass xs) (x ∷ xs)) ∙ rest_none xs all.1

each-left : {X : Type 0} (P : X → Type 0) (xs ys : List X) → EachOf P (xs ++ ys) → EachOf P xs
each-left P [] ys each = tt
each-left P (x ∷ xs) ys each = (each.0, each-left P xs ys each.1)

each-right : {X : Type 0} (P : X → Type 0) (xs ys : List X) → EachOf P (xs ++ ys) → EachOf P ys
each-right P [] ys each = each
each-right P (x ∷ xs) ys each = each-right P xs ys each.1

-- ---- the forest before and after

module _ {X K : Type 0} (children : K → List X) (place_below : X → K) (is_there : K → Bool) (pass : X → Bool) (x : X) (ranked : IsRanked children place_below is_there pass x) where
  -- the children at a place afterwards
  abbrev children_new : K → List X
  children_new = children_with children place_below is_there pass x

  abbrev old : ℕ → K → List X
  old deep at = laid children place_below deep at

  abbrev new : ℕ → K → List X
  new deep at = laid children_new place_below deep at

  -- nodes with what is below them, before and after
  abbrev old_flat : ℕ → List X → List X
  old_flat deep xs = flat_map (λ y. y ∷ laid children place_below deep (place_below y)) xs

  abbrev new_flat : ℕ → List X → List X
  new_flat deep xs = flat_map (λ y. y ∷ laid children_new place_below deep (place_below y)) xs

  -- elsewhere nothing changes
  each_elsewhere : (deep : ℕ) → ((at : K) → IsElsewhere children place_below is_there deep at → new deep at ≡ old deep at) → (xs : List X) → EachOf (λ y. IsElsewhere children place_below is_there deep (place_below y)) xs → new_flat deep xs ≡ old_flat deep xs
  each_elsewhere deep same [] each = refl
  each_elsewhere deep same (y ∷ ys) each = λ i. (y ∷ same (place_below y) each.0 i) ++ each_elsewhere deep same ys each.1 i

  elsewhere : (deep : ℕ) (at : K) → IsElsewhere children place_below is_there deep at → new deep at ≡ old deep at
  elsewhere zero at away = refl
  elsewhere (suc deep) at away =
      ap (λ b. new_flat deep (cond b (front pass (children at) ++ x ∷ rest pass (children at)) (children at))) away.0
      ∙ each_elsewhere deep (elsewhere deep) (children at) away.1

  -- those below one that passes pass
  each_passes : (deep : ℕ) → ((y : X) → pass y ≡ true → AllPass pass (old deep (place_below y))) → (xs : List X) → AllPass pass xs → AllPass pass (old_flat deep xs)
  each_passes deep below [] all = tt
  each_passes deep below (y ∷ ys) all = all_pass-append pass (y ∷ old deep (place_below y)) (old_flat deep ys) (all.0, below y all.0) (each_passes deep below ys all.1)

  passes_down : (deep : ℕ) (y : X) → pass y ≡ true → AllPass pass (old deep (place_below y))
  passes_down zero y passes = tt
  passes_down (suc deep) y passes = each_passes deep (passes_down deep) (children (place_below y)) (ranked.down y passes)

  flat_fails : (deep : ℕ) (ys : List X) → FirstFails pass ys → FirstFails pass (old_flat deep ys)
  flat_fails deep [] fails = tt
  flat_fails deep (y ∷ ys) fails = fails

  nothing_below : (deep : ℕ) → new deep (place_below x) ≡ []
  nothing_below zero = refl
  nothing_below (suc deep) = ap (new_flat deep) ranked.leaf

  -- at the place itself, with what stands behind
  record IsPutHere (deep : ℕ) (at : K) : Type 0 where
    passing : List X
    failing : List X
    old_is : old (suc deep) at ≡ passing ++ failing
    new_is : new (suc deep) at ≡ passing ++ x ∷ failing
    pass_all : AllPass pass passing
    fail_first : FirstFails pass failing

  put_here : (deep : ℕ) (at : K) → is_there at ≡ true → EachOf (λ y. IsElsewhere children place_below is_there deep (place_below y)) (children at) → IsPutHere deep at
  put_here deep at there each =
      let parts = split pass (children at) in
      let high = front pass (children at) in
      let low = rest pass (children at) in
      let all = subst (EachOf (λ y. IsElsewhere children place_below is_there deep (place_below y))) (sym parts.joined) each in
      record {
        passing = old_flat deep high;
        failing = old_flat deep low;
        old_is = ap (old_flat deep) (sym parts.joined) ∙ flat_map-append (λ y. y ∷ old deep (place_below y)) high low;
        new_is =
            ap (λ b. new_flat deep (cond b (high ++ x ∷ low) (children at))) there
            ∙ flat_map-append (λ y. y ∷ new deep (place_below y)) high (x ∷ low)
            ∙ (λ i. each_elsewhere deep (elsewhere deep) high (each-left (λ y. IsElsewhere children place_below is_there deep (place_below y)) high low all) i
            ++ ((x ∷ nothing_below deep i) ++ each_elsewhere deep (elsewhere deep) low (each-right (λ y. IsElsewhere children place_below is_there deep (place_below y)) high low all) i));
        pass_all = each_passes deep (passes_down deep) high parts.passing;
        fail_first = flat_fails deep low parts.failing;
      }

  -- a place of which one child leads to the place
  old_parts : (deep : ℕ) (at : K) (xs ys : List X) (y : X) → children at ≡ xs ++ y ∷ ys → old (suc deep) at ≡ old_flat deep xs ++ ((y ∷ old deep (place_below y)) ++ old_flat deep ys)
  old_parts deep at xs ys y is = ap (old_flat deep) is ∙ flat_map-append (λ z. z ∷ old deep (place_below z)) xs (y ∷ ys)

  new_parts : (deep : ℕ) (at : K) (xs ys : List X) (y : X) → is_there at ≡ false → children at ≡ xs ++ y ∷ ys
      → EachOf (λ z. IsElsewhere children place_below is_there deep (place_below z)) xs → EachOf (λ z. IsElsewhere children place_below is_there deep (place_below z)) ys
      → new (suc deep) at ≡ old_flat deep xs ++ ((y ∷ new deep (place_below y)) ++ old_flat deep ys)
  new_parts deep at xs ys y not_there is before after =
      ap (λ b. new_flat deep (cond b (front pass (children at) ++ x ∷ rest pass (children at)) (children at))) not_there
      ∙ ap (new_flat deep) is
      ∙ flat_map-append (λ z. z ∷ new deep (place_below z)) xs (y ∷ ys)
      ∙ (λ i. each_elsewhere deep (elsewhere deep) xs before i ++ ((y ∷ new deep (place_below y)) ++ each_elsewhere deep (elsewhere deep) ys after i))

  -- the node is put, and not all nodes here pass
  pub record IsDone (deep : ℕ) (at : K) : Type 0 where
    pub put : IsPut children place_below is_there pass x (old (suc deep) at) (new (suc deep) at)
    pub fails : AllPass pass (children at) → ⊥

  pub put_below : (deep : ℕ) (at : K) → IsBelow children place_below is_there deep at → IsDone deep at
  put_below zero at below = absurd below
  put_below (suc deep) at below = by (put_below deep (place_below y)) below.7 where
    xs : List X
    xs = below.0

    y : X
    y = below.1

    ys : List X
    ys = below.2

    -- the node that leads to the place doesn't pass, and so none behind it does
    done : pass y ≡ false → IsPut children place_below is_there pass x (old (suc (suc deep)) at) (new (suc (suc deep)) at) → IsDone (suc deep) at
    done fails_here put = record { put = put; fails = λ all. both_ways (pass y) fails_here (all_pass_at pass xs ys y (subst (AllPass pass) below.4 all)) }

    at_node : is_there (place_below y) ≡ true → IsPutHere deep (place_below y) → IsDone (suc deep) at
    at_node there here =
        let fails_here = ranked.there_fails y there in
        let behind = old_flat (suc deep) ys in
        let fails : FirstFails pass (here.failing ++ behind) = first_fails-append pass here.failing behind here.fail_first (flat_fails (suc deep) ys (ranked.along at xs ys y below.4 fails_here)) in
        let after = here.passing ++ (here.failing ++ behind) in
        let high : front pass after ≡ here.passing = front-append pass here.passing (here.failing ++ behind) fails ∙ front_all pass here.passing here.pass_all in
        let low : rest pass after ≡ here.failing ++ behind = rest-append pass here.passing (here.failing ++ behind) fails ∙ ap (λ zs. zs ++ (here.failing ++ behind)) (rest_none pass here.passing here.pass_all) in
        done fails_here (record {
          before = old_flat (suc deep) xs;
          node = y;
          after = after;
          old_is = old_parts (suc deep) at xs ys y below.4 ∙ ap (λ zs. old_flat (suc deep) xs ++ y ∷ (zs ++ behind)) here.old_is ∙ ap (λ zs. old_flat (suc deep) xs ++ y ∷ zs) (append_assoc here.passing here.failing behind);
          there = there;
          new_is =
              new_parts (suc deep) at xs ys y below.3 below.4 below.5 below.6
              ∙ ap (λ zs. old_flat (suc deep) xs ++ y ∷ (zs ++ behind)) here.new_is
              ∙ ap (λ zs. old_flat (suc deep) xs ++ y ∷ zs) (append_assoc here.passing (x ∷ here.failing) behind)
              ∙ (λ i. old_flat (suc deep) xs ++ y ∷ (sym high i ++ x ∷ sym low i));
        })

    further : IsDone deep (place_below y) → IsDone (suc deep) at
    further inner = go (pass y) refl where
      go : (b : Bool) → pass y ≡ b → IsDone (suc deep) at
      go true passes = absurd (inner.fails (ranked.down y passes))
      go false fails_here =
          let put = inner.put in
          let behind = old_flat (suc deep) ys in
          let fails = flat_fails (suc deep) ys (ranked.along at xs ys y below.4 fails_here) in
          let front_of = old_flat (suc deep) xs in
          done fails_here (record {
            before = front_of ++ y ∷ put.before;
            node = put.node;
            after = put.after ++ behind;
            old_is =
                old_parts (suc deep) at xs ys y below.4
                ∙ ap (λ zs. front_of ++ y ∷ (zs ++ behind)) put.old_is
                ∙ ap (λ zs. front_of ++ y ∷ zs) (append_assoc put.before (put.node ∷ put.after) behind)
                ∙ sym (append_assoc front_of (y ∷ put.before) (put.node ∷ (put.after ++ behind)));
            there = put.there;
            new_is =
                new_parts (suc deep) at xs ys y below.3 below.4 below.5 below.6
                ∙ ap (λ zs. front_of ++ y ∷ (zs ++ behind)) put.new_is
                ∙ ap (λ zs. front_of ++ y ∷ zs) (append_assoc put.before (put.node ∷ (front pass put.after ++ x ∷ rest pass put.after)) behind)
                ∙ ap (λ zs. front_of ++ y ∷ (put.before ++ put.node ∷ zs)) (append_assoc (front pass put.after) (x ∷ rest pass put.after) behind)
                ∙ (λ i. front_of ++ y ∷ (put.before ++ put.node ∷ (sym (front-append pass put.after behind fails) i ++ x ∷ sym (rest-append pass put.after behind fails) i)))
                ∙ sym (append_assoc front_of (y ∷ put.before) (put.node ∷ (front pass (put.after ++ behind) ++ x ∷ rest pass (put.after ++ behind))));
          })

    by : (IsBelow children place_below is_there deep (place_below y) → IsDone deep (place_below y)) → ((is_there (place_below y) ≡ true) × EachOf (λ z. IsElsewhere children place_below is_there deep (place_below z)) (children (place_below y))) ⊎ IsBelow children place_below is_there deep (place_below y) → IsDone (suc deep) at
    by inner (inl here) = at_node here.0 (put_here deep (place_below y) here.0 here.1)
    by inner (inr more) = further (inner more)

  -- where the place is that of the whole, the node stands past those at its front that pass
  pub put_on_top : (deep : ℕ) (at : K) → is_there at ≡ true → EachOf (λ y. IsElsewhere children place_below is_there deep (place_below y)) (children at)
      → new (suc deep) at ≡ front pass (old (suc deep) at) ++ x ∷ rest pass (old (suc deep) at)
  put_on_top deep at there each =
      let here = put_here deep at there each in
      let high : front pass (old (suc deep) at) ≡ here.passing = ap (front pass) here.old_is ∙ front-append pass here.passing here.failing here.fail_first ∙ front_all pass here.passing here.pass_all in
      let low : rest pass (old (suc deep) at) ≡ here.failing = ap (rest pass) here.old_is ∙ rest-append pass here.passing here.failing here.fail_first ∙ ap (λ zs. zs ++ here.failing) (rest_none pass here.passing here.pass_all) in
      here.new_is ∙ (λ i. sym high i ++ x ∷ sym low i)
