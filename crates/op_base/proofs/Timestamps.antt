-- Timestamps, number by number.
use Rattle.std.proofs.Common.{◌≡◌, ◌≢◌, ℕ, ◌+◌, ◌-◌, ◌<◌, ◌≤◌, ◌==◌, true, List, [], ◌∷◌, ◌++◌, ◌↔◌, length, drop, replicate, get_or, inl, inr, subst, zero, suc, refl, sym, ap, ◌∙◌, arith}
use Rattle.std.specs.Prelude.{max, min}
use Rattle.std.proofs.lemmas.Bool.{and_parts, leb-true, eq-eqb, cases_lt}
use Rattle.std.proofs.lemmas.Bool.Decides.{nat_tests}
use Rattle.std.proofs.lemmas.Grind.{same_number_lists}
use Rattle.std.proofs.lemmas.List.{length-take, length-drop, take-append-drop, get_or-take, get_or-drop, get_or-replicate, length-replicate}
use Rattle.op_base.specs.TagFields.{IsPadded, numbers_of}
use Rattle.op_base.specs.Timestamp.{entry, join, count_above, at_most, IsBelowChange}
use Rattle.op_base.specs.declared.tag.Tag.TheInside.{Inside}

-- ---- how many numbers are above

count_above-append : (xs ys vs ws : List ℕ) → length xs ≡ length ys → count_above (xs ++ vs) (ys ++ ws) ≡ count_above xs ys + count_above vs ws
count_above-append [] [] vs ws h = omega arith
count_above-append [] (y ∷ ys) vs ws h = absurd (omega (arith, h))
count_above-append (x ∷ xs) [] vs ws h = absurd (omega (arith, h))
count_above-append (x ∷ xs) (y ∷ ys) vs ws h = let ih = count_above-append xs ys vs ws (omega (arith, h)) in omega (arith, ih)

count_above-zeros : (n : ℕ) → count_above (replicate n 0) (replicate n 0) ≡ 0
count_above-zeros zero = refl
count_above-zeros (suc n) = let ih = count_above-zeros n in omega (arith, ih)

-- zeros behind both are nowhere above
pub count_above-padded : (t u : Inside) → IsPadded t → IsPadded u → length (numbers_of t) ≡ length (numbers_of u) → count_above t.parts u.parts ≡ count_above (numbers_of t) (numbers_of u)
count_above-padded t u p q same =
    let n : t.n ≡ u.n = omega (arith, same, length-take t.n t.parts, length-take u.n u.parts, p.1, p.2, q.1, q.2) in
    let whole : (t : Inside) → t.parts ≡ numbers_of t ++ drop t.n t.parts = λ t. sym (take-append-drop t.n t.parts) in
    let sum = count_above-append (numbers_of t) (numbers_of u) (drop t.n t.parts) (drop u.n u.parts) same in
    let none : count_above (drop t.n t.parts) (drop u.n u.parts) ≡ 0 = (λ i. count_above (p.3 i) (q.3 i)) ∙ ap (λ k. count_above (replicate (16 - t.n) 0) (replicate (16 - k) 0)) (sym n) ∙ count_above-zeros (16 - t.n) in
    (λ i. count_above (whole t i) (whole u i)) ∙ sum ∙ omega (arith, none)

-- none is above exactly where no number is above the other's
pub none_above : (xs ys : List ℕ) → length xs ≡ length ys → (count_above xs ys == 0) ≡ at_most xs ys
none_above [] [] h = refl
none_above [] (y ∷ ys) h = absurd (omega (arith, h))
none_above (x ∷ xs) [] h = absurd (omega (arith, h))
none_above (x ∷ xs) (y ∷ ys) h = let ih = none_above xs ys (omega (arith, h)) in grind (arith, nat_tests, ih)

-- so a timestamp that is at most another is nowhere above it
pub each_at_most : (xs ys : List ℕ) → length xs ≡ length ys → at_most xs ys ≡ true → (k : ℕ) → entry xs k ≤ entry ys k
each_at_most [] ys h t k = omega arith
each_at_most (x ∷ xs) [] h t k = absurd (omega (arith, h))
each_at_most (x ∷ xs) (y ∷ ys) h t zero = leb-true x y (and_parts _ _ t).0
each_at_most (x ∷ xs) (y ∷ ys) h t (suc k) = each_at_most xs ys (omega (arith, h)) (and_parts _ _ t).1 k

none_at : (xs ys : List ℕ) → length xs ≡ length ys → count_above xs ys ≡ 0 → (k : ℕ) → entry xs k ≤ entry ys k
none_at xs ys h none = each_at_most xs ys h (sym (none_above xs ys h) ∙ eq-eqb (count_above xs ys) 0 none)

at_none : (xs ys : List ℕ) → ((k : ℕ) → k < length xs → entry xs k ≤ entry ys k) → count_above xs ys ≡ 0
at_none [] ys low = refl
at_none (x ∷ xs) [] low = refl
at_none (x ∷ xs) (y ∷ ys) low =
    let here : x ≤ y = low 0 (omega arith) in
    let rest = at_none xs ys (λ k l. low (suc k) (omega (arith, l))) in
    grind (arith, nat_tests, here, rest)

count_above-most : (xs ys : List ℕ) → count_above xs ys ≤ length xs
count_above-most [] ys = omega arith
count_above-most (x ∷ xs) [] = omega arith
count_above-most (x ∷ xs) (y ∷ ys) = let rest = count_above-most xs ys in grind (arith, nat_tests, rest)

-- where as many are above as there are members, each is
pub above_at_each : (xs ys : List ℕ) → length xs ≡ length ys → count_above xs ys ≡ length xs → (k : ℕ) → k < length xs → entry ys k < entry xs k
above_at_each [] ys h all k l = absurd (omega (arith, l))
above_at_each (x ∷ xs) [] h all k l = absurd (omega (arith, h))
above_at_each (x ∷ xs) (y ∷ ys) h all zero l = let most = count_above-most xs ys in grind (arith, nat_tests, most, all)
above_at_each (x ∷ xs) (y ∷ ys) h all (suc k) l =
    let most = count_above-most xs ys in
    let rest : count_above xs ys ≡ length xs = grind (arith, nat_tests, most, all) in
    above_at_each xs ys (omega (arith, h)) rest k (omega (arith, l))

some_above : (o : ℕ) (xs ys : List ℕ) → length xs ≡ length ys → entry ys o < entry xs o → 1 ≤ count_above xs ys
some_above o [] ys h up = absurd (omega (arith, up))
some_above o (x ∷ xs) [] h up = absurd (omega (arith, h))
some_above zero (x ∷ xs) (y ∷ ys) h up = grind (arith, nat_tests, up)
some_above (suc o) (x ∷ xs) (y ∷ ys) h up = let rest = some_above o xs ys (omega (arith, h)) up in omega (arith, rest)

-- where one is above and a member's is, no other's is
pub alone_above : (o : ℕ) (xs ys : List ℕ) → length xs ≡ length ys → entry ys o < entry xs o → count_above xs ys ≡ 1 → (k : ℕ) → k ≢ o → entry xs k ≤ entry ys k
alone_above o [] ys h up one k ne = omega arith
alone_above o (x ∷ xs) [] h up one k ne = absurd (omega (arith, h))
alone_above zero (x ∷ xs) (y ∷ ys) h up one zero ne = absurd (ne refl)
alone_above zero (x ∷ xs) (y ∷ ys) h up one (suc k) ne =
    let rest : count_above xs ys ≡ 0 = grind (arith, nat_tests, up, one) in
    none_at xs ys (omega (arith, h)) rest k
alone_above (suc o) (x ∷ xs) (y ∷ ys) h up one zero ne = let some = some_above o xs ys (omega (arith, h)) up in grind (arith, nat_tests, some, one)
alone_above (suc o) (x ∷ xs) (y ∷ ys) h up one (suc k) ne =
    let some = some_above o xs ys (omega (arith, h)) up in
    let rest : count_above xs ys ≡ 1 = grind (arith, nat_tests, some, one) in
    alone_above o xs ys (omega (arith, h)) up rest k (λ e. ne (ap suc e))

-- and one is, where no other's is
pub above_alone : (o : ℕ) (xs ys : List ℕ) → length xs ≡ length ys → entry ys o < entry xs o → ((k : ℕ) → k < length xs → k ≢ o → entry xs k ≤ entry ys k) → count_above xs ys ≡ 1
above_alone o [] ys h up low = absurd (omega (arith, up))
above_alone o (x ∷ xs) [] h up low = absurd (omega (arith, h))
above_alone zero (x ∷ xs) (y ∷ ys) h up low =
    let rest = at_none xs ys (λ k l. low (suc k) (omega (arith, l)) (omega arith)) in
    grind (arith, nat_tests, up, rest)
above_alone (suc o) (x ∷ xs) (y ∷ ys) h up low =
    let here : x ≤ y = low 0 (omega arith) (omega arith) in
    let rest = above_alone o xs ys (omega (arith, h)) up (λ k l ne. low (suc k) (omega (arith, l)) (λ e. ne (omega (arith, e)))) in
    grind (arith, nat_tests, here, rest)

-- ---- the greater and the lesser of each two

pub length-join : (xs ys : List ℕ) → length xs ≡ length ys → length (join xs ys) ≡ length xs
length-join [] ys h = refl
length-join (x ∷ xs) [] h = absurd (omega (arith, h))
length-join (x ∷ xs) (y ∷ ys) h = ap suc (length-join xs ys (omega (arith, h)))

pub get_or-join : (xs ys : List ℕ) (k : ℕ) → k < length xs → length xs ≡ length ys → get_or (join xs ys) k 0 ≡ max (get_or xs k 0) (get_or ys k 0)
get_or-join [] ys k l h = absurd (omega (arith, l))
get_or-join (x ∷ xs) [] k l h = absurd (omega (arith, h))
get_or-join (x ∷ xs) (y ∷ ys) zero l h = refl
get_or-join (x ∷ xs) (y ∷ ys) (suc k) l h = get_or-join xs ys k (omega (arith, l)) (omega (arith, h))

-- the greater of each two numbers, number by number
pub join_by : (zs xs ys : List ℕ) → length zs ≡ length xs → length xs ≡ length ys → ((k : ℕ) → k < length xs → get_or zs k 0 ≡ max (get_or xs k 0) (get_or ys k 0)) → zs ≡ join xs ys
join_by zs xs ys l h each =
    let n : length (join xs ys) ≡ length xs = length-join xs ys h in
    same_number_lists zs (join xs ys) (omega (arith, l, n)) (λ k b. let a : k < length xs = omega (arith, b, l) in each k a ∙ sym (get_or-join xs ys k a h))

-- the lesser of each two places is of as many members as both
pub lesser_padded : (t u : Inside) (parts : List ℕ) → IsPadded t → IsPadded u → length (numbers_of t) ≡ length (numbers_of u) → length parts ≡ 16 → ((k : ℕ) → k < 16 → get_or parts k 0 ≡ min (get_or t.parts k 0) (get_or u.parts k 0)) → IsPadded (record { n = t.n; parts = parts })
lesser_padded t u parts p q same len each =
    let left : length (drop t.n parts) ≡ 16 - t.n = length-drop t.n parts ∙ ap (λ l. l - t.n) len in (
      p.0,
      p.1,
      len,
      same_number_lists _ _ (left ∙ sym (length-replicate (16 - t.n) 0)) (λ k l.
          let few : k < 16 - t.n = omega (arith, l, left) in
          let zero_there : get_or t.parts (t.n + k) 0 ≡ 0 = sym (get_or-drop t.n t.parts k 0) ∙ ap (λ l. get_or l k 0) p.3 ∙ get_or-replicate (16 - t.n) k 0 0 few in
          get_or-drop t.n parts k 0 ∙ each (t.n + k) (omega (arith, few, p.1)) ∙ ap (λ v. min v (get_or u.parts (t.n + k) 0)) zero_there ∙ omega arith ∙ sym (get_or-replicate (16 - t.n) k 0 0 few)),
    )

-- ---- numbers beside zeros

-- there are zeros behind a timestamp's numbers
place-padded : (t : Inside) → IsPadded t → (k : ℕ) → k < 16 → length (numbers_of t) ≤ k → get_or t.parts k 0 ≡ 0
place-padded t p k l past =
    let n : t.n ≤ k = omega (arith, past, length-take t.n t.parts, p.1, p.2) in
    let at : t.n + (k - t.n) ≡ k = omega (arith, n) in
    sym (ap (λ k. get_or t.parts k 0) at) ∙ sym (get_or-drop t.n t.parts (k - t.n) 0) ∙ ap (λ l. get_or l (k - t.n) 0) p.3 ∙ get_or-replicate (16 - t.n) (k - t.n) 0 0 (omega (arith, n, l))

-- and its numbers stand at the first places
entry-padded : (t : Inside) → IsPadded t → (k : ℕ) → k < length (numbers_of t) → get_or t.parts k 0 ≡ entry (numbers_of t) k
entry-padded t p k l = sym (get_or-take t.n t.parts k 0 (omega (arith, l, length-take t.n t.parts)))

-- so numbers are below each change of the members' ones exactly where they are at all places
pub below_changes-padded : (t u v : Inside) → IsPadded t → IsPadded u → IsPadded v → length (numbers_of u) ≡ length (numbers_of t) → length (numbers_of v) ≡ length (numbers_of t) →
    ((k : ℕ) → k < 16 → IsBelowChange (get_or t.parts k 0) (get_or u.parts k 0) (get_or v.parts k 0))
    ↔ ((k : ℕ) → k < length (numbers_of t) → IsBelowChange (entry (numbers_of t) k) (entry (numbers_of u) k) (entry (numbers_of v) k))
below_changes-padded t u v p q r same same' = (to, back)
  where
    to : ((k : ℕ) → k < 16 → IsBelowChange (get_or t.parts k 0) (get_or u.parts k 0) (get_or v.parts k 0)) → (k : ℕ) → k < length (numbers_of t) → IsBelowChange (entry (numbers_of t) k) (entry (numbers_of u) k) (entry (numbers_of v) k)
    to all k l =
        subst (λ b. IsBelowChange b (entry (numbers_of u) k) (entry (numbers_of v) k)) (entry-padded t p k l)
        (subst (λ f. IsBelowChange (get_or t.parts k 0) f (entry (numbers_of v) k)) (entry-padded u q k (omega (arith, l, same)))
        (subst (λ g. IsBelowChange (get_or t.parts k 0) (get_or u.parts k 0) g) (entry-padded v r k (omega (arith, l, same')))
        (all k (omega (arith, l, length-take t.n t.parts, p.1)))))

    back : ((k : ℕ) → k < length (numbers_of t) → IsBelowChange (entry (numbers_of t) k) (entry (numbers_of u) k) (entry (numbers_of v) k)) → (k : ℕ) → k < 16 → IsBelowChange (get_or t.parts k 0) (get_or u.parts k 0) (get_or v.parts k 0)
    back all k l = elim (cases_lt k (length (numbers_of t))) [
      | inl here ↦
          subst (λ b. IsBelowChange b (get_or u.parts k 0) (get_or v.parts k 0)) (sym (entry-padded t p k here))
          (subst (λ f. IsBelowChange (entry (numbers_of t) k) f (get_or v.parts k 0)) (sym (entry-padded u q k (omega (arith, here, same))))
          (subst (λ g. IsBelowChange (entry (numbers_of t) k) (entry (numbers_of u) k) g) (sym (entry-padded v r k (omega (arith, here, same'))))
          (all k here)))
      | inr past ↦ inl (place-padded u q k l (omega (arith, past, same)) ∙ sym (place-padded v r k l (omega (arith, past, same'))))
    ]
