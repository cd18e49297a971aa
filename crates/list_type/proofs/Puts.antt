-- A value is put into a row, taken out of it, or replaced there.
use Rattle.std.proofs.Common.{◌≡◌, ◌≢◌, ℕ, ◌+◌, ◌<◌, ◌≤◌, List, [], ◌∷◌, ◌++◌, length, get_or, set, Option, Some, None, refl, sym, ap, subst, ◌∙◌, inl, inr, cond, length-append, arith, true, false, eqb}
use Rattle.std.specs.Prelude.{IsSome, is_some}
use Rattle.std.proofs.lemmas.Bool.{cases_eq, eq-eqb, ne_eqb}
use Rattle.std.proofs.lemmas.List.{length-map, get_or-map, length-set, set-get_or, get_or-set_same, get_or-set_other, ext_get_or}
use Rattle.std.proofs.lemmas.List.Sums.{sum_by-set}
use Rattle.slab.specs.Slab.{Slab, get, ContainsKey, slab_len, with_value, Updates}
use Rattle.slab.proofs.SlabLemmas.{ContainsKey-within, Updates-with_value}
use Rattle.list_type.specs.Chained.{Chained, list_with, rows_with, first_or, last_or, first_slot, last_slot, row_at, Stands, IsParted}
use Rattle.list_type.specs.ChainFields.{chained, IsChained, IsLinked, head_of, AreLinked, Relinks, first_behind}
use Rattle.list_type.specs.declared.chain.Chains.TheInside.{Inside}
use Rattle.list_type.specs.declared.chain.Row.{Row}
use Rattle.list_type.specs.declared.chain.Slot.{Slot}
use Rattle.list_type.proofs.Linked.{slot_of, linked-left, linked-right, linked-append, IsApart, AreApart, apart-right, apart_by, linked_apart, are_apart-left, are_apart-right, apart_before, are_apart-without, last_slot_differs, first_slot_differs, last_slot_apart, first_slot_apart, OthersStay, linked_stays, linked_to, linked_from}
use Rattle.list_type.proofs.Rows.{head_is, row_changes, are_rows, slot_is}

module _ {T : Type 0} where
  -- a slot of a row holds a value of that row
  abbrev pub Holds : Slab (Slot T) → ℕ → Option ℕ → Type 0
  Holds slots row slot = (k : ℕ) → slot ≡ Some k → (had : Slot T) × (get slots k ≡ Some had) × (had.row ≡ row)

  pub first_holds : (slots : Slab (Slot T)) (row : ℕ) (start end : Option ℕ) (xs : List (ℕ × T)) → IsLinked slots row start xs end → Holds slots row (first_slot xs)
  first_holds slots row start end [] linked k is = cc
  first_holds slots row start end (x ∷ xs) linked k is =
      let slot : x.0 ≡ k = cc in
      subst (λ j. (had : Slot T) × (get slots j ≡ Some had) × (had.row ≡ row)) slot (slot_of row x.1 start (first_or xs end), linked.0, refl)

  last_holds : (slots : Slab (Slot T)) (row : ℕ) (start end : Option ℕ) (x : ℕ × T) (xs : List (ℕ × T)) → IsLinked slots row start (x ∷ xs) end → Holds slots row (last_or xs (Some x.0))
  last_holds slots row start end x [] linked k is = first_holds slots row start end (x ∷ []) linked k is
  last_holds slots row start end x (y ∷ xs) linked k is = last_holds slots row (Some x.0) end y xs linked.1 k is

  pub last_slot_holds : (slots : Slab (Slot T)) (row : ℕ) (end : Option ℕ) (xs : List (ℕ × T)) → IsLinked slots row None xs end → Holds slots row (last_slot xs)
  last_slot_holds slots row end [] linked k is = cc
  last_slot_holds slots row end (x ∷ xs) linked k is = last_holds slots row None end x xs linked k is

  last_next : (slots : Slab (Slot T)) (row : ℕ) (start end : Option ℕ) (x : ℕ × T) (xs : List (ℕ × T)) (k : ℕ) (had : Slot T) → IsLinked slots row start (x ∷ xs) end → last_or xs (Some x.0) ≡ Some k → get slots k ≡ Some had → had.next ≡ end
  last_next slots row start end x [] k had linked is at =
      let slot : x.0 ≡ k = cc in
      let same : Some (slot_of row x.1 start end) ≡ Some had = sym linked.0 ∙ ap (get slots) slot ∙ at in
      let fields : slot_of row x.1 start end ≡ had = cc in
      sym (ap (λ s. s.next) fields)
  last_next slots row start end x (y ∷ xs) k had linked is at = last_next slots row (Some x.0) end y xs k had linked.1 is at

  -- the last slot's next is where the list ends
  last_slot_next : (slots : Slab (Slot T)) (row : ℕ) (end : Option ℕ) (xs : List (ℕ × T)) (k : ℕ) (had : Slot T) → IsLinked slots row None xs end → last_slot xs ≡ Some k → get slots k ≡ Some had → had.next ≡ end
  last_slot_next slots row end [] k had linked is at = cc
  last_slot_next slots row end (x ∷ xs) k had linked is at = last_next slots row None end x xs k had linked is at

  last_some : (xs : List (ℕ × T)) (k : ℕ) → last_or xs (Some k) ≡ None → ⊥
  last_some [] k is = cc
  last_some (x ∷ xs) k is = last_some xs x.0 is

  -- nothing stands ahead of a row's front
  pub none_ahead : (xs : List (ℕ × T)) → last_slot xs ≡ None → xs ≡ []
  none_ahead [] is = refl
  none_ahead (x ∷ xs) is = absurd (last_some xs x.0 is)

  -- the first slot of a row that was put together anew
  pub front_is : (xs ys zs : List (ℕ × T)) → first_behind (last_slot xs) (first_slot ys) (first_slot (xs ++ zs)) ≡ first_slot (xs ++ ys)
  front_is [] ys zs = refl
  front_is (x ∷ xs) ys zs = behind xs (Some x.0) (λ same. cc) where
    behind : (xs : List (ℕ × T)) (other : Option ℕ) → (other ≡ None → ⊥) → first_behind (last_or xs other) (first_slot ys) (Some x.0) ≡ Some x.0
    behind [] None some = absurd (some refl)
    behind [] (Some k) some = refl
    behind (y ∷ xs) other some = behind xs (Some y.0) (λ same. cc)

  -- a row's first slot and length where what stands behind a place is other than it was
  pub head_made : (before old new : List (ℕ × T)) (ahead first : Option ℕ) (len : ℕ) (head : Row) → ahead ≡ last_slot before → head ≡ head_of (before ++ old)
      → first ≡ first_behind ahead (first_slot new) head.first → len + length old ≡ head.len + length new → head_of (before ++ new) ≡ record { first = first; len = len }
  head_made before old new ahead first len head ahead_is is first_is count =
      let front : first_slot (before ++ new) ≡ first =
      sym (front_is before new old) ∙ (λ i. first_behind (sym ahead_is i) (first_slot new) (sym is i).first) ∙ sym first_is in
      let many : length (before ++ new) ≡ len = omega (arith, count, ap (λ h. h.len) is, length-append before old, length-append before new) in
      λ i. record { first = front i; len = many i }

  -- a slot that holds a value isn't one that holds none
  pub vacant_differs : (slots : Slab (Slot T)) (row key : ℕ) (slot : Option ℕ) → get slots key ≡ None → Holds slots row slot → slot ≡ Some key → ⊥
  vacant_differs slots row key slot vacant holds is =
      let found = holds key is in
      let two : None ≡ Some found.0 = sym vacant ∙ found.1 in
      cc

  -- a slot that holds a value still does where another changes
  pub still_held : (old new : Slab (Slot T)) (row key : ℕ) (slot : Option ℕ) → Holds old row slot → (slot ≡ Some key → ⊥) → ((k : ℕ) → k ≢ key → get new k ≡ get old k) → (k : ℕ) → slot ≡ Some k → ContainsKey new k
  still_held old new row key slot holds differs others k is = ap is_some (others k (λ same. differs (is ∙ ap Some same)) ∙ (holds k is).1)

  pub relinked_held : (change : Slot T → Slot T) (old new : Slab (Slot T)) (slot : Option ℕ) → Relinks change old new slot → (k : ℕ) → ContainsKey old k → ContainsKey new k
  relinked_held change old new slot relinks k held = by (get old k) refl held where
    at : (had : Slot T) → get old k ≡ Some had → (o : Option ℕ) → slot ≡ o → ContainsKey new k
    at had is None none = ap is_some (relinks.others k (λ same. let two : None ≡ Some k = sym none ∙ same in cc) ∙ is)
    at had is (Some j) some = elim (cases_eq j k) [
      | inl same ↦ ap is_some (relinks.changed k had (some ∙ ap Some same) is)
      | inr differs ↦ ap is_some (relinks.others k (λ here. let two : Some j ≡ Some k = sym some ∙ here in differs cc) ∙ is)
    ]

    by : (o : Option (Slot T)) → get old k ≡ o → IsSome o → ContainsKey new k
    by None is some = cc
    by (Some had) is some = at had is slot refl

  -- ---- a slot changes, and then those ahead of it and behind it are relinked

  module _ (slots : Slab (Slot T)) (heads : List Row) (rows : List (List (ℕ × T))) (are : AreLinked slots heads rows)
      (first second third : Slab (Slot T)) (row : ℕ) (slot ahead behind next previous : Option ℕ)
      (stays : OthersStay slots first slot) (to : Relinks (λ had. record had { next = next }) first second ahead) (from : Relinks (λ had. record had { previous = previous }) second third behind) where
    -- a list with none of these slots stays as it is
    through : (r : ℕ) (start end : Option ℕ) (xs : List (ℕ × T)) → IsApart slot xs → IsApart ahead xs → IsApart behind xs → IsLinked slots r start xs end → IsLinked third r start xs end
    through r start end xs a b c linked =
        linked_stays second third r start end behind xs from.others c (linked_stays first second r start end ahead xs to.others b (linked_stays slots first r start end slot xs stays a linked))

    -- the lists of other rows do, where each of these slots is of this row, or of none
    abbrev pub IsOfRow : Option ℕ → Type 0
    IsOfRow o = (k : ℕ) (had : Slot T) → o ≡ Some k → get slots k ≡ Some had → had.row ≡ row

    others_stay : IsOfRow slot → IsOfRow ahead → IsOfRow behind → (r : ℕ) → r < length rows → r ≢ row → IsLinked third r None (row_at rows r) None
    others_stay a b c r within differs =
        let linked = are.linked r within in
        let apart = λ (o : Option ℕ) (of : IsOfRow o). apart_by slots r None None o (row_at rows r) linked (λ k had is at same. differs (sym same ∙ of k had is at)) in
        through r None None (row_at rows r) (apart slot a) (apart ahead b) (apart behind c) linked

    -- what stands before the place ends at the new next, and what stands behind it begins at the new previous
    before_is : (before : List (ℕ × T)) (end : Option ℕ) → IsLinked slots row None before end → ahead ≡ last_slot before → IsApart slot before → AreApart before → IsApart behind before → IsLinked third row None before next
    before_is before end linked is a b c =
        linked_stays second third row None next behind before from.others c
        (linked_to first second row end next before (subst (λ o. Relinks (λ had. record had { next = next }) first second o) is to) b
        (linked_stays slots first row None end slot before stays a linked))

    after_is : (after : List (ℕ × T)) (start : Option ℕ) → IsLinked slots row start after None → behind ≡ first_slot after → IsApart slot after → AreApart after → IsApart ahead after → IsLinked third row previous after None
    after_is after start linked is a b c =
        linked_from second third row start previous after (subst (λ o. Relinks (λ had. record had { previous = previous }) second third o) is from) b
        (linked_stays first second row start None ahead after to.others c
        (linked_stays slots first row start None slot after stays a linked))

  -- what is in a slot is of a row
  of_row : (slots : Slab (Slot T)) (row : ℕ) (o : Option ℕ) → Holds slots row o → (k : ℕ) (had : Slot T) → o ≡ Some k → get slots k ≡ Some had → had.row ≡ row
  of_row slots row o holds k had is at =
      let found = holds k is in
      let same : found.0 ≡ had = cc in
      sym (ap (λ s. s.row) same) ∙ found.2

  -- ---- a place in a row

  module _ (slots : Slab (Slot T)) (heads : List Row) (rows : List (List (ℕ × T))) (are : AreLinked slots heads rows) (row : ℕ) (before after : List (ℕ × T)) (ahead : Option ℕ) (parted : IsParted rows row before ahead after) where
    parts : IsLinked slots row None before (first_slot after)
    parts = linked-left slots row None None before after (subst (λ xs. IsLinked slots row None xs None) parted.here (are.linked row parted.within))

    pub place_holds : Holds slots row ahead
    place_holds = subst (Holds slots row) parted.ahead_is (last_slot_holds slots row (first_slot after) before parts)

    pub rest_holds : Holds slots row (first_slot after)
    rest_holds = first_holds slots row (last_slot before) None after (linked-right slots row None None before after (subst (λ xs. IsLinked slots row None xs None) parted.here (are.linked row parted.within)))

    -- what stands behind it, as the slot ahead tells it, or else the row's head
    pub next_of : (k : ℕ) (had : Slot T) → ahead ≡ Some k → get slots k ≡ Some had → had.next ≡ first_slot after
    next_of k had is at = last_slot_next slots row (first_slot after) before k had parts (parted.ahead_is ∙ is) at

    pub front_of : (d : Row) → ahead ≡ None → (get_or heads row d).first ≡ first_slot after
    front_of d is =
        ap (λ head. head.first) (head_is slots heads rows are row d parted.within)
        ∙ ap first_slot parted.here
        ∙ ap (λ xs. first_slot (xs ++ after)) (none_ahead before (parted.ahead_is ∙ is))

  -- ---- a value is put in

  module _ (slots : Slab (Slot T)) (heads : List Row) (rows : List (List (ℕ × T))) (are : AreLinked slots heads rows)
      (first second third : Slab (Slot T)) (row key : ℕ) (value : T) (before after : List (ℕ × T)) (ahead behind : Option ℕ)
      (parted : IsParted rows row before ahead after) (next_is : behind ≡ first_slot after) (vacant : get slots key ≡ None)
      (put : Updates slots first key (Some (slot_of row value ahead behind)))
      (to : Relinks (λ had. record had { next = Some key }) first second ahead) (from : Relinks (λ had. record had { previous = Some key }) second third behind) where
    whole : IsLinked slots row None (before ++ after) None
    whole = subst (λ xs. IsLinked slots row None xs None) parted.here (are.linked row parted.within)

    apart : AreApart (before ++ after)
    apart = linked_apart slots row None (before ++ after) whole

    left : IsLinked slots row None before (first_slot after)
    left = linked-left slots row None None before after whole

    right : IsLinked slots row (last_slot before) after None
    right = linked-right slots row None None before after whole

    fresh : (xs : List (ℕ × T)) (r : ℕ) (start end : Option ℕ) → IsLinked slots r start xs end → IsApart (Some key) xs
    fresh xs r start end linked = apart_by slots r start end (Some key) xs linked (λ k had is at same.
        let here : key ≡ k = cc in
        let two : None ≡ Some had = sym vacant ∙ ap (get slots) here ∙ at in
        cc)

    stays : OthersStay slots first (Some key)
    stays k differs = put.others k (λ same. differs (ap Some (sym same)))

    ahead_holds : Holds slots row ahead
    ahead_holds = place_holds slots heads rows are row before after ahead parted

    behind_holds : Holds slots row behind
    behind_holds = subst (Holds slots row) (sym next_is) (rest_holds slots heads rows are row before after ahead parted)

    here : get third key ≡ Some (slot_of row value (last_slot before) (first_slot after))
    here =
        from.others key (vacant_differs slots row key behind vacant behind_holds)
        ∙ to.others key (vacant_differs slots row key ahead vacant ahead_holds)
        ∙ put.changed
        ∙ (λ i. Some (slot_of row value (sym parted.ahead_is i) (next_is i)))

    put_is : IsLinked third row None (before ++ (key, value) ∷ after) None
    put_is =
        linked-append third row None None before ((key, value) ∷ after)
        (before_is slots heads rows are first second third row (Some key) ahead behind (Some key) (Some key) stays to from before (first_slot after) left (sym parted.ahead_is) (fresh before row None (first_slot after) left) (are_apart-left before after apart) (subst (λ o. IsApart o before) (sym next_is) (first_slot_apart before after apart)))
        (here, after_is slots heads rows are first second third row (Some key) ahead behind (Some key) (Some key) stays to from after (last_slot before) right next_is (fresh after row (last_slot before) None right) (are_apart-right before after apart) (subst (λ o. IsApart o after) parted.ahead_is (last_slot_apart before after apart)))

    pub row_put : slab_len first ≡ slab_len slots + 1 → slab_len slots + 1 ≤ slots.capacity → first.capacity ≡ slots.capacity → AreLinked third (set heads row (head_of (before ++ (key, value) ∷ after))) (set rows row (before ++ (key, value) ∷ after))
    row_put len room capacity =
        row_changes slots heads rows are third row (before ++ (key, value) ∷ after) parted.within put_is
        (others_stay slots heads rows are first second third row (Some key) ahead behind (Some key) (Some key) stays to from
        (λ k had is at. let same : key ≡ k = cc in let two : None ≡ Some had = sym vacant ∙ ap (get slots) same ∙ at in cc)
        (of_row slots row ahead ahead_holds)
        (of_row slots row behind behind_holds))
        (omega (arith, len, to.len, from.len, ap length parted.here, length-append before after, length-append before ((key, value) ∷ after)))
        (omega (arith, len, to.len, from.len, capacity, to.capacity, from.capacity, room))

  -- ---- a value is taken out

  -- the slots on both sides of one hold values, and are others
  module _ (slots : Slab (Slot T)) (heads : List Row) (rows : List (List (ℕ × T))) (are : AreLinked slots heads rows) (row key : ℕ) (value : T) (before after : List (ℕ × T)) (stands : Stands rows row before key value after) where
    around : IsLinked slots row None (before ++ (key, value) ∷ after) None
    around = subst (λ xs. IsLinked slots row None xs None) stands.here (are.linked row stands.within)

    pub previous_holds : Holds slots row (last_slot before)
    previous_holds = last_slot_holds slots row (Some key) before (linked-left slots row None None before ((key, value) ∷ after) around)

    pub next_holds : Holds slots row (first_slot after)
    next_holds = first_holds slots row (Some key) None after (linked-right slots row None None before ((key, value) ∷ after) around).1

    pub previous_differs : last_slot before ≡ Some key → ⊥
    previous_differs = last_slot_differs key before (apart_before before after (key, value) (linked_apart slots row None (before ++ (key, value) ∷ after) around))

    pub next_differs : first_slot after ≡ Some key → ⊥
    next_differs = first_slot_differs key after (are_apart-right before ((key, value) ∷ after) (linked_apart slots row None (before ++ (key, value) ∷ after) around)).0

  module _ (slots : Slab (Slot T)) (heads : List Row) (rows : List (List (ℕ × T))) (are : AreLinked slots heads rows)
      (first second third : Slab (Slot T)) (row key : ℕ) (value : T) (before after : List (ℕ × T)) (ahead behind : Option ℕ)
      (stands : Stands rows row before key value after) (ahead_is : ahead ≡ last_slot before) (next_is : behind ≡ first_slot after)
      (gone : Updates slots first key None)
      (to : Relinks (λ had. record had { next = behind }) first second ahead) (from : Relinks (λ had. record had { previous = ahead }) second third behind) where
    whole_2 : IsLinked slots row None (before ++ (key, value) ∷ after) None
    whole_2 = subst (λ xs. IsLinked slots row None xs None) stands.here (are.linked row stands.within)

    apart_2 : AreApart (before ++ (key, value) ∷ after)
    apart_2 = linked_apart slots row None (before ++ (key, value) ∷ after) whole_2

    both : AreApart (before ++ after)
    both = are_apart-without before after (key, value) apart_2

    left_2 : IsLinked slots row None before (Some key)
    left_2 = linked-left slots row None None before ((key, value) ∷ after) whole_2

    right_2 : IsLinked slots row (last_slot before) ((key, value) ∷ after) None
    right_2 = linked-right slots row None None before ((key, value) ∷ after) whole_2

    stays_2 : OthersStay slots first (Some key)
    stays_2 k differs = gone.others k (λ same. differs (ap Some (sym same)))

    ahead_holds_2 : Holds slots row ahead
    ahead_holds_2 = subst (Holds slots row) (sym ahead_is) (previous_holds slots heads rows are row key value before after stands)

    behind_holds_2 : Holds slots row behind
    behind_holds_2 = subst (Holds slots row) (sym next_is) (next_holds slots heads rows are row key value before after stands)

    take_is : IsLinked third row None (before ++ after) None
    take_is =
        linked-append third row None None before after
        (subst (λ o. IsLinked third row None before o) next_is (before_is slots heads rows are first second third row (Some key) ahead behind behind ahead stays_2 to from before (Some key) left_2 ahead_is (apart_before before after (key, value) apart_2) (are_apart-left before after both) (subst (λ o. IsApart o before) (sym next_is) (first_slot_apart before after both))))
        (subst (λ o. IsLinked third row o after None) ahead_is (after_is slots heads rows are first second third row (Some key) ahead behind behind ahead stays_2 to from after (Some key) right_2.1 next_is (are_apart-right before ((key, value) ∷ after) apart_2).0 (are_apart-right before after both) (subst (λ o. IsApart o after) (sym ahead_is) (last_slot_apart before after both))))

    pub row_take : slab_len first + 1 ≡ slab_len slots → first.capacity ≡ slots.capacity → AreLinked third (set heads row (head_of (before ++ after))) (set rows row (before ++ after))
    row_take len capacity =
        row_changes slots heads rows are third row (before ++ after) stands.within take_is
        (others_stay slots heads rows are first second third row (Some key) ahead behind behind ahead stays_2 to from
        (λ k had is at. let same : key ≡ k = cc in of_row slots row (Some key) (first_holds slots row (last_slot before) None ((key, value) ∷ after) right_2) k had is at)
        (of_row slots row ahead ahead_holds_2)
        (of_row slots row behind behind_holds_2))
        (omega (arith, len, to.len, from.len, ap length stands.here, length-append before after, length-append before ((key, value) ∷ after)))
        (omega (arith, len, to.len, from.len, capacity, to.capacity, from.capacity, are.fits))

  -- ---- a value is replaced

  -- as many slots hold values after a write
  pub len-with_value : (slots : Slab (Slot T)) (key : ℕ) (had value : Slot T) → get slots key ≡ Some had → slab_len (with_value slots key value) ≡ slab_len slots
  len-with_value slots key had value is =
      let one : Option (Slot T) → ℕ = λ o. cond (is_some o) 1 0 in
      let here : one (get slots key) ≡ 1 = ap one is in
      omega (arith, sum_by-set one slots.slots key (Some value) None (ContainsKey-within slots key (ap is_some is)), here)

  module _ (slots : Slab (Slot T)) (heads : List Row) (rows : List (List (ℕ × T))) (are : AreLinked slots heads rows)
      (new : Slab (Slot T)) (row key : ℕ) (had value : T) (before after : List (ℕ × T)) (stands : Stands rows row before key had after)
      (write : Updates slots new key (Some (slot_of row value (last_slot before) (first_slot after)))) where
    whole_3 : IsLinked slots row None (before ++ (key, had) ∷ after) None
    whole_3 = subst (λ xs. IsLinked slots row None xs None) stands.here (are.linked row stands.within)

    apart_3 : AreApart (before ++ (key, had) ∷ after)
    apart_3 = linked_apart slots row None (before ++ (key, had) ∷ after) whole_3

    right_3 : IsLinked slots row (last_slot before) ((key, had) ∷ after) None
    right_3 = linked-right slots row None None before ((key, had) ∷ after) whole_3

    stays_3 : OthersStay slots new (Some key)
    stays_3 k differs = write.others k (λ same. differs (ap Some (sym same)))

    set_is : IsLinked new row None (before ++ (key, value) ∷ after) None
    set_is =
        linked-append new row None None before ((key, value) ∷ after)
        (linked_stays slots new row None (Some key) (Some key) before stays_3 (apart_before before after (key, had) apart_3) (linked-left slots row None None before ((key, had) ∷ after) whole_3))
        (write.changed, linked_stays slots new row (Some key) None (Some key) after stays_3 (are_apart-right before ((key, had) ∷ after) apart_3).0 right_3.1)

    others_3 : (r : ℕ) → r < length rows → r ≢ row → IsLinked new r None (row_at rows r) None
    others_3 r within differs =
        let linked = are.linked r within in
        linked_stays slots new r None None (Some key) (row_at rows r) stays_3 (apart_by slots r None None (Some key) (row_at rows r) linked (λ k found is at same.
        differs (sym same ∙ of_row slots row (Some key) (first_holds slots row (last_slot before) None ((key, had) ∷ after) right_3) k found is at))) linked

    -- the row begins where it began, and is as long
    same_heads : (d : Row) → set heads row (head_of (before ++ (key, value) ∷ after)) ≡ heads
    same_heads d =
        let head : get_or heads row d ≡ head_of (before ++ (key, had) ∷ after) = head_is slots heads rows are row d stands.within ∙ ap head_of stands.here in
        ap (set heads row)
        (head_made before ((key, had) ∷ after) ((key, value) ∷ after) (last_slot before) (first_slot (before ++ (key, had) ∷ after)) (length (before ++ (key, had) ∷ after)) (head_of (before ++ (key, had) ∷ after)) refl refl (sym (front_is before ((key, value) ∷ after) ((key, had) ∷ after) ∙ first_same before)) (omega arith)
        ∙ sym head)
        ∙ set-get_or heads row d where
          first_same : (xs : List (ℕ × T)) → first_slot (xs ++ (key, value) ∷ after) ≡ first_slot (xs ++ (key, had) ∷ after)
          first_same [] = refl
          first_same (x ∷ xs) = refl

    row_set : slab_len new ≡ slab_len slots → new.capacity ≡ slots.capacity → AreLinked new heads (set rows row (before ++ (key, value) ∷ after))
    row_set len capacity =
        subst (λ hs. AreLinked new hs (set rows row (before ++ (key, value) ∷ after))) (same_heads (record { first = None; len = 0 }))
        (row_changes slots heads rows are new row (before ++ (key, value) ∷ after) stands.within set_is others_3
        (omega (arith, len, ap length stands.here, length-append before ((key, had) ∷ after), length-append before ((key, value) ∷ after)))
        (omega (arith, len, capacity, are.fits)))

  -- ---- a slot is written

  list_apart : (key : ℕ) (value : T) (xs : List (ℕ × T)) → IsApart (Some key) xs → list_with key value xs ≡ xs
  list_apart key value [] all = refl
  list_apart key value (x ∷ xs) all =
      let other : eqb x.0 key ≡ false = ne_eqb x.0 key (λ same. all.0 (ap Some (sym same))) in
      λ i. (x.0, cond (other i) value x.1) ∷ list_apart key value xs all.1 i

  list_here : (key : ℕ) (had value : T) (before after : List (ℕ × T)) → AreApart (before ++ (key, had) ∷ after) → list_with key value (before ++ (key, had) ∷ after) ≡ before ++ (key, value) ∷ after
  list_here key had value [] after all =
      let here : eqb key key ≡ true = eq-eqb key key refl in
      λ i. (key, cond (here i) value had) ∷ list_apart key value after all.0 i
  list_here key had value (x ∷ before) after all =
      let other : eqb x.0 key ≡ false = ne_eqb x.0 key (λ same. (apart-right (Some x.0) before ((key, had) ∷ after) all.0).0 (ap Some same)) in
      λ i. (x.0, cond (other i) value x.1) ∷ list_here key had value before after all.1 i

  module _ (s : Inside T) (v : Chained T) (is : chained s ≡ v) (invariant : IsChained s) (row key : ℕ) (had value : T) (before after : List (ℕ × T)) (stands : Stands v.rows row before key had after) where
    are : AreLinked s.slots s.rows.items v.rows
    are = are_rows s v is invariant

    -- the rows that a value is written to
    pub rows_written : rows_with v.rows key value ≡ set v.rows row (before ++ (key, value) ∷ after)
    rows_written = ext_get_or [] (rows_with v.rows key value) (set v.rows row new) (length-map v.rows (list_with key value) ∙ sym (length-set v.rows row new)) (λ r l.
        let within : r < length v.rows = omega (arith, l, length-map v.rows (list_with key value)) in
        get_or-map (list_with key value) v.rows r [] [] within
        ∙ elim (cases_eq r row) [
          | inl same ↦
              ap (λ k. list_with key value (row_at v.rows k)) same
              ∙ ap (list_with key value) stands.here
              ∙ list_here key had value before after (linked_apart s.slots row None (before ++ (key, had) ∷ after) whole)
              ∙ sym (ap (λ k. row_at (set v.rows row new) k) same ∙ get_or-set_same v.rows row new [] stands.within)
          | inr differs ↦
              list_apart key value (row_at v.rows r) (apart_by s.slots r None None (Some key) (row_at v.rows r) ((are_rows s v is invariant).linked r within) (λ k found here at same.
              differs (sym same ∙ of_row s.slots row (Some key) (first_holds s.slots row (last_slot before) None ((key, had) ∷ after) right) k found here at)))
              ∙ sym (get_or-set_other v.rows row r new [] differs)
        ]) where
          new : List (ℕ × T)
          new = before ++ (key, value) ∷ after

          whole : IsLinked s.slots row None (before ++ (key, had) ∷ after) None
          whole = subst (λ xs. IsLinked s.slots row None xs None) stands.here ((are_rows s v is invariant).linked row stands.within)

          right : IsLinked s.slots row (last_slot before) ((key, had) ∷ after) None
          right = linked-right s.slots row None None before ((key, had) ∷ after) whole

    -- they are linked, where the slot is as it was but for its value
    pub written_linked : (now : Slot T) → get s.slots key ≡ Some now → (other : T) → other ≡ value → AreLinked (with_value s.slots key (record now { value = other })) s.rows.items (set v.rows row (before ++ (key, value) ∷ after))
    written_linked now at other other_is =
        let fields = slot_is s v is invariant row before key had after now at stands in
        let content : record now { value = other } ≡ slot_of row value (last_slot before) (first_slot after) = λ i. slot_of (fields i).row (other_is i) (fields i).previous (fields i).next in
        let new = with_value s.slots key (record now { value = other }) in
        row_set s.slots s.rows.items v.rows are new row key had value before after stands
        (subst (λ (slot : Slot T). Updates s.slots new key (Some slot)) content (Updates-with_value s.slots key (record now { value = other }) (ap is_some at)))
        (len-with_value s.slots key now (record now { value = other }) at) refl
