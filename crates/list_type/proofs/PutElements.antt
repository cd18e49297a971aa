-- An element is put into a row: what is listed then, and which lists have which elements.
use Rattle.std.proofs.Common.{◌≡◌, ◌≢◌, ℕ, ◌<◌, Bool, true, false, cond, All, AllPairs, List, [], ◌∷◌, ◌++◌, length, set, Option, Some, None, refl, sym, ap, subst, ◌∙◌, ◌⊎◌, inl, inr, append_assoc, arith}
use Rattle.std.specs.HashMap.{HashMap, get}
use Rattle.std.proofs.Math.Logic.{∥∥₁_map}
use Rattle.std.proofs.lemmas.Bool.{both_ways, cases_Bool, cases_eq, cond-true, cond-false, false_from_ne_true}
use Rattle.std.proofs.lemmas.List.{map-append, length-set, get_or-set_same, get_or-set_other}
use Rattle.std.proofs.lemmas.List.Elements.{All-weaker}
use Rattle.op_base.specs.Object.{same_object}
use Rattle.op_base.specs.declared.name.ObjectId.{ObjectId}
use Rattle.op_base.specs.declared.tag.ElementId.{ElementId}
use Rattle.causal_model.specs.Elements.{same_element}
use Rattle.causal_model.specs.ListSteps.{put_down}
use Rattle.causal_model.proofs.Lists.KeptOfOneMore.{one_element, element_itself}
use Rattle.list_type.specs.Chained.{Chained, last_slot, row_at, passed, from_unpassed, Stands, IsParted, IsPlace, OfPlace}
use Rattle.list_type.specs.Putting.{ranks_above, IsAhead, IsPutBehind}
use Rattle.list_type.specs.ListFields.{element_in, elements_in, elements_of_row, AreListed, StandsIn}
use Rattle.list_type.specs.declared.lists.Content.{Content}
use Rattle.list_type.specs.declared.lists.Lists.{Lists}
use Rattle.list_type.specs.declared.tree.Node.{Node}
use Rattle.list_type.proofs.Places.{front, further}
use Rattle.list_type.proofs.Listings.{All-from_parts, All-front, All-behind, AllPairs-with, kept_in, object_itself}

-- ---- the order of elements

-- a node that is put past those that rank above it stands where its element is put down
put_down_is : (node : Node Content) (slot : ℕ) (xs : List (ℕ × Node Content))
    → elements_in (passed (ranks_above node.value) xs ++ (slot, node) ∷ from_unpassed (ranks_above node.value) xs) ≡ put_down (element_in node) (elements_in xs)
put_down_is node slot [] = refl
put_down_is node slot (x ∷ xs) =
    let p = ranks_above node.value in
    elim (p x.1) as (λ b. elements_in (cond b (x ∷ passed p xs) [] ++ (slot, node) ∷ cond b (from_unpassed p xs) (x ∷ xs)) ≡ cond b (element_in x.1 ∷ put_down (element_in node) (elements_in xs)) (element_in node ∷ element_in x.1 ∷ elements_in xs)) [
      | true ↦ ap (λ es. element_in x.1 ∷ es) (put_down_is node slot xs)
      | false ↦ refl
    ]

module _ {R : Type 0} (rows : HashMap ObjectId ℕ R) (chains new_chains : Chained (Node Content)) (object : ObjectId) (row : ℕ) (at : get same_object rows object ≡ Some row) (within : row < length chains.rows) (slot : ℕ) (node : Node Content) where
  abbrev above : Node Content → Bool
  above = ranks_above node.value

  -- a list has what its row has
  kept_is : (xs : List (ℕ × Node Content)) → new_chains.rows ≡ set chains.rows row xs → kept_in rows new_chains object ≡ elements_in xs
  kept_is xs put = ap (elements_of_row new_chains.rows) at ∙ ap (λ lists. elements_in (row_at lists row)) put ∙ ap elements_in (get_or-set_same chains.rows row xs [] within)

  -- at the head of a list
  put_at_head : let xs = row_at chains.rows row in new_chains.rows ≡ set chains.rows row (passed above xs ++ (slot, node) ∷ from_unpassed above xs)
      → kept_in rows new_chains object ≡ put_down (element_in node) (kept_in rows chains object)
  put_at_head put = kept_is _ put ∙ put_down_is node slot (row_at chains.rows row) ∙ ap (put_down (element_in node)) (sym (ap (elements_of_row chains.rows) at))

  -- behind another
  put_behind_it : (before : List (ℕ × Node Content)) (x : ℕ × Node Content) (after : List (ℕ × Node Content)) → new_chains.rows ≡ set chains.rows row (((before ++ x ∷ []) ++ passed above after) ++ (slot, node) ∷ from_unpassed above after)
      → kept_in rows new_chains object ≡ elements_in before ++ element_in x.1 ∷ put_down (element_in node) (elements_in after)
  put_behind_it before x after put =
      let rest = (slot, node) ∷ from_unpassed above after in
      kept_is _ put
      ∙ ap elements_in (append_assoc (before ++ x ∷ []) (passed above after) rest ∙ append_assoc before (x ∷ []) (passed above after ++ rest))
      ∙ map-append (λ y. element_in y.1) before (x ∷ (passed above after ++ rest))
      ∙ ap (λ es. elements_in before ++ element_in x.1 ∷ es) (put_down_is node slot after)

-- ---- parts of a list with one more

-- a part of a list
record IsPart {X : Type 0} (xs : List X) (x : X) : Type 0 where
  before : List X
  after : List X
  here : xs ≡ before ++ x ∷ after

module _ {X : Type 0} where
  with_front : (z : X) (xs : List X) (x : X) → IsPart xs x → IsPart (z ∷ xs) x
  with_front z xs x part = record { before = z ∷ part.before; after = part.after; here = ap (λ ys. z ∷ ys) part.here }

  -- each part of a list with one more is that one, or a part of the list
  part_or_new : (xs : List X) (y : X) (ys : List X) (before : List X) (x : X) (after : List X) → xs ++ y ∷ ys ≡ before ++ x ∷ after → (y ≡ x) ⊎ IsPart (xs ++ ys) x
  part_or_new [] y ys [] x after is = inl (cc)
  part_or_new [] y ys (b ∷ before) x after is = inr (record { before = before; after = after; here = cc })
  part_or_new (z ∷ xs) y ys [] x after is = let same : z ≡ x = cc in inr (record { before = []; after = xs ++ ys; here = ap (λ w. w ∷ (xs ++ ys)) same })
  part_or_new (z ∷ xs) y ys (b ∷ before) x after is = elim (part_or_new xs y ys before x after (cc)) [
    | inl new ↦ inl new
    | inr part ↦ inr (with_front z (xs ++ ys) x part)
  ]

  -- each part of a list is one of the list with one more
  still_part : (xs : List X) (y : X) (ys : List X) (before : List X) (x : X) (after : List X) → xs ++ ys ≡ before ++ x ∷ after → IsPart (xs ++ y ∷ ys) x
  still_part [] y ys before x after is = record { before = y ∷ before; after = after; here = ap (λ zs. y ∷ zs) is }
  still_part (z ∷ xs) y ys [] x after is = let same : z ≡ x = cc in record { before = []; after = xs ++ y ∷ ys; here = ap (λ w. w ∷ (xs ++ y ∷ ys)) same }
  still_part (z ∷ xs) y ys (b ∷ before) x after is = with_front z (xs ++ y ∷ ys) x (still_part xs y ys before x after (cc))

-- ---- what is listed

module _ {R S : Type 0} (rows : HashMap ObjectId ℕ R) (slots new_slots : HashMap ElementId ℕ S) (chains new_chains : Chained (Node Content)) (are : AreListed rows slots chains)
    (row : ℕ) (xs ys : List (ℕ × Node Content)) (slot : ℕ) (node : Node Content)
    (within : row < length chains.rows) (here : row_at chains.rows row ≡ xs ++ ys)
    (put : new_chains.rows ≡ set chains.rows row (xs ++ (slot, node) ∷ ys))
    (fresh : get same_element slots node.value.id ≡ None)
    (noted : (q : ElementId) → get same_element new_slots q ≡ cond (same_element node.value.id q) (Some slot) (get same_element slots q)) where
  as_many : length new_chains.rows ≡ length chains.rows
  as_many = ap length put ∙ length-set chains.rows row (xs ++ (slot, node) ∷ ys)

  row_is : row_at new_chains.rows row ≡ xs ++ (slot, node) ∷ ys
  row_is = ap (λ lists. row_at lists row) put ∙ get_or-set_same chains.rows row (xs ++ (slot, node) ∷ ys) [] within

  -- and the other rows are as they were
  other_is : (r : ℕ) → r ≢ row → row_at new_chains.rows r ≡ row_at chains.rows r
  other_is r differs = ap (λ lists. row_at lists r) put ∙ get_or-set_other chains.rows row r (xs ++ (slot, node) ∷ ys) [] differs

  -- no element had the id
  no_other : (r : ℕ) (before : List (ℕ × Node Content)) (s : ℕ) (n : Node Content) (after : List (ℕ × Node Content)) → Stands chains.rows r before s n after → node.value.id ≡ n.value.id → ⊥
  no_other r before s n after stands same =
      let at = are.found r before s n after stands in
      let none = subst (λ id. get same_element slots id ≡ None) same fresh in
      cc

  -- so each that was there is found as before
  had_slot : (r : ℕ) (before : List (ℕ × Node Content)) (s : ℕ) (n : Node Content) (after : List (ℕ × Node Content)) → Stands chains.rows r before s n after → get same_element new_slots n.value.id ≡ Some s
  had_slot r before s n after stands =
      noted n.value.id
      ∙ cond-false (same_element node.value.id n.value.id) (Some slot) (get same_element slots n.value.id) (false_from_ne_true (same_element node.value.id n.value.id) (λ same. no_other r before s n after stands (one_element node.value.id n.value.id same)))
      ∙ are.found r before s n after stands

  -- and in the row each is, the new one with them
  found_in_row : (before : List (ℕ × Node Content)) (s : ℕ) (n : Node Content) (after : List (ℕ × Node Content)) → Stands new_chains.rows row before s n after → get same_element new_slots n.value.id ≡ Some s
  found_in_row before s n after stands = elim (part_or_new xs (slot, node) ys before (s, n) after (sym row_is ∙ stands.here)) [
    | inl new ↦
        subst (λ (x : ℕ × Node Content). get same_element new_slots x.1.value.id ≡ Some x.0) new
        (noted node.value.id ∙ cond-true (same_element node.value.id node.value.id) (Some slot) (get same_element slots node.value.id) (element_itself node.value.id))
    | inr part ↦ had_slot row part.before s n part.after (record { within = within; here = here ∙ part.here })
  ]

  -- what stood in a slot stands there still
  stands_still : (object : ObjectId) (s : ℕ) (id : ElementId) → StandsIn rows chains object s id → StandsIn rows new_chains object s id
  stands_still object s id x = elim (cases_eq x.row row) [
    | inl same ↦
        let part = still_part xs (slot, node) ys x.before (s, x.node) x.after (sym here ∙ subst (λ r. row_at chains.rows r ≡ x.before ++ (s, x.node) ∷ x.after) same x.stands.here) in
        record {
          row = row;
          before = part.before;
          node = x.node;
          after = part.after;
          of_object = x.of_object ∙ ap Some same;
          stands = record { within = omega (arith, within, as_many); here = row_is ∙ part.here };
          of_id = x.of_id;
        }
    | inr differs ↦ record {
      row = x.row;
      before = x.before;
      node = x.node;
      after = x.after;
      of_object = x.of_object;
      stands = record { within = omega (arith, x.stands.within, as_many); here = other_is x.row differs ∙ x.stands.here };
      of_id = x.of_id;
    }
  ]

  -- no two there have one id
  once_in_row : AllPairs (λ (a b : ℕ × Node Content). same_element a.1.value.id b.1.value.id ≡ false) (xs ++ (slot, node) ∷ ys)
  once_in_row =
      let each = subst (All (λ x. node.value.id ≡ x.1.value.id → ⊥)) here
      (All-from_parts (λ x. node.value.id ≡ x.1.value.id → ⊥) (row_at chains.rows row) (λ before x after is. no_other row before x.0 x.1 after (record { within = within; here = is }))) in
      AllPairs-with (λ (a b : ℕ × Node Content). same_element a.1.value.id b.1.value.id ≡ false) xs (slot, node) ys (subst (AllPairs (λ (a b : ℕ × Node Content). same_element a.1.value.id b.1.value.id ≡ false)) here (are.once row))
      (All-weaker (λ x. node.value.id ≡ x.1.value.id → ⊥) (λ x. same_element x.1.value.id node.value.id ≡ false) (λ x other. false_from_ne_true _ (λ same. other (sym (one_element x.1.value.id node.value.id same)))) xs
      (All-front (λ x. node.value.id ≡ x.1.value.id → ⊥) xs ys each))
      (All-weaker (λ x. node.value.id ≡ x.1.value.id → ⊥) (λ x. same_element node.value.id x.1.value.id ≡ false) (λ x other. false_from_ne_true _ (λ same. other (one_element node.value.id x.1.value.id same))) ys
      (All-behind (λ x. node.value.id ≡ x.1.value.id → ⊥) xs ys each))

  -- so all is listed, with the element
  pub element_is_listed : AreListed rows new_slots new_chains
  element_is_listed = record {
    within = λ object r at. omega (arith, are.within object r at, as_many);
    apart = are.apart;
    named = λ r l. are.named r (omega (arith, l, as_many));
    found = λ r before s n after stands. elim (cases_eq r row) [
      | inl same ↦ found_in_row before s n after (subst (λ k. Stands new_chains.rows k before s n after) same stands)
      | inr differs ↦ had_slot r before s n after (record { within = omega (arith, stands.within, as_many); here = sym (other_is r differs) ∙ stands.here })
    ];
    held = λ id s at. elim (cases_Bool (same_element node.value.id id)) [
      | inl same ↦
          let is : slot ≡ s = let new = sym (cond-true (same_element node.value.id id) (Some slot) (get same_element slots id) same) ∙ sym (noted id) ∙ at in cc in
          ∥∥₁_map (are.named row within) (λ x. (
            x.0,
            subst (λ k. StandsIn rows new_chains x.0 k id) is (record {
              row = row;
              before = xs;
              node = node;
              after = ys;
              of_object = x.2;
              stands = record { within = omega (arith, within, as_many); here = row_is };
              of_id = one_element node.value.id id same;
            }),
          ))
      | inr other ↦
          ∥∥₁_map (are.held id s (sym (cond-false (same_element node.value.id id) (Some slot) (get same_element slots id) other) ∙ sym (noted id) ∙ at))
          (λ x. (x.0, stands_still x.0 s id x.1))
    ];
    once = λ r. elim (cases_eq r row) [
      | inl same ↦ subst (AllPairs (λ (a b : ℕ × Node Content). same_element a.1.value.id b.1.value.id ≡ false)) (sym (ap (row_at new_chains.rows) same ∙ row_is)) once_in_row
      | inr differs ↦ subst (AllPairs (λ (a b : ℕ × Node Content). same_element a.1.value.id b.1.value.id ≡ false)) (sym (other_is r differs)) (are.once r)
    ];
  }

  -- ---- the elements of each list

  -- the others have what they had
  pub others_stay : (object other : ObjectId) → get same_object rows object ≡ Some row → same_object other object ≡ false → kept_in rows new_chains other ≡ kept_in rows chains other
  others_stay object other at differs = of_row (get same_object rows other) refl where
    of_row : (o : Option ℕ) → get same_object rows other ≡ o → elements_of_row new_chains.rows o ≡ elements_of_row chains.rows o
    of_row None is = refl
    of_row (Some r) is = ap elements_in (other_is r (λ same.
        let it = are.apart other object row (is ∙ ap Some same) at in
        both_ways (same_object other object) differs (subst (λ o. same_object o object ≡ true) (sym it) (object_itself object))))

-- ---- the place, once the list has a row

module _ (old mid : Lists) (object : ObjectId) (row : ℕ) (at : get same_object mid.rows object ≡ Some row) (had : (r : ℕ) → get same_object old.rows object ≡ Some r → mid ≡ old) where
  -- the front of its row
  head_parted : IsParted mid.chains.rows row [] None (row_at mid.chains.rows row)
  head_parted = front mid.chains.rows row (mid.listed.within object row at)

  -- what stood in the list stands in its row
  behind_parted : (slot : ℕ) (id : ElementId) (s : StandsIn old.rows old.chains object slot id) → IsParted mid.chains.rows row (s.before ++ (slot, s.node) ∷ []) (Some slot) s.after
  behind_parted slot id s =
      let same = had s.row s.of_object in
      let its_row : Some s.row ≡ Some row = sym s.of_object ∙ sym (ap (λ (lists : Lists). get same_object lists.rows object) same) ∙ at in
      let is : s.row ≡ row = cc in
      let there = subst (λ rows. Stands rows s.row s.before slot s.node s.after) (sym (ap (λ (lists : Lists). lists.chains.rows) same)) s.stands in
      let stands = subst (λ k. Stands mid.chains.rows k s.before slot s.node s.after) is there in
      further mid.chains.rows row s.before s.after (last_slot s.before) (slot, s.node) (record { within = stands.within; here = stands.here; ahead_is = refl })

  -- what stands ahead is a place of the row
  pub place_is : (ahead : Option ℕ) → IsAhead old.rows old.chains object ahead → IsPlace mid.chains.rows row ahead
  place_is None there = ([], row_at mid.chains.rows row, head_parted)
  place_is (Some slot) there = (there.1.before ++ (slot, there.1.node) ∷ [], there.1.after, behind_parted slot there.0 there.1)

  -- and what is put past those of higher rank there is put behind it
  pub is_put_behind : (ahead place : Option ℕ) (slot : ℕ) (node : Node Content) (new_chains : Chained (Node Content)) → kept_in mid.rows mid.chains ≡ kept_in old.rows old.chains
      → OfPlace mid.chains.rows row ahead (λ before after. IsParted mid.chains.rows row (before ++ passed (ranks_above node.value) after) place (from_unpassed (ranks_above node.value) after))
      → OfPlace mid.chains.rows row place (λ before after. new_chains.rows ≡ set mid.chains.rows row (before ++ (slot, node) ∷ after))
      → IsPutBehind old.rows old.chains object ahead (element_in node) (kept_in old.rows old.chains object) (kept_in mid.rows new_chains object)
  is_put_behind None place slot node new_chains kept past put =
      put_at_head mid.rows mid.chains new_chains object row at (mid.listed.within object row at) slot node (put _ _ (past _ _ head_parted)) ∙ ap (λ lists. put_down (element_in node) (lists object)) kept
  is_put_behind (Some ahead) place slot node new_chains kept past put = λ id s.
      put_behind_it mid.rows mid.chains new_chains object row at (mid.listed.within object row at) slot node s.before (ahead, s.node) s.after (put _ _ (past _ _ (behind_parted ahead id s)))
