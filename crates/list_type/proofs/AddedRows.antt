-- A list that had no row is given an empty one, behind the others.
use Rattle.std.proofs.Common.{◌≡◌, ℕ, zero, suc, false, cond, AllPairs, List, [], ◌∷◌, ◌++◌, length, Option, Some, None, refl, sym, ap, subst, ◌∙◌, ◌⊎◌, inl, inr, length-append, arith}
use Rattle.std.specs.HashMap.{HashMap, get}
use Rattle.std.proofs.Math.Logic.{∥∥₁_map}
use Rattle.std.proofs.lemmas.Bool.{cases_Bool, cases_eq, cases_lt, cond-true, cond-false}
use Rattle.std.proofs.lemmas.List.{get_or_past}
use Rattle.op_base.specs.Object.{same_object}
use Rattle.op_base.specs.declared.name.Kind.TheVariants as kinds
use Rattle.op_base.specs.declared.name.ObjectId.{ObjectId}
use Rattle.op_base.specs.declared.tag.ElementId.{ElementId}
use Rattle.causal_model.specs.Elements.{same_element}
use Rattle.causal_model.proofs.Answers.Rules.{object_from_same}
use Rattle.list_type.specs.Chained.{Chained, Stands, row_at}
use Rattle.list_type.specs.ListFields.{elements_in, elements_of_row, AreListed}
use Rattle.list_type.specs.declared.lists.Content.{Content}
use Rattle.list_type.specs.declared.tree.Node.{Node}
use Rattle.list_type.proofs.Listings.{kept_in, object_itself}

-- each row's list is as it was
row_is : {T : Type 0} (rows : List (List (ℕ × T))) (row : ℕ) → row_at (rows ++ [] ∷ []) row ≡ row_at rows row
row_is [] zero = refl
row_is [] (suc row) = refl
row_is (xs ∷ rows) zero = refl
row_is (xs ∷ rows) (suc row) = row_is rows row

-- an empty list has no parts
none_has_parts : {X : Type 0} (before : List X) (x : X) (after : List X) → [] ≡ before ++ x ∷ after → ⊥
none_has_parts [] x after is = cc
none_has_parts (y ∷ before) x after is = cc

module _ {R S : Type 0} (rows new_rows : HashMap ObjectId ℕ R) (slots : HashMap ElementId ℕ S) (chains new_chains : Chained (Node Content)) (object : ObjectId)
    (are : AreListed rows slots chains) (is_list : object.kind ≡ kinds.List) (had_none : get same_object rows object ≡ None)
    (count : ℕ) (is_last : count ≡ length chains.rows)
    (noted : (q : ObjectId) → get same_object new_rows q ≡ cond (same_object object q) (Some count) (get same_object rows q))
    (added : new_chains.rows ≡ chains.rows ++ [] ∷ []) where
  -- what each row has
  rows_are : (row : ℕ) → row_at new_chains.rows row ≡ row_at chains.rows row
  rows_are row = ap (λ lists. row_at lists row) added ∙ row_is chains.rows row

  -- there is one more
  counted : length new_chains.rows ≡ suc count
  counted = omega (arith, is_last, ap length added, length-append chains.rows ([] ∷ []))

  -- the list has it
  row_noted : get same_object new_rows object ≡ Some count
  row_noted = noted object ∙ cond-true (same_object object object) (Some count) (get same_object rows object) (object_itself object)

  -- all others are found as before
  other_is : (q : ObjectId) → same_object object q ≡ false → get same_object new_rows q ≡ get same_object rows q
  other_is q other = noted q ∙ cond-false (same_object object q) (Some count) (get same_object rows q) other

  -- so each list has the row that it had
  had_row : (q : ObjectId) (row : ℕ) → get same_object rows q ≡ Some row → get same_object new_rows q ≡ Some row
  had_row q row at = elim (cases_Bool (same_object object q)) [
    | inl same ↦
        let is : object ≡ q = object_from_same object q same in
        let none = subst (λ o. get same_object rows o ≡ None) is had_none in
        absurd (cc)
    | inr other ↦ other_is q other ∙ at
  ]

  -- and those that have a row had it, or are this one
  has_row : (q : ObjectId) (row : ℕ) → get same_object new_rows q ≡ Some row → ((object ≡ q) × (row ≡ count)) ⊎ (get same_object rows q ≡ Some row)
  has_row q row at = elim (cases_Bool (same_object object q)) [
    | inl same ↦
        let is : get same_object new_rows q ≡ Some count = noted q ∙ cond-true (same_object object q) (Some count) (get same_object rows q) same in
        inl (object_from_same object q same, cc)
    | inr other ↦ inr (sym (other_is q other) ∙ at)
  ]

  -- what stands in a row stood there
  stood : (row : ℕ) (before : List (ℕ × Node Content)) (slot : ℕ) (node : Node Content) (after : List (ℕ × Node Content)) → Stands new_chains.rows row before slot node after → Stands chains.rows row before slot node after
  stood row before slot node after stands =
      let here = sym (rows_are row) ∙ stands.here in
      record {
        within = elim (cases_lt row count) [
          | inl below ↦ omega (arith, below, is_last)
          | inr above ↦ absurd (none_has_parts before (slot, node) after (sym (get_or_past chains.rows row [] (omega (arith, above, is_last))) ∙ here))
        ];
        here = here;
      }

  -- and what stood there stands there
  stands_still : (row : ℕ) (before : List (ℕ × Node Content)) (slot : ℕ) (node : Node Content) (after : List (ℕ × Node Content)) → Stands chains.rows row before slot node after → Stands new_chains.rows row before slot node after
  stands_still row before slot node after stands = record { within = omega (arith, stands.within, counted, is_last); here = rows_are row ∙ stands.here }

  -- so all is listed
  pub row_is_listed : AreListed new_rows slots new_chains
  row_is_listed = record {
    within = λ q row at. elim (has_row q row at) [
      | inl here ↦ omega (arith, here.1, counted)
      | inr old ↦ omega (arith, are.within q row old, counted, is_last)
    ];
    apart = λ a b row at_a at_b. elim (has_row a row at_a) [
      | inl first ↦ elim (has_row b row at_b) [
        | inl second ↦ sym first.0 ∙ second.0
        | inr old ↦ absurd (omega (arith, first.1, are.within b row old, is_last))
      ]
      | inr first ↦ elim (has_row b row at_b) [
        | inl second ↦ absurd (omega (arith, second.1, are.within a row first, is_last))
        | inr old ↦ are.apart a b row first old
      ]
    ];
    named = λ row l. elim (cases_eq row count) [
      | inl last ↦ ∣ (object, is_list, row_noted ∙ ap Some (sym last)) ∣₁
      | inr differs ↦ ∥∥₁_map (are.named row (omega (arith, l, differs, counted, is_last))) (λ x. (x.0, x.1, had_row x.0 row x.2))
    ];
    found = λ row before slot node after stands. are.found row before slot node after (stood row before slot node after stands);
    held = λ id slot at. ∥∥₁_map (are.held id slot at) (λ x. (
      x.0,
      record {
        row = x.1.row;
        before = x.1.before;
        node = x.1.node;
        after = x.1.after;
        of_object = had_row x.0 x.1.row x.1.of_object;
        stands = stands_still x.1.row x.1.before slot x.1.node x.1.after x.1.stands;
        of_id = x.1.of_id;
      },
    ));
    once = λ row. subst (AllPairs (λ (a b : ℕ × Node Content). same_element a.1.value.id b.1.value.id ≡ false)) (sym (rows_are row)) (are.once row);
  }

  -- no list has other elements than before
  pub row_is_empty : kept_in new_rows new_chains ≡ kept_in rows chains
  row_is_empty = λ i q. same q i where
    of_row : (o : Option ℕ) → elements_of_row new_chains.rows o ≡ elements_of_row chains.rows o
    of_row None = refl
    of_row (Some row) = ap elements_in (rows_are row)

    none : elements_of_row chains.rows (Some count) ≡ []
    none = ap elements_in (get_or_past chains.rows count [] (omega (arith, is_last)))

    same : (q : ObjectId) → kept_in new_rows new_chains q ≡ kept_in rows chains q
    same q = of_row (get same_object new_rows q) ∙ elim (cases_Bool (same_object object q)) [
      | inl is_it ↦
          ap (elements_of_row chains.rows) (noted q ∙ cond-true (same_object object q) (Some count) (get same_object rows q) is_it)
          ∙ none
          ∙ sym (ap (elements_of_row chains.rows) (subst (λ o. get same_object rows o ≡ None) (object_from_same object q is_it) had_none))
      | inr other ↦ ap (elements_of_row chains.rows) (other_is q other)
    ]
