-- What is asked of a list: a walk over its row tells it, and it is what the definitions tell of a history.
use Rattle.std.proofs.Common.{◌≡◌, ℕ, ◌+◌, ◌≤◌, Bool, true, false, not, ◌&&◌, ◌||◌, cond, List, [], ◌∷◌, ◌++◌, map, length, Option, Some, None, refl, sym, ap, subst, ◌∙◌, append-nil, arith}
use Rattle.std.specs.Prelude.{IsTrue}
use Rattle.std.specs.List.{All, filter, list_any}
use Rattle.std.proofs.lemmas.Bool.{and_parts}
use Rattle.std.proofs.lemmas.List.{length-append, map-append}
use Rattle.std.proofs.lemmas.List.Elements.{All-head, All-tail, filter-append, filter_agree}
use Rattle.op_base.specs.Object.{same_object}
use Rattle.op_base.specs.declared.message.Entry.{Entry}
use Rattle.op_base.specs.declared.name.Kind.TheVariants as kinds
use Rattle.op_base.specs.declared.name.ObjectId.{ObjectId}
use Rattle.op_base.specs.declared.operation.Op.TheVariants as op
use Rattle.op_base.specs.declared.tag.ElementId.{ElementId}
use Rattle.causal_model.specs.Elements.{takes_out, list_values, list_ids}
use Rattle.causal_model.specs.History.{History, is_history, epoch_of, events}
use Rattle.causal_model.specs.KeptElements.{KeptElement, kept_elements, tombs_of}
use Rattle.causal_model.specs.ListSteps.{had_seen, takes, is_shown}
use Rattle.causal_model.specs.Log.{log_of, message_of}
use Rattle.causal_model.specs.Parts.{is_on}
use Rattle.causal_model.proofs.Lists.ShownLists.{own_entries_tell, values_from_kept, ids_from_kept, tombs_are_from_kept}
use Rattle.list_type.specs.Chained.{first_slot, row_at, Stands, IsHeld, OfSlot, OfPlace, IsParted}
use Rattle.list_type.specs.Heads.{takes_by}
use Rattle.list_type.specs.Listed.{Listed, AreListsOf}
use Rattle.list_type.specs.ListFields.{element_in, elements_in}
use Rattle.list_type.specs.declared.lists.Content.{Content}
use Rattle.list_type.specs.declared.tree.Node.{Node}
use Rattle.list_type.proofs.Places.{further}
use Rattle.list_type.proofs.Taken.{none_behind, none_left}

-- ---- a walk over a row

module _ {A : Type 0} (tells : List KeptElement → A) (rows : List (List (ℕ × Node Content))) (row : ℕ) where
  -- what is told of those of a row before a place
  pub record IsTold (at : Option ℕ) (count : ℕ) (answer : A) : Type 0 where
    pub before : List (ℕ × Node Content)
    pub after : List (ℕ × Node Content)
    pub parted : IsParted rows row before at after
    pub answer_is : answer ≡ tells (elements_in before)
    pub counted : count ≤ length before

  module _ (at : Option ℕ) (count : ℕ) (answer : A) (told : IsTold at count answer) where
    -- the next one stands behind it
    module _ (next : Option ℕ) (slot : ℕ) (some : next ≡ Some slot) (next_is : OfPlace rows row at (λ before after. next ≡ first_slot after)) where
      record IsNext : Type 0 where
        node : Node Content
        after : List (ℕ × Node Content)
        stands : Stands rows row told.before slot node after
        behind : IsParted rows row (told.before ++ (slot, node) ∷ []) (Some slot) after

      next_one : IsNext
      next_one = by told.after told.parted (sym (next_is told.before told.after told.parted) ∙ some) where
        by : (after : List (ℕ × Node Content)) → IsParted rows row told.before at after → first_slot after ≡ Some slot → IsNext
        by [] parted first = cc
        by (x ∷ after) parted first =
            let here : x.0 ≡ slot = cc in
            let there : IsParted rows row told.before at ((slot, x.1) ∷ after) = subst (λ k. IsParted rows row told.before at ((k, x.1) ∷ after)) here parted in
            record { node = x.1; after = after; stands = record { within = there.within; here = there.here }; behind = further rows row told.before after at (slot, x.1) there }

      pub told_held : IsHeld rows slot
      told_held = (row, told.before, next_one.node, next_one.after, next_one.stands)

      pub told_goes_on : (node : Node Content) (new : A) → OfSlot rows slot (λ r before value after. node ≡ value)
          → ((xs : List KeptElement) → answer ≡ tells xs → new ≡ tells (xs ++ element_in node ∷ [])) → IsTold (Some slot) (count + 1) new
      told_goes_on node new got step =
          let one = next_one in
          record {
            before = told.before ++ (slot, one.node) ∷ [];
            after = one.after;
            parted = one.behind;
            answer_is =
                step (elements_in told.before) told.answer_is
                ∙ ap (λ n. tells (elements_in told.before ++ element_in n ∷ [])) (got row told.before one.node one.after one.stands)
                ∙ ap tells (sym (map-append (λ (x : ℕ × Node Content). element_in x.1) told.before ((slot, one.node) ∷ [])));
            counted = omega (arith, told.counted, length-append told.before ((slot, one.node) ∷ []));
          }

    told_ends : told.after ≡ [] → answer ≡ tells (elements_in (row_at rows row))
    told_ends none = told.answer_is ∙ ap (λ xs. tells (elements_in xs)) (sym (told.parted.here ∙ ap (λ xs. told.before ++ xs) none ∙ append-nil told.before))

    pub told_ends_last : (next : Option ℕ) → next ≡ None → OfPlace rows row at (λ before after. next ≡ first_slot after) → answer ≡ tells (elements_in (row_at rows row))
    told_ends_last next none next_is = told_ends (none_behind told.after (sym (next_is told.before told.after told.parted) ∙ none))

    pub told_ends_full : length (row_at rows row) ≤ count → answer ≡ tells (elements_in (row_at rows row))
    told_ends_full full = told_ends (none_left told.after (omega (arith, full, told.counted, ap length told.parted.here, length-append told.before told.after)))

-- one element more that passes, or doesn't
module _ (p : KeptElement → Bool) (xs : List KeptElement) (e : KeptElement) where
  filter_passed : p e ≡ true → filter p (xs ++ e ∷ []) ≡ filter p xs ++ e ∷ []
  filter_passed t = filter-append p xs (e ∷ []) ∙ ap (λ b. filter p xs ++ cond b (e ∷ []) []) t

  filter_failed : p e ≡ false → filter p (xs ++ e ∷ []) ≡ filter p xs
  filter_failed t = filter-append p xs (e ∷ []) ∙ ap (λ b. filter p xs ++ cond b (e ∷ []) []) t ∙ append-nil (filter p xs)

  pub counted_passed : (count : ℕ) → p e ≡ true → count ≡ length (filter p xs) → count + 1 ≡ length (filter p (xs ++ e ∷ []))
  counted_passed count t is = omega (arith, is, ap length (filter_passed t), length-append (filter p xs) (e ∷ []))

  pub counted_failed : (count : ℕ) → p e ≡ false → count ≡ length (filter p xs) → count ≡ length (filter p (xs ++ e ∷ []))
  counted_failed count t is = is ∙ sym (ap length (filter_failed t))

  module _ {A : Type 0} (f : KeptElement → A) where
    pub mapped_passed : (answer : List A) → p e ≡ true → answer ≡ map f (filter p xs) → answer ++ f e ∷ [] ≡ map f (filter p (xs ++ e ∷ []))
    mapped_passed answer t is = ap (λ l. l ++ f e ∷ []) is ∙ sym (ap (map f) (filter_passed t) ∙ map-append f (filter p xs) (e ∷ []))

    pub mapped_failed : (answer : List A) → p e ≡ false → answer ≡ map f (filter p xs) → answer ≡ map f (filter p (xs ++ e ∷ []))
    mapped_failed answer t is = is ∙ sym (ap (map f) (filter_failed t))

-- ---- what is shown

module _ (object : ObjectId) (epoch : ℕ) where
  -- an object's own entry takes an element of its out by its act alone
  own_takes : (e : Entry) (id : ElementId) → IsTrue (is_on object (message_of e)) → takes_by epoch e id ≡ takes object epoch (message_of e) id
  own_takes e id own = ap (λ b. (b && takes_out id e.update.act) && had_seen epoch (message_of e) id) (sym (and_parts (same_object e.update.object object) true own).0)

  own_taken : (entries : List Entry) (id : ElementId) → All (λ e. IsTrue (is_on object (message_of e))) entries → list_any (λ e. takes_by epoch e id) entries ≡ list_any (λ d. takes object epoch d id) (map message_of entries)
  own_taken [] id own = refl
  own_taken (e ∷ entries) id own =
      let first = own_takes e id (All-head (λ (x : Entry). IsTrue (is_on object (message_of x))) e entries own) in
      let rest = own_taken entries id (All-tail (λ (x : Entry). IsTrue (is_on object (message_of x))) e entries own) in
      λ i. first i || rest i

  -- so a node is shown where its element is
  pub shown_by_own : (entries : List Entry) (node : Node Content) → All (λ e. IsTrue (is_on object (message_of e))) entries
      → (not node.gone && not (list_any (λ e. takes_by epoch e node.value.id) entries)) ≡ is_shown object epoch (map message_of entries) (element_in node)
  shown_by_own entries node own = ap (λ b. not node.gone && not b) (own_taken entries node.value.id own)

-- what a test of what is shown leaves of a history's list
module _ (lists : Listed) (object : ObjectId) (epoch : ℕ) (entries : List Entry) (h : History) (is_list : object.kind ≡ kinds.List) (epoch_is : epoch ≡ epoch_of h)
    (logged : map message_of entries ≡ filter (is_on object) (log_of h)) (of : AreListsOf h lists) where
  shows_same : (e : KeptElement) → is_shown object epoch (map message_of entries) e ≡ is_shown object (epoch_of h) (log_of h) e
  shows_same e =
      (λ i. is_shown object (epoch_is i) (logged i) e)
      ∙ (own_entries_tell object (epoch_of h) (log_of h) (record { origin = 0; tag = []; op = op.NoOp }) []).1 e

  pub told_of_history : (passes : Bool → Bool) → filter (λ e. passes (is_shown object epoch (map message_of entries) e)) (lists.kept object) ≡ filter (λ e. passes (is_shown object (epoch_of h) (log_of h) e)) (kept_elements h object)
  told_of_history passes =
      ap (filter (λ e. passes (is_shown object epoch (map message_of entries) e))) (of object is_list)
      ∙ filter_agree (λ e. passes (is_shown object epoch (map message_of entries) e)) (λ e. passes (is_shown object (epoch_of h) (log_of h) e)) (λ e. ap passes (shows_same e)) (kept_elements h object)

-- the three answers of a history
module _ (lists : Listed) (object : ObjectId) (epoch : ℕ) (entries : List Entry) where
  abbrev pub OfHistory : (History → Type 0) → Type 0
  OfHistory is = (w : ℕ) (h : History) → IsTrue (is_history w h) → object.kind ≡ kinds.List → epoch ≡ epoch_of h → map message_of entries ≡ filter (is_on object) (log_of h) → AreListsOf h lists → is h

  pub values_of : (values : List (List ℕ)) → values ≡ map (λ e. e.value) (filter (is_shown object epoch (map message_of entries)) (lists.kept object)) → OfHistory (λ h. values ≡ list_values object (events h))
  values_of values told w h t is_list epoch_is logged of =
      told ∙ ap (map (λ (e : KeptElement). e.value)) (told_of_history lists object epoch entries h is_list epoch_is logged of (λ b. b)) ∙ sym (values_from_kept w h object t is_list)

  pub ids_of : (ids : List ElementId) → ids ≡ map (λ e. e.id) (filter (is_shown object epoch (map message_of entries)) (lists.kept object)) → OfHistory (λ h. ids ≡ list_ids object (events h))
  ids_of ids told w h t is_list epoch_is logged of =
      told ∙ ap (map (λ (e : KeptElement). e.id)) (told_of_history lists object epoch entries h is_list epoch_is logged of (λ b. b)) ∙ sym (ids_from_kept w h object t is_list)

  pub tombs_of_lists : (count : ℕ) → count ≡ length (filter (λ e. not (is_shown object epoch (map message_of entries) e)) (lists.kept object)) → OfHistory (λ h. count ≡ tombs_of h object)
  tombs_of_lists count told w h t is_list epoch_is logged of =
      told ∙ ap length (told_of_history lists object epoch entries h is_list epoch_is logged of not) ∙ sym (tombs_are_from_kept w h object t is_list)
