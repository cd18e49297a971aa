-- What an entry's insertion makes of the elements of lists.
use Rattle.std.proofs.Common.{◌≡◌, ℕ, ◌+◌, ◌≤◌, Bool, true, false, cond, if◌then◌else◌, sum, All, List, [], ◌∷◌, ◌++◌, Option, Some, None, refl, sym, ap, subst, ◌∙◌, inl, inr, add-one, arith}
use Rattle.std.specs.HashMap.{HashMap, get}
use Rattle.std.specs.List.{filter}
use Rattle.std.specs.Ordering.{is_lt}
use Rattle.std.proofs.Math.Logic.{∥∥₁_elim}
use mathlib.Core.HLevel.{⊥_prop}
use Rattle.std.proofs.lemmas.Bool.{both_ways, cases_Bool, cond-true, cond-false, cond_both, false_from_ne_true}
use Rattle.std.proofs.lemmas.List.Elements.{All-nil, All-cons, All-head, All-tail, All-map, All-weaker}
use Rattle.op_base.specs.Object.{same_object}
use Rattle.op_base.specs.Order.{text_cmp}
use Rattle.op_base.specs.Timestamp.{entry}
use Rattle.op_base.specs.declared.message.Entry.{Entry}
use Rattle.op_base.specs.declared.message.Message.{Message}
use Rattle.op_base.specs.declared.name.Kind.TheVariants as kinds
use Rattle.op_base.specs.declared.name.ObjectId.{ObjectId}
use Rattle.op_base.specs.declared.operation.Act.{Act}
use Rattle.op_base.specs.declared.operation.Act.TheVariants.{Add, Rmv, Clear, Enable, Disable, Write, Inc, Dec, Ins, Del}
use Rattle.op_base.specs.declared.tag.ElementId.{ElementId}
use Rattle.causal_model.specs.Elements.{same_element, element_of}
use Rattle.causal_model.specs.History.{History, epoch_of}
use Rattle.causal_model.specs.KeptElements.{KeptElement, kept_elements}
use Rattle.causal_model.specs.ListSteps.{put_down, at_depth, put_behind, put_at, is_open, insertion_of, insertion_in, new_element, kept_put, kept_with}
use Rattle.causal_model.specs.Log.{log_of, message_of}
use Rattle.causal_model.specs.Parts.{is_on}
use Rattle.causal_model.proofs.Lists.KeptOfOneMore.{element_itself}
use Rattle.causal_model.proofs.Answers.Rules.{object_from_same}
use Rattle.causal_model.proofs.Lists.ShownLists.{own_entries_tell}
use Rattle.list_type.specs.Chained.{Chained}
use Rattle.list_type.specs.Heads.{head_of}
use Rattle.list_type.specs.Listed.{Listed, AreListsOf, AreListsMoved}
use Rattle.list_type.specs.ListFields.{element_in, elements_in, AreListed, StandsIn}
use Rattle.list_type.specs.Putting.{IsAt, IsPutBehind}
use Rattle.list_type.specs.declared.head.Head.{Head}
use Rattle.list_type.specs.declared.lists.Content.{Content}
use Rattle.list_type.specs.declared.tree.Node.{Node}
use Rattle.list_type.proofs.Listings.{object_itself, kept_in, kept_around, each_there, held_as, is_alone}

-- ---- by the definitions

-- an act that is no insertion puts nothing in
act_puts_none : (act : Act) → ((v : List ℕ) (place : Option ElementId) → act ≡ Ins v place → ⊥) → insertion_of act ≡ None
act_puts_none (Ins v place) none = absurd (none v place refl)
act_puts_none (Add v) none = refl
act_puts_none (Rmv v) none = refl
act_puts_none Clear none = refl
act_puts_none Enable none = refl
act_puts_none Disable none = refl
act_puts_none (Write v) none = refl
act_puts_none (Inc k) none = refl
act_puts_none (Dec k) none = refl
act_puts_none (Del id) none = refl

module _ (epoch : ℕ) (sent : Entry) (log : List Message) (object : ObjectId) (kept : List KeptElement) where
  -- nothing is put in by another act, or into another list
  pub none_is_put : ((v : List ℕ) (place : Option ElementId) → sent.update.act ≡ Ins v place → ⊥) → kept ≡ kept_with object epoch log (message_of sent) kept
  none_is_put none = ap (kept_put object epoch log (message_of sent) kept) (sym (by (same_object sent.update.object object) (act_puts_none sent.update.act none))) where
    by : (same : Bool) → insertion_of sent.update.act ≡ None → (if same then insertion_of sent.update.act else None) ≡ None
    by true is = is
    by false is = refl

  other_is_kept : same_object sent.update.object object ≡ false → kept ≡ kept_with object epoch log (message_of sent) kept
  other_is_kept differs = ap (kept_put object epoch log (message_of sent) kept) (sym (cond-false (same_object sent.update.object object) (insertion_of sent.update.act) None differs))

  module _ (v : List ℕ) (place : Option ElementId) (is : sent.update.act ≡ Ins v place) (same : same_object sent.update.object object ≡ true) where
    -- an insertion into the list puts its value at its place
    puts : insertion_in object (message_of sent).op ≡ Some (v, place)
    puts = cond-true (same_object sent.update.object object) (insertion_of sent.update.act) None same ∙ ap insertion_of is

    -- nothing where that is closed
    closed_is_kept : is_open object epoch log (message_of sent) kept place ≡ false → kept ≡ kept_with object epoch log (message_of sent) kept
    closed_is_kept closed =
        sym (ap (kept_put object epoch log (message_of sent) kept) puts
        ∙ cond-false (is_open object epoch log (message_of sent) kept place) (put_at place (new_element epoch (message_of sent) v) kept) kept closed)

    -- and the element where it is open
    open_is_put : is_open object epoch log (message_of sent) kept place ≡ true → put_at place (new_element epoch (message_of sent) v) kept ≡ kept_with object epoch log (message_of sent) kept
    open_is_put opened =
        sym (ap (kept_put object epoch log (message_of sent) kept) puts
        ∙ cond-true (is_open object epoch log (message_of sent) kept place) (put_at place (new_element epoch (message_of sent) v) kept) kept opened)

-- a message's head tells what is open
head_tells : (object : ObjectId) (epoch : ℕ) (sent : Entry) (log : List Message) (kept : List KeptElement) (place : Option ElementId)
    → is_open object epoch log (head_of (record { epoch = epoch; origin = sent.origin; tag = sent.tag })) kept place ≡ is_open object epoch log (message_of sent) kept place
head_tells object epoch sent log kept None = refl
head_tells object epoch sent log kept (Some id) = refl

-- ---- of a history

-- an object's own entries tell what is put into it
own_entries_put : (object : ObjectId) (epoch : ℕ) (log : List Message) (m : Message) (kept : List KeptElement) → kept_with object epoch (filter (is_on object) log) m kept ≡ kept_with object epoch log m kept
own_entries_put object epoch log m kept = by (insertion_in object m.op) where
  by : (o : Option (List ℕ × Option ElementId)) → kept_put object epoch (filter (is_on object) log) m kept o ≡ kept_put object epoch log m kept o
  by None = refl
  by (Some put) = ap (λ b. cond b (put_at put.1 (new_element epoch m put.0) kept) kept) ((own_entries_tell object epoch log m kept).0 put.1)

-- so lists into which an entry's element was put are those of the history with it
pub lists_are_moved : (h : History) (sent : Entry) (epoch : ℕ) (entries : List Message) (old new : Listed) → epoch ≡ epoch_of h → entries ≡ filter (is_on sent.update.object) (log_of h)
    → ((object : ObjectId) → object.kind ≡ kinds.List → new.kept object ≡ kept_with object epoch entries (message_of sent) (old.kept object))
    → AreListsOf h old → AreListsMoved h (message_of sent) 0 new
lists_are_moved h sent epoch entries old new same_epoch own made are object is_list =
    made object is_list
    ∙ (λ i. kept_with object (same_epoch i) (own i) (message_of sent) (are object is_list i))
    ∙ elim (cases_Bool (same_object sent.update.object object)) [
      | inl same ↦
          ap (λ o. kept_with object (epoch_of h) (filter (is_on o) (log_of h)) (message_of sent) (kept_elements h object)) (object_from_same sent.update.object object same)
          ∙ own_entries_put object (epoch_of h) (log_of h) (message_of sent) (kept_elements h object)
      | inr differs ↦
          sym (other_is_kept (epoch_of h) sent (filter (is_on sent.update.object) (log_of h)) object (kept_elements h object) differs)
          ∙ other_is_kept (epoch_of h) sent (log_of h) object (kept_elements h object) differs
    ]

-- ---- depths

module _ (P : KeptElement → Type 0) (e : KeptElement) (here : P e) where
  -- what holds of an element and of each of a list holds of each where it is put down
  put_down_each : (xs : List KeptElement) → All P xs → All P (put_down e xs)
  put_down_each [] each = All-cons P e [] here (All-nil P)
  put_down_each (x ∷ xs) each =
      cond_both (is_lt (text_cmp e.rank x.rank)) (x ∷ put_down e xs) (e ∷ x ∷ xs) (All P)
      (λ _. All-cons P x (put_down e xs) (All-head P x xs each) (put_down_each xs (All-tail P x xs each)))
      (λ _. All-cons P e (x ∷ xs) here each)

module _ (most : ℕ) (e : KeptElement) where
  -- one deeper is deep enough
  lower : (xs : List KeptElement) → All (λ x. x.depth ≤ most) xs → All (λ x. x.depth ≤ most + 1) xs
  lower xs each = All-weaker (λ x. x.depth ≤ most) (λ x. x.depth ≤ most + 1) (λ x low. omega (arith, low)) xs each

  -- and an element behind another stands one deeper than that
  put_behind_each : (id : ElementId) (xs : List KeptElement) → All (λ x. x.depth ≤ most) xs → All (λ x. x.depth ≤ most + 1) (put_behind id e xs)
  put_behind_each id [] each = All-nil (λ x. x.depth ≤ most + 1)
  put_behind_each id (x ∷ xs) each =
      let first : x.depth ≤ most = All-head (λ y. y.depth ≤ most) x xs each in
      let rest = All-tail (λ y. y.depth ≤ most) x xs each in
      cond_both (same_element x.id id) (x ∷ put_down (at_depth e (x.depth + 1)) xs) (x ∷ put_behind id e xs) (All (λ y. y.depth ≤ most + 1))
      (λ _. All-cons (λ y. y.depth ≤ most + 1) x _ (omega (arith, first)) (put_down_each (λ y. y.depth ≤ most + 1) (at_depth e (x.depth + 1)) (omega (arith, first)) xs (lower xs rest)))
      (λ _. All-cons (λ y. y.depth ≤ most + 1) x _ (omega (arith, first)) (put_behind_each id xs rest))

-- no element stands deeper than one below the deepest
pub kept_within : (most : ℕ) (object : ObjectId) (epoch : ℕ) (log : List Message) (m : Message) (kept : List KeptElement) → All (λ e. e.depth ≤ most) kept → All (λ e. e.depth ≤ most + 1) (kept_with object epoch log m kept)
kept_within most object epoch log m kept each = by (insertion_in object m.op) where
  at : (place : Option ElementId) (v : List ℕ) → All (λ e. e.depth ≤ most + 1) (put_at place (new_element epoch m v) kept)
  at None v = put_down_each (λ e. e.depth ≤ most + 1) (new_element epoch m v) (omega arith) kept (lower most (new_element epoch m v) kept each)
  at (Some id) v = put_behind_each most (new_element epoch m v) id kept each

  by : (o : Option (List ℕ × Option ElementId)) → All (λ e. e.depth ≤ most + 1) (kept_put object epoch log m kept o)
  by None = lower most (new_element epoch m []) kept each
  by (Some put) = cond_both (is_open object epoch log m kept put.1) (put_at put.1 (new_element epoch m put.0) kept) kept (All (λ e. e.depth ≤ most + 1)) (λ _. at put.1 put.0) (λ _. lower most (new_element epoch m []) kept each)

-- ---- by the fields

-- an element is put behind the one of an id past all that have another
put_behind_skips : (id : ElementId) (e : KeptElement) (xs ys : List KeptElement) → All (λ x. same_element x.id id ≡ false) xs → put_behind id e (xs ++ ys) ≡ xs ++ put_behind id e ys
put_behind_skips id e [] ys others = refl
put_behind_skips id e (x ∷ xs) ys others =
    cond-false (same_element x.id id) (x ∷ put_down (at_depth e (x.depth + 1)) (xs ++ ys)) (x ∷ put_behind id e (xs ++ ys)) (All-head (λ y. same_element y.id id ≡ false) x xs others)
    ∙ ap (λ zs. x ∷ zs) (put_behind_skips id e xs ys (All-tail (λ y. same_element y.id id ≡ false) x xs others))

module _ {R S : Type 0} (rows : HashMap ObjectId ℕ R) (slots : HashMap ElementId ℕ S) (chains : Chained (Node Content)) (are : AreListed rows slots chains) where
  -- what is put behind a place's slot is put at the place
  pub put_is_at : (object : ObjectId) (place : Option ElementId) (ahead : Option ℕ) (depth : ℕ) (e : KeptElement) (new : List KeptElement) → at_depth e 1 ≡ e
      → IsAt rows chains object place ahead depth → IsPutBehind rows chains object ahead (at_depth e depth) (kept_in rows chains object) new → new ≡ put_at place e (kept_in rows chains object)
  put_is_at object None ahead depth e new first at put =
      let there = subst (λ a. IsPutBehind rows chains object a (at_depth e depth) (kept_in rows chains object) new) at.0 put in
      there ∙ ap (λ x. put_down x (kept_in rows chains object)) (ap (at_depth e) at.1 ∙ first)
  put_is_at object (Some id) ahead depth e new first at put =
      let s = at.1 in
      let there = subst (λ a. IsPutBehind rows chains object a (at_depth e depth) (kept_in rows chains object) new) at.2 put in
      let alone = All-map (λ x. same_element x.id id ≡ false) (λ x. element_in x.1) s.before (is_alone rows slots chains are object at.0 id s).ahead in
      let itself = subst (λ other. same_element s.node.value.id other ≡ true) s.of_id (element_itself s.node.value.id) in
      let by_id : put_behind id e (kept_in rows chains object) ≡ elements_in s.before ++ element_in s.node ∷ put_down (at_depth e (s.node.depth + 1)) (elements_in s.after) =
      ap (put_behind id e) (kept_around rows chains object at.0 id s)
      ∙ put_behind_skips id e (elements_in s.before) (element_in s.node ∷ elements_in s.after) alone
      ∙ ap (λ zs. elements_in s.before ++ zs) (cond-true (same_element s.node.value.id id) (element_in s.node ∷ put_down (at_depth e (s.node.depth + 1)) (elements_in s.after)) (element_in s.node ∷ put_behind id e (elements_in s.after)) itself) in
      there id s
      ∙ ap (λ d. elements_in s.before ++ element_in s.node ∷ put_down (at_depth e d) (elements_in s.after)) (at.3 ∙ sym (add-one s.node.depth))
      ∙ sym by_id

  -- an id that no element of a list has, has no slot
  pub fresh_has_none : (id : ElementId) → ((other : ObjectId) → other.kind ≡ kinds.List → All (λ e. same_element e.id id ≡ false) (kept_in rows chains other)) → get same_element slots id ≡ None
  fresh_has_none id fresh = by (get same_element slots id) refl where
    by : (o : Option ℕ) → get same_element slots id ≡ o → o ≡ None
    by None at = refl
    by (Some slot) at =
        let held = held_as rows slots chains are id slot at in
        absurd (∥∥₁_elim (are.named held.row held.stands.within) ⊥_prop (λ x.
        let s : StandsIn rows chains x.0 slot id = record {
          row = held.row;
          before = held.before;
          node = held.node;
          after = held.after;
          of_object = x.2;
          stands = held.stands;
          of_id = held.of_id;
        } in
        both_ways (same_element held.node.value.id id) (each_there rows chains x.0 slot id s (λ e. same_element e.id id ≡ false) (fresh x.0 x.1))
        (subst (λ other. same_element held.node.value.id other ≡ true) held.of_id (element_itself held.node.value.id))))

-- ---- all lists, told by the head of the message

module _ (epoch : ℕ) (sent : Entry) (log : List Message) (head : Head) (head_is : head ≡ record { epoch = epoch; origin = sent.origin; tag = sent.tag })
    (old : ObjectId → List KeptElement) (v : List ℕ) (place : Option ElementId) (is : sent.update.act ≡ Ins v place) where
  -- what is open by the head is open by the message
  told : is_open sent.update.object head.epoch log (head_of head) (old sent.update.object) place ≡ is_open sent.update.object epoch log (message_of sent) (old sent.update.object) place
  told =
      ap (λ (h : Head). is_open sent.update.object h.epoch log (head_of h) (old sent.update.object) place) head_is
      ∙ head_tells sent.update.object epoch sent log (old sent.update.object) place

  -- where the place is closed, all lists are as they were
  pub closed_lists : is_open sent.update.object head.epoch log (head_of head) (old sent.update.object) place ≡ false → (object : ObjectId) → old object ≡ kept_with object epoch log (message_of sent) (old object)
  closed_lists closed object = elim (cases_Bool (same_object sent.update.object object)) [
    | inl same ↦
        subst (λ o. old o ≡ kept_with o epoch log (message_of sent) (old o)) (object_from_same sent.update.object object same)
        (closed_is_kept epoch sent log sent.update.object (old sent.update.object) v place is (object_itself sent.update.object) (sym told ∙ closed))
    | inr differs ↦ other_is_kept epoch sent log object (old object) differs
  ]

  -- where it is open, and the element was put there, all are as they have to be
  pub open_lists : is_open sent.update.object head.epoch log (head_of head) (old sent.update.object) place ≡ true
      → (new : ObjectId → List KeptElement) → new sent.update.object ≡ put_at place (new_element epoch (message_of sent) v) (old sent.update.object)
      → ((other : ObjectId) → same_object other sent.update.object ≡ false → new other ≡ old other) → (object : ObjectId) → new object ≡ kept_with object epoch log (message_of sent) (old object)
  open_lists opened new here others object = elim (cases_Bool (same_object sent.update.object object)) [
    | inl same ↦
        subst (λ o. new o ≡ kept_with o epoch log (message_of sent) (old o)) (object_from_same sent.update.object object same)
        (here ∙ open_is_put epoch sent log sent.update.object (old sent.update.object) v place is (object_itself sent.update.object) (sym told ∙ opened))
    | inr differs ↦
        others object (false_from_ne_true (same_object object sent.update.object) (λ same.
        let one = object_from_same object sent.update.object same in
        both_ways (same_object sent.update.object object) differs (subst (λ o. same_object sent.update.object o ≡ true) (sym one) (object_itself sent.update.object))))
        ∙ other_is_kept epoch sent log object (old object) differs
  ]

module _ (epoch : ℕ) (e : Entry) (head : Head) (head_is : head ≡ record { epoch = epoch; origin = e.origin; tag = e.tag })
    (id : ElementId) (id_is : id ≡ record { epoch = head.epoch; origin = head.origin; seq = entry head.tag head.origin }) where
  -- the new element's id is the message's own
  pub own_id : id ≡ element_of (record { epoch = epoch; message = message_of e })
  own_id = id_is ∙ ap (λ (h : Head). record { epoch = h.epoch; origin = h.origin; seq = entry h.tag h.origin }) head_is

  -- and the node that is made is the element that the message puts in, at its depth
  pub made_is : (total : ℕ) → total ≡ sum head.tag → (v : List ℕ) (depth : ℕ)
      → element_in (record { value = record { id = id; sum = total; value = v }; depth = depth; gone = false }) ≡ at_depth (new_element epoch (message_of e) v) depth
  made_is total total_is v depth =
      let own = own_id in
      let whole : total ≡ sum e.tag = total_is ∙ ap (λ (h : Head). sum h.tag) head_is in
      λ i. record { id = own i; rank = (own i).epoch ∷ whole i ∷ (own i).origin ∷ []; depth = depth; value = v; gone = false }
