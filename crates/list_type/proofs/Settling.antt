-- Of all lists one changes: elements of it are marked as gone, and those that leave are gone.
use Rattle.std.proofs.Common.{◌≡◌, ℕ, suc, ◌<◌, ◌≤◌, Bool, true, false, not, ◌&&◌, ◌||◌, ◌==◌, cond, List, [], ◌∷◌, ◌++◌, map, length, get_or, set, Option, Some, None, refl, sym, ap, subst, ◌∙◌, inl, inr, arith}
use Rattle.std.specs.Prelude.{IsTrue, slice_get, nat_lt}
use Rattle.std.specs.HashMap.{get}
use Rattle.std.specs.Cmp.Lexicographic.{bytes_decides}
use Rattle.std.specs.List.{All, AllPairs}
use Rattle.std.proofs.Math.Seq.{get_or-append_seam}
use Rattle.std.proofs.lemmas.Bool.{cases_eq, both_ways, and_from, and_left, or_right, eq-eqb}
use Rattle.std.proofs.lemmas.List.{length-append, get_or-set_same, get_or-set_other, set-set}
use Rattle.std.proofs.lemmas.List.Elements.{All-cons, All-head, All-tail, All-map}
use Rattle.op_base.specs.Name.{same_text}
use Rattle.op_base.specs.Object.{kind_place, same_object}
use Rattle.op_base.specs.declared.message.Entry.{Entry}
use Rattle.op_base.specs.declared.message.Message.{Message}
use Rattle.op_base.specs.declared.name.Kind.TheVariants as kinds
use Rattle.op_base.specs.declared.name.ObjectId.{ObjectId}
use Rattle.op_base.specs.declared.operation.Act.{Act}
use Rattle.op_base.specs.declared.tag.ElementId.{ElementId}
use Rattle.causal_model.specs.Elements.{same_element, takes_out}
use Rattle.causal_model.specs.History.{History, with_message, is_history, epoch_of}
use Rattle.causal_model.specs.KeptElements.{KeptElement}
use Rattle.causal_model.specs.ListSteps.{keep, pruned, had_seen, marked, kept_without, kept_moved}
use Rattle.causal_model.specs.Log.{stripped_of, message_of}
use Rattle.causal_model.proofs.Lists.KeptOfOneMore.{one_element, element_itself, others_move_nothing}
use Rattle.causal_model.proofs.Answers.Rules.{object_from_same}
use Rattle.causal_model.proofs.Lists.ShownLists.{kept_moves_by_entry}
use Rattle.list_type.specs.Chained.{row_at}
use Rattle.list_type.specs.Heads.{head_of}
use Rattle.list_type.specs.Listed.{Listed, AreListsMoved, AreWithin}
use Rattle.list_type.specs.ListFields.{element_in, elements_in, elements_of_row}
use Rattle.list_type.specs.Nodes.{nodes_kept, gone_node}
use Rattle.list_type.specs.Shown.{shown}
use Rattle.list_type.specs.Taking.{gone_where, kept_without_those, nodes_gone_where, OneChanged}
use Rattle.list_type.specs.declared.head.Head.{Head}
use Rattle.list_type.specs.declared.lists.Content.{Content}
use Rattle.list_type.specs.declared.lists.Lists.{Lists}
use Rattle.list_type.specs.declared.tree.Node.{Node}
use Rattle.list_type.proofs.Leaving.{elements_kept, elements_gone, nodes_whole}

-- ---- ids

apart_back : (a b : ElementId) → same_element a b ≡ false → same_element b a ≡ false
apart_back a b apart = by (same_element b a) refl where
  by : (same : Bool) → same_element b a ≡ same → same ≡ false
  by true t = sym (sym apart ∙ ap (λ c. same_element a c) (one_element b a t) ∙ element_itself a)
  by false t = refl

-- ---- one list

object_itself : (object : ObjectId) → same_object object object ≡ true
object_itself object = and_from (kind_place object.kind == kind_place object.kind) (same_text object.key object.key) (eq-eqb (kind_place object.kind) (kind_place object.kind) refl) ((bytes_decides object.key object.key).1 refl)

-- where one row changes, its object's list alone does
pub one_changed : (old new : Lists) (object : ObjectId) (row : ℕ) (xs : List (ℕ × Node Content)) → get same_object old.rows object ≡ Some row → new.rows ≡ old.rows → new.chains.rows ≡ set old.chains.rows row xs
    → OneChanged object (elements_in xs) (shown old) (shown new)
one_changed old new object row xs is rows chains = record {
  here = ap (λ rs. elements_of_row new.chains.rows (get same_object rs object)) rows ∙ ap (elements_of_row new.chains.rows) is ∙ ap elements_in (row_is (old.listed.within object row is));
  others = λ other apart.
      ap (λ rs. elements_of_row new.chains.rows (get same_object rs other)) rows ∙ by other apart (get same_object old.rows other) refl;
} where
  row_is : row < length old.chains.rows → row_at new.chains.rows row ≡ xs
  row_is within = ap (λ rs. row_at rs row) chains ∙ get_or-set_same old.chains.rows row xs [] within

  by : (other : ObjectId) → same_object other object ≡ false → (o : Option ℕ) → get same_object old.rows other ≡ o → elements_of_row new.chains.rows o ≡ elements_of_row old.chains.rows o
  by other apart None at = refl
  by other apart (Some r) at = elim (cases_eq r row) [
    | inl same ↦
        let one = old.listed.apart other object row (at ∙ ap Some same) is in
        absurd (both_ways (same_object other object) apart (ap (λ o. same_object o object) one ∙ object_itself object))
    | inr differs ↦ ap elements_in (ap (λ rs. row_at rs r) chains ∙ get_or-set_other old.chains.rows row r xs [] differs)
  ]

-- ---- what is marked

module _ (passes : ElementId → Bool) where
  -- an element whose id fails is as it was
  as_it_was : (e : KeptElement) → passes e.id ≡ false → gone_where passes e ≡ e
  as_it_was e t = λ i. record e { gone = (ap (λ b. e.gone || b) t ∙ bare e.gone) i } where
    bare : (b : Bool) → (b || false) ≡ b
    bare true = refl
    bare false = refl

  -- one whose id passes is gone
  is_gone_now : (e : KeptElement) → passes e.id ≡ true → gone_where passes e ≡ record e { gone = true }
  is_gone_now e t = λ i. record e { gone = (ap (λ b. e.gone || b) t ∙ or_right e.gone true refl) i }

  -- where none passes nothing is marked
  none_gone : (kept : List KeptElement) → All (λ e. passes e.id ≡ false) kept → map (gone_where passes) kept ≡ kept
  none_gone [] none = refl
  none_gone (e ∷ kept) none =
      let first = as_it_was e (All-head (λ (x : KeptElement). passes x.id ≡ false) e kept none) in
      let rest = none_gone kept (All-tail (λ (x : KeptElement). passes x.id ≡ false) e kept none) in
      λ i. first i ∷ rest i

  -- so nothing leaves a list that is pruned
  none_leaves : (kept : List KeptElement) → pruned kept ≡ kept → All (λ e. passes e.id ≡ false) kept → kept_without_those passes kept ≡ kept
  none_leaves kept whole none = ap pruned (none_gone kept none) ∙ whole

  -- what is kept of a row with its marks
  pub row_without : (xs : List (ℕ × Node Content)) → elements_in (nodes_kept (nodes_gone_where passes xs)) ≡ kept_without_those passes (elements_in xs)
  row_without xs = elements_kept (nodes_gone_where passes xs) ∙ ap pruned (elements_gone passes xs)

  -- where one id alone passes, its node alone is marked
  one_gone : (before : List (ℕ × Node Content)) (slot : ℕ) (node : Node Content) (after : List (ℕ × Node Content)) → AllPairs (λ (a b : ℕ × Node Content). same_element a.1.value.id b.1.value.id ≡ false) (before ++ (slot, node) ∷ after)
      → passes node.value.id ≡ true → ((id : ElementId) → same_element node.value.id id ≡ false → passes id ≡ false)
      → map (gone_where passes) (elements_in (before ++ (slot, node) ∷ after)) ≡ elements_in (before ++ (slot, gone_node node) ∷ after)
  one_gone [] slot node after pairs hit miss =
      let first = is_gone_now (element_in node) hit in
      let rest =
      none_gone (elements_in after)
      (All-map (λ (e : KeptElement). passes e.id ≡ false) (λ (y : ℕ × Node Content). element_in y.1) after (λ k d l. miss (get_or after k d).1.value.id (pairs 0 (suc k) d (omega arith) (omega (arith, l))))) in
      λ i. first i ∷ rest i
  one_gone (b ∷ before) slot node after pairs hit miss =
      let x : ℕ × Node Content = (slot, node) in
      let apart : same_element b.1.value.id node.value.id ≡ false =
      ap (λ (y : ℕ × Node Content). same_element b.1.value.id y.1.value.id) (sym (get_or-append_seam before x after b)) ∙ pairs 0 (suc (length before)) b (omega arith) (omega (arith, length-append before (x ∷ after))) in
      let first = as_it_was (element_in b.1) (miss b.1.value.id (apart_back b.1.value.id node.value.id apart)) in
      let rest = one_gone before slot node after (λ i j d lt l. pairs (suc i) (suc j) d (omega (arith, lt)) (omega (arith, l))) hit miss in
      λ i. first i ∷ rest i

-- what holds of each element holds of each that is kept
keep_all : (P : KeptElement → Type 0) (e : KeptElement) (rest : List KeptElement) → P e → All P rest → All P (keep e rest)
keep_all P e [] first all = by e.gone where
  by : (b : Bool) → All P (cond b [] (e ∷ []))
  by true = all
  by false = All-cons P e [] first all
keep_all P e (x ∷ rest) first all = by (e.gone && not (nat_lt e.depth x.depth)) where
  by : (b : Bool) → All P (cond b (x ∷ rest) (e ∷ x ∷ rest))
  by true = all
  by false = All-cons P e (x ∷ rest) first all

pruned_all : (P : KeptElement → Type 0) (kept : List KeptElement) → All P kept → All P (pruned kept)
pruned_all P [] all = all
pruned_all P (e ∷ kept) all = keep_all P e (pruned kept) (All-head P e kept all) (pruned_all P kept (All-tail P e kept all))

-- ---- one element

module _ (epoch : ℕ) (m : Message) (id : ElementId) where
  -- whether an element is the one of the id, and was seen
  abbrev pub is_taken : ElementId → Bool
  is_taken other = same_element id other && had_seen epoch m other

  -- where that wasn't seen, none is
  pub unseen_fails : had_seen epoch m id ≡ false → (kept : List KeptElement) → All (λ e. is_taken e.id ≡ false) kept
  unseen_fails unseen kept k d l = by (get_or kept k d).id (same_element id (get_or kept k d).id) refl where
    by : (other : ElementId) (same : Bool) → same_element id other ≡ same → (same && had_seen epoch m other) ≡ false
    by other true t = ap (had_seen epoch m) (sym (one_element id other t)) ∙ unseen
    by other false t = refl

  -- where a list has no such element, none is
  pub absent_fails : (kept : List KeptElement) → All (λ e. same_element e.id id ≡ false) kept → All (λ e. is_taken e.id ≡ false) kept
  absent_fails kept none k d l = and_left (same_element id (get_or kept k d).id) (had_seen epoch m (get_or kept k d).id) (apart_back (get_or kept k d).id id (none k d l))

  -- where it was seen and stands in a slot, its node alone is marked
  pub one_marked : had_seen epoch m id ≡ true → (before : List (ℕ × Node Content)) (slot : ℕ) (node : Node Content) (after : List (ℕ × Node Content)) → node.value.id ≡ id
      → AllPairs (λ (a b : ℕ × Node Content). same_element a.1.value.id b.1.value.id ≡ false) (before ++ (slot, node) ∷ after)
      → elements_in (nodes_kept (before ++ (slot, gone_node node) ∷ after)) ≡ kept_without_those is_taken (elements_in (before ++ (slot, node) ∷ after))
  one_marked seen before slot node after is pairs =
      elements_kept (before ++ (slot, gone_node node) ∷ after)
      ∙ ap pruned (sym (one_gone is_taken before slot node after pairs
      (and_from (same_element id node.value.id) (had_seen epoch m node.value.id) (ap (same_element id) is ∙ element_itself id) (ap (had_seen epoch m) is ∙ seen))
      (λ other apart. and_left (same_element id other) (had_seen epoch m other) (ap (λ i. same_element i other) (sym is) ∙ apart))))

-- ---- an act

-- where none passes the lists stay
pub nothing_leaves : (lists : Lists) (object : ObjectId) (passes : ElementId → Bool) → pruned ((shown lists).kept object) ≡ (shown lists).kept object → All (λ e. passes e.id ≡ false) ((shown lists).kept object) → OneChanged object (kept_without_those passes ((shown lists).kept object)) (shown lists) (shown lists)
nothing_leaves lists object passes whole none = record {
  here = sym (none_leaves passes ((shown lists).kept object) whole none);
  others = λ other apart. refl;
}

pub nothing_taken : (lists : Lists) (object : ObjectId) (passes : ElementId → Bool) → pruned ((shown lists).kept object) ≡ (shown lists).kept object → ((id : ElementId) → passes id ≡ false) → OneChanged object (kept_without_those passes ((shown lists).kept object)) (shown lists) (shown lists)
nothing_taken lists object passes whole none = nothing_leaves lists object passes whole (λ k d l. none (get_or ((shown lists).kept object) k d).id)

-- ---- a row

-- the row of a list that is pruned is kept whole
pub row_whole : (lists : Lists) (object : ObjectId) (row : ℕ) → get same_object lists.rows object ≡ Some row → pruned ((shown lists).kept object) ≡ (shown lists).kept object → nodes_kept (row_at lists.chains.rows row) ≡ row_at lists.chains.rows row
row_whole lists object row is whole =
    nodes_whole (row_at lists.chains.rows row) (subst (λ o. pruned (elements_of_row lists.chains.rows o) ≡ elements_of_row lists.chains.rows o) is whole)

-- where nodes of one row are marked and those that leave are taken out, its object's list is without them
pub row_changed : (old new : Lists) (object : ObjectId) (row : ℕ) (now : List (List (ℕ × Node Content))) (marks : List (ℕ × Node Content)) (passes : ElementId → Bool) → get same_object old.rows object ≡ Some row → new.rows ≡ old.rows
    → now ≡ set old.chains.rows row marks → new.chains.rows ≡ set now row (nodes_kept (row_at now row)) → elements_in (nodes_kept marks) ≡ kept_without_those passes (elements_in (row_at old.chains.rows row))
    → OneChanged object (kept_without_those passes ((shown old).kept object)) (shown old) (shown new)
row_changed old new object row now marks passes is rows marked kept without =
    let row_is : row_at now row ≡ marks = ap (λ rs. row_at rs row) marked ∙ get_or-set_same old.chains.rows row marks [] (old.listed.within object row is) in
    let chains : new.chains.rows ≡ set old.chains.rows row (nodes_kept marks) =
    kept ∙ (λ i. set (marked i) row (nodes_kept (row_is i))) ∙ set-set old.chains.rows row marks (nodes_kept marks) in
    subst (λ xs. OneChanged object xs (shown old) (shown new)) (without ∙ ap (λ o. kept_without_those passes (elements_of_row old.chains.rows o)) (sym is))
    (one_changed old new object row (nodes_kept marks) is rows chains)

-- ---- an entry

object_apart : (a b : ObjectId) → same_object a b ≡ false → same_object b a ≡ false
object_apart a b apart = by (same_object b a) refl where
  by : (same : Bool) → same_object b a ≡ same → same ≡ false
  by true t = sym (sym apart ∙ ap (λ o. same_object a o) (object_from_same b a t) ∙ object_itself a)
  by false t = refl

-- what an entry takes out of its own object's list
pub entry_settled : (old new : Listed) (entry : Entry) (epoch : ℕ) (head : Head) (object : ObjectId) (act : Act) → head ≡ record { epoch = epoch; origin = entry.origin; tag = entry.tag } → object ≡ entry.update.object → act ≡ entry.update.act
    → OneChanged object (kept_without_those (λ e. takes_out e act && had_seen head.epoch (head_of head) e) (old.kept object)) old new
    → OneChanged entry.update.object (kept_without entry.update.object epoch (message_of entry) (old.kept entry.update.object)) old new
entry_settled old new entry epoch head object act head_is object_is act_is changed =
    let own = entry.update.object in
    let without : Bool → List KeptElement = λ b.
    pruned (map (λ (e : KeptElement). record e { gone = e.gone || ((b && takes_out e.id entry.update.act) && had_seen epoch (message_of entry) e.id) }) (old.kept own)) in
    subst (λ xs. OneChanged own xs old new) (ap without (sym (object_itself own)))
    (subst (λ (h : Head). OneChanged own (kept_without_those (λ e. takes_out e entry.update.act && had_seen h.epoch (head_of h) e) (old.kept own)) old new) head_is
    (subst (λ (a : Act). OneChanged own (kept_without_those (λ e. takes_out e a && had_seen head.epoch (head_of head) e) (old.kept own)) old new) act_is
    (subst (λ (o : ObjectId). OneChanged o (kept_without_those (λ e. takes_out e act && had_seen head.epoch (head_of head) e) (old.kept o)) old new) object_is changed)))

module _ (old new : Listed) (entry : Entry) (epoch : ℕ) (changed : OneChanged entry.update.object (kept_without entry.update.object epoch (message_of entry) (old.kept entry.update.object)) old new) where
  -- the lists of a history go one entry further
  pub moves_on : (w : ℕ) (h : History) (m : Message) (k : ℕ) → IsTrue (is_history w (with_message h m)) → epoch ≡ epoch_of h → slice_get (stripped_of h m) k ≡ Some (message_of entry) → AreListsMoved h m k old → AreListsMoved h m (suc k) new
  moves_on w h m k t epoch_is at moved object is_list = by (same_object object entry.update.object) refl where
    by : (same : Bool) → same_object object entry.update.object ≡ same → new.kept object ≡ kept_moved h m (suc k) object
    by true same =
        let one : object ≡ entry.update.object = object_from_same object entry.update.object same in
        let own_list : entry.update.object.kind ≡ kinds.List = ap (λ (o : ObjectId). o.kind) (sym one) ∙ is_list in
        ap new.kept one
        ∙ changed.here
        ∙ (λ i. kept_without entry.update.object (epoch_is i) (message_of entry) (moved entry.update.object own_list i))
        ∙ sym (kept_moves_by_entry h m entry.update.object k (message_of entry) at)
        ∙ ap (kept_moved h m (suc k)) (sym one)
    by false same =
        changed.others object same
        ∙ moved object is_list
        ∙ sym (others_move_nothing w h m t object is_list k (message_of entry) (ap (λ b. b && true) (object_apart object entry.update.object same)))
        ∙ sym (kept_moves_by_entry h m object k (message_of entry) at)

  -- none stands deeper than before
  pub still_within : (most : ℕ) → AreWithin most old → AreWithin most new
  still_within most deep object is_list = by (same_object object entry.update.object) refl where
    by : (same : Bool) → same_object object entry.update.object ≡ same → All (λ e. e.depth ≤ most) (new.kept object)
    by true same =
        let one : object ≡ entry.update.object = object_from_same object entry.update.object same in
        let own_list : entry.update.object.kind ≡ kinds.List = ap (λ (o : ObjectId). o.kind) (sym one) ∙ is_list in
        subst (All (λ (e : KeptElement). e.depth ≤ most)) (sym (ap new.kept one ∙ changed.here))
        (pruned_all (λ (e : KeptElement). e.depth ≤ most) _ (All-map (λ (e : KeptElement). e.depth ≤ most) (marked entry.update.object epoch (message_of entry)) (old.kept entry.update.object) (deep entry.update.object own_list)))
    by false same = subst (All (λ (e : KeptElement). e.depth ≤ most)) (sym (changed.others object same)) (deep object is_list)
