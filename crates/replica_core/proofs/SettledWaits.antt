-- What was stripped from the log, while it is moved into items and lists one by one.
use Rattle.std.proofs.Common.{◌≡◌, ℕ, ◌+◌, ◌<◌, ◌≤◌, suc, true, false, IsTrue, Option, None, Some, List, [], ◌∷◌, length, sym, ap, subst, ◌∙◌, refl, add-one, arith}
use Rattle.std.specs.Prelude.{slice_get}
use Rattle.std.proofs.lemmas.Bool.{and_parts, false_from_ne_true}
use Rattle.op_base.specs.Object.{same_object}
use Rattle.op_base.specs.declared.message.Entry.{Entry}
use Rattle.op_base.specs.declared.message.Message.{Message}
use Rattle.op_base.specs.declared.name.Kind.TheVariants as kinds
use Rattle.op_base.specs.declared.name.ObjectId.{ObjectId}
use Rattle.causal_model.specs.Acts.{value_of}
use Rattle.causal_model.specs.CellSteps.{cell_absorbed}
use Rattle.causal_model.specs.Log.{stripped_of, message_of}
use Rattle.causal_model.specs.Covering.{store_keeps, store_covers}
use Rattle.causal_model.specs.History.{History, with_message, is_history, epoch_of}
use Rattle.causal_model.specs.ListSteps.{pruned}
use Rattle.causal_model.specs.Parts.{is_on}
use Rattle.causal_model.proofs.Lists.KeptOfOneMore.{kept_stays_pruned, others_move_nothing}
use Rattle.causal_model.proofs.Answers.Rules.{object_from_same}
use Rattle.causal_model.proofs.Lists.ShownLists.{kept_moves_by_entry}
use Rattle.causal_model.proofs.Cells.MovedSums.{moved_sums_are_bounded}
use Rattle.polog.specs.Standing.{IsLogOf, HandsOut, KeepsHandingOut}
use Rattle.polog.specs.Value.{Log, with_stripped}
use Rattle.stable_state.specs.Laws.{HasRange}
use Rattle.stable_state.specs.Shelf.{Shelved}
use Rattle.stable_state.specs.Standing.{AreAbsorbed}
use Rattle.stable_state.proofs.Moves.{absorbed_more, sum_fits}
use Rattle.list_type.specs.Listed.{Listed, AreListsMoved, AreWithin}
use Rattle.replica_core.specs.Settling.{AreWaiting}

-- ---- what a log hands out

-- an entry was the next
pub record HasNext (old new : Log) (e : Entry) : Type 0 where
  pub rest : List Entry
  pub is : old.stripped ≡ e ∷ rest
  pub left : new ≡ with_stripped old rest

module _ (old new : Log) (o : Option Entry) (none : old.stripped ≡ [] → (o ≡ None) × (new ≡ old)) (first : (e : Entry) (rest : List Entry) → old.stripped ≡ e ∷ rest → (o ≡ Some e) × (new ≡ with_stripped old rest)) where
  pub has_next : (e : Entry) → o ≡ Some e → HasNext old new e
  has_next e is = by old.stripped refl where
    by : (xs : List Entry) → old.stripped ≡ xs → HasNext old new e
    by [] empty = let gone : o ≡ None = (none empty).0 in absurd (cc)
    by (x ∷ rest) held =
        let given : o ≡ Some x = (first x rest held).0 in
        let same : x ≡ e = cc in
        record { rest = rest; is = held ∙ ap (λ y. y ∷ rest) same; left = (first x rest held).1 }

  pub none_is_left : ((e : Entry) → o ≡ Some e → ⊥) → (old.stripped ≡ []) × (o ≡ None) × (new ≡ old)
  none_is_left missing = by old.stripped refl where
    by : (xs : List Entry) → old.stripped ≡ xs → (old.stripped ≡ []) × (o ≡ None) × (new ≡ old)
    by [] empty = let both = none empty in (empty, both.0, both.1)
    by (x ∷ rest) held = absurd (missing x (first x rest held).0)

-- ---- one entry more

module _ {w limit : ℕ} {h : History} {m : Message} {k : ℕ} {old : Log} {items : Shelved} {lists : Listed} {epoch : ℕ} (waits : AreWaiting w limit h m k old items lists epoch) (next : Option Entry) (new : Log) (hands : KeepsHandingOut next old new) where
  handed : HandsOut store_keeps store_covers h.present.n h.present.me h.present.messages m k next new
  handed = hands store_keeps store_covers h.present.n h.present.me h.present.messages m k waits.is_stripped

  module _ (e : Entry) (is : next ≡ Some e) where
    handed_entry : HandsOut store_keeps store_covers h.present.n h.present.me h.present.messages m k (Some e) new
    handed_entry = subst (λ o. HandsOut store_keeps store_covers h.present.n h.present.me h.present.messages m k o new) is handed

    -- it can be put into the items
    pub next_has_range : HasRange items e.update
    next_has_range =
        let object = e.update.object in
        let value = value_of e.update.act in
        sum_fits items.items e.update (cell_absorbed h m k object value) (waits.are_absorbed.cells object value)
        (cell_absorbed h m (k + 1) object value) (absorbed_more h m object value k (message_of e) handed_entry.0)
        ((moved_sums_are_bounded w limit h m object value waits.of_history waits.of_limit waits.few).0 (k + 1))

    -- all that could go from a list is gone
    pub next_is_pruned : (object : ObjectId) → object.kind ≡ kinds.List → pruned (lists.kept object) ≡ lists.kept object
    next_is_pruned object is_list = subst (λ kept. pruned kept ≡ kept) (sym (waits.are_lists object is_list)) (kept_stays_pruned w h m waits.of_history object is_list k)

    -- then one more is in items and lists
    pub next_is_absorbed : (after : Shelved) (lists_after : Listed) → (slice_get (stripped_of h m) k ≡ Some (message_of e) → AreAbsorbed h m k items → AreAbsorbed h m (k + 1) after)
        → (IsTrue (is_history w (with_message h m)) → epoch ≡ epoch_of h → slice_get (stripped_of h m) k ≡ Some (message_of e) → AreListsMoved h m k lists → AreListsMoved h m (suc k) lists_after)
        → AreWaiting w limit h m (k + 1) new after lists_after epoch
    next_is_absorbed after lists_after absorbs moves = record {
      few = waits.few;
      of_history = waits.of_history;
      of_limit = waits.of_limit;
      is_stripped = handed_entry.1;
      are_absorbed = absorbs handed_entry.0 waits.are_absorbed;
      in_epoch = waits.in_epoch;
      are_lists = subst (λ j. AreListsMoved h m j lists_after) (sym (add-one k)) (moves waits.of_history waits.in_epoch handed_entry.0 waits.are_lists);
    }

  -- where none came, all are absorbed
  module _ (is : next ≡ None) where
    handed_none : HandsOut store_keeps store_covers h.present.n h.present.me h.present.messages m k None new
    handed_none = subst (λ o. HandsOut store_keeps store_covers h.present.n h.present.me h.present.messages m k o new) is handed

    pub all_are_absorbed : AreAbsorbed h m (length (stripped_of h m)) items
    all_are_absorbed = subst (λ j. AreAbsorbed h m j items) handed_none.0 waits.are_absorbed

    pub all_lists_are_moved : AreListsMoved h m (length (stripped_of h m)) lists
    all_lists_are_moved = subst (λ j. AreListsMoved h m j lists) handed_none.0 waits.are_lists

    pub log_is_settled : IsLogOf store_keeps store_covers h.present.n h.present.me (with_message h m).present.messages new
    log_is_settled = handed_none.1

-- ---- lists

-- an entry of another kind takes nothing out of a list
pub other_moves_no_list : (w : ℕ) (h : History) (m : Message) (k : ℕ) (entry : Entry) (lists : Listed) → (entry.update.object.kind ≡ kinds.List → ⊥) → IsTrue (is_history w (with_message h m))
    → slice_get (stripped_of h m) k ≡ Some (message_of entry) → AreListsMoved h m k lists → AreListsMoved h m (suc k) lists
other_moves_no_list w h m k entry lists other history next moved object is_list =
    let elsewhere : is_on object (message_of entry) ≡ false
    = false_from_ne_true (is_on object (message_of entry)) (λ here.
    let same = object_from_same entry.update.object object (and_parts (same_object entry.update.object object) true here).0 in
    other (ap (λ (o : ObjectId). o.kind) same ∙ is_list)) in
    moved object is_list ∙ sym (kept_moves_by_entry h m object k (message_of entry) next ∙ others_move_nothing w h m history object is_list k (message_of entry) elsewhere)

-- ---- on the way

-- log, items and lists, some of whose entries were moved
pub record AreMoving (epoch : ℕ) (before log : Log) (begun items : Shelved) (lists_begun lists : Listed) : Type 0 where
  pub same : log ≡ with_stripped before log.stripped
  pub spare : begun.spare + length log.stripped ≤ items.spare + length before.stripped
  pub lists_spare : lists_begun.spare ≤ lists.spare
  pub deep : (most : ℕ) → AreWithin most lists_begun → AreWithin most lists
  pub waits : (w limit : ℕ) (h : History) (m : Message) → AreWaiting w limit h m 0 before begun lists_begun epoch → (k : ℕ) × AreWaiting w limit h m k log items lists epoch

pub moving_begins : (epoch : ℕ) (log : Log) (items : Shelved) (lists : Listed) → AreMoving epoch log log items items lists lists
moving_begins epoch log items lists = record { same = refl; spare = omega arith; lists_spare = omega arith; deep = λ most within. within; waits = λ w limit h m begin. (0, begin) }

module _ (epoch : ℕ) (before log : Log) (begun items : Shelved) (lists_begun lists : Listed) (moving : AreMoving epoch before log begun items lists_begun lists) where
  module _ (e : Entry) (new : Log) (next : HasNext log new e) where
    some_are_left : length log.stripped ≡ length next.rest + 1
    some_are_left = let is = ap length next.is in omega arith

    pub moving_has_spare : length before.stripped ≤ begun.spare → 1 ≤ items.spare
    moving_has_spare room = let left = some_are_left in let spare = moving.spare in omega arith

    pub fewer_are_left : length new.stripped < length log.stripped
    fewer_are_left = let left = some_are_left in subst (λ x. length x.stripped < length log.stripped) (sym next.left) (omega arith)

    pub moving_goes_on : (o : Option Entry) → o ≡ Some e → KeepsHandingOut o log new → (after : Shelved) (lists_after : Listed) → items.spare ≤ after.spare + 1 → lists.spare ≤ lists_after.spare
        → ((most : ℕ) → AreWithin most lists → AreWithin most lists_after)
        → ((h : History) (m : Message) (k : ℕ) → slice_get (stripped_of h m) k ≡ Some (message_of e) → AreAbsorbed h m k items → AreAbsorbed h m (k + 1) after)
        → ((w : ℕ) (h : History) (m : Message) (k : ℕ) → IsTrue (is_history w (with_message h m)) → epoch ≡ epoch_of h → slice_get (stripped_of h m) k ≡ Some (message_of e)
        → AreListsMoved h m k lists → AreListsMoved h m (suc k) lists_after)
        → AreMoving epoch before new begun after lists_begun lists_after
    moving_goes_on o is hands after lists_after less no_less stay absorbs moves =
        let left = some_are_left in
        let spare = moving.spare in
        let fewer : length new.stripped ≡ length next.rest = ap (λ (l : Log). length l.stripped) next.left in
        record {
          same = next.left ∙ (λ i. with_stripped (moving.same i) (sym (ap (λ (l : Log). l.stripped) next.left) i));
          spare = omega arith;
          lists_spare = let elements = moving.lists_spare in omega arith;
          deep = λ most within. stay most (moving.deep most within);
          waits = λ w limit h m begin. let was = moving.waits w limit h m begin in (was.0 + 1, next_is_absorbed was.1 o new hands e is after lists_after (absorbs h m was.0) (moves w h m was.0));
        }

  module _ (done : log.stripped ≡ []) where
    pub none_is_stripped : log ≡ with_stripped before []
    none_is_stripped = moving.same ∙ ap (with_stripped before) done

    pub moved_spare : begun.spare ≤ items.spare + length before.stripped
    moved_spare = let spare = moving.spare in omega arith
