-- An off mark that waits for an add goes on waiting, unless what goes from the log is of its place.
use Rattle.std.proofs.Common.{◌≡◌, ℕ, Bool, true, false, not, ◌&&◌, ◌||◌, Contains, IsTrue, List, [], ◌∷◌, refl, sym, ap, ◌∙◌, inl, inr, Option, Some, None}
use Rattle.std.specs.Prelude.{fold}
use Rattle.std.specs.Cmp.Lexicographic.{bytes_decides, texts_ties}
use Rattle.std.specs.List.{list_any}
use Rattle.std.specs.Option.{option_cmp}
use Rattle.std.specs.Ordering.{is_eq}
use Rattle.std.proofs.Math.Seq.{take-length}
use Rattle.std.proofs.lemmas.Bool.{and_from, and_parts, and_left, both_ways, cases_Bool, cond-true, cond-false, false_from_ne_true, false≢true, not_from_false, or_parts}
use Rattle.std.proofs.lemmas.List.Elements.{Contains-append_left}
use Rattle.op_base.specs.Object.{same_object}
use Rattle.op_base.specs.Operation.{has_act}
use Rattle.op_base.specs.Order.{text_cmp}
use Rattle.op_base.specs.declared.message.Message.{Message}
use Rattle.op_base.specs.declared.name.ObjectId.{ObjectId}
use Rattle.op_base.specs.declared.name.Kind.{Kind}
use Rattle.op_base.specs.declared.name.Kind.TheVariants.{RwSet, DwFlag, Counter}
use Rattle.op_base.specs.declared.operation.Act.{Act}
use Rattle.op_base.specs.declared.operation.Act.TheVariants.{Add, Enable}
use Rattle.op_base.specs.declared.operation.Op.{Op}
use Rattle.op_base.specs.declared.operation.Op.TheVariants as op
use Rattle.op_base.specs.declared.outcome.Cell.{Cell}
use Rattle.causal_model.specs.Acts.{acts_on, is_clear, value_of, same_value}
use Rattle.causal_model.specs.CellSteps.{is_counter, covers_value, covers_place, cell_uncovered, cell_with, cell_applied, cell_moved, cell_settled, marks_settled, puts_in, is_put_in, with_act}
use Rattle.causal_model.specs.Covering.{covers_act, store_keeps, store_covers}
use Rattle.causal_model.specs.History.{History, with_message, is_history}
use Rattle.causal_model.specs.Items.{zero_cell}
use Rattle.causal_model.specs.Log.{log_of, stripped_of, is_covered_by}
use Rattle.causal_model.specs.Order.{happened_before}
use Rattle.causal_model.specs.Settled.{settled_cell}
use Rattle.causal_model.specs.Stability.{stable_vector, is_stable}
use Rattle.causal_model.proofs.Theory.Elements.{item_from_list_any, list_any-from_item}
use Rattle.causal_model.proofs.Events.Events.{present_is_followed}
use Rattle.causal_model.proofs.Cells.KindCells.{place_parts}
use Rattle.causal_model.proofs.Delivery.Logs.{kept_log-push}
use Rattle.causal_model.proofs.Theory.Members.{member_of_filter}
use Rattle.causal_model.proofs.Cells.MovedCells.{counter_kind}
use Rattle.causal_model.proofs.Answers.Rules.{object_from_same}
use Rattle.causal_model.proofs.Cells.SettledCells.{settled_given, settled_is_given}
use Rattle.causal_model.proofs.Delivery.Stripped.{pruned_of}
use Rattle.stable_state.specs.Picked.{is_place, names_place}
use Rattle.stable_state.specs.Settling.{remove_wins}
use Rattle.stable_state.proofs.Cells.{same_place}
use Rattle.stable_state.proofs.Marks.{pending_stays, unmarked_is_settled}

-- ---- acts that put in

-- an act that puts in names the value
puts_of_value : (value : Option (List ℕ)) (act : Act) → puts_in value act ≡ true → is_eq (option_cmp text_cmp (value_of act) value) ≡ true
puts_of_value None Enable t = refl
puts_of_value None act t = absurd (false≢true t)
puts_of_value (Some v) (Add x) t = sym (texts_ties x v) ∙ t
puts_of_value (Some v) act t = absurd (false≢true t)

-- where a remove wins, what covers an act that puts in covers the value
covers_what_puts : (kind : Kind) (value : Option (List ℕ)) (later earlier : Act) → remove_wins kind ≡ true → has_act kind earlier ≡ true → puts_in value earlier ≡ true → covers_act kind later earlier ≡ true → covers_value kind later value ≡ true
covers_what_puts RwSet None later Enable wins has puts covers = absurd (false≢true has)
covers_what_puts RwSet None later earlier wins has puts covers = absurd (false≢true puts)
covers_what_puts RwSet (Some v) later (Add x) wins has puts covers = ap (λ y. is_clear later || same_value (value_of later) (Some y)) (sym ((bytes_decides x v).0 puts)) ∙ covers
covers_what_puts RwSet (Some v) later earlier wins has puts covers = absurd (false≢true puts)
covers_what_puts DwFlag value later earlier wins has puts covers = refl
covers_what_puts kind value later earlier wins has puts covers = absurd (false≢true wins)

module _ (object : ObjectId) (value : Option (List ℕ)) where
  abbrev puts : Message → Bool
  puts e = acts_on object (puts_in value) e.op

  abbrev names : Message → Bool
  names e = names_place e.op object value

  -- what puts in is of the place
  puts_here : (o : Op) → acts_on object (puts_in value) o ≡ true → names_place o object value ≡ true
  puts_here op.NoOp t = t
  puts_here (op.Update u) t =
      let both = and_parts (same_object u.object object) (puts_in value u.act) t in
      place_parts u.object object (value_of u.act) value ∙ and_from (same_object u.object object) (is_eq (option_cmp text_cmp (value_of u.act) value)) both.0 (puts_of_value value u.act both.1)

  -- and what covers it covers the place
  covers_here : remove_wins object.kind ≡ true → (o later : Op) → acts_on object (puts_in value) o ≡ true → is_covered_by store_covers o later ≡ true → covers_place later object value ≡ true
  covers_here wins op.NoOp later t covers = absurd (false≢true t)
  covers_here wins (op.Update u) op.NoOp t covers = covers
  covers_here wins (op.Update u) (op.Update l) t covers =
      let both = and_parts (same_object u.object object) (puts_in value u.act) t in
      let same : u.object ≡ object = object_from_same u.object object both.0 in
      let parts = and_parts (same_object l.object u.object && store_keeps u) (covers_act u.object.kind l.act u.act) covers in
      and_from (same_object l.object object) (covers_value object.kind l.act value) (ap (same_object l.object) (sym same) ∙ (and_parts (same_object l.object u.object) (store_keeps u) parts.0).0)
      (covers_what_puts object.kind value l.act u.act wins (ap (λ (o : ObjectId). has_act o.kind u.act) (sym same) ∙ u.of_kind) both.1 (ap (λ (o : ObjectId). covers_act o.kind l.act u.act) (sym same) ∙ parts.1))

  -- ---- one message more

  module _ (w : ℕ) (h : History) (m : Message) (t : IsTrue (is_history w (with_message h m))) (wins : remove_wins object.kind ≡ true) (none : list_any names (stripped_of h m) ≡ false) where
    abbrev bare : Message → Bool
    bare e = not (is_covered_by store_covers e.op m.op && happened_before e m)

    abbrev stable : Message → Bool
    stable e = is_stable (stable_vector h.present.n h.present.me (with_message h m).present.messages) e

    -- an add that is pending is so still, where the message doesn't cover it and it doesn't go from the log
    still_pending : covers_place m.op object value ≡ false → is_put_in (log_of h) object value ≡ true → is_put_in (log_of (with_message h m)) object value ≡ true
    still_pending uncovered pending =
        let some = item_from_list_any puts (log_of h) pending in
        let e = some.0 in
        let stays : bare e ≡ true = not_from_false (is_covered_by store_covers e.op m.op && happened_before e m) (and_left (is_covered_by store_covers e.op m.op) (happened_before e m) (false_from_ne_true (is_covered_by store_covers e.op m.op) (λ covers.
        both_ways (covers_place m.op object value) uncovered (covers_here wins e.op m.op some.1.1 covers)))) in
        let pruned : Contains (pruned_of h m) e = Contains-append_left _ _ e (member_of_filter bare (log_of h) e some.1.0 stays) in
        let unstable : stable e ≡ false = false_from_ne_true (stable e) (λ goes.
        both_ways (list_any names (stripped_of h m)) none (list_any-from_item names (stripped_of h m) e (member_of_filter stable (pruned_of h m) e pruned goes) (puts_here e.op some.1.1))) in
        ap (list_any puts) (kept_log-push store_keeps store_covers h.present.n w h.present.me h.present.messages m (present_is_followed w (with_message h m) t))
        ∙ list_any-from_item puts _ e (member_of_filter (λ x. not (stable x)) (pruned_of h m) e pruned (not_from_false (stable e) unstable)) some.1.1

    -- ---- the cell

    -- a settled off mark waits for an add
    mark_waits_in : (kind : Kind) → object.kind ≡ kind → ((pending : Bool) (cell : Cell) → cell_settled kind pending cell ≡ marks_settled pending cell) → (kind ≡ Counter → ⊥) → (settled_cell h object value).off ≡ true → is_put_in (log_of h) object value ≡ true
    mark_waits_in kind is settles other off =
        let given = settled_given h object value in
        let pending = is_put_in (log_of h) object value in
        let cell : settled_cell h object value ≡ marks_settled pending given =
        settled_is_given h object value (λ counter. other (sym is ∙ counter)) ∙ ap (λ k. cell_settled k pending given) is ∙ settles pending given in
        (and_parts given.off pending (sym (ap (λ (c : Cell). c.off) cell) ∙ off)).1

    mark_waits : (settled_cell h object value).off ≡ true → is_put_in (log_of h) object value ≡ true
    mark_waits off = by object.kind refl wins where
      by : (kind : Kind) → object.kind ≡ kind → remove_wins kind ≡ true → is_put_in (log_of h) object value ≡ true
      by RwSet is _ = mark_waits_in RwSet is (λ _ _. refl) (λ same. cc) off
      by DwFlag is _ = mark_waits_in DwFlag is (λ _ _. refl) (λ same. cc) off
      by kind is never = absurd (false≢true never)

    -- what is of other places leaves the cell
    other_leaves : (o : Op) (cell : Cell) → names_place o object value ≡ false → cell_with object value cell o ≡ cell
    other_leaves op.NoOp cell other = refl
    other_leaves (op.Update u) cell other = cond-false (is_place u.object (value_of u.act) object value) (with_act u.act cell) cell other

    others_leave : (es : List Message) (cell : Cell) → list_any names es ≡ false → fold (λ c e. cell_with object value c e.op) cell es ≡ cell
    others_leave [] cell none = refl
    others_leave (e ∷ es) cell none =
        let both = or_parts (names e) (list_any names es) none in
        ap (λ c. fold (λ d x. cell_with object value d x.op) c es) (other_leaves e.op cell both.0) ∙ others_leave es cell both.1

    -- nothing is applied at once
    nothing_is_applied : (o : Op) (cell : Cell) → cell_applied object value o cell ≡ cell
    nothing_is_applied op.NoOp cell = refl
    nothing_is_applied (op.Update u) cell = elim (cases_Bool (is_counter u.object.kind)) [
      | inr other ↦ cond-false (is_counter u.object.kind) (cell_with object value cell (op.Update u)) cell other
      | inl counter ↦
          cond-true (is_counter u.object.kind) (cell_with object value cell (op.Update u)) cell counter
          ∙ other_leaves (op.Update u) cell (false_from_ne_true (is_place u.object (value_of u.act) object value) (λ here.
          let same = same_place u.object object (value_of u.act) value here in
          both_ways (remove_wins object.kind) (ap (λ (o : ObjectId). remove_wins o.kind) (sym same.0) ∙ ap remove_wins (counter_kind u.object.kind counter)) wins))
    ]

    moved_is_uncovered : cell_moved h m object value ≡ cell_uncovered object value m.op (settled_cell h object value)
    moved_is_uncovered =
        nothing_is_applied m.op _
        ∙ ap (fold (λ c e. cell_with object value c e.op) (cell_uncovered object value m.op (settled_cell h object value))) (take-length (stripped_of h m))
        ∙ others_leave (stripped_of h m) (cell_uncovered object value m.op (settled_cell h object value)) none

    pub pending_after : (cell_moved h m object value).off ≡ true → is_put_in (log_of (with_message h m)) object value ≡ true
    pending_after off = elim (cases_Bool (covers_place m.op object value)) [
      | inl covers ↦ absurd (false≢true (sym (ap (λ (c : Cell). c.off) (moved_is_uncovered ∙ cond-true (covers_place m.op object value) zero_cell (settled_cell h object value) covers)) ∙ off))
      | inr uncovered ↦
          let same = moved_is_uncovered ∙ cond-false (covers_place m.op object value) zero_cell (settled_cell h object value) uncovered in
          still_pending uncovered (mark_waits (sym (ap (λ (c : Cell). c.off) same) ∙ off))
    ]

-- Where nothing that goes from the log is of its place, or there is no off mark, a cell is settled: it was before the message.
pub unnamed_is_settled : (w : ℕ) (h : History) (m : Message) (object : ObjectId) (value : Option (List ℕ)) → IsTrue (is_history w (with_message h m))
    → (list_any (λ e. names_place e.op object value) (stripped_of h m) ≡ true → (cell_moved h m object value).off ≡ true → ⊥)
    → cell_settled object.kind (is_put_in (log_of (with_message h m)) object value) (cell_moved h m object value) ≡ cell_moved h m object value
unnamed_is_settled w h m object value t untouched =
    let cell = cell_moved h m object value in
    let after = is_put_in (log_of (with_message h m)) object value in
    elim (cases_Bool cell.off) [
      | inr unmarked ↦ unmarked_is_settled object.kind after cell unmarked
      | inl off ↦
          let none : list_any (λ e. names_place e.op object value) (stripped_of h m) ≡ false = false_from_ne_true _ (λ named. untouched named off) in
          by_kind object.kind (λ wins. pending_after object value w h m t wins none off)
    ] where
      by_kind : (kind : Kind) → (remove_wins kind ≡ true → is_put_in (log_of (with_message h m)) object value ≡ true)
          → cell_settled kind (is_put_in (log_of (with_message h m)) object value) (cell_moved h m object value) ≡ cell_moved h m object value
      by_kind RwSet pending = ap (λ p. marks_settled p (cell_moved h m object value)) (pending refl) ∙ pending_stays (cell_moved h m object value)
      by_kind DwFlag pending = ap (λ p. marks_settled p (cell_moved h m object value)) (pending refl) ∙ pending_stays (cell_moved h m object value)
      by_kind kind pending = refl
