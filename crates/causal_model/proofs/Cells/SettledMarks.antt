-- A cell forgets a remove that no pending add waits for, and with one message more it is as if it had not.
use Rattle.std.proofs.Common.{◌≡◌, ◌≢◌, ℕ, Bool, true, false, not, ◌&&◌, ◌||◌, All, IsTrue, List, [], ◌∷◌, ◌++◌, refl, sym, ap, subst, ◌∙◌, Option, Some, None, if◌then◌else◌}
use Rattle.std.specs.List.{filter, fold, list_any}
use Rattle.std.proofs.lemmas.Bool.{and_parts, and_from, or_parts, both_ways, false_from_ne_true, false≢true}
use Rattle.std.proofs.lemmas.List.Elements.{All-nil, All-cons, All-filter, All-weaker}
use Rattle.std.proofs.lemmas.List.Folds.{list_any_none}
use Rattle.op_base.specs.Object.{same_object}
use Rattle.op_base.specs.Operation.{has_act}
use Rattle.op_base.specs.declared.message.Message.{Message}
use Rattle.op_base.specs.declared.name.ObjectId.{ObjectId}
use Rattle.op_base.specs.declared.name.Kind.{Kind}
use Rattle.op_base.specs.declared.name.Kind.TheVariants.{RwSet, DwFlag, Counter}
use Rattle.op_base.specs.declared.operation.Act.{Act}
use Rattle.op_base.specs.declared.operation.Act.TheVariants.{Add, Enable}
use Rattle.op_base.specs.declared.operation.Op.{Op}
use Rattle.op_base.specs.declared.operation.Op.TheVariants as op
use Rattle.op_base.specs.declared.outcome.Cell.{Cell}
use Rattle.causal_model.specs.Acts.{acts_on}
use Rattle.causal_model.specs.CellSteps.{covers_value, covers_place, cell_uncovered, cell_with, marks_settled, cell_settled, puts_in, is_put_in}
use Rattle.causal_model.specs.Log.{log_of, stripped_of, is_kept}
use Rattle.causal_model.specs.Covering.{store_keeps, store_covers}
use Rattle.causal_model.specs.History.{History, with_message, is_history}
use Rattle.causal_model.specs.Items.{zero_cell}
use Rattle.causal_model.specs.Settled.{settled_cell}
use Rattle.causal_model.specs.Stability.{stable_vector, is_stable}
use Rattle.causal_model.proofs.Cells.Cells.{join, restrict, gather, gather-on, cell_of, fold-cells}
use Rattle.causal_model.proofs.Cells.CellsOfOneMore.{given_with_message}
use Rattle.causal_model.proofs.Events.Events.{present_is_followed}
use Rattle.causal_model.proofs.Cells.KindCells.{put_cell, kept_cell, kept_is_put, rwset_puts, rwset_object, dwflag_puts, dwflag_value}
use Rattle.causal_model.proofs.Delivery.Logs.{kept_log-push}
use Rattle.causal_model.proofs.Answers.Rules.{object_from_same}
use Rattle.causal_model.proofs.Cells.SettledCells.{settled_given, settled_is_given}
use Rattle.causal_model.proofs.Delivery.Stripped.{pruned_of, log_is_kept, each_pruned}

-- ---- marks, settled before or not

forgets_on : (a b s : Bool) → ((a || false) && (not (b || s) || false)) ≡ (((a && (not b || false)) || false) && (not ((b && false) || s) || false))
forgets_on true true true = refl
forgets_on true true false = refl
forgets_on true false s = refl
forgets_on false b s = refl

forgets_off : (b s : Bool) → ((b || s) && false) ≡ (((b && false) || s) && false)
forgets_off true true = refl
forgets_off true false = refl
forgets_off false s = refl

waits_on : (a b : Bool) → a ≡ (a && (not b || true))
waits_on true true = refl
waits_on true false = refl
waits_on false b = refl

waits_off : (b : Bool) → b ≡ (b && true)
waits_off true = refl
waits_off false = refl

-- the marks settle alike where an add waited, or where the message covers the place, or where nothing is put in
settles : (covers pending after : Bool) (was more : Cell) → (covers ≡ false → pending ≡ false → (more.on ≡ false) × (after ≡ false))
    → marks_settled after (join (restrict (not covers) was) more) ≡ marks_settled after (join (restrict (not covers) (marks_settled pending was)) more)
settles true pending after was more quiet = refl
settles false true after was more quiet = ap (λ c. marks_settled after (join c more)) (λ i. record { on = waits_on was.on was.off i; off = waits_off was.off i; sum = was.sum })
settles false false after was more quiet =
    let none = quiet refl refl in
    (λ i. record { on = (was.on || none.0 i) && (not (was.off || more.off) || none.1 i); off = (was.off || more.off) && none.1 i; sum = (join was more).sum })
    ∙ (λ i. record { on = forgets_on was.on was.off more.off i; off = forgets_off was.off more.off i; sum = (join was more).sum })
    ∙ sym (λ i. record { on = ((was.on && (not was.off || false)) || none.0 i) && (not ((was.off && false) || more.off) || none.1 i); off = ((was.off && false) || more.off) && none.1 i; sum = (join was more).sum })

-- ---- what puts in covers, in the kinds in which a remove wins

-- that a kind is one in which a remove wins, as what is said of its acts
record RemoveWins (kind : Kind) (value : Option (List ℕ)) : Type 0 where
  covers : (act : Act) → has_act kind act ≡ true → puts_in value act ≡ true → covers_value kind act value ≡ true
  puts : (act : Act) → (put_cell kind value act).on ≡ true → puts_in value act ≡ true

rwset_covers : (value : Option (List ℕ)) (act : Act) → has_act RwSet act ≡ true → puts_in value act ≡ true → covers_value RwSet act value ≡ true
rwset_covers None Enable has t = absurd (false≢true has)
rwset_covers None act has t = absurd (false≢true t)
rwset_covers (Some v) (Add x) has t = t
rwset_covers (Some v) act has t = absurd (false≢true t)

rwset_wins : (value : Option (List ℕ)) → RemoveWins RwSet value
rwset_wins None = record { covers = rwset_covers None; puts = λ act t. absurd (false≢true (sym (ap (λ (c : Cell). c.on) (rwset_object act)) ∙ t)) }
rwset_wins (Some v) = record { covers = rwset_covers (Some v); puts = λ act t. sym (ap (λ (c : Cell). c.on) (rwset_puts v act)) ∙ t }

dwflag_wins : (value : Option (List ℕ)) → RemoveWins DwFlag value
dwflag_wins None = record { covers = λ act has t. refl; puts = λ act t. sym (ap (λ (c : Cell). c.on) (dwflag_puts act)) ∙ t }
dwflag_wins (Some v) = record { covers = λ act has t. refl; puts = λ act t. absurd (false≢true (sym (ap (λ (c : Cell). c.on) (dwflag_value v act)) ∙ t)) }

-- ---- nothing is put in where no add was pending and the message covers nothing at the place

none_passes : {X : Type 0} (p : X → Bool) (xs : List X) → list_any p xs ≡ false → All (λ x. p x ≡ false) xs
none_passes p [] t = All-nil (λ x. p x ≡ false)
none_passes p (x ∷ xs) t = let both = or_parts (p x) (list_any p xs) t in All-cons (λ y. p y ≡ false) x xs both.0 (none_passes p xs both.1)

on_parts : (same : Bool) (cell : Cell) → (restrict same cell).on ≡ true → (same ≡ true) × (cell.on ≡ true)
on_parts true cell t = (refl, t)
on_parts false cell t = absurd (false≢true t)

module _ (object : ObjectId) (value : Option (List ℕ)) (wins : RemoveWins object.kind value) where
  -- an operation that puts in covers the place
  putting_covers : (o : Op) → acts_on object (puts_in value) o ≡ true → covers_place o object value ≡ true
  putting_covers op.NoOp t = t
  putting_covers (op.Update u) t =
      let both = and_parts (same_object u.object object) (puts_in value u.act) t in
      let has : has_act object.kind u.act ≡ true = subst (λ (z : ObjectId). has_act z.kind u.act ≡ true) (object_from_same u.object object both.0) u.of_kind in
      and_from _ _ both.0 (wins.covers u.act has both.1)

  -- a kept one that doesn't put in gives no on mark
  gives_no_on : (o : Op) → is_kept store_keeps o ≡ true → acts_on object (puts_in value) o ≡ false → (cell_of object value o).on ≡ false
  gives_no_on op.NoOp kept none = refl
  gives_no_on (op.Update u) kept none = false_from_ne_true _ (λ t.
      let given : (kept_cell object value (op.Update u)).on ≡ true = ap (λ b. (restrict b (cell_of object value (op.Update u))).on) kept ∙ t in
      let both = on_parts (same_object u.object object) (put_cell object.kind value u.act) (sym (ap (λ (c : Cell). c.on) (kept_is_put object value u)) ∙ given) in
      both_ways (acts_on object (puts_in value) (op.Update u)) none (and_from _ _ both.0 (wins.puts u.act both.1)))

  -- that an entry is kept and doesn't put in
  abbrev IsQuiet : Message → Type 0
  IsQuiet e = (is_kept store_keeps e.op ≡ true) × (acts_on object (puts_in value) e.op ≡ false)

  module _ (w : ℕ) (h : History) (m : Message) (t : IsTrue (is_history w (with_message h m))) (uncovered : covers_place m.op object value ≡ false) (none : is_put_in (log_of h) object value ≡ false) where
    log_is_quiet : All IsQuiet (log_of h)
    log_is_quiet = let quiet = none_passes (λ (e : Message). acts_on object (puts_in value) e.op) (log_of h) none in λ k d l. (log_is_kept h k d l, quiet k d l)

    pruned_is_quiet : All IsQuiet (pruned_of h m)
    pruned_is_quiet = each_pruned IsQuiet h m log_is_quiet (λ kept. (kept, false_from_ne_true (acts_on object (puts_in value) m.op) (λ puts. both_ways (covers_place m.op object value) uncovered (putting_covers m.op puts))))

    none_is_put_in : ((gather (λ e. cell_of object value e.op) (stripped_of h m)).on ≡ false) × (is_put_in (log_of (with_message h m)) object value ≡ false)
    none_is_put_in =
        let cells : Message → Cell = λ e. cell_of object value e.op in
        let stable : Message → Bool = is_stable (stable_vector h.present.n h.present.me (h.present.messages ++ m ∷ [])) in
        let pruned : List Message = pruned_of h m in
        let left : List Message = filter (λ e. not (stable e)) pruned in
        let puts : Message → Bool = λ e. acts_on object (puts_in value) e.op in (
          gather-on cells (stripped_of h m) ∙ list_any_none (λ e. (cells e).on) (stripped_of h m) (All-weaker IsQuiet (λ e. (cells e).on ≡ false) (λ e quiet. gives_no_on e.op quiet.0 quiet.1) (stripped_of h m) (All-filter stable IsQuiet pruned pruned_is_quiet)),
          ap (list_any puts) (kept_log-push store_keeps store_covers h.present.n w h.present.me h.present.messages m (present_is_followed w (with_message h m) t))
              ∙ list_any_none puts left (All-weaker IsQuiet (λ e. puts e ≡ false) (λ e quiet. quiet.1) left (All-filter (λ e. not (stable e)) IsQuiet pruned pruned_is_quiet)),
        )

-- ---- the cell with one message more

uncovered_is_restricted : (object : ObjectId) (value : Option (List ℕ)) (o : Op) (cell : Cell) → cell_uncovered object value o cell ≡ restrict (not (covers_place o object value)) cell
uncovered_is_restricted object value o cell = by (covers_place o object value) where
  by : (b : Bool) → (if b then zero_cell else cell) ≡ restrict (not b) cell
  by true = refl
  by false = refl

module _ (w : ℕ) (h : History) (m : Message) (object : ObjectId) (value : Option (List ℕ)) (t : IsTrue (is_history w (with_message h m))) where
  abbrev stripped_cell : Cell
  stripped_cell = gather (λ e. cell_of object value e.op) (stripped_of h m)

  abbrev after : Bool
  after = is_put_in (log_of (with_message h m)) object value

  marks_settle : (kind : Kind) → object.kind ≡ kind → (pending : Bool) → is_put_in (log_of h) object value ≡ pending
      → cell_settled kind after (join (restrict (not (covers_place m.op object value)) (settled_given h object value)) stripped_cell)
      ≡ cell_settled kind after (join (restrict (not (covers_place m.op object value)) (cell_settled kind pending (settled_given h object value))) stripped_cell)
  marks_settle RwSet is pending waits = settles (covers_place m.op object value) pending after (settled_given h object value) stripped_cell (λ uncovered none.
      none_is_put_in object value (subst (λ k. RemoveWins k value) (sym is) (rwset_wins value)) w h m t uncovered (waits ∙ none))
  marks_settle DwFlag is pending waits = settles (covers_place m.op object value) pending after (settled_given h object value) stripped_cell (λ uncovered none.
      none_is_put_in object value (subst (λ k. RemoveWins k value) (sym is) (dwflag_wins value)) w h m t uncovered (waits ∙ none))
  marks_settle kind is pending waits = refl

  pub cell_of_one_more : object.kind ≢ Counter
      → settled_cell (with_message h m) object value
      ≡ cell_settled object.kind (is_put_in (log_of (with_message h m)) object value)
      (fold (λ cell e. cell_with object value cell e.op) (cell_uncovered object value m.op (settled_cell h object value)) (stripped_of h m))
  cell_of_one_more other =
      settled_is_given (with_message h m) object value other
      ∙ ap (cell_settled object.kind after) (given_with_message w h m t object value)
      ∙ marks_settle object.kind refl (is_put_in (log_of h) object value) refl
      ∙ sym (ap (cell_settled object.kind after) (fold-cells object value (cell_uncovered object value m.op (settled_cell h object value)) (stripped_of h m)
      ∙ ap (λ c. join c stripped_cell) (uncovered_is_restricted object value m.op (settled_cell h object value) ∙ ap (restrict (not (covers_place m.op object value))) (settled_is_given h object value other))))
