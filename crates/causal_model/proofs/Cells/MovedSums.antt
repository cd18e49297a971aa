-- How large the sums of a cell are on the way from one message to the next.
use Rattle.std.proofs.Common.{◌≡◌, ℕ, ◌+◌, ◌*◌, ◌^◌, ◌<◌, ◌≤◌, true, All, IsTrue, List, [], ◌∷◌, length, length-append, Option, Some, None, subst, arith}
use Rattle.std.specs.Prelude.{take}
use Rattle.std.specs.List.{fold, slice_index_or}
use Rattle.std.specs.Ordering.{is_eq}
use Rattle.std.proofs.Math.IntN.{nat_abs}
use Rattle.std.proofs.lemmas.Bool.{and_parts, cond_both}
use Rattle.std.proofs.lemmas.List.{length-map, length-take}
use Rattle.std.proofs.lemmas.List.Elements.{All-head, All-tail, All-take}
use Rattle.std.proofs.lemmas.List.Sums.{AllPass-from_list_all}
use Rattle.op_base.specs.Name.{is_key}
use Rattle.op_base.specs.Order.{item_cmp}
use Rattle.op_base.specs.Valid.{is_valid, is_valid_act}
use Rattle.op_base.specs.declared.message.Message.{Message}
use Rattle.op_base.specs.declared.name.ObjectId.{ObjectId}
use Rattle.op_base.specs.declared.name.Kind.{Kind}
use Rattle.op_base.specs.declared.name.Kind.TheVariants.{AwSet, RwSet, MvReg, Counter, RCounter}
use Rattle.op_base.specs.declared.operation.Op.{Op}
use Rattle.op_base.specs.declared.operation.Op.TheVariants as op
use Rattle.op_base.specs.declared.outcome.Cell.{Cell}
use Rattle.causal_model.specs.Acts.{value_of, amount_of}
use Rattle.causal_model.specs.CellSteps.{with_act, is_counter, covers_place, cell_uncovered, cell_with, cell_absorbed, cell_applied, cell_moved}
use Rattle.causal_model.specs.Log.{stripped_of}
use Rattle.causal_model.specs.Counts.{is_carried}
use Rattle.causal_model.specs.History.{History, Event, epoch_of, events, events_from, events_in, with_message, is_history, is_limited}
use Rattle.causal_model.specs.Items.{zero_cell}
use Rattle.causal_model.specs.Query.{counter_sum, IsWithin}
use Rattle.causal_model.specs.Settled.{is_settled, object_cell, value_cell, settled_cell}
use Rattle.causal_model.proofs.Events.EventsOfOneMore.{filter_all}
use Rattle.causal_model.proofs.Events.Histories.{IsLimited-from_test, history_before, limited_before}
use Rattle.causal_model.proofs.Delivery.Lengths.{history_is_bounded}
use Rattle.causal_model.proofs.Delivery.Limits.{carried_is_valid}
use Rattle.causal_model.proofs.Delivery.Stripped.{each_stripped, stripped_is_short}
use Rattle.causal_model.proofs.Cells.Sums.{abs_of_sum, between, amount_is_small, sum_is_small}

-- ---- what one operation adds

module _ (object : ObjectId) (value : Option (List ℕ)) where
  with_is_small : (cell : Cell) (o : Op) → is_valid o ≡ true → nat_abs (cell_with object value cell o).sum ≤ nat_abs cell.sum + 4294967296
  with_is_small cell op.NoOp t = omega arith
  with_is_small cell (op.Update u) t =
      let small = amount_is_small u.act (and_parts (is_key u.object.key) (is_valid_act u.act) t).1 in
      cond_both (is_eq (item_cmp u.object (value_of u.act) object value)) (with_act u.act cell) cell (λ c. nat_abs c.sum ≤ nat_abs cell.sum + 4294967296) (λ _. omega (arith, abs_of_sum cell.sum (amount_of u.act), small)) (λ _. omega arith)

  applied_is_small : (cell : Cell) (o : Op) → is_valid o ≡ true → nat_abs (cell_applied object value o cell).sum ≤ nat_abs cell.sum + 4294967296
  applied_is_small cell op.NoOp t = omega arith
  applied_is_small cell (op.Update u) t =
      cond_both (is_counter u.object.kind) (cell_with object value cell (op.Update u)) cell (λ c. nat_abs c.sum ≤ nat_abs cell.sum + 4294967296) (λ _. with_is_small cell (op.Update u) t) (λ _. omega arith)

  fold_is_small : (cell : Cell) (es : List Message) → All (λ e. is_valid e.op ≡ true) es → nat_abs (fold (λ c e. cell_with object value c e.op) cell es).sum ≤ nat_abs cell.sum + length es * 4294967296
  fold_is_small cell [] each = omega arith
  fold_is_small cell (e ∷ es) each =
      omega (arith, fold_is_small (cell_with object value cell e.op) es (All-tail (λ y. is_valid y.op ≡ true) e es each), with_is_small cell e.op (All-head (λ y. is_valid y.op ≡ true) e es each))

-- ---- on the way

module _ (w limit : ℕ) (h : History) (t : IsTrue (is_history w h)) (limited : IsTrue (is_limited limit h)) (few : limit ≤ 1000000) (object : ObjectId) where
  -- the cell of a history
  object_is_small : (kind : Kind) → nat_abs (object_cell h kind object).sum < 2 ^ 80
  object_is_small Counter = subst (λ es. nat_abs (counter_sum object es) < 2 ^ 80) (filter_all (events h)) (sum_is_small w limit h object (λ _. true) t limited few)
  object_is_small RCounter = sum_is_small w limit h object (is_settled h) t limited few
  object_is_small kind = omega arith

  value_is_small : (kind : Kind) (v : List ℕ) → nat_abs (value_cell h kind object v).sum < 2 ^ 80
  value_is_small AwSet v = omega arith
  value_is_small RwSet v = omega arith
  value_is_small MvReg v = omega arith
  value_is_small kind v = omega arith

  settled_is_small : (value : Option (List ℕ)) → nat_abs (settled_cell h object value).sum < 2 ^ 80
  settled_is_small None = object_is_small object.kind
  settled_is_small (Some v) = value_is_small object.kind v

module _ (w limit : ℕ) (h : History) (m : Message) (object : ObjectId) (value : Option (List ℕ)) (t : IsTrue (is_history w (with_message h m))) (limited : IsTrue (is_limited limit (with_message h m))) (few : limit ≤ 1000000) where
  absorbed_is_small : (k : ℕ) → nat_abs (cell_absorbed h m k object value).sum < 2 ^ 80 + 2 ^ 73
  absorbed_is_small k =
      let was = history_before w h m t in
      let within = limited_before limit h m limited in
      let Carried : Message → Type 0 = λ e. is_carried limit e ≡ true in
      let stripped = each_stripped Carried h m (AllPass-from_list_all (is_carried limit) h.present.messages (IsLimited-from_test limit h within.0).present) within.1 in
      let valid : All (λ e. is_valid e.op ≡ true) (stripped_of h m) = λ i d l. carried_is_valid limit (slice_index_or (stripped_of h m) i d) (stripped i d l).1 in
      let begun : nat_abs (cell_uncovered object value m.op (settled_cell h object value)).sum < 2 ^ 80 = cond_both (covers_place m.op object value) zero_cell (settled_cell h object value) (λ c. nat_abs c.sum < 2 ^ 80) (λ _. omega arith) (λ _. settled_is_small w limit h was within.0 few object value) in
      let event : Message → Event = λ e. record { epoch = epoch_of h; message = e } in
      omega (arith, fold_is_small object value (cell_uncovered object value m.op (settled_cell h object value)) (take k (stripped_of h m)) (All-take (λ e. is_valid e.op ≡ true) k (stripped_of h m) valid), begun, length-take k (stripped_of h m), stripped_is_short h m, history_is_bounded w limit h was within.0, few, length-append (events_from 0 h.past) (events_in (epoch_of h) h.present.messages), length-map h.present.messages event)

  pub moved_sums_are_bounded : ((k : ℕ) → IsWithin (2 ^ 81) (cell_absorbed h m k object value).sum) × IsWithin (2 ^ 81) (cell_moved h m object value).sum
  moved_sums_are_bounded =
      let valid : is_valid m.op ≡ true = carried_is_valid limit m (limited_before limit h m limited).1 in
      let all = length (stripped_of h m) in (
        λ k. between (cell_absorbed h m k object value).sum (2 ^ 81) (omega (arith, absorbed_is_small k)),
        between (cell_moved h m object value).sum (2 ^ 81) (omega (arith, applied_is_small object value (cell_absorbed h m all object value) m.op valid, absorbed_is_small all)),
      )
