-- Sums of counters: of one entry more, of a history, and in range.
use Rattle.std.proofs.Common.{◌≡◌, ℕ, ◌+◌, ◌<◌, ◌^◌, ◌≤◌, true, IsTrue, List, length, get_or, map, take, None, refl, sym, subst, ap, ◌∙◌, arith}
use Rattle.std.specs.Prelude.{ℤ, pos, ◌+ℤ◌}
use Rattle.std.proofs.Math.IntN.{nat_abs}
use Rattle.std.proofs.lemmas.Bool.{false≢true}
use Rattle.std.proofs.lemmas.List.Sums.{fold_more}
use Rattle.op_base.specs.declared.message.Entry.{Entry}
use Rattle.op_base.specs.declared.message.Message.{Message}
use Rattle.op_base.specs.declared.outcome.Answer.TheVariants.{Sum}
use Rattle.op_base.specs.declared.outcome.Item.{Item}
use Rattle.op_base.specs.declared.name.Kind.{Kind}
use Rattle.op_base.specs.declared.name.Kind.TheVariants.{Counter, RCounter}
use Rattle.op_base.specs.declared.name.ObjectId.{ObjectId}
use Rattle.op_base.specs.declared.operation.Op.TheVariants as op
use Rattle.causal_model.specs.History.{History, events, is_history, is_limited}
use Rattle.causal_model.specs.Log.{message_of}
use Rattle.causal_model.specs.Items.{cell_in}
use Rattle.causal_model.specs.Parts.{ArePartsOf}
use Rattle.causal_model.specs.Query.{total_of, counter_sum, answer_as, answer}
use Rattle.causal_model.specs.Acts.{share_of}
use Rattle.causal_model.specs.Settled.{is_settled, object_cell}
use Rattle.causal_model.proofs.Events.EventsOfOneMore.{filter_all}
use Rattle.causal_model.proofs.Answers.ObjectParts.{sum_from_parts}
use Rattle.causal_model.proofs.Cells.Sums.{between, sum_is_small}
use Rattle.causal_model.proofs.Theory.Totals.{sum_of, sum_of-map}
use Rattle.counter_types.specs.Asked.{has_sum}
use Rattle.counter_types.specs.Laws.{SettledSumsAreInRange}

-- what entries add, with one entry more
pub total_more : (object : ObjectId) (es : List Entry) (i : ℕ) (e : Entry) → i < length es → e ≡ get_or es i e
    → total_of object (map (λ m. m.op) (map message_of (take (i + 1) es))) ≡ total_of object (map (λ m. m.op) (map message_of (take i es))) +ℤ share_of object (op.Update e.update)
total_more object es i e within is =
    let share : Entry → ℤ = λ x. share_of object (op.Update x.update) in
    let by_entries : (xs : List Entry) → total_of object (map (λ m. m.op) (map message_of xs)) ≡ sum_of share xs =
    λ xs. sum_of-map (λ m. m.op) (share_of object) (map message_of xs) ∙ sum_of-map message_of (λ m. share_of object m.op) xs in
    by_entries (take (i + 1) es) ∙ fold_more (λ sum x. sum +ℤ share x) (pos 0) es i e within ∙ (λ k. sym (by_entries (take i es)) k +ℤ share (sym is k))

module _ (w limit : ℕ) (h : History) (t : IsTrue (is_history w h)) (limited : IsTrue (is_limited limit h)) (few : limit ≤ 1000000) (object : ObjectId) where
  settled_is_small : (kind : Kind) → nat_abs (object_cell h kind object).sum < 2 ^ 80
  settled_is_small Counter = subst (λ es. nat_abs (counter_sum object es) < 2 ^ 80) (filter_all (events h)) (sum_is_small w limit h object (λ _. true) t limited few)
  settled_is_small RCounter = sum_is_small w limit h object (is_settled h) t limited few
  settled_is_small kind = omega arith

pub settled_is_in_range : SettledSumsAreInRange
settled_is_in_range w limit h object entries items t limited few parts =
    between _ (2 ^ 126) (subst (λ c. nat_abs c.sum < 2 ^ 126) (sym (parts.settled None)) (omega (arith, settled_is_small w limit h t limited few object object.kind)))

-- what an object's part of a history adds up to is what a counter answers
pub sum_is_answer : (w : ℕ) (h : History) (object : ObjectId) (entries : List Message) (items : List Item) → IsTrue (is_history w h) → ArePartsOf h object entries items → IsTrue (has_sum object.kind)
    → Sum ((cell_in items object None).sum +ℤ total_of object (map (λ m. m.op) entries)) ≡ answer object (events h)
sum_is_answer w h object entries items t parts counts = by object.kind refl counts where
  by : (kind : Kind) → object.kind ≡ kind → IsTrue (has_sum kind) → Sum ((cell_in items object None).sum +ℤ total_of object (map (λ m. m.op) entries)) ≡ answer_as kind object (events h)
  by Counter is counts = ap Sum (sym ((sum_from_parts w h object entries items t parts).0 is))
  by RCounter is counts = ap Sum (sym ((sum_from_parts w h object entries items t parts).1 is))
  by kind is counts = absurd (false≢true counts)
