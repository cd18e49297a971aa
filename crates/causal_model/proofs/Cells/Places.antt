-- The places of settled items rise in the order of items, and each object and value has its cell among the items.
use Rattle.std.proofs.Common.{◌≡◌, ℕ, Bool, true, false, not, ◌&&◌, ◌||◌, ℤ, pos, ◌+ℤ◌, All, List, [], ◌∷◌, map, cond, refl, sym, ap, ◌∙◌, Option, Some, None, IsTrue, if◌then◌else◌, arith}
use Rattle.std.specs.List.{filter, fold, list_any, slice_index_or}
use Rattle.std.specs.Cmp.{IsTotalOrder}
use Rattle.std.specs.Cmp.Lexicographic.{options_total, bytes_decides}
use Rattle.std.specs.Ordering.{is_lt, is_eq, int_eq, ordering_reverse}
use Rattle.std.specs.declared.cmp.Ordering.{Ordering}
use Rattle.std.specs.declared.cmp.Ordering.TheVariants.{Less, Equal, Greater}
use Rattle.std.proofs.Math.IntN.{+ℤ_idr}
use Rattle.std.proofs.lemmas.Bool.{or_parts, or_left, or_right, and_parts, and_left, not-false, both_ways, cond_both, false_from_ne_true}
use Rattle.std.proofs.lemmas.Bool.Decides.{Decides-int_eq}
use Rattle.std.proofs.lemmas.Cmp.{tied_itself, tied_back, on_total, then_total, nat_cmp_total, nat_list_cmp_total}
use Rattle.std.proofs.lemmas.List.Elements.{All-nil, All-cons, All-map, All-weaker, All-head, All-tail, All-filter, filter_passes}
use Rattle.std.proofs.lemmas.List.Folds.{list_any_none}
use Rattle.std.proofs.lemmas.List.Kept.{AllPairs-cons, AllPairs-filter}
use Rattle.op_base.specs.Object.{kind_place, same_object}
use Rattle.op_base.specs.Order.{item_cmp}
use Rattle.op_base.specs.declared.name.ObjectId.{ObjectId}
use Rattle.op_base.specs.declared.name.Kind.{Kind}
use Rattle.op_base.specs.declared.name.Kind.TheVariants.{AwSet, RwSet, EwFlag, DwFlag, MvReg, Counter, RCounter}
use Rattle.op_base.specs.declared.outcome.Cell.{Cell}
use Rattle.op_base.specs.declared.outcome.Item.{Item}
use Rattle.op_base.specs.declared.operation.Act.{Act}
use Rattle.op_base.specs.declared.operation.Act.TheVariants.{Add, Rmv, Enable, Disable, Write, Inc, Dec}
use Rattle.op_base.specs.declared.operation.Update.{Update}
use Rattle.op_base.specs.declared.operation.Op.{Op}
use Rattle.op_base.specs.declared.operation.Op.TheVariants as op
use Rattle.op_base.proofs.Orders.{items_tied}
use Rattle.causal_model.specs.Acts.{acts_on, value_of, is_add_of, is_rmv_of, is_write_of, is_enable, is_disable, amount_of, share_of}
use Rattle.causal_model.specs.History.{History, Event, events, is_act_on}
use Rattle.causal_model.specs.Items.{zero_cell, cell_in, is_filled, Rise}
use Rattle.causal_model.specs.Query.{counter_sum}
use Rattle.causal_model.specs.Settled.{is_settled, is_pending, on_cell, sum_cell, remove_wins_cell, object_cell, value_cell, settled_cell, put_place, put_place_of, places_of, settled_items}
use Rattle.causal_model.proofs.Theory.Lists.{fold_has}
use Rattle.causal_model.proofs.Answers.Rules.{object_from_same}

abbrev pub Place : Type 0
Place = ObjectId × Option (List ℕ)

abbrev pub place_cmp : Place → Place → Ordering
place_cmp p q = item_cmp p.0 p.1 q.0 q.1

pub places_total : IsTotalOrder place_cmp
places_total = then_total (then_total (on_total (λ p. kind_place p.0.kind) nat_cmp_total) (on_total (λ p. p.0.key) nat_list_cmp_total)) (on_total (λ p. p.1) (options_total nat_list_cmp_total))

-- the list that put_place makes at its first place, by how that compares
abbrev put_before : Ordering → Place → Place → List Place → List Place → List Place
put_before o new p ps later = if is_lt o then new ∷ p ∷ ps else if is_eq o then p ∷ ps else p ∷ later

-- ---- places rise

-- that each place is before all later ones
abbrev AreRising : List Place → Type 0
AreRising [] = Unit {0}
AreRising (p ∷ ps) = All (λ q. place_cmp p q ≡ Less) ps × AreRising ps

put_place_has : (P : Place → Type 0) (object : ObjectId) (value : Option (List ℕ)) (ps : List Place) → P (object, value) → All P ps → All P (put_place object value ps)
put_place_has P object value [] new each = All-cons P (object, value) [] new each
put_place_has P object value (p ∷ ps) new each = by (item_cmp object value p.0 p.1) (put_place_has P object value ps new (All-tail P p ps each)) where
  by : (o : Ordering) → All P (put_place object value ps) → All P (put_before o (object, value) p ps (put_place object value ps))
  by Less later = All-cons P (object, value) (p ∷ ps) new each
  by Equal later = each
  by Greater later = All-cons P p (put_place object value ps) (All-head P p ps each) later

put_place_rises : (object : ObjectId) (value : Option (List ℕ)) (ps : List Place) → AreRising ps → AreRising (put_place object value ps)
put_place_rises object value [] rising = (All-nil (λ q. place_cmp (object, value) q ≡ Less), tt)
put_place_rises object value (p ∷ ps) rising = by (item_cmp object value p.0 p.1) refl (put_place_rises object value ps rising.1) where
  by : (o : Ordering) → item_cmp object value p.0 p.1 ≡ o → AreRising (put_place object value ps) → AreRising (put_before o (object, value) p ps (put_place object value ps))
  by Less is later =
      (All-cons (λ q. place_cmp (object, value) q ≡ Less) p ps is (All-weaker (λ q. place_cmp p q ≡ Less) (λ q. place_cmp (object, value) q ≡ Less) (λ q. places_total.trans (object, value) p q is) ps rising.0), rising)
  by Equal is later = rising
  by Greater is later =
      (put_place_has (λ q. place_cmp p q ≡ Less) object value ps (places_total.antisymm p (object, value) ∙ ap ordering_reverse is) rising.0, later)

places_rise : (es : List Event) → AreRising (places_of es)
places_rise es = fold_has AreRising (λ places e. put_place_of e.message.op places) [] es tt (λ k d l places. one (slice_index_or es k d).message.op places) where
  one : (o : Op) (places : List Place) → AreRising places → AreRising (put_place_of o places)
  one op.NoOp places rising = rising
  one (op.Update u) places rising = put_place_rises u.object (value_of u.act) places rising

-- ---- items rise

module _ (h : History) where
  abbrev item_at : Place → Item
  item_at p = record { object = p.0; value = p.1; cell = settled_cell h p.0 p.1 }

  rising_items : (ps : List Place) → AreRising ps → Rise (map item_at ps)
  rising_items [] rising = λ i j d lt within. absurd (omega arith)
  rising_items (p ∷ ps) rising =
      AllPairs-cons (λ (a b : Item). item_cmp a.object a.value b.object b.value ≡ Less) (item_at p) (map item_at ps)
      (All-map (λ b. item_cmp p.0 p.1 b.object b.value ≡ Less) item_at ps rising.0)
      (rising_items ps rising.1)

  pub items_rise : Rise (settled_items h)
  items_rise = AllPairs-filter (λ (a b : Item). item_cmp a.object a.value b.object b.value ≡ Less) (λ item. is_filled item.cell) (map item_at (places_of (events h))) (rising_items (places_of (events h)) (places_rise (events h)))

-- ---- each named place is there

abbrev is_place : ObjectId → Option (List ℕ) → Place → Bool
is_place object value p = is_eq (item_cmp p.0 p.1 object value)

put_place_keeps : (q : Place → Bool) (object : ObjectId) (value : Option (List ℕ)) (ps : List Place) → list_any q ps ≡ true → list_any q (put_place object value ps) ≡ true
put_place_keeps q object value [] t = or_right (q (object, value)) false t
put_place_keeps q object value (p ∷ ps) t = by (item_cmp object value p.0 p.1) (put_place_keeps q object value ps) where
  more : (b c : Bool) → (list_any q ps ≡ true → c ≡ true) → (b || list_any q ps) ≡ true → (b || c) ≡ true
  more true c later u = refl
  more false c later u = later u

  by : (o : Ordering) → (list_any q ps ≡ true → list_any q (put_place object value ps) ≡ true) → list_any q (put_before o (object, value) p ps (put_place object value ps)) ≡ true
  by Less later = or_right (q (object, value)) (list_any q (p ∷ ps)) t
  by Equal later = t
  by Greater later = more (q p) (list_any q (put_place object value ps)) later t

put_place_puts : (object : ObjectId) (value : Option (List ℕ)) (ps : List Place) → list_any (is_place object value) (put_place object value ps) ≡ true
put_place_puts object value [] = or_left (is_place object value (object, value)) false (ap is_eq (tied_itself places_total (object, value)))
put_place_puts object value (p ∷ ps) = by (item_cmp object value p.0 p.1) refl (put_place_puts object value ps) where
  by : (o : Ordering) → item_cmp object value p.0 p.1 ≡ o → list_any (is_place object value) (put_place object value ps) ≡ true → list_any (is_place object value) (put_before o (object, value) p ps (put_place object value ps)) ≡ true
  by Less is later = or_left (is_place object value (object, value)) (list_any (is_place object value) (p ∷ ps)) (ap is_eq (tied_itself places_total (object, value)))
  by Equal is later = or_left (is_place object value p) (list_any (is_place object value) ps) (ap is_eq (tied_back places_total (object, value) p is))
  by Greater is later = or_right (is_place object value p) (list_any (is_place object value) (put_place object value ps)) later

abbrev places_from : List Place → List Event → List Place
places_from ps es = fold (λ places e. put_place_of e.message.op places) ps es

places_keep : (q : Place → Bool) (ps : List Place) (es : List Event) → list_any q ps ≡ true → list_any q (places_from ps es) ≡ true
places_keep q ps es t = fold_has (λ places. list_any q places ≡ true) (λ places e. put_place_of e.message.op places) ps es t (λ k d l places. one (slice_index_or es k d).message.op places) where
  one : (o : Op) (places : List Place) → list_any q places ≡ true → list_any q (put_place_of o places) ≡ true
  one op.NoOp places u = u
  one (op.Update u) places v = put_place_keeps q u.object (value_of u.act) places v

-- that the place that an operation names is there
abbrev IsNamed : List Place → Event → Type 0
IsNamed ps e = (u : Update) → e.message.op ≡ op.Update u → list_any (is_place u.object (value_of u.act)) ps ≡ true

each_is_named : (ps : List Place) (es : List Event) → All (IsNamed (places_from ps es)) es
each_is_named ps [] = All-nil (IsNamed ps)
each_is_named ps (e ∷ es) = All-cons (IsNamed (places_from (put_place_of e.message.op ps) es)) e es (λ u is.
    let put : list_any (is_place u.object (value_of u.act)) (put_place_of e.message.op ps) ≡ true = ap (λ o. list_any (is_place u.object (value_of u.act)) (put_place_of o ps)) is ∙ put_place_puts u.object (value_of u.act) ps in
    places_keep (is_place u.object (value_of u.act)) (put_place_of e.message.op ps) es put) (each_is_named (put_place_of e.message.op ps) es)

-- ---- a place that is not there has no mark and no sum

module _ (object : ObjectId) (value : Option (List ℕ)) where
  -- that an operation doesn't name this object and value
  abbrev IsOther : Op → Type 0
  IsOther o = (u : Update) → o ≡ op.Update u → u.object ≡ object → value_of u.act ≡ value → ⊥

  -- so it does no act to the object that names the value
  other_does_none : (passes : Act → Bool) → ((act : Act) → passes act ≡ true → value_of act ≡ value) → (o : Op) → IsOther o → acts_on object passes o ≡ false
  other_does_none passes names op.NoOp other = refl
  other_does_none passes names (op.Update u) other = false_from_ne_true (same_object u.object object && passes u.act) (λ t.
      let both = and_parts (same_object u.object object) (passes u.act) t in
      other u refl (object_from_same u.object object both.0) (names u.act both.1))

  each_is_other : (es : List Event) → list_any (is_place object value) (places_of es) ≡ false → All (λ e. IsOther e.message.op) es
  each_is_other es none = All-weaker (IsNamed (places_of es)) (λ e. IsOther e.message.op) (λ e named u is object_is value_is.
      both_ways (list_any (is_place object value) (places_of es)) none (sym (λ i. list_any (is_place (object_is i) (value_is i)) (places_of es)) ∙ named u is)) es (each_is_named [] es)

module _ (object : ObjectId) (value : Option (List ℕ)) (h : History) (others : All (λ e. IsOther object value e.message.op) (events h)) where
  none_does : (passes : Act → Bool) (stands : Event → Bool) → ((act : Act) → passes act ≡ true → value_of act ≡ value) → list_any (λ e. is_act_on object passes e && stands e) (events h) ≡ false
  none_does passes stands names = list_any_none (λ e. is_act_on object passes e && stands e) (events h) (All-weaker (λ e. IsOther object value e.message.op) (λ e. (is_act_on object passes e && stands e) ≡ false) (λ e other. and_left _ _ (other_does_none object value passes names e.message.op other)) (events h) others)

-- ---- which place an act names

enable_names_none : (act : Act) → is_enable act ≡ true → value_of act ≡ None
enable_names_none Enable t = refl
enable_names_none act t = cc

disable_names_none : (act : Act) → is_disable act ≡ true → value_of act ≡ None
disable_names_none Disable t = refl
disable_names_none act t = cc

add_names_value : (value : List ℕ) (act : Act) → is_add_of value act ≡ true → value_of act ≡ Some value
add_names_value value (Add v) t = ap Some ((bytes_decides v value).0 t)
add_names_value value act t = cc

rmv_names_value : (value : List ℕ) (act : Act) → is_rmv_of value act ≡ true → value_of act ≡ Some value
rmv_names_value value (Rmv v) t = ap Some ((bytes_decides v value).0 t)
rmv_names_value value act t = cc

write_names_value : (value : List ℕ) (act : Act) → is_write_of value act ≡ true → value_of act ≡ Some value
write_names_value value (Write v) t = ap Some ((bytes_decides v value).0 t)
write_names_value value act t = cc

amount_names_none : (act : Act) → (value_of act ≡ None → ⊥) → amount_of act ≡ pos 0
amount_names_none (Inc a) named = absurd (named refl)
amount_names_none (Dec a) named = absurd (named refl)
amount_names_none act named = refl

other_shares_none : (object : ObjectId) (o : Op) → IsOther object None o → share_of object o ≡ pos 0
other_shares_none object op.NoOp other = refl
other_shares_none object (op.Update u) other =
    cond_both (same_object u.object object) (amount_of u.act) (pos 0) (λ z. z ≡ pos 0) (λ t. amount_names_none u.act (λ none. other u refl (object_from_same u.object object t) none)) (λ _. refl)

none_sum : (object : ObjectId) (es : List Event) → All (λ e. IsOther object None e.message.op) es → counter_sum object es ≡ pos 0
none_sum object es others = fold_has (λ z. z ≡ pos 0) (λ sum o. sum +ℤ share_of object o) (pos 0) (map (λ e. e.message.op) es) refl
    (All-map (λ o. (z : ℤ) → z ≡ pos 0 → (z +ℤ share_of object o) ≡ pos 0) (λ e. e.message.op) es
    (All-weaker (λ e. IsOther object None e.message.op) (λ e. (z : ℤ) → z ≡ pos 0 → (z +ℤ share_of object e.message.op) ≡ pos 0) (λ e other z is. ap (λ k. z +ℤ k) (other_shares_none object e.message.op other) ∙ +ℤ_idr z ∙ is) es others))

-- ---- so the cell of a place that no operation names has no mark and no sum

module _ (h : History) (object : ObjectId) where
  none_at_object : All (λ e. IsOther object None e.message.op) (events h) → (kind : Kind) → object_cell h kind object ≡ zero_cell
  none_at_object others EwFlag = ap on_cell (none_does object None h others is_enable (is_settled h) enable_names_none)
  none_at_object others DwFlag =
      λ i. remove_wins_cell (none_does object None h others is_enable (is_settled h) enable_names_none i)
      (none_does object None h others is_disable (is_settled h) disable_names_none i)
      (none_does object None h others is_enable (is_pending h) enable_names_none i)
  none_at_object others Counter = ap sum_cell (none_sum object (events h) others)
  none_at_object others RCounter = ap sum_cell (none_sum object (filter (is_settled h) (events h)) (All-filter (is_settled h) (λ e. IsOther object None e.message.op) (events h) others))
  none_at_object others kind = refl

  none_at_value : (value : List ℕ) → All (λ e. IsOther object (Some value) e.message.op) (events h) → (kind : Kind) → value_cell h kind object value ≡ zero_cell
  none_at_value value others AwSet = ap on_cell (none_does object (Some value) h others (is_add_of value) (is_settled h) (add_names_value value))
  none_at_value value others RwSet =
      λ i. remove_wins_cell (none_does object (Some value) h others (is_add_of value) (is_settled h) (add_names_value value) i)
      (none_does object (Some value) h others (is_rmv_of value) (is_settled h) (rmv_names_value value) i)
      (none_does object (Some value) h others (is_add_of value) (is_pending h) (add_names_value value) i)
  none_at_value value others MvReg = ap on_cell (none_does object (Some value) h others (is_write_of value) (is_settled h) (write_names_value value))
  none_at_value value others kind = refl

  unnamed_is_zero : (value : Option (List ℕ)) → list_any (is_place object value) (places_of (events h)) ≡ false → settled_cell h object value ≡ zero_cell
  unnamed_is_zero None none = none_at_object (each_is_other object None (events h) none) object.kind
  unnamed_is_zero (Some value) none = none_at_value value (each_is_other object (Some value) (events h) none) object.kind

-- ---- each place has its cell

unfilled_is_zero : (cell : Cell) → is_filled cell ≡ false → cell ≡ zero_cell
unfilled_is_zero cell t =
    let marks = or_parts (cell.on || cell.off) (not (int_eq cell.sum (pos 0))) t in
    let both = or_parts cell.on cell.off marks.0 in
    let sum = (Decides-int_eq cell.sum (pos 0)).0 (not-false (int_eq cell.sum (pos 0)) marks.1) in
    λ i. record { on = both.0 i; off = both.1 i; sum = sum i }

first_cell : (at filled found : Bool) (here s later : Cell) → (at ≡ true → here ≡ s) → (filled ≡ false → here ≡ zero_cell) → later ≡ (if found then s else zero_cell)
    → (if filled then (if at then here else later) else later) ≡ (if at || found then s else zero_cell)
first_cell true true found here s later same none rest = same refl
first_cell true false true here s later same none rest = rest
first_cell true false false here s later same none rest = rest ∙ sym (none refl) ∙ same refl
first_cell false true found here s later same none rest = rest
first_cell false false found here s later same none rest = rest

pub is_equal : (o : Ordering) → is_eq o ≡ true → o ≡ Equal
is_equal Less t = cc
is_equal Equal t = refl
is_equal Greater t = cc

module _ (h : History) (object : ObjectId) (value : Option (List ℕ)) where
  cells : (ps : List Place) → cell_in (filter (λ item. is_filled item.cell) (map (item_at h) ps)) object value ≡ (if list_any (is_place object value) ps then settled_cell h object value else zero_cell)
  cells [] = refl
  cells (p ∷ ps) =
      let here : Cell = settled_cell h p.0 p.1 in
      let rest : List Item = filter (λ item. is_filled item.cell) (map (item_at h) ps) in
      let split : (b : Bool) → cell_in (cond b (item_at h p ∷ rest) rest) object value ≡ (if b then (if is_place object value p then here else cell_in rest object value) else cell_in rest object value) = λ b. elim b as (λ b. cell_in (cond b (item_at h p ∷ rest) rest) object value ≡ (if b then (if is_place object value p then here else cell_in rest object value) else cell_in rest object value)) [ true ↦ refl | false ↦ refl ] in
      split (is_filled here) ∙ first_cell (is_place object value p) (is_filled here) (list_any (is_place object value) ps) here (settled_cell h object value) (cell_in rest object value) (λ t.
      let tied = items_tied p.0 object p.1 value (is_equal (place_cmp p (object, value)) t) in
      λ i. settled_cell h (tied.0 i) (tied.1 i)) (unfilled_is_zero here) (cells ps)

pub items_are_cells : (h : History) (object : ObjectId) (value : Option (List ℕ)) → cell_in (settled_items h) object value ≡ settled_cell h object value
items_are_cells h object value =
    cells h object value (places_of (events h)) ∙ cond_both (list_any (is_place object value) (places_of (events h))) (settled_cell h object value) zero_cell (λ cell. cell ≡ settled_cell h object value) (λ _. refl) (λ none. sym (unnamed_is_zero h object value none))

pub items_are_filled : (h : History) → All (λ item. IsTrue (is_filled item.cell)) (settled_items h)
items_are_filled h = filter_passes (λ item. is_filled item.cell) (map (item_at h) (places_of (events h)))
