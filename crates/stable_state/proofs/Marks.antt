-- Off marks: which items wait, and what each cell is when what was touched is settled.
use Rattle.std.proofs.Common.{◌≡◌, ℕ, ◌<◌, ◌&&◌, Bool, true, false, not, ◌||◌, List, [], length, get_or, refl, sym, ap, subst, ◌∙◌, inl, inr, Option, Some, None, if◌then◌else◌}
use Rattle.std.proofs.lemmas.Bool.{both_ways, cases_Bool, cond-true, cond-false, cond_both, and_parts, and_right, false_from_ne_true, false≢true, not-false, or_cases, or_left, or_right, or_parts}
use Rattle.std.proofs.lemmas.List.{get_or_default}
use Rattle.op_base.specs.declared.name.Kind.{Kind}
use Rattle.op_base.specs.declared.name.Kind.TheVariants.{RwSet, DwFlag}
use Rattle.op_base.specs.declared.name.ObjectId.{ObjectId}
use Rattle.op_base.specs.declared.outcome.Cell.{Cell}
use Rattle.op_base.specs.declared.outcome.Item.{Item}
use Rattle.causal_model.specs.CellSteps.{cell_settled, marks_settled}
use Rattle.causal_model.specs.Items.{is_at, cell_in, Rise}
use Rattle.stable_state.specs.Picked.{is_place}
use Rattle.stable_state.specs.Settling.{remove_wins, can_lose_mark, waits, settled_by, IsSettledAt, AreSettled}
use Rattle.stable_state.specs.Shelf.{Shelved}
use Rattle.stable_state.specs.Slots.{no_item}
use Rattle.stable_state.specs.Touched.{is_touched, KeepTouched, IsLast}
use Rattle.stable_state.proofs.Cells.{same_place}
use Rattle.stable_state.proofs.Changes.{cell_there}

-- ---- one cell

pub pending_stays : (cell : Cell) → marks_settled true cell ≡ cell
pending_stays cell = λ i. record { on = on cell.on cell.off i; off = off cell.off i; sum = cell.sum } where
  on : (a b : Bool) → (a && (not b || true)) ≡ a
  on true true = refl
  on true false = refl
  on false b = refl

  off : (b : Bool) → (b && true) ≡ b
  off true = refl
  off false = refl

unmarked_stays : (pending : Bool) (cell : Cell) → cell.off ≡ false → marks_settled pending cell ≡ cell
unmarked_stays pending cell none = λ i. record { on = on cell.on cell.off none i; off = (ap (λ b. b && pending) none ∙ sym none) i; sum = cell.sum } where
  on : (a b : Bool) → b ≡ false → (a && (not b || pending)) ≡ a
  on true true off = absurd (both_ways true off refl)
  on true false off = refl
  on false b off = refl

-- what is settled stays so
settled_twice : (kind : Kind) (pending : Bool) (cell : Cell) → cell_settled kind pending (cell_settled kind pending cell) ≡ cell_settled kind pending cell
settled_twice RwSet true cell = pending_stays (marks_settled true cell)
settled_twice RwSet false cell = unmarked_stays false (marks_settled false cell) (and_right cell.off false refl)
settled_twice DwFlag true cell = pending_stays (marks_settled true cell)
settled_twice DwFlag false cell = unmarked_stays false (marks_settled false cell) (and_right cell.off false refl)
settled_twice kind pending cell = refl

-- a cell without an off mark is settled
pub unmarked_is_settled : (kind : Kind) (pending : Bool) (cell : Cell) → cell.off ≡ false → cell_settled kind pending cell ≡ cell
unmarked_is_settled RwSet pending cell none = unmarked_stays pending cell none
unmarked_is_settled DwFlag pending cell none = unmarked_stays pending cell none
unmarked_is_settled kind pending cell none = refl

module _ (pending : ObjectId → Option (List ℕ) → Bool) where
  -- where an add is pending or a remove doesn't win all stays, and otherwise the off mark goes
  by_kind : (kind : Kind) (put : Bool) (cell : Cell) → ((not (remove_wins kind) || put) ≡ true → cell_settled kind put cell ≡ cell) × ((not (remove_wins kind) || put) ≡ false → cell_settled kind put cell ≡ marks_settled false cell)
  by_kind RwSet true cell = (λ _. pending_stays cell, λ f. absurd (both_ways true f refl))
  by_kind RwSet false cell = (λ t. absurd (both_ways false refl t), λ _. refl)
  by_kind DwFlag true cell = (λ _. pending_stays cell, λ f. absurd (both_ways true f refl))
  by_kind DwFlag false cell = (λ t. absurd (both_ways false refl t), λ _. refl)
  by_kind kind put cell = (λ _. refl, λ f. absurd (both_ways true f refl))

  -- an item that waits is settled
  pub waiting_is_settled : (item : Item) → waits pending item ≡ true → item.cell ≡ settled_by pending item.object item.value item.cell
  waiting_is_settled item t =
      let add = pending item.object item.value in
      let stays = λ (s : (not (remove_wins item.object.kind) || add) ≡ true). sym ((by_kind item.object.kind add item.cell).0 s) in
      elim (or_cases (not (can_lose_mark item)) add t) [
        | inr is ↦ stays (or_right (not (remove_wins item.object.kind)) add is)
        | inl keeps ↦ elim (cases_Bool item.cell.off) [
          | inr none ↦ sym (unmarked_is_settled item.object.kind add item.cell none)
          | inl off ↦ stays (or_left (not (remove_wins item.object.kind)) add (ap (λ b. not (b && remove_wins item.object.kind)) (sym off) ∙ keeps))
        ]
      ]

  -- any other loses its off mark
  pub other_is_loose : (item : Item) → waits pending item ≡ false → marks_settled false item.cell ≡ settled_by pending item.object item.value item.cell
  other_is_loose item f =
      let add = pending item.object item.value in
      let both = or_parts (not (can_lose_mark item)) add f in
      let wins = (and_parts item.cell.off (remove_wins item.object.kind) (not-false (can_lose_mark item) both.0)).1 in
      sym ((by_kind item.object.kind add item.cell).1 (ap (λ b. not b || add) wins ∙ both.1))

  -- ---- the cell at a place

  module _ (items : List Item) (place : ℕ) (item : Item) (rise : Rise items) (within : place < length items) (at : get_or items place item ≡ item) where
    abbrev here : ObjectId → Option (List ℕ) → Bool
    here object value = is_place item.object item.value object value

    cell_here : (object : ObjectId) (value : Option (List ℕ)) → here object value ≡ true → cell_in items object value ≡ item.cell
    cell_here object value t =
        let same = same_place item.object object item.value value t in
        (λ i. cell_in items (sym same.0 i) (sym same.1 i)) ∙ cell_there items place item rise within at

    -- where its cell is the settled one, and no other is changed
    pub settled_there : (cell : Cell) (new : List Item) → cell ≡ settled_by pending item.object item.value item.cell
        → ((object : ObjectId) (value : Option (List ℕ)) → cell_in new object value ≡ (if here object value then cell else cell_in items object value))
        → IsSettledAt pending place items new
    settled_there cell new is cells d object value =
        subst (λ (x : Item). cell_in new object value ≡ (if is_at object value x then settled_by pending object value (cell_in items object value) else cell_in items object value)) (sym (get_or_default items place d item within ∙ at))
        (cells object value ∙ elim (cases_Bool (here object value)) [
          | inl t ↦
              let same = same_place item.object object item.value value t in
              cond-true (here object value) cell (cell_in items object value) t ∙ is
              ∙ (λ i. settled_by pending (same.0 i) (same.1 i) item.cell) ∙ ap (settled_by pending object value) (sym (cell_here object value t))
              ∙ sym (cond-true (here object value) (settled_by pending object value (cell_in items object value)) (cell_in items object value) t)
          | inr f ↦
              cond-false (here object value) cell (cell_in items object value) f
              ∙ sym (cond-false (here object value) (settled_by pending object value (cell_in items object value)) (cell_in items object value) f)
        ])

    -- so it is where nothing is changed, and it waits
    pub settled_already : waits pending item ≡ true → IsSettledAt pending place items items
    settled_already t = settled_there item.cell items (waiting_is_settled item t) (λ object value. elim (cases_Bool (here object value)) [
      | inl at_it ↦ cell_here object value at_it ∙ sym (cond-true (here object value) item.cell (cell_in items object value) at_it)
      | inr f ↦ sym (cond-false (here object value) item.cell (cell_in items object value) f)
    ])

  -- ---- what was touched last, and what was touched

  abbrev settled : ObjectId → Option (List ℕ) → Cell → Cell
  settled object value cell = settled_by pending object value cell

  twice : (object : ObjectId) (value : Option (List ℕ)) (cell : Cell) → settled object value (settled object value cell) ≡ settled object value cell
  twice object value cell = settled_twice object.kind (pending object value) cell

  -- nothing was settled yet
  pub none_is_settled : (s : Shelved) → AreSettled pending s s
  none_is_settled s = record { alike = λ object value. refl; settled = λ object value t. inl t; others = λ object value f. (f, refl) }

  -- nothing stands where it was touched last
  pub gone_is_settled : (old new : Shelved) → new.items ≡ old.items → IsLast old new.touched None → AreSettled pending old new
  gone_is_settled old new is last = record {
    alike = λ object value. ap (λ items. settled object value (cell_in items object value)) is;
    settled = λ object value t. elim (last.last object value t) [
      | inl still ↦ inl still
      | inr zero ↦ inr (unmarked_is_settled object.kind (pending object value) (cell_in new.items object value) (ap (λ items. (cell_in items object value).off) is ∙ ap (λ (c : Cell). c.off) zero))
    ];
    others = λ object value f. (false_from_ne_true (is_touched new.touched object value) (λ t. both_ways (is_touched old.touched object value) f (last.fewer object value t)), ap (λ items. cell_in items object value) is);
  }

  -- the item that was touched last is settled
  module _ (old mid new : Shelved) (place : ℕ) (last : IsLast old mid.touched (Some place)) (cells : IsSettledAt pending place old.items new.items) (keep : KeepTouched mid new) where
    abbrev item : Item
    item = get_or old.items place no_item

    abbrev cell : ObjectId → Option (List ℕ) → Cell
    cell object value = cell_in old.items object value

    settled_now : (object : ObjectId) (value : Option (List ℕ)) → is_at object value item ≡ true → cell_in new.items object value ≡ settled object value (cell object value)
    settled_now object value t = cells no_item object value ∙ cond-true (is_at object value item) (settled object value (cell object value)) (cell object value) t

    pub last_is_settled : AreSettled pending old new
    last_is_settled = record {
      alike = λ object value.
          ap (settled object value) (cells no_item object value)
          ∙ cond_both (is_at object value item) (settled object value (cell object value)) (cell object value) (λ c. settled object value c ≡ settled object value (cell object value)) (λ _. twice object value (cell object value)) (λ _. refl);
      settled = λ object value t. elim (last.last object value t) [
        | inr at ↦ let now = settled_now object value (at no_item) in inr (ap (settled object value) now ∙ twice object value (cell object value) ∙ sym now)
        | inl still ↦ elim (cases_Bool (cell_in new.items object value).off) [
          | inl off ↦ inl (keep.stay object value still off)
          | inr none ↦ inr (unmarked_is_settled object.kind (pending object value) (cell_in new.items object value) none)
        ]
      ];
      others = λ object value f. (
        false_from_ne_true (is_touched new.touched object value) (λ t. both_ways (is_touched old.touched object value) f (last.fewer object value (keep.fewer object value t))),
        cells no_item object value ∙ cond-false (is_at object value item) (settled object value (cell object value)) (cell object value) (false_from_ne_true (is_at object value item) (λ t.
            let same = same_place item.object object item.value value t in
            both_ways (is_touched old.touched object value) f ((λ i. is_touched old.touched (sym same.0 i) (sym same.1 i)) ∙ last.at.touched no_item))),
      );
    }

  -- step by step
  pub settled_further : (a b c : Shelved) → AreSettled pending a b → AreSettled pending b c → AreSettled pending a c
  settled_further a b c first second = record {
    alike = λ object value. second.alike object value ∙ first.alike object value;
    settled = λ object value t. elim (first.settled object value t) [
      | inl still ↦ second.settled object value still
      | inr done ↦ elim (cases_Bool (is_touched b.touched object value)) [
        | inl still ↦ second.settled object value still
        | inr not_now ↦ let same = (second.others object value not_now).1 in inr (ap (settled object value) same ∙ done ∙ sym same)
      ]
    ];
    others = λ object value f. let one = first.others object value f in let other = second.others object value one.0 in (other.0, other.1 ∙ one.1);
  }

  -- until nothing is touched
  pub all_are_settled : (old new : Shelved) → AreSettled pending old new → new.touched ≡ [] → (object : ObjectId) (value : Option (List ℕ))
      → cell_in new.items object value ≡ (if is_touched old.touched object value then settled object value (cell_in old.items object value) else cell_in old.items object value)
  all_are_settled old new are none object value =
      let was = cell_in old.items object value in
      elim (cases_Bool (is_touched old.touched object value)) [
        | inr f ↦ (are.others object value f).1 ∙ sym (cond-false (is_touched old.touched object value) (settled object value was) was f)
        | inl t ↦ elim (are.settled object value t) [
          | inl still ↦ absurd (false≢true (sym (ap (λ touched. is_touched touched object value) none) ∙ still))
          | inr done ↦ sym done ∙ are.alike object value ∙ sym (cond-true (is_touched old.touched object value) (settled object value was) was t)
        ]
      ]
