-- The cells of an object's values among items that rise, item by item.
use Rattle.std.proofs.Common.{◌≡◌, ℕ, Bool, true, false, ◌&&◌, ◌||◌, All, List, [], ◌∷◌, refl, sym, ap, subst, ◌∙◌, Option, Some, None, ◌+◌, ◌-◌, ◌<◌, length, drop, zero, suc, inl, inr, arith}
use Rattle.std.specs.Prelude.{◌==◌}
use Rattle.std.specs.Option.{option_cmp}
use Rattle.std.specs.List.{list_any, slice_index_or, slice_get}
use Rattle.std.specs.Cmp.Lexicographic.{texts_ties, bytes_decides}
use Rattle.std.specs.Ordering.{is_eq, ordering_reverse, ordering_then}
use Rattle.std.specs.declared.cmp.Ordering.{Ordering}
use Rattle.std.specs.declared.cmp.Ordering.TheVariants.{Less, Equal, Greater}
use Rattle.std.proofs.lemmas.Bool.{both_ways, cases_lt, false_from_ne_true, cond-true, cond-false, and_from, eq-eqb}
use Rattle.std.proofs.lemmas.Cmp.{tied_itself}
use Rattle.std.proofs.lemmas.List.{drop_more}
use Rattle.std.proofs.lemmas.Option.{get_or_from_slice_get, slice_get_within}
use Rattle.std.proofs.lemmas.List.Elements.{All-head, All-tail}
use Rattle.op_base.specs.Name.{same_text}
use Rattle.op_base.specs.Object.{kind_place, same_object}
use Rattle.op_base.specs.Order.{text_cmp, object_cmp, item_cmp}
use Rattle.op_base.specs.declared.name.Kind.{Kind}
use Rattle.op_base.specs.declared.name.ObjectId.{ObjectId}
use Rattle.op_base.specs.declared.outcome.Cell.{Cell}
use Rattle.op_base.specs.declared.outcome.Item.{Item}
use Rattle.op_base.proofs.Orders.{items_tied}
use Rattle.causal_model.specs.Items.{zero_cell, is_at, cell_in, Rise, IsItem}
use Rattle.causal_model.proofs.Cells.ItemMaps.{AllPairs-head, AllPairs-tail}
use Rattle.causal_model.proofs.Cells.Places.{places_total, is_equal}
use Rattle.part_queries.specs.Finds.{puts_in, takes_out, or_put, or_taken, is_put, is_taken, with_mark, AreListed, IsBehind}
use Rattle.part_queries.specs.declared.found.Found.{Found}
use Rattle.part_queries.proofs.Finds.{or_none}
use Rattle.part_queries.proofs.NextValue.{not_behind_itself}

-- of one object, places stand as their values do
values_order : (object : ObjectId) (a b : List ℕ) → item_cmp object (Some a) object (Some b) ≡ text_cmp a b
values_order object a b = ap (λ o. ordering_then o (text_cmp a b)) same where
  first : (o p : Ordering) → ordering_then o p ≡ Equal → o ≡ Equal
  first Less p e = e
  first Equal p e = refl
  first Greater p e = e

  same : object_cmp object object ≡ Equal
  same = first (object_cmp object object) Equal (tied_itself places_total (object, None))

-- items stand behind a place of an object
abbrev pub AreBehind : ObjectId → List ℕ → List Item → Type 0
AreBehind object value items = All (λ (y : Item). item_cmp object (Some value) y.object y.value ≡ Less) items

-- so a value with a mark among them is behind the place's value
pub cells_behind : (part : Cell → Bool) → part zero_cell ≡ false → (object : ObjectId) (value : List ℕ) (items : List Item) → AreBehind object value items → IsBehind value (λ v. part (cell_in items object (Some v)))
cells_behind part none object value [] behind v t = absurd (both_ways (part zero_cell) none t)
cells_behind part none object value (y ∷ items) behind v t = by (is_at object (Some v) y) refl (cells_behind part none object value items (All-tail (λ (z : Item). item_cmp object (Some value) z.object z.value ≡ Less) y items behind) v) where
  by : (b : Bool) → is_at object (Some v) y ≡ b → (part (cell_in items object (Some v)) ≡ true → text_cmp value v ≡ Less) → text_cmp value v ≡ Less
  by true at later =
      let tied = items_tied y.object object y.value (Some v) (is_equal (item_cmp y.object y.value object (Some v)) at) in
      sym (values_order object value v) ∙ (λ i. item_cmp object (Some value) (sym tied.0 i) (sym tied.1 i)) ∙ All-head (λ (z : Item). item_cmp object (Some value) z.object z.value ≡ Less) y items behind
  by false at later =
      later (ap part (sym (cond-false (is_at object (Some v) y) y.cell (cell_in items object (Some v)) at)) ∙ t)

-- ---- an item that is not of the object, or of no value

module _ (object : ObjectId) (x : Item) (items : List Item) (other : (v : List ℕ) → x.object ≡ object → x.value ≡ Some v → ⊥) where
  pub cell_of_other : (v : List ℕ) → cell_in (x ∷ items) object (Some v) ≡ cell_in items object (Some v)
  cell_of_other v = cond-false (is_at object (Some v) x) x.cell (cell_in items object (Some v)) (false_from_ne_true (is_at object (Some v) x) (λ t.
      let tied = items_tied x.object object x.value (Some v) (is_equal (item_cmp x.object x.value object (Some v)) t) in
      other v tied.0 tied.1))

-- ---- an item of the object and a value

module _ (object : ObjectId) (x : Item) (items : List Item) (value : List ℕ) (own : x.object ≡ object) (valued : x.value ≡ Some value) (rising : Rise (x ∷ items)) (part : Cell → Bool) (none : part zero_cell ≡ false) where
  -- marks of later items are of greater values
  pub later_behind : IsBehind value (λ v. part (cell_in items object (Some v)))
  later_behind = cells_behind part none object value items (λ k d l.
      (λ i. item_cmp (sym own i) (sym valued i) (slice_index_or items k d).object (slice_index_or items k d).value) ∙ AllPairs-head (λ (a b : Item). item_cmp a.object a.value b.object b.value ≡ Less) x items rising k d l)

  -- a mark is the item's own, or a later item's
  pub marks_split : (v : List ℕ) → part (cell_in (x ∷ items) object (Some v)) ≡ with_mark value (part x.cell) (λ u. part (cell_in items object (Some u))) v
  marks_split v = by (same_text value v) refl where
    at : is_at object (Some v) x ≡ same_text value v
    at = (λ i. is_eq (item_cmp (own i) (valued i) object (Some v))) ∙ ap is_eq (values_order object value v) ∙ sym (texts_ties value v)

    by : (b : Bool) → same_text value v ≡ b → part (cell_in (x ∷ items) object (Some v)) ≡ ((b && part x.cell) || part (cell_in items object (Some v)))
    by true same =
        ap part (cond-true (is_at object (Some v) x) x.cell (cell_in items object (Some v)) (at ∙ same))
        ∙ sym (ap (λ b. part x.cell || b) (subst (λ u. part (cell_in items object (Some u)) ≡ false) ((bytes_decides value v).0 same) (not_behind_itself value (λ u. part (cell_in items object (Some u))) later_behind))
        ∙ or_none (part x.cell))
    by false other = ap part (cond-false (is_at object (Some v) x) x.cell (cell_in items object (Some v)) (at ∙ other))

-- so what is listed before an item goes on behind it
module _ (object : ObjectId) (x : Item) (items : List Item) (kind : Kind) (left : List Found) (whole : List ℕ → Bool) (values : List (List ℕ)) (so_far : AreListed kind (is_put object (x ∷ items) left) (is_taken object (x ∷ items) left) whole values) where
  pub listed_but_item : (value : List ℕ) → x.object ≡ object → x.value ≡ Some value → Rise (x ∷ items)
      → AreListed kind (or_put (with_mark value x.cell.on (λ v. (cell_in items object (Some v)).on)) left) (or_taken (with_mark value x.cell.off (λ v. (cell_in items object (Some v)).off)) left) whole values
  listed_but_item value own valued rising =
      subst (λ put. AreListed kind put (or_taken (with_mark value x.cell.off (λ v. (cell_in items object (Some v)).off)) left) whole values)
      (λ i v. marks_split object x items value own valued rising (λ (c : Cell). c.on) refl v i || list_any (puts_in v) left)
      (subst (λ taken. AreListed kind (is_put object (x ∷ items) left) taken whole values) (λ i v. marks_split object x items value own valued rising (λ (c : Cell). c.off) refl v i || list_any (takes_out v) left) so_far)

  pub listed_past_item : ((v : List ℕ) → x.object ≡ object → x.value ≡ Some v → ⊥) → AreListed kind (is_put object items left) (is_taken object items left) whole values
  listed_past_item other =
      subst (λ put. AreListed kind put (is_taken object items left) whole values) (λ i v. (cell_of_other object x items other v i).on || list_any (puts_in v) left)
      (subst (λ taken. AreListed kind (is_put object (x ∷ items) left) taken whole values) (λ i v. (cell_of_other object x items other v i).off || list_any (takes_out v) left) so_far)

pub rise_of_rest : (n : ℕ) (items : List Item) → Rise items → Rise (drop n items)
rise_of_rest zero items rising = rising
rise_of_rest (suc n) [] rising = rising
rise_of_rest (suc n) (x ∷ items) rising = rise_of_rest n items (AllPairs-tail (λ (a b : Item). item_cmp a.object a.value b.object b.value ≡ Less) x items rising)

-- an item at a place, with what is behind it
abbrev pub IsItemBefore : List Item → ℕ → ObjectId → Option (List ℕ) → Cell → Type 0
IsItemBefore items place object value cell = (x : Item) × (drop place items ≡ x ∷ drop (place + 1) items) × (x.object ≡ object) × (x.value ≡ value) × (x.cell ≡ cell)

pub item_before : (items : List Item) (place : ℕ) (object : ObjectId) (value : Option (List ℕ)) (cell : Cell) → IsItem (slice_get items place) object value cell → IsItemBefore items place object value cell
item_before items place object value cell is = by (slice_get items place) refl is where
  by : (o : Option Item) → slice_get items place ≡ o → IsItem o object value cell → IsItemBefore items place object value cell
  by None there is = absurd is
  by (Some x) there is =
      (x, drop_more items place x (slice_get_within items place x there) ∙ ap (λ y. y ∷ drop (place + 1) items) (get_or_from_slice_get items place x x there), is.0, is.1, is.2)

pub same_itself : (object : ObjectId) → same_object object object ≡ true
same_itself object = and_from (kind_place object.kind == kind_place object.kind) (same_text object.key object.key) (eq-eqb (kind_place object.kind) (kind_place object.kind) refl) ((bytes_decides object.key object.key).1 refl)

-- ---- items between two of an object

then_equal : (o : Ordering) → ordering_then o Equal ≡ o
then_equal Less = refl
then_equal Equal = refl
then_equal Greater = refl

between_is : (object : ObjectId) (a b : Option (List ℕ)) (x : Item) → item_cmp object a x.object x.value ≡ Less → item_cmp x.object x.value object b ≡ Less → x.object ≡ object
between_is object a b x above below = by (object_cmp object x.object) (object_cmp x.object object) refl reversed above below where
  reversed : object_cmp x.object object ≡ ordering_reverse (object_cmp object x.object)
  reversed = sym (then_equal (object_cmp x.object object)) ∙ places_total.antisymm (x.object, None) (object, None) ∙ ap ordering_reverse (then_equal (object_cmp object x.object))

  by : (o p : Ordering) → object_cmp object x.object ≡ o → p ≡ ordering_reverse o → ordering_then o (option_cmp text_cmp a x.value) ≡ Less → ordering_then p (option_cmp text_cmp x.value b) ≡ Less → x.object ≡ object
  by Equal p is back above below = sym (items_tied object x.object None None (then_equal (object_cmp object x.object) ∙ is)).0
  by Less p is back above below = absurd (apart (ap (λ q. ordering_then q (option_cmp text_cmp x.value b)) (sym back) ∙ below)) where
    apart : Greater ≡ Less → ⊥
    apart e = cc
  by Greater p is back above below = absurd (apart above) where
    apart : Greater ≡ Less → ⊥
    apart e = cc

pub all_of_object : (items : List Item) (object : ObjectId) → Rise items → 0 < length items → ((d : Item) → (slice_index_or items 0 d).object ≡ object) → ((d : Item) → (slice_index_or items (length items - 1) d).object ≡ object)
    → All (λ (item : Item). item.object ≡ object) items
all_of_object items object rising some first last = λ k d l. elim (cases_lt 0 k) [
  | inr none ↦ let start : 0 ≡ k = omega arith in subst (λ n. (slice_index_or items n d).object ≡ object) start (first d)
  | inl later ↦ elim (cases_lt k (length items - 1)) [
    | inr end ↦ let stop : length items - 1 ≡ k = omega arith in subst (λ n. (slice_index_or items n d).object ≡ object) stop (last d)
    | inl earlier ↦
        let x = slice_index_or items k d in
        let a = slice_index_or items 0 d in
        let b = slice_index_or items (length items - 1) d in
        between_is object a.value b.value x (subst (λ o. item_cmp o a.value x.object x.value ≡ Less) (first d) (rising 0 k d later l)) (subst (λ o. item_cmp x.object x.value o b.value ≡ Less) (last d) (rising k (length items - 1) d earlier (omega (arith, some))))
  ]
]

-- an item at a place, by any other that might stand there
pub item_is : (items : List Item) (place : ℕ) (object : ObjectId) (value : Option (List ℕ)) (cell : Cell) → IsItem (slice_get items place) object value cell → (d : Item) → (slice_index_or items place d).object ≡ object
item_is items place object value cell is d = by (slice_get items place) refl is where
  by : (o : Option Item) → slice_get items place ≡ o → IsItem o object value cell → (slice_index_or items place d).object ≡ object
  by None there is = absurd is
  by (Some x) there is = ap (λ (y : Item). y.object) (get_or_from_slice_get items place x d there) ∙ is.0
