-- Cells joined: of two the marks that one has, and the sum of both. What a list gives in all, item by item, split by tests.
use Rattle.std.proofs.Common.{◌≡◌, ℕ, Bool, true, false, ◌&&◌, ◌||◌, ℤ, pos, ◌+ℤ◌, All, List, [], ◌∷◌, ◌++◌, map, cond, refl, sym, ap, ◌∙◌, Option, if◌then◌else◌}
use mathlib.Core.Bool.{or-false, or_assoc, or_comm}
use Rattle.std.specs.List.{filter, fold, list_any}
use Rattle.std.specs.Ordering.{is_eq}
use Rattle.std.proofs.Math.IntN.{+ℤ_idl, +ℤ_idr, +ℤ_assoc, +ℤ_comm}
use Rattle.std.proofs.lemmas.List.Elements.{All-head, All-tail}
use Rattle.op_base.specs.Order.{item_cmp}
use Rattle.op_base.specs.declared.name.ObjectId.{ObjectId}
use Rattle.op_base.specs.declared.message.Message.{Message}
use Rattle.op_base.specs.declared.operation.Op.{Op}
use Rattle.op_base.specs.declared.operation.Op.TheVariants as op
use Rattle.op_base.specs.declared.outcome.Cell.{Cell}
use Rattle.causal_model.specs.Acts.{value_of, amount_of}
use Rattle.causal_model.specs.CellSteps.{marks_on, marks_off, with_act, cell_with}
use Rattle.causal_model.specs.Items.{zero_cell}
use Rattle.causal_model.specs.Settled.{on_cell, sum_cell}

-- two cells joined
abbrev pub join : Cell → Cell → Cell
join a b = record { on = a.on || b.on; off = a.off || b.off; sum = a.sum +ℤ b.sum }

-- a cell where a test holds, and else the zero cell
abbrev pub restrict : Bool → Cell → Cell
restrict b cell = if b then cell else zero_cell

-- a cell with two marks and no sum
abbrev pub marks : Bool → Bool → Cell
marks on off = record { on = on; off = off; sum = pos 0 }

-- ---- cells are joined in any order

pub join_zero : (a : Cell) → join a zero_cell ≡ a
join_zero a = λ i. record { on = or-false a.on i; off = or-false a.off i; sum = +ℤ_idr a.sum i }

pub zero_join : (a : Cell) → join zero_cell a ≡ a
zero_join a = λ i. record { on = a.on; off = a.off; sum = +ℤ_idl a.sum i }

pub join_assoc : (a b c : Cell) → join (join a b) c ≡ join a (join b c)
join_assoc a b c = λ i. record { on = or_assoc a.on b.on c.on i; off = or_assoc a.off b.off c.off i; sum = +ℤ_assoc a.sum b.sum c.sum i }

join_comm : (a b : Cell) → join a b ≡ join b a
join_comm a b = λ i. record { on = or_comm a.on b.on i; off = or_comm a.off b.off i; sum = +ℤ_comm a.sum b.sum i }

join_middle : (a b c d : Cell) → join (join a b) (join c d) ≡ join (join a c) (join b d)
join_middle a b c d =
    join_assoc a b (join c d) ∙ ap (join a) (sym (join_assoc b c d) ∙ ap (λ x. join x d) (join_comm b c) ∙ join_assoc c b d) ∙ sym (join_assoc a c (join b d))

-- ---- what a list gives

abbrev pub gather : {X : Type 0} → (X → Cell) → List X → Cell
gather f [] = zero_cell
gather f (x ∷ xs) = join (f x) (gather f xs)

pub gather-append : {X : Type 0} (f : X → Cell) (xs ys : List X) → gather f (xs ++ ys) ≡ join (gather f xs) (gather f ys)
gather-append f [] ys = sym (zero_join (gather f ys))
gather-append f (x ∷ xs) ys = ap (join (f x)) (gather-append f xs ys) ∙ sym (join_assoc (f x) (gather f xs) (gather f ys))

pub gather-map : {X Y : Type 0} (f : Y → Cell) (g : X → Y) (xs : List X) → gather f (map g xs) ≡ gather (λ x. f (g x)) xs
gather-map f g [] = refl
gather-map f g (x ∷ xs) = ap (join (f (g x))) (gather-map f g xs)

pub gather-filter : {X : Type 0} (f : X → Cell) (p : X → Bool) (xs : List X) → gather f (filter p xs) ≡ gather (λ x. restrict (p x) (f x)) xs
gather-filter f p [] = refl
gather-filter f p (x ∷ xs) =
    elim (p x) as (λ b. gather f (cond b (x ∷ filter p xs) (filter p xs)) ≡ join (restrict b (f x)) (gather (λ y. restrict (p y) (f y)) xs)) [
      | true ↦ ap (join (f x)) (gather-filter f p xs)
      | false ↦ gather-filter f p xs ∙ sym (zero_join (gather (λ y. restrict (p y) (f y)) xs))
    ]

pub gather_agree : {X : Type 0} (f g : X → Cell) (xs : List X) → All (λ x. f x ≡ g x) xs → gather f xs ≡ gather g xs
gather_agree f g [] each = refl
gather_agree f g (x ∷ xs) each = λ i. join (All-head (λ y. f y ≡ g y) x xs each i) (gather_agree f g xs (All-tail (λ y. f y ≡ g y) x xs each) i)

pub gather_same : {X : Type 0} (f g : X → Cell) (xs : List X) → ((x : X) → f x ≡ g x) → gather f xs ≡ gather g xs
gather_same f g [] each = refl
gather_same f g (x ∷ xs) each = λ i. join (each x i) (gather_same f g xs each i)

pub gather_none : {X : Type 0} (f : X → Cell) (xs : List X) → All (λ x. f x ≡ zero_cell) xs → gather f xs ≡ zero_cell
gather_none f [] each = refl
gather_none f (x ∷ xs) each = λ i. join (All-head (λ y. f y ≡ zero_cell) x xs each i) (gather_none f xs (All-tail (λ y. f y ≡ zero_cell) x xs each) i)

pub gather-join : {X : Type 0} (f g : X → Cell) (xs : List X) → gather (λ x. join (f x) (g x)) xs ≡ join (gather f xs) (gather g xs)
gather-join f g [] = refl
gather-join f g (x ∷ xs) = ap (join (join (f x) (g x))) (gather-join f g xs) ∙ join_middle (f x) (g x) (gather f xs) (gather g xs)

pub gather-restrict : {X : Type 0} (b : Bool) (f : X → Cell) (xs : List X) → gather (λ x. restrict b (f x)) xs ≡ restrict b (gather f xs)
gather-restrict true f xs = refl
gather-restrict false f [] = refl
gather-restrict false f (x ∷ xs) = ap (join zero_cell) (gather-restrict false f xs)

pub restrict_both : (a b : Bool) (cell : Cell) → restrict a (restrict b cell) ≡ restrict (a && b) cell
restrict_both true b cell = refl
restrict_both false b cell = refl

-- marks and sums

pub gather-marks : {X : Type 0} (p q : X → Bool) (xs : List X) → gather (λ x. marks (p x) (q x)) xs ≡ marks (list_any p xs) (list_any q xs)
gather-marks p q [] = refl
gather-marks p q (x ∷ xs) = ap (join (marks (p x) (q x))) (gather-marks p q xs)

pub gather-on_cells : {X : Type 0} (p : X → Bool) (xs : List X) → gather (λ x. on_cell (p x)) xs ≡ on_cell (list_any p xs)
gather-on_cells p [] = refl
gather-on_cells p (x ∷ xs) = ap (join (on_cell (p x))) (gather-on_cells p xs)

pub gather-on : {X : Type 0} (f : X → Cell) (xs : List X) → (gather f xs).on ≡ list_any (λ x. (f x).on) xs
gather-on f [] = refl
gather-on f (x ∷ xs) = ap (λ b. (f x).on || b) (gather-on f xs)

-- a sum from the left over what passes a test
pub fold-sums : {X : Type 0} (g : X → ℤ) (p : X → Bool) (z : ℤ) (xs : List X) → sum_cell (fold (λ sum x. sum +ℤ g x) z (filter p xs)) ≡ join (sum_cell z) (gather (λ x. sum_cell (if p x then g x else pos 0)) xs)
fold-sums g p z [] = sym (join_zero (sum_cell z))
fold-sums g p z (x ∷ xs) =
    elim (p x) as (λ b. sum_cell (fold (λ sum x. sum +ℤ g x) z (cond b (x ∷ filter p xs) (filter p xs))) ≡ join (sum_cell z) (join (sum_cell (if b then g x else pos 0)) (gather (λ y. sum_cell (if p y then g y else pos 0)) xs))) [
      | true ↦ fold-sums g p (z +ℤ g x) xs ∙ join_assoc (sum_cell z) (sum_cell (g x)) (gather (λ y. sum_cell (if p y then g y else pos 0)) xs)
      | false ↦ fold-sums g p z xs ∙ ap (join (sum_cell z)) (sym (zero_join (gather (λ y. sum_cell (if p y then g y else pos 0)) xs)))
    ]

-- ---- the cell of an object and a value by messages

module _ (object : ObjectId) (value : Option (List ℕ)) where
  -- what one operation gives
  abbrev pub cell_of : Op → Cell
  cell_of o = cell_with object value zero_cell o

  cell_with_joins : (cell : Cell) (o : Op) → cell_with object value cell o ≡ join cell (cell_of o)
  cell_with_joins cell op.NoOp = sym (join_zero cell)
  cell_with_joins cell (op.Update u) =
      elim (is_eq (item_cmp u.object (value_of u.act) object value)) as (λ b. (if b then with_act u.act cell else cell) ≡ join cell (if b then with_act u.act zero_cell else zero_cell)) [
        | true ↦ λ i. record { on = cell.on || marks_on u.act; off = cell.off || marks_off u.act; sum = cell.sum +ℤ sym (+ℤ_idl (amount_of u.act)) i }
        | false ↦ sym (join_zero cell)
      ]

  pub fold-cells : (cell : Cell) (ms : List Message) → fold (λ cell e. cell_with object value cell e.op) cell ms ≡ join cell (gather (λ e. cell_of e.op) ms)
  fold-cells cell [] = sym (join_zero cell)
  fold-cells cell (m ∷ ms) =
      fold-cells (cell_with object value cell m.op) ms ∙ ap (λ c. join c (gather (λ e. cell_of e.op) ms)) (cell_with_joins cell m.op) ∙ join_assoc cell (cell_of m.op) (gather (λ e. cell_of e.op) ms)
