-- What holds of settled cells and items, and what one message more makes of them. Each statement is the contract of a
-- function of laws/cells.rt.
use Rattle.std.specs.Prelude.{◌≡◌, ◌≢◌, ℕ, ◌≤◌, ◌^◌, Bool, true, false, List, [], length, fold, IsTrue, All, Option, Some, None, ◌+ℤ◌}
use Rattle.op_base.specs.declared.message.Message.{Message}
use Rattle.op_base.specs.declared.name.ObjectId.{ObjectId}
use Rattle.op_base.specs.declared.name.Kind.{Kind}
use Rattle.op_base.specs.declared.name.Kind.TheVariants.{AwSet, RwSet, EwFlag, DwFlag, MvReg, Counter, RCounter}
use Rattle.op_base.specs.declared.outcome.Item.{Item}
use Rattle.causal_model.specs.CellSteps.{cell_uncovered, cell_with, cell_settled, is_put_in, cell_absorbed, cell_moved}
use Rattle.causal_model.specs.Log.{log_of, stripped_of}
use Rattle.causal_model.specs.History.{History, no_history, with_message, is_history, is_limited}
use Rattle.causal_model.specs.Items.{AreFilled, cell_in, AreApart, Rise, is_filled, zero_cell}
use Rattle.causal_model.specs.Query.{IsWithin}
use Rattle.causal_model.specs.Acts.{share_of}
use Rattle.causal_model.specs.Settled.{sum_cell, settled_cell, settled_items}

-- ---- one message more

-- A cell: what the message covers goes, the entries that are stable now are absorbed, and the marks are settled. This goes
-- from the cell and the log alone: a cell forgets a remove that no pending add waits for.
abbrev pub CellOfOneMore : Type 0
CellOfOneMore = (w : ℕ) (h : History) (m : Message) (object : ObjectId) (value : Option (List ℕ)) → IsTrue (is_history w (with_message h m))
    → object.kind ≢ Counter
    → settled_cell (with_message h m) object value
    ≡ cell_settled object.kind (is_put_in (log_of (with_message h m)) object value)
    (fold (λ cell e. cell_with object value cell e.op) (cell_uncovered object value m.op (settled_cell h object value)) (stripped_of h m))

-- the cell of a counter: the message's share is added
abbrev pub CounterCellOfOneMore : Type 0
CounterCellOfOneMore = (h : History) (m : Message) (object : ObjectId) → object.kind ≡ Counter
    → settled_cell (with_message h m) object None ≡ sum_cell ((settled_cell h object None).sum +ℤ share_of object m.op)

-- Each cell, by what moves it step by step: it is uncovered, what goes from the log is absorbed, an operation of a counter
-- is applied, and the marks are settled.
abbrev pub CellIsMoved : Type 0
CellIsMoved = (w : ℕ) (h : History) (m : Message) (object : ObjectId) (value : Option (List ℕ)) → IsTrue (is_history w (with_message h m))
    → settled_cell (with_message h m) object value
    ≡ cell_settled object.kind (is_put_in (log_of (with_message h m)) object value) (cell_moved h m object value)

-- the sums on the way fit a number of 128 bits by far
abbrev pub MovedSumsAreBounded : Type 0
MovedSumsAreBounded = (w limit : ℕ) (h : History) (m : Message) (object : ObjectId) (value : Option (List ℕ)) → IsTrue (is_history w (with_message h m))
    → IsTrue (is_limited limit (with_message h m)) → limit ≤ 1000000
    → ((k : ℕ) → IsWithin (2 ^ 81) (cell_absorbed h m k object value).sum) × IsWithin (2 ^ 81) (cell_moved h m object value).sum

-- whether a kind has cells of values, or one of an object alone
abbrev pub has_cell : Kind → Option (List ℕ) → Bool
has_cell AwSet (Some value) = true
has_cell RwSet (Some value) = true
has_cell MvReg (Some value) = true
has_cell EwFlag None = true
has_cell DwFlag None = true
has_cell Counter None = true
has_cell RCounter None = true
has_cell kind value = false

-- a cell that a kind hasn't got has no mark and no sum
abbrev pub OtherCellsAreZero : Type 0
OtherCellsAreZero = (h : History) (object : ObjectId) (value : Option (List ℕ)) → has_cell object.kind value ≡ false → settled_cell h object value ≡ zero_cell

-- ---- items

-- before anything was delivered there is none
abbrev pub NoItemsYet : Type 0
NoItemsYet = (n me : ℕ) → settled_items (no_history n me) ≡ []

-- an object and value have their cell among the items, whether an operation names them or not
abbrev pub ItemsAreCells : Type 0
ItemsAreCells = (h : History) (object : ObjectId) (value : Option (List ℕ)) → cell_in (settled_items h) object value ≡ settled_cell h object value

-- each item's cell has a mark or a sum
abbrev pub ItemsAreFilled : Type 0
ItemsAreFilled = (h : History) → All (λ item. IsTrue (is_filled item.cell)) (settled_items h)

-- items rise in their one order
abbrev pub ItemsRise : Type 0
ItemsRise = (h : History) → Rise (settled_items h)

-- so no two are of one object and value
abbrev pub RisingItemsAreApart : Type 0
RisingItemsAreApart = (items : List Item) → Rise items → AreApart items

-- maps of filled items with equal cells have equal lengths, and are equal lists where both rise
abbrev pub SameCells : List Item → List Item → Type 0
SameCells xs ys = (object : ObjectId) (value : Option (List ℕ)) → cell_in xs object value ≡ cell_in ys object value

abbrev pub SameCellsSameLength : Type 0
SameCellsSameLength = (xs ys : List Item) → AreApart xs → AreApart ys → AreFilled xs → AreFilled ys → SameCells xs ys → length xs ≡ length ys

abbrev pub SameCellsSameList : Type 0
SameCellsSameList = (xs ys : List Item) → Rise xs → Rise ys → AreFilled xs → AreFilled ys → SameCells xs ys → xs ≡ ys
