-- Rows of a log: entries beside the numbers of their arrival, side by side by object, and between these free ones.
use Rattle.std.specs.Prelude.{◌≡◌, ◌≢◌, ℕ, ◌+◌, ◌-◌, ◌<◌, ◌≤◌, ◌⊎◌, nat_eq, Bool, true, false, not, List, ◌∷◌, ◌++◌, length, take, drop, filter, slice_range, slice_index_or, Option, Some, None, IsTrue}
use Rattle.std.specs.List.Sorted.{IsPermutation}
use Rattle.std.specs.Ordering.{is_lt, is_le}
use Rattle.std.specs.declared.cmp.Ordering.TheVariants.{Less, Equal}
use Rattle.op_base.specs.Message.{fits}
use Rattle.op_base.specs.Order.{object_cmp}
use Rattle.op_base.specs.declared.message.Entry.{Entry}
use Rattle.op_base.specs.declared.name.Kind.{Kind}
use Rattle.op_base.specs.declared.name.Kind.TheVariants as kinds
use Rattle.op_base.specs.declared.name.ObjectId.{ObjectId}
use Rattle.op_base.specs.declared.operation.Act.{Act}
use Rattle.op_base.specs.declared.operation.Act.TheVariants as acts
use Rattle.causal_model.specs.Log.{message_of}
use Rattle.polog.specs.Order.{Each, Pairwise, in_order, items_of}
use Rattle.polog.specs.declared.guesses.Stand.{Stand}
use Rattle.polog.specs.declared.marks.Stamp.{Stamp}
use Rattle.polog.specs.declared.idle.Idle.{Idle}
use Rattle.polog.specs.declared.sweep.Swept.{Swept}

-- rows, with room for so many
pub record Table : Type 0 where
  pub room : ℕ
  pub rows : List (ℕ × Entry)

-- a table with other rows
abbrev pub with_rows : Table → List (ℕ × Entry) → Table
with_rows table rows = record { room = table.room; rows = rows }

-- the number of a row that is free
abbrev pub free_number : ℕ
free_number = 18446744073709551615

-- whether a row's entry is one of the log
abbrev pub is_live : ℕ × Entry → Bool
is_live r = not (nat_eq r.0 free_number)

-- whether a stamp is that of such a row
abbrev pub is_used : Stamp → Bool
is_used s = not (nat_eq s.number free_number)

-- rows without the free ones
abbrev pub live_rows : List (ℕ × Entry) → List (ℕ × Entry)
live_rows rs = filter is_live rs

-- an act of a kind that names no value and turns nothing on
abbrev pub idle_act : Kind → Act
idle_act kinds.Counter = acts.Inc 0
idle_act kind = acts.Clear

-- a row says what it should where it is free
abbrev pub IsIdle : ℕ × Entry → Type 0
IsIdle r = is_live r ≡ false → r.1.update.act ≡ idle_act r.1.update.object.kind

-- what rows say that are free for an entry's object
abbrev pub idle_of : Entry → Idle
idle_of e = record { origin = e.origin; tag = e.tag; object = e.update.object }

-- a row is free, and says what it should
pub record IsFreeFor (idle : Idle) (r : ℕ × Entry) : Type 0 where
  pub number : r.0 ≡ free_number
  pub origin : r.1.origin ≡ idle.origin
  pub tag : r.1.tag ≡ idle.tag
  pub object : r.1.update.object ≡ idle.object
  pub act : r.1.update.act ≡ idle_act idle.object.kind

-- rows in which those from one place up to another were freed, or free ones put in
pub record IsFreed (idle : Idle) (many from to : ℕ) (old new : Table) : Type 0 where
  pub gap : List (ℕ × Entry)
  pub free : Each (IsFreeFor idle) gap
  pub count : length gap ≡ many
  pub rows : new ≡ with_rows old (take from old.rows ++ (gap ++ drop to old.rows))

-- a list in which what stands from one place up to another is moved in front of what stands there from an earlier place on
abbrev pub turned : {A : Type 0} → ℕ → ℕ → ℕ → List A → List A
turned to from end xs = take to xs ++ ((drop (from - to) (slice_range xs to end) ++ take (from - to) (slice_range xs to end)) ++ drop end xs)

-- the rows from one place up to another were moved down to an earlier place; what stood there may stand in another order
pub record IsMovedDown {A : Type 0} (to from end : ℕ) (old new : List A) : Type 0 where
  pub front : take (to + (end - from)) new ≡ take to old ++ slice_range old from end
  pub rest : drop end new ≡ drop end old
  pub same : IsPermutation old new

-- of two rows the first stands before the second: by object, and within an object by arrival; and they arrived apart
abbrev pub StandsBefore : ℕ × Entry → ℕ × Entry → Type 0
StandsBefore a b =
    ((object_cmp a.1.update.object b.1.update.object ≡ Less) ⊎ ((object_cmp a.1.update.object b.1.update.object ≡ Equal) × (a.0 < b.0)))
    × (a.0 ≢ b.0)

-- of entries that are side by side by object, those of an object stand from one place up to another
pub record IsSpan (object : ObjectId) (es : List Entry) (from to : ℕ) : Type 0 where
  pub order : from ≤ to
  pub places : to ≤ length es
  pub below : Each (λ e. is_lt (object_cmp e.update.object object) ≡ true) (take from es)
  pub not_below : Each (λ e. is_lt (object_cmp e.update.object object) ≡ false) (drop from es)
  pub through : Each (λ e. is_le (object_cmp e.update.object object) ≡ true) (take to es)
  pub above : Each (λ e. is_le (object_cmp e.update.object object) ≡ false) (drop to es)

-- each entry of a store of n members beside its number, side by side by object, each number below the next one
pub record IsLaid (n next : ℕ) (rs : List (ℕ × Entry)) : Type 0 where
  pub grouped : Pairwise StandsBefore rs
  pub below : Each (λ r. r.0 < next) rs
  pub fit : Each (λ r. IsTrue (fits n (message_of r.1))) rs

-- rows of a store of n members stand side by side by object, the free ones behind those of an object that aren't, and no free one
-- puts anything in
pub record IsSpread (n : ℕ) (rs : List (ℕ × Entry)) : Type 0 where
  pub ordered : Pairwise (λ a b. is_le (object_cmp a.1.update.object b.1.update.object) ≡ true) rs
  pub behind : Pairwise (λ a b. a.1.update.object ≡ b.1.update.object → is_live b ≡ true → is_live a ≡ true) rs
  pub fit : Each (λ r. IsTrue (fits n (message_of r.1))) rs
  pub idle : Each IsIdle rs

-- where an object's rows stand: its entries, and behind them free rows
pub record IsStand (object : ObjectId) (rs : List (ℕ × Entry)) (stand : Stand) : Type 0 where
  pub span : IsSpan object (items_of rs) stand.from stand.to
  pub least : stand.from ≤ stand.end
  pub most : stand.end ≤ stand.to
  pub live : (k : ℕ) (d : ℕ × Entry) → stand.from ≤ k → k < stand.end → is_live (slice_index_or rs k d) ≡ true
  pub free : (k : ℕ) (d : ℕ × Entry) → stand.end ≤ k → k < stand.to → is_live (slice_index_or rs k d) ≡ false

-- rows into which an entry was put at a place, and free ones behind it
pub record IsPutIn (at number : ℕ) (e : Entry) (old new : Table) : Type 0 where
  pub gap : List (ℕ × Entry)
  pub free : Each (IsFreeFor (idle_of e)) gap
  pub rows : new ≡ with_rows old (take at old.rows ++ (number, e) ∷ (gap ++ drop at old.rows))

-- rows into which an entry was put, where those of its object had been swept: what goes and free rows of the object may be gone, or
-- freed
pub record IsPlaced (swept : Swept) (number : ℕ) (e : Entry) (old new : Table) : Type 0 where
  pub gap : List (ℕ × Entry)
  pub last : ℕ
  pub free : Each (IsFreeFor (idle_of e)) gap
  pub least : swept.stand.end ≤ last
  pub most : last ≤ swept.stand.to
  pub rows : new ≡ with_rows old (take swept.kept old.rows ++ (number, e) ∷ (gap ++ drop last old.rows))

-- the entries in the order of their arrival
abbrev pub arrived : List (ℕ × Entry) → List Entry
arrived rs = items_of (in_order rs)

-- a place is that of the row with the least number of those that pass; there is none where none passes
abbrev pub IsFirst : (ℕ × Entry → Bool) → List (ℕ × Entry) → Option ℕ → Type 0
IsFirst passes rs None = Each (λ r. passes r ≡ false) rs
IsFirst passes rs (Some place) =
    (place < length rs) × ((d : ℕ × Entry) → passes (slice_index_or rs place d) ≡ true)
    × ((d : ℕ × Entry) → Each (λ r. passes r ≡ true → (slice_index_or rs place d).0 ≤ r.0) rs)
