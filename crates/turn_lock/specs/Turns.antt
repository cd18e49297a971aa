-- The words of the contracts: turns, and what is seen of a lock, its opener and its passes. Lists have the oldest turn first.
use Rattle.std.specs.Prelude.{◌≡◌, ℕ, ◌+◌, ◌-◌, ◌==◌, nat_lt, Bool, true, false, if◌then◌else◌, List, [], ◌∷◌, ◌++◌, length}
use Rattle.atomic_table.specs.Seated.{TableId}
use Rattle.turn_lock.specs.declared.view.TurnEntry.{TurnEntry}

-- a list begins with what was seen of it
abbrev pub StartsWith : {A : Type 0} → List A → List A → Type 0
StartsWith {A} log seen = (later : List A) × (log ≡ seen ++ later)

abbrev pub longer : {A : Type 0} → List A → List A → List A
longer xs ys = if nat_lt (length xs) (length ys) then ys else xs

module _ {E : Type 0} where
  -- a turn of the pass of this number, with what it recorded
  abbrev pub turn : ℕ → E → TurnEntry E
  turn number what = record { by = number; what = what }

  -- the turns of the pass of this number
  abbrev pub turns_of : ℕ → List (TurnEntry E) → List (TurnEntry E)
  turns_of number [] = []
  turns_of number (t ∷ ts) = if t.by == number then t ∷ turns_of number ts else turns_of number ts

-- which lock it is, and what it was told when it was made
pub record LockState (K : Type 0) : Type 0 where
  pub table : TableId
  pub key : K

-- an opener: its lock, how many passes are out and how many were ever split, what it has seen, and of the passes that it joined what they had seen, the last one first, and their turns
pub record OpenerState (E K : Type 0) : Type 0 where
  pub lock : LockState K
  pub out : ℕ
  pub splits : ℕ
  pub seen : List (TurnEntry E)
  pub fronts : List (List (TurnEntry E))
  pub own : List (TurnEntry E)

-- a pass: its lock, its number, whether it has a turn, what it has seen, and its own turns
pub record PassState (E K : Type 0) : Type 0 where
  pub lock : LockState K
  pub number : ℕ
  pub in_turn : Bool
  pub seen : List (TurnEntry E)
  pub own : List (TurnEntry E)

module _ {E K : Type 0} where
  -- the opener of a new lock
  abbrev pub opened : LockState K → OpenerState E K
  opened l = record { lock = l; out = 0; splits = 0; seen = []; fronts = []; own = [] }

  -- the opener, with one pass more
  abbrev pub after_split : OpenerState E K → OpenerState E K
  after_split o = record o { out = o.out + 1; splits = o.splits + 1 }

  -- the pass that is split from an opener
  abbrev pub new_pass : OpenerState E K → PassState E K
  new_pass o = record { lock = o.lock; number = o.splits; in_turn = false; seen = o.seen; own = [] }

  -- the opener, which has joined a pass
  abbrev pub after_join : OpenerState E K → PassState E K → OpenerState E K
  after_join o p = record o { out = o.out - 1; seen = longer o.seen p.seen; fronts = p.seen ∷ o.fronts; own = o.own ++ p.own }

  -- the pass in a turn, in which the list is this
  abbrev pub entered : List (TurnEntry E) → PassState E K → PassState E K
  entered log p = record p { in_turn = true; seen = log }

  -- the pass after its turn, with these turns more
  abbrev pub after_turn : List (TurnEntry E) → PassState E K → PassState E K
  after_turn turns p = record p { in_turn = false; seen = p.seen ++ turns; own = p.own ++ turns }
