-- What each step of a pass tells it.
use Rattle.std.specs.Prelude.{◌≡◌, ◌≢◌, ℕ, ◌%◌, ◌^◌, true, false, List, [], ◌∷◌, ◌++◌, Option, Some}
use Rattle.atomic_table.specs.Table.{Me, Step}
use Rattle.turn_lock.specs.declared.view.TurnEntry.{TurnEntry}
use Rattle.turn_lock.specs.declared.view.View.{View}
use Rattle.turn_lock.specs.Turns.{turn, turns_of, StartsWith}

-- a seat's view, and the slot that is out with it
abbrev pub Held : Type 0 → Type 0 → Type 0 → Type 0
Held X E K = Me (Option X) (View E K)

module _ {E K : Type 0} where
  abbrev pub ticketed : ℕ → View E K → View E K
  ticketed t v = record v { draws = true; ticket = t; serves = false }

  abbrev pub served : List (TurnEntry E) → View E K → View E K
  served log v = record v { seen = log; serves = true }

  abbrev pub ended : List (TurnEntry E) → View E K → View E K
  ended turns v = record v { seen = v.seen ++ turns; own = v.own ++ turns; draws = false; serves = false }

module _ {X E K : Type 0} where
  -- the seat holds a ticket, whose remainder was found
  abbrev pub Drew : Step (Option X) → Held X E K → ℕ → Held X E K → Type 0
  Drew st m r m' = (m'.1 ≡ m.1) × ((t : ℕ) × (m'.0 ≡ ticketed t m.0) × (r ≡ t % 2 ^ 64))

  -- The seat's ticket is served: its list is the whole list, in which its own turns are those of its number, and it has the value, which fits the list.
  abbrev pub Found : (K → List (TurnEntry E) → X → Type 0) → Held X E K → Held X E K → Type 0
  Found fits m m' = (log : List (TurnEntry E)) × (x : X) × StartsWith log m.0.seen × (turns_of m.0.number log ≡ m.0.own) × (m' ≡ (served log m.0, (0, Some x) ∷ m.1)) × fits m.0.about log x

  -- where the ticket was found, it is served; else nothing changed
  abbrev pub Looked : (K → List (TurnEntry E) → X → Type 0) → Step (Option X) → Held X E K → ℕ → Held X E K → Type 0
  Looked fits st m r m' = (r ≡ m.0.ticket % 2 ^ 64 → Found fits m m') × (r ≢ m.0.ticket % 2 ^ 64 → m' ≡ m)

  -- the value is back, and fits the list with one turn more
  abbrev pub Recorded : (K → List (TurnEntry E) → X → Type 0) → Step (Option X) → Held X E K → ℕ → Held X E K → Type 0
  Recorded fits st m r m' = (e : E) × (x : X) × (m.1 ≡ (0, Some x) ∷ []) × fits m.0.about (m.0.seen ++ turn m.0.number e ∷ []) x × (m'.0 ≡ ended (turn m.0.number e ∷ []) m.0) × (m'.1 ≡ [])

  -- the value is back, and the list is as it was
  abbrev pub Passed : Step (Option X) → Held X E K → ℕ → Held X E K → Type 0
  Passed st m r m' = (m'.0 ≡ ended [] m.0) × (m'.1 ≡ [])
