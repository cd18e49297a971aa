-- The rule of the lock's table. Word 0 is the next ticket and word 1 the one that is served, both modulo 2^64.
use Rattle.std.specs.Prelude.{◌≡◌, ◌⊎◌, ℕ, ◌+◌, ◌-◌, ◌%◌, ◌^◌, ◌<◌, ◌≤◌, Bool, true, false, if◌then◌else◌, List, [], ◌∷◌, ◌++◌, All, Option, Some}
use mathlib.Core.Option as maybe
use mathlib.Core.Option.{none, some}
use lib.ListN.{get_elem?}
use Rattle.atomic_table.specs.Table.{State}
use Rattle.turn_lock.specs.declared.view.TurnEntry.{TurnEntry}
use Rattle.turn_lock.specs.declared.view.View.{View}
use Rattle.turn_lock.specs.Turns.{turns_of, StartsWith, longer}

abbrev pub total : {A : Type 0} → (A → ℕ) → List A → ℕ
total f [] = 0
total f (x ∷ xs) = f x + total f xs

module _ {E K : Type 0} where
  abbrev pub lives : View E K → ℕ
  lives v = if v.live then 1 else 0

  abbrev pub waits : View E K → ℕ
  waits v = if v.draws then 1 else 0

  -- the opener of a new table
  abbrev pub opening_view : K → View E K
  opening_view k = record { opens = true; live = false; out = 0; splits = 0; number = 0; about = k; seen = []; fronts = []; own = []; draws = false; ticket = 0; serves = false }

  -- the opener, with one pass more
  abbrev pub splitting : View E K → View E K
  splitting v = record v { out = v.out + 1; splits = v.splits + 1 }

  -- a new pass, which has seen what the opener had
  abbrev pub newcomer : View E K → View E K
  newcomer v = record v { opens = false; live = true; out = 0; splits = 0; number = v.splits; fronts = []; own = []; draws = false; ticket = 0; serves = false }

  -- the opener, with one pass less
  abbrev pub joining : View E K → View E K → View E K
  joining v w = record v { out = v.out - 1; seen = longer v.seen w.seen; fronts = w.seen ∷ v.fronts; own = v.own ++ w.own }

  -- what is left of a pass that was joined
  abbrev pub spent : K → View E K
  spent k = record { opens = false; live = false; out = 0; splits = 0; number = 0; about = k; seen = []; fronts = []; own = []; draws = false; ticket = 0; serves = false }

-- What the opener knows: it is the first seat, and no pass; how many passes are not joined; no number from its count of splits on has a pass or a turn;
-- of a number whose pass it joined it has all turns, and of the others none; what the joined passes had seen are fronts of the list.
module _ {E : Type 0} (log : List (TurnEntry E)) (living : ℕ) (seats : ℕ → maybe.Option ℕ) (seat : ℕ) where
  pub record Opens (lives : Bool) (count made : ℕ) (own : List (TurnEntry E)) (met : List (List (TurnEntry E))) : Type 0 where
    pub first : seat ≡ 0
    pub apart : lives ≡ false
    pub out : count ≡ living
    pub later : (k : ℕ) → made ≤ k → (seats k ≡ none) × (turns_of k log ≡ [])
    pub joined : (k : ℕ) → seats k ≡ none → turns_of k own ≡ turns_of k log
    pub others : (k j : ℕ) → seats k ≡ some j → turns_of k own ≡ []
    pub fronts : All (StartsWith log) met

-- What each seat knows: its list is a front of the one list. A pass that was not joined is the one of its number, and has just the turns of it.
-- A ticket is held by such a pass, is drawn and not yet served, and is held by no other seat. A seat that learnt that its ticket is served holds
-- the one that the serving word names, and has the whole list.
module _ {E K : Type 0} (key : K) (log : List (TurnEntry E)) (drawn serving living : ℕ) (holder : ℕ → ℕ) (seats : ℕ → maybe.Option ℕ) (seat : ℕ) where
  pub record Knows (v : View E K) : Type 0 where
    pub about : (v.opens ≡ true) ⊎ (v.live ≡ true) → v.about ≡ key
    pub seen : StartsWith log v.seen
    pub opens : v.opens ≡ true → Opens log living seats seat v.live v.out v.splits v.own v.fronts
    pub live : v.live ≡ true → (seats v.number ≡ some seat) × (turns_of v.number log ≡ v.own)
    pub draws : v.draws ≡ true → (v.live ≡ true) × (serving ≤ v.ticket) × (v.ticket < drawn) × (holder v.ticket ≡ seat)
    pub serves : v.serves ≡ true → (v.draws ≡ true) × (v.ticket ≡ serving) × (v.seen ≡ log)

-- nobody has learnt that its ticket is served
abbrev pub IsQuiet : {E K : Type 0} → List (View E K) → Type 0
IsQuiet {E} {K} views = (j : ℕ) (v : View E K) → get_elem? views j ≡ some v → v.serves ≡ false

-- some seat that is not spent has seen all turns
abbrev pub Whole : {E K : Type 0} → List (TurnEntry E) → List (View E K) → Type 0
Whole {E} {K} log views = (j : ℕ) × (v : View E K) × (get_elem? views j ≡ some v) × ((v.opens ≡ true) ⊎ (v.live ≡ true)) × (v.seen ≡ log)

-- each number that has a seat has a pass there that was not joined
abbrev pub Seated : {E K : Type 0} → (ℕ → maybe.Option ℕ) → List (View E K) → Type 0
Seated {E} {K} seats views = (k j : ℕ) → seats k ≡ some j → (v : View E K) × (get_elem? views j ≡ some v) × (v.live ≡ true) × (v.number ≡ k)

-- There is one list of turns. As many tickets are drawn and not yet served as seats hold one; at most 1024 passes are not joined, and `holder` and
-- `seats` say which seat holds a ticket and which has a number. While nobody has learnt that its ticket is served, the slot holds a value that fits the list.
pub record Ticketed {X E K : Type 0} (fits : List (TurnEntry E) → X → Type 0) (key : K) (s : State (Option X) (View E K)) : Type 0 where
  pub log : List (TurnEntry E)
  pub drawn : ℕ
  pub serving : ℕ
  pub living : ℕ
  pub holder : ℕ → ℕ
  pub seats : ℕ → maybe.Option ℕ
  pub words : s.words ≡ drawn % 2 ^ 64 ∷ serving % 2 ^ 64 ∷ []
  pub waiting : total waits s.views + serving ≡ drawn
  pub alive : total lives s.views ≡ living
  pub few : living ≤ 1024
  pub each : (j : ℕ) (v : View E K) → get_elem? s.views j ≡ some v → Knows key log drawn serving living holder seats j v
  pub seated : Seated seats s.views
  pub whole : Whole log s.views
  pub home : IsQuiet s.views → (x : X) × (get_elem? s.homes 0 ≡ some (some (Some x))) × fits log x
