-- Laws over the words of the contracts, each the contract of a function that does nothing.
use Rattle.std.specs.Prelude.{◌≡◌, ℕ, false, List, [], ◌∷◌, ◌++◌, IsPermutation}
use Rattle.turn_lock.specs.declared.view.TurnEntry.{TurnEntry}
use Rattle.turn_lock.specs.Turns.{StartsWith, turn, turns_of, LockState, OpenerState, PassState, opened, after_split, new_pass, after_join, entered, after_turn}

-- a list that grows begins with what it began with
abbrev pub FrontsAreKept : Type 0 → Type 0
FrontsAreKept E = (log seen more : List (TurnEntry E)) → StartsWith log seen → StartsWith (log ++ more) seen

-- the turns of a number in two lists, one behind the other, are those of the first and then those of the second
abbrev pub NumbersAreKept : Type 0 → Type 0
NumbersAreKept E = (number : ℕ) (xs ys : List (TurnEntry E)) → turns_of number (xs ++ ys) ≡ turns_of number xs ++ turns_of number ys

-- two lists with the same turns of each number have the same turns
abbrev pub SameTurnsAreRearranged : Type 0 → Type 0
SameTurnsAreRearranged E = (xs ys : List (TurnEntry E)) → ((number : ℕ) → turns_of number xs ≡ turns_of number ys) → IsPermutation xs ys

-- Of two passes the first has a turn that records 5, then the second one that records 7. Joined in this order, and in the other.
abbrev pub JoinsAreWorked : Type 0
JoinsAreWorked = (l : LockState ℕ) →
    let none : OpenerState ℕ ℕ = opened l in
    let one = after_split none in
    let both = after_split one in
    let first : PassState ℕ ℕ = after_turn (turn 0 5 ∷ []) (entered [] (new_pass none)) in
    let second : PassState ℕ ℕ = after_turn (turn 1 7 ∷ []) (entered (turn 0 5 ∷ []) (new_pass one)) in
    (first ≡ record { lock = l; number = 0; in_turn = false; seen = turn 0 5 ∷ []; own = turn 0 5 ∷ [] })
    × (second ≡ record { lock = l; number = 1; in_turn = false; seen = turn 0 5 ∷ turn 1 7 ∷ []; own = turn 1 7 ∷ [] })
    × (after_join (after_join both first) second ≡ record { lock = l; out = 0; splits = 2; seen = turn 0 5 ∷ turn 1 7 ∷ []; fronts = second.seen ∷ first.seen ∷ []; own = turn 0 5 ∷ turn 1 7 ∷ [] })
    × (after_join (after_join both second) first ≡ record { lock = l; out = 0; splits = 2; seen = turn 0 5 ∷ turn 1 7 ∷ []; fronts = first.seen ∷ second.seen ∷ []; own = turn 1 7 ∷ turn 0 5 ∷ [] })
