-- A law over the words of the contracts, the contract of a function that does nothing.
use Rattle.std.specs.Prelude.{◌≡◌, ℕ, [], ◌∷◌}
use Rattle.mailboxes.specs.declared.seen.Seen.{Seen}
use Rattle.mailboxes.specs.Seen.{posted, line, numbers, enrolled, first_seen, forked, newcomer, joined, IsExact}

-- Two passes are forked from the first one. The one posts 5, and 5 is taken by it; then the other posts 7. They are joined in the order of their
-- numbers: the roll has a line for each of the three passes, with just what each posted, and
-- the place that was taken is the first one's too.
abbrev pub RollsAreWorked : Type 0
RollsAreWorked =
    let first : Seen ℕ = first_seen in
    let once = forked first in
    let twice = forked once in
    let list = posted 1 5 ∷ posted 2 7 ∷ [] in
    let new_one = newcomer first in
    let new_two = newcomer once in
    let one = record new_one { posted = posted 1 5 ∷ []; taken = 1; roll = enrolled 1 5 new_one.roll; places = 0 ∷ [] } in
    let two = record new_two { posted = list; roll = enrolled 2 7 new_two.roll } in
    let all = joined (joined twice one) two in
    (all ≡ record { number = 0; forks = 2; posted = list; taken = 1; roll = line 0 [] ∷ line 1 (5 ∷ []) ∷ line 2 (7 ∷ []) ∷ []; places = 0 ∷ [] })
    × (numbers all.roll ≡ 0 ∷ 1 ∷ 2 ∷ [])
    × IsExact all
