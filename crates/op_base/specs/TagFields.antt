-- A timestamp's fields: its numbers in front, zeros behind them.
use Rattle.std.specs.Prelude.{◌≡◌, ℕ, ◌-◌, ◌≤◌, ◌++◌, List, length, take, drop, replicate}
use Rattle.std.proofs.Common.{arith}
use Rattle.std.proofs.lemmas.List.{length-take, take-append-drop}
use Rattle.op_base.specs.declared.tag.Tag.TheInside.{Inside}

-- 1 to 16 numbers, and zeros behind them
abbrev pub IsPadded : Inside → Type 0
IsPadded t = (1 ≤ t.n) × (t.n ≤ 16) × (length t.parts ≡ 16) × (drop t.n t.parts ≡ replicate (16 - t.n) 0)

-- the numbers of the members
abbrev pub numbers_of : Inside → List ℕ
numbers_of t = take t.n t.parts

-- the fields of so many numbers
abbrev pub padded : List ℕ → Inside
padded numbers = record { n = length numbers; parts = numbers ++ replicate (16 - length numbers) 0 }

pub padded-numbers_of : (t : Inside) → IsPadded t → padded (numbers_of t) ≡ t
padded-numbers_of t h =
    let len : length (take t.n t.parts) ≡ t.n = omega (arith, length-take t.n t.parts, h.1, h.2) in
    let parts : take t.n t.parts ++ replicate (16 - length (take t.n t.parts)) 0 ≡ t.parts = rw (len, ← h.3) (take-append-drop t.n t.parts) in
    λ i. record { n = len i; parts = parts i }
