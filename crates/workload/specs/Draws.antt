-- Numbers that are drawn: a linear congruential generator modulo 2^31, of which the lower 16 bits are not used.
use Rattle.std.specs.Prelude.{ℕ, zero, suc, ◌+◌, ◌*◌, ◌/◌, ◌%◌}

-- the state after a draw
unfoldable pub next_state : ℕ → ℕ
next_state state = (state * 1103515245 + 12345) % 2147483648

-- what a draw gives below m, by the state after it
unfoldable pub given : (m : ℕ) → ℕ → ℕ
given m state = (state / 65536) % m

-- the state after so many draws
abbrev pub draws_after : ℕ → ℕ → ℕ
draws_after zero state = state
draws_after (suc draws) state = draws_after draws (next_state state)

-- what the k-th draw from a state gives below m, counted from 1
abbrev pub drawn : (k m : ℕ) → ℕ → ℕ
drawn k m state = given m (draws_after k state)
