-- The numbers that a replica is made with.
use Rattle.std.specs.Prelude.{ℕ, Bool, ◌&&◌, nat_lt, nat_le}

-- whether a number lies from one to another
abbrev pub is_from_to : ℕ → ℕ → ℕ → Bool
is_from_to low high x = nat_le low x && nat_le x high

-- member me of 1 to 16 members, a window of 1 to 64, 1 to 1000000 messages a member
abbrev pub are_numbers : ℕ → ℕ → ℕ → ℕ → Bool
are_numbers me n w limit = is_from_to 1 16 n && is_from_to 1 64 w && is_from_to 1 1000000 limit && nat_lt me n
