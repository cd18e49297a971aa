-- Texts in front of zeros.
use Rattle.std.specs.Prelude.{◌≡◌, ℕ, ◌≤◌, ◌-◌, List, length, drop, replicate}

-- an array of so many bytes has zeros behind its first ones
abbrev pub HasZerosBehind : ℕ → ℕ → List ℕ → Type 0
HasZerosBehind size len bytes = (len ≤ size) × (length bytes ≡ size) × (drop len bytes ≡ replicate (size - len) 0)
