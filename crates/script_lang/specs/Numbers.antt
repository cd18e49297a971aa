-- Numbers in a line: 1 to 10 digits, below 2 ^ 32.
use Rattle.std.specs.Prelude.{ℕ, ◌+◌, ◌-◌, ◌*◌, ◌^◌, Bool, ◌&&◌, nat_lt, nat_le, List, length, fold, Option, Some, None, if◌then◌else◌}
use Rattle.std.specs.List.{list_all}

-- whether a byte is a digit
abbrev pub is_digit : ℕ → Bool
is_digit b = nat_le 48 b && nat_le b 57

-- the number that digits write
abbrev pub written_number : List ℕ → ℕ
written_number digits = fold (λ value digit. 10 * value + (digit - 48)) 0 digits

-- the number that a word is
abbrev pub number_of : List ℕ → Option ℕ
number_of word =
    if nat_lt 0 (length word) && nat_le (length word) 10 && list_all is_digit word && nat_lt (written_number word) (2 ^ 32)
    then Some (written_number word) else None
