-- The lines of a script.
use Rattle.std.specs.Prelude.{ℕ, Bool, true, false, ◌==◌, List, [], ◌∷◌, map, if◌then◌else◌}
use Rattle.std.specs.List.{slice_split}
use Rattle.std.specs.Str.Lines.{strip_carriage_return}
use Rattle.script_lang.specs.Words.{is_passed_over}

-- the byte that ends a line
abbrev pub is_newline : ℕ → Bool
is_newline b = b == 10

-- The lines of a text, each without its newline and one carriage return at its end. What stands behind the last newline is
-- a line too.
abbrev pub lines_of : List ℕ → List (List ℕ)
lines_of bytes = map strip_carriage_return (slice_split is_newline bytes)

-- a list without its last element
abbrev pub all_but_last : List (List ℕ) → List (List ℕ)
all_but_last [] = []
all_but_last (x ∷ []) = []
all_but_last (x ∷ y ∷ ys) = x ∷ all_but_last (y ∷ ys)

-- the lines of a text that a newline ends
abbrev pub ended_lines_of : List ℕ → List (List ℕ)
ended_lines_of bytes = all_but_last (lines_of bytes)

-- the whole lines of a text: where it has ended, what stands behind the last newline is whole too
abbrev pub whole_lines_of : Bool → List ℕ → List (List ℕ)
whole_lines_of true bytes = lines_of bytes
whole_lines_of false bytes = ended_lines_of bytes

-- lines from the first on that isn't passed over
abbrev pub from_command : List (List ℕ) → List (List ℕ)
from_command [] = []
from_command (line ∷ lines) = if is_passed_over line then from_command lines else line ∷ lines
