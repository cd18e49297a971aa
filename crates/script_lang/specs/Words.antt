-- The words of a line.
use Rattle.std.specs.Prelude.{◌≡◌, ℕ, Bool, true, false, ◌||◌, ◌==◌, List, [], ◌∷◌, slice_index}
use Rattle.std.specs.List.{slice_split, filter}

-- a space or a tab, which part words
abbrev pub is_blank : ℕ → Bool
is_blank b = b == 32 || b == 9

-- whether a word has a byte
abbrev pub has_byte : List ℕ → Bool
has_byte [] = false
has_byte (b ∷ bs) = true

-- the words of a line: the runs of bytes between blanks
abbrev pub words_of : List ℕ → List (List ℕ)
words_of line = filter has_byte (slice_split is_blank line)

-- whether a line of these words is passed over: there is none, or the first begins with #
abbrev pub are_passed_over : List (List ℕ) → Bool
are_passed_over [] = true
are_passed_over (word ∷ words) = slice_index word 0 == 35

abbrev pub is_passed_over : List ℕ → Bool
is_passed_over line = are_passed_over (words_of line)

-- a line has no byte, or its first isn't blank
abbrev pub IsNotBlank : List ℕ → Type 0
IsNotBlank [] = Unit {0}
IsNotBlank (b ∷ bs) = is_blank b ≡ false
