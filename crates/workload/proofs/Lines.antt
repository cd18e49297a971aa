-- Lines that are put at the end of a text.
use Rattle.std.proofs.Common.{◌≡◌, ℕ, suc, ◌+◌, ◌-◌, ◌<◌, List, ◌++◌, length, take, get_or, arith, append_assoc}
use Rattle.std.specs.List.{flat_map}
use Rattle.std.proofs.lemmas.Grind.{common_steps, flat_map-append}
use Rattle.workload.specs.Script.{line_from, lines_from, words_line, words_text}

-- the lines of one more item
pub lines_more : {A : Type 0} (lines : A → List (List (List ℕ))) (out : List ℕ) (xs : List A) (i : ℕ) (d : A) → i < length xs
    → (out ++ words_text (flat_map lines (take i xs))) ++ words_text (lines (get_or xs i d)) ≡ out ++ words_text (flat_map lines (take (i + 1) xs))
lines_more lines out xs i d h = grind (arith, common_steps, flat_map-append)

-- a line, and those that are drawn after it
pub lines_left : (n count i state : ℕ) (out : List ℕ) → i < count
    → (out ++ words_line (line_from n state).words) ++ words_text (lines_from n (count - (i + 1)) (line_from n state).after) ≡ out ++ words_text (lines_from n (count - i) state)
lines_left n count i state out h =
    let left : suc (count - (i + 1)) ≡ count - i = omega arith in
    rw (← left) (append_assoc out (words_line (line_from n state).words) _)
