-- The summary of a script and its transcript.
use Rattle.std.specs.Prelude.{ℕ, ◌-◌, ◌==◌, List, [], ◌∷◌, ◌++◌, length, map, fold, take, drop, codes, slice_index_or}
use Rattle.std.specs.List.{slice_split, flat_map, count_by, zip}
use Rattle.std.specs.Fmt.{decimal}
use Rattle.op_base.specs.Name.{same_text}
use Rattle.causal_model.specs.Query.{put_value}
use Rattle.script_lang.specs.Replies.{joined}
use Rattle.script_lang.specs.Words.{words_of}

-- the lines of a text that a newline ends, without it
abbrev pub cut_lines : List ℕ → List (List ℕ)
cut_lines text = take (length (slice_split (λ b. b == 10) text) - 1) (slice_split (λ b. b == 10) text)

-- the text of lines, each ended by a newline
abbrev pub ended : List (List ℕ) → List ℕ
ended lines = flat_map (λ line. line ++ 10 ∷ []) lines

-- a word of a line, counted from 0, or nothing where there are fewer
abbrev pub word_at : ℕ → List ℕ → List ℕ
word_at place line = slice_index_or (words_of line) place []

-- words in byte order, each once
abbrev pub in_byte_order : List (List ℕ) → List (List ℕ)
in_byte_order words = fold (λ sorted word. put_value word sorted) [] words

-- how often a word comes
abbrev pub times : List (List ℕ) → List ℕ → ℕ
times words word = count_by (same_text word) words

-- each of the words in byte order, and how often it comes
abbrev pub counts_of : List (List ℕ) → List (List ℕ × ℕ)
counts_of words = map (λ word. (word, times words word)) (in_byte_order words)

-- a word, a space and a number
abbrev pub count_line : List ℕ × ℕ → List ℕ
count_line counted = joined (counted.0 ∷ decimal counted.1 ∷ [])

-- the last fourteen lines
abbrev pub last_lines : List (List ℕ) → List (List ℕ)
last_lines lines = drop (length lines - 14) lines

-- the object of a question, which is its third word, and the reply to it
abbrev pub told_reply : List ℕ × List ℕ → List ℕ
told_reply asked = word_at 2 asked.0 ++ 32 ∷ asked.1

-- the summary of a script's lines and their replies: how many replies there are, how often each first word comes, and the
-- last fourteen lines and replies, paired in order
abbrev pub summary_lines : List (List ℕ) → List (List ℕ) → List (List ℕ)
summary_lines lines replies =
    count_line (codes "lines", length replies)
    ∷ (map count_line (counts_of (map (word_at 0) replies)) ++ map told_reply (zip (last_lines lines) (last_lines replies)))

-- the summary of a script and its transcript, each line ended by a newline
abbrev pub summary : List ℕ → List ℕ → List ℕ
summary script transcript = ended (summary_lines (cut_lines script) (cut_lines transcript))
