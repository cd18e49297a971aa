-- The made script of a seed, a count of lines, a number of members and a window.
use Rattle.std.specs.Prelude.{ℕ, zero, suc, ◌+◌, nat_lt, ◌==◌, List, [], ◌∷◌, ◌++◌, codes, slice_index_or, if◌then◌else◌}
use Rattle.std.specs.List.{flat_map}
use Rattle.std.specs.Fmt.{decimal}
use Rattle.op_base.specs.Name.{kind_word}
use Rattle.op_base.specs.declared.name.Kind.{Kind}
use Rattle.op_base.specs.declared.name.Kind.TheVariants.{AwSet, RwSet, EwFlag, DwFlag, MvReg, Counter, RCounter}
use Rattle.op_base.specs.declared.verb.Argument.{Argument}
use Rattle.op_base.specs.declared.verb.Argument.TheVariants.{Value, Amount}
use Rattle.op_base.specs.declared.verb.Verb.{Verb}
use Rattle.op_base.specs.Verb.{verb_word, argument_of, operation_of}
use Rattle.script_lang.specs.Replies.{joined}
use Rattle.workload.specs.Draws.{draws_after, drawn}

-- ---- kinds and objects

-- the kinds that scripts are made of, in their order: all but lists
abbrev pub drawn_kinds : List Kind
drawn_kinds = AwSet ∷ RwSet ∷ EwFlag ∷ DwFlag ∷ MvReg ∷ Counter ∷ RCounter ∷ []

-- these kinds by number, from 0
abbrev pub kind_at : ℕ → Kind
kind_at place = slice_index_or drawn_kinds place AwSet

-- the object of a kind with the key k0 or k1
abbrev pub object_word : Kind → ℕ → List ℕ
object_word kind key = kind_word kind ++ codes ":k" ++ decimal key

-- ---- the lines that are drawn: the first draw gives the replica r, the second the kind of line

-- a made line: its words, and the state after it
pub record Made : Type 0 where
  pub words : List (List ℕ)
  pub after : ℕ

-- the argument of an operation, from the state before it: a value v0 to v15, or an amount below 100; none is drawn of lists
abbrev pub argument_words : Argument → ℕ → List (List ℕ)
argument_words Value state = (codes "v" ++ decimal (drawn 1 16 state)) ∷ []
argument_words Amount state = decimal (drawn 1 100 state) ∷ []
argument_words argument state = []

-- the state after it
abbrev pub argument_after : Argument → ℕ → ℕ
argument_after Value state = draws_after 1 state
argument_after Amount state = draws_after 1 state
argument_after argument state = state

-- do: an operation on an object of its kind; the key is drawn, and then the argument
abbrev pub do_operation : Kind × Verb → ℕ → ℕ → Made
do_operation o r state = record {
  words = codes "do" ∷ decimal r ∷ object_word o.0 (drawn 1 2 state) ∷ verb_word o.1
      ∷ argument_words (argument_of o.1) (draws_after 1 state);
  after = argument_after (argument_of o.1) (draws_after 1 state);
}

-- do: the code is drawn, and then the rest
abbrev pub do_line : ℕ → ℕ → Made
do_line r state = do_operation (operation_of (1 + drawn 1 19 state)) r (draws_after 1 state)

-- ask: the kind is drawn, and then the key
abbrev pub ask_line : ℕ → ℕ → Made
ask_line r state = record {
  words = codes "ask" ∷ decimal r ∷ object_word (kind_at (drawn 1 7 state)) (drawn 2 2 state) ∷ [];
  after = draws_after 2 state;
}

-- beat: nothing more is drawn
abbrev pub beat_line : ℕ → ℕ → Made
beat_line r state = record { words = codes "beat" ∷ decimal r ∷ []; after = state }

-- resend: the member whose messages are sent again is drawn
abbrev pub resend_line : ℕ → ℕ → ℕ → Made
resend_line n r state = record {
  words = codes "resend" ∷ decimal r ∷ decimal (drawn 1 n state) ∷ [];
  after = draws_after 1 state;
}

-- give: the member is drawn, and then a number from 1 to 20
abbrev pub give_line : ℕ → ℕ → ℕ → Made
give_line n r state = record {
  words = codes "give" ∷ decimal r ∷ decimal (drawn 1 n state) ∷ decimal (1 + drawn 2 20 state) ∷ [];
  after = draws_after 2 state;
}

-- a line by the kind that was drawn, from 0 to 7
abbrev pub line_of_kind : ℕ → ℕ → ℕ → ℕ → Made
line_of_kind kind n r state =
    if nat_lt kind 4 then do_line r state
    else if kind == 4 then ask_line r state
    else if kind == 5 then beat_line r state
    else if kind == 6 then resend_line n r state
    else give_line n r state

-- the line that a state gives in a store of n members
abbrev pub line_from : ℕ → ℕ → Made
line_from n state = line_of_kind (drawn 2 8 state) n (drawn 1 n state) (draws_after 2 state)

-- so many lines from a state on
abbrev pub lines_from : ℕ → ℕ → ℕ → List (List (List ℕ))
lines_from n zero state = []
lines_from n (suc count) state = (line_from n state).words ∷ lines_from n count (line_from n state).after

-- ---- the script

-- store n w 65535
abbrev pub made_header : ℕ → ℕ → List (List ℕ)
made_header n w = codes "store" ∷ decimal n ∷ decimal w ∷ codes "65535" ∷ []

-- replica 0 is asked for both objects of a kind
abbrev pub questions_of : Kind → List (List (List ℕ))
questions_of kind =
    (codes "ask" ∷ codes "0" ∷ object_word kind 0 ∷ []) ∷ (codes "ask" ∷ codes "0" ∷ object_word kind 1 ∷ []) ∷ []

-- the lines behind those that are drawn: settle, and fourteen questions
abbrev pub closing_lines : List (List (List ℕ))
closing_lines = (codes "settle" ∷ []) ∷ flat_map questions_of drawn_kinds

-- a line: words with one space between them, and a newline
abbrev pub words_line : List (List ℕ) → List ℕ
words_line words = joined words ++ 10 ∷ []

-- the text of lines
abbrev pub words_text : List (List (List ℕ)) → List ℕ
words_text lines = flat_map words_line lines

-- the script: a header, count lines from the seed on, and the closing lines
abbrev pub made_script : (seed count n w : ℕ) → List ℕ
made_script seed count n w = words_text (made_header n w ∷ (lines_from n count seed ++ closing_lines))
