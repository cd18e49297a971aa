-- The words of a run, by clap's own definitions.
use Rattle.std.specs.Prelude.{ℕ, ◌≤◌, Bool, List, [], ◌∷◌, true, Option, Some, None, codes, if◌then◌else◌}
use Rattle.op_base.specs.Name.{same_text}
use Rattle.clap.specs.Simple.{App, matches_of, new_app, new_rule, on_top, with_rule}
use Rattle.clap.specs.Walk.{Rule, Text, first_of, is_empty}
use Rattle.clap.specs.Faults.{fault_of}
use Rattle.script_lang.specs.Headers.{◌>>?◌, is_from_to}
use Rattle.script_lang.specs.Numbers.{number_of}
use Rattle.store_program.specs.declared.words.Request.{Request}
use Rattle.store_program.specs.declared.words.Request.TheVariants.{Script, Live, Make}

-- the mode, which has to be there
abbrev pub mode_rule : Rule
mode_rule = record (new_rule (codes "mode")) { required = true }

-- an option with a text, and the text that it has where it isn't there
abbrev pub option_rule : Text → Text → Rule
option_rule name usual = record (new_rule name) { long = Some name; defaults = usual ∷ [] }

-- a command with neither help nor version
abbrev pub bare_app : App
bare_app = on_top (λ s. record s { disable_help_flag = true; disable_version_flag = true }) (new_app (codes "store_program"))

-- the program's command: a mode and four options
abbrev pub store_app : App
store_app =
    with_rule
    (with_rule
    (with_rule
    (with_rule
    (with_rule
    bare_app
    mode_rule)
    (option_rule (codes "seed") (codes "1")))
    (option_rule (codes "count") (codes "1000")))
    (option_rule (codes "members") (codes "3")))
    (option_rule (codes "window") (codes "4"))

-- whether words, of which the first is the program's own name, are words of the command
abbrev pub are_taken : List Text → Bool
are_taken words = is_empty (fault_of store_app words)

-- a number, where it is from the one to the other
abbrev pub kept_from_to : ℕ → ℕ → ℕ → Option ℕ
kept_from_to least most number = if is_from_to least most number then Some number else None

-- the number that an argument's text is, where it is one from the one to the other
abbrev pub number_from_to : ℕ → ℕ → Option Text → Option ℕ
number_from_to least most text = text >>? λ text. number_of text >>? kept_from_to least most

-- the run that a mode asks for, where there is one
abbrev pub request_in : (seed count n w : ℕ) → Text → Option Request
request_in seed count n w mode =
    if same_text mode (codes "script") then Some Script
    else if same_text mode (codes "live") then Some Live
    else if same_text mode (codes "make") then Some (Make seed count n w)
    else None

-- the run that the arguments' texts ask for; the numbers have to be in range in each mode
abbrev pub asked_for : (Text → Option Text) → Option Request
asked_for said =
    number_from_to 0 2147483647 (said (codes "seed")) >>? λ seed.
    number_from_to 0 20000 (said (codes "count")) >>? λ count.
    number_from_to 1 16 (said (codes "members")) >>? λ n.
    number_from_to 1 64 (said (codes "window")) >>? λ w.
    said (codes "mode") >>? request_in seed count n w

-- the run that words ask for: they are taken, and what they say of each argument is in range
abbrev pub request_of : List Text → Option Request
request_of words = if are_taken words then asked_for (λ name. first_of name (matches_of store_app words)) else None

-- a made script is that of a store with a member
abbrev pub HasMembers : Request → Type 0
HasMembers Script = Unit {0}
HasMembers Live = Unit {0}
HasMembers (Make seed count n w) = 1 ≤ n
