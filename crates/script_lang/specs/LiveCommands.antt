-- The commands of a live input.
use Rattle.std.specs.Prelude.{◌≡◌, ◌⊎◌, ℕ, nat_lt, List, [], ◌∷◌, length, Result, Ok, Err, Option, Some, None, codes, if◌then◌else◌}
use Rattle.op_base.specs.Name.{same_text}
use Rattle.script_lang.specs.Words.{words_of, is_passed_over}
use Rattle.script_lang.specs.Fault.{◌>>=◌, most_line_bytes, number_of_fault}
use Rattle.script_lang.specs.Names.{member_of, object_in, client_digits}
use Rattle.script_lang.specs.Acts.{are_few, update_in}
use Rattle.script_lang.specs.declared.fault.Fault.{Fault}
use Rattle.script_lang.specs.declared.fault.Fault.TheVariants as fault
use Rattle.script_lang.specs.declared.live.LiveCommand.{LiveCommand}
use Rattle.script_lang.specs.declared.live.LiveCommand.TheVariants.{Client, Do, Ask}
use Rattle.script_lang.specs.Lines.{run_or_bad}
use Rattle.script_lang.specs.declared.line.LineOf.{LineOf}
use Rattle.script_lang.specs.declared.line.LineOf.TheVariants.{Skip}

abbrev pub client_command : ℕ → ℕ → List ℕ → List ℕ → Result LiveCommand Fault
client_command n clients c r = member_of clients c >>= λ c. member_of n r >>= λ r. Ok (Client c r)

-- the words behind client: c r
abbrev pub client_words : ℕ → ℕ → List (List ℕ) → Result LiveCommand Fault
client_words n clients (c ∷ r ∷ []) = client_command n clients c r
client_words n clients words = Err fault.Words

abbrev pub client_do : ℕ → List ℕ → List ℕ → List ℕ → List (List ℕ) → Result LiveCommand Fault
client_do clients c object operation arguments =
    member_of clients c >>= λ c. update_in object operation arguments >>= λ update. Ok (Do c update)

-- the words behind a client's do: object operation, and at most two arguments
abbrev pub client_do_words : ℕ → List ℕ → List (List ℕ) → Result LiveCommand Fault
client_do_words clients c (object ∷ operation ∷ arguments) =
    if are_few arguments then client_do clients c object operation arguments else Err fault.Words
client_do_words clients c words = Err fault.Words

abbrev pub client_ask : ℕ → List ℕ → List ℕ → Result LiveCommand Fault
client_ask clients c object = member_of clients c >>= λ c. object_in object >>= λ object. Ok (Ask c object)

-- the words behind a client's ask: object
abbrev pub client_ask_words : ℕ → List ℕ → List (List ℕ) → Result LiveCommand Fault
client_ask_words clients c (object ∷ []) = client_ask clients c object
client_ask_words clients c words = Err fault.Words

-- the words behind a client's digits and colon
abbrev pub named_words : ℕ → List ℕ → List (List ℕ) → Result LiveCommand Fault
named_words clients c [] = Err fault.Words
named_words clients c (keyword ∷ words) =
    if same_text keyword (codes "do") then client_do_words clients c words
    else if same_text keyword (codes "ask") then client_ask_words clients c words
    else Err fault.Keyword

-- the words behind a word that may be a client's digits and a colon
abbrev pub client_words_behind : ℕ → Option (List ℕ) → List (List ℕ) → Result LiveCommand Fault
client_words_behind clients None words = Err fault.Keyword
client_words_behind clients (Some c) words = named_words clients c words

-- the command that words are, with n members and so many clients
abbrev pub live_words : ℕ → ℕ → List (List ℕ) → Result LiveCommand Fault
live_words n clients [] = Err fault.Keyword
live_words n clients (first ∷ words) =
    if same_text first (codes "client") then client_words n clients words
    else client_words_behind clients (client_digits first) words

-- the command that a line is
abbrev pub live_command_of : ℕ → ℕ → List ℕ → Result LiveCommand Fault
live_command_of n clients line =
    if nat_lt most_line_bytes (length line) then Err fault.TooLong else live_words n clients (words_of line)

-- what a line of a live input is, with n members and so many clients
abbrev pub live_line_of : ℕ → ℕ → List ℕ → LineOf LiveCommand
live_line_of n clients line = if is_passed_over line then Skip else run_or_bad (live_command_of n clients line)
