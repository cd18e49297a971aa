-- The commands of a script. Each `..._words` is the command of the words behind its first.
use Rattle.std.specs.Prelude.{◌≡◌, ◌⊎◌, ℕ, Bool, true, false, nat_lt, List, [], ◌∷◌, length, Result, Ok, Err, Option, Some, None, codes, if◌then◌else◌}
use Rattle.std.specs.List.{find}
use Rattle.std.specs.Option.{option_or}
use Rattle.op_base.specs.Name.{same_text}
use Rattle.op_base.specs.declared.name.ObjectId.{ObjectId}
use Rattle.script_lang.specs.Words.{words_of, is_passed_over}
use Rattle.script_lang.specs.Fault.{◌>>=◌, most_line_bytes, number_of_fault}
use Rattle.script_lang.specs.Names.{member_of, object_in, list_in, bytes_in, amount_in, size_in}
use Rattle.script_lang.specs.Acts.{are_few, update_in}
use Rattle.script_lang.specs.declared.fault.Fault.{Fault}
use Rattle.script_lang.specs.declared.fault.Fault.TheVariants as fault
use Rattle.script_lang.specs.declared.command.Command.{Command}
use Rattle.script_lang.specs.declared.command.Command.TheVariants.{Do, Ask, Ids, Tombs, Beat, Give, Resend, Raw, Settle, Members, Log, Size, Stable, Seen, Noops, Lags, Stop}
use Rattle.script_lang.specs.declared.command.Keyword.{Keyword}
use Rattle.script_lang.specs.declared.command.Keyword.TheVariants as keywords
use Rattle.script_lang.specs.Lines.{run_or_bad}
use Rattle.script_lang.specs.declared.line.LineOf.{LineOf}
use Rattle.script_lang.specs.declared.line.LineOf.TheVariants.{Skip}
use Rattle.script_lang.specs.declared.header.Mode.{Mode}
use Rattle.script_lang.specs.declared.header.Mode.TheVariants as mode

abbrev pub do_command : ℕ → List ℕ → List ℕ → List ℕ → List (List ℕ) → Result Command Fault
do_command n r object operation arguments =
    member_of n r >>= λ r. update_in object operation arguments >>= λ update. Ok (Do r update)

-- r object operation, and at most two arguments
abbrev pub do_words : ℕ → List (List ℕ) → Result Command Fault
do_words n (r ∷ object ∷ operation ∷ arguments) =
    if are_few arguments then do_command n r object operation arguments else Err fault.Words
do_words n words = Err fault.Words

abbrev pub ask_command : ℕ → List ℕ → List ℕ → Result Command Fault
ask_command n r object = member_of n r >>= λ r. object_in object >>= λ object. Ok (Ask r object)

-- r object
abbrev pub ask_words : ℕ → List (List ℕ) → Result Command Fault
ask_words n (r ∷ object ∷ []) = ask_command n r object
ask_words n words = Err fault.Words

-- a member, and a list that it is asked of
abbrev pub asked_list : ℕ → List ℕ → List ℕ → Result (ℕ × ObjectId) Fault
asked_list n r list = member_of n r >>= λ r. list_in list >>= λ object. Ok (r, object)

-- r list, and nothing behind it
abbrev pub lone_list : ℕ → List (List ℕ) → Result (ℕ × ObjectId) Fault
lone_list n (r ∷ list ∷ []) = asked_list n r list
lone_list n words = Err fault.Words

abbrev pub give_command : ℕ → List ℕ → List ℕ → List ℕ → Result Command Fault
give_command n r k s = member_of n r >>= λ r. member_of n k >>= λ k. amount_in s >>= λ s. Ok (Give r k s)

-- r k s
abbrev pub give_words : ℕ → List (List ℕ) → Result Command Fault
give_words n (r ∷ k ∷ s ∷ []) = give_command n r k s
give_words n words = Err fault.Words

abbrev pub resend_command : ℕ → List ℕ → List ℕ → Result Command Fault
resend_command n r k = member_of n r >>= λ r. member_of n k >>= λ k. Ok (Resend r k)

-- r k
abbrev pub resend_words : ℕ → List (List ℕ) → Result Command Fault
resend_words n (r ∷ k ∷ []) = resend_command n r k
resend_words n words = Err fault.Words

abbrev pub raw_command : ℕ → List ℕ → List ℕ → Result Command Fault
raw_command n r hex = member_of n r >>= λ r. bytes_in hex >>= λ bytes. Ok (Raw r bytes)

-- r hexadecimal
abbrev pub raw_words : ℕ → List (List ℕ) → Result Command Fault
raw_words n (r ∷ hex ∷ []) = raw_command n r hex
raw_words n words = Err fault.Words

-- nothing
abbrev pub settle_words : List (List ℕ) → Result Command Fault
settle_words [] = Ok Settle
settle_words words = Err fault.Words

-- m
abbrev pub members_words : List (List ℕ) → Result Command Fault
members_words (m ∷ []) = size_in m >>= λ n. Ok (Members n)
members_words words = Err fault.Words

abbrev pub stop_command : ℕ → List ℕ → List ℕ → Result Command Fault
stop_command n r b = member_of n r >>= λ r. amount_in b >>= λ b. Ok (Stop r b)

-- r b
abbrev pub stop_words : ℕ → List (List ℕ) → Result Command Fault
stop_words n (r ∷ b ∷ []) = stop_command n r b
stop_words n words = Err fault.Words

-- r, and nothing behind it
abbrev pub lone_member : ℕ → List (List ℕ) → Result ℕ Fault
lone_member n (r ∷ []) = member_of n r
lone_member n words = Err fault.Words

-- whether a keyword has a member behind it and nothing else
abbrev pub has_lone_member : Keyword → Bool
has_lone_member keywords.Do = false
has_lone_member keywords.Ask = false
has_lone_member keywords.Ids = false
has_lone_member keywords.Tombs = false
has_lone_member keywords.Beat = true
has_lone_member keywords.Give = false
has_lone_member keywords.Resend = false
has_lone_member keywords.Raw = false
has_lone_member keywords.Settle = false
has_lone_member keywords.Members = false
has_lone_member keywords.Log = true
has_lone_member keywords.Size = true
has_lone_member keywords.Stable = true
has_lone_member keywords.Seen = true
has_lone_member keywords.Noops = true
has_lone_member keywords.Lags = true
has_lone_member keywords.Stop = false

-- the word of a keyword
abbrev pub keyword_word : Keyword → List ℕ
keyword_word keywords.Do = codes "do"
keyword_word keywords.Ask = codes "ask"
keyword_word keywords.Ids = codes "ids"
keyword_word keywords.Tombs = codes "tombs"
keyword_word keywords.Beat = codes "beat"
keyword_word keywords.Give = codes "give"
keyword_word keywords.Resend = codes "resend"
keyword_word keywords.Raw = codes "raw"
keyword_word keywords.Settle = codes "settle"
keyword_word keywords.Members = codes "members"
keyword_word keywords.Log = codes "log"
keyword_word keywords.Size = codes "size"
keyword_word keywords.Stable = codes "stable"
keyword_word keywords.Seen = codes "seen"
keyword_word keywords.Noops = codes "noops"
keyword_word keywords.Lags = codes "lags"
keyword_word keywords.Stop = codes "stop"

-- the keywords of what changes a replica, and of what is asked of one
abbrev pub doing_keywords : List Keyword
doing_keywords = keywords.Do ∷ keywords.Beat ∷ keywords.Give ∷ keywords.Resend ∷ keywords.Raw ∷ keywords.Settle ∷ keywords.Members ∷ keywords.Stop ∷ []

abbrev pub asking_keywords : List Keyword
asking_keywords = keywords.Ask ∷ keywords.Ids ∷ keywords.Tombs ∷ keywords.Log ∷ keywords.Size ∷ keywords.Stable ∷ keywords.Seen ∷ keywords.Noops ∷ keywords.Lags ∷ []

-- the keyword of a list whose word this is
abbrev pub keyword_among : List Keyword → List ℕ → Option Keyword
keyword_among keywords word = find (λ keyword. same_text (keyword_word keyword) word) keywords

-- the keyword whose word this is
abbrev pub keyword_named : List ℕ → Option Keyword
keyword_named word = option_or (keyword_among doing_keywords word) (keyword_among asking_keywords word)

-- Whether scripts of a mode have a keyword. Where replicas can be stopped, nothing is resent, offered as bytes, settled or asked of
-- no-ops, nor do the members change.
abbrev pub has_keyword : Mode → Keyword → Bool
has_keyword mode.Store keywords.Stop = false
has_keyword mode.Store keyword = true
has_keyword mode.Keep keywords.Resend = false
has_keyword mode.Keep keywords.Raw = false
has_keyword mode.Keep keywords.Settle = false
has_keyword mode.Keep keywords.Members = false
has_keyword mode.Keep keywords.Noops = false
has_keyword mode.Keep keywords.Lags = false
has_keyword mode.Keep keyword = true

-- a keyword that scripts of a mode have
abbrev pub keyword_in : Mode → Option Keyword → Option Keyword
keyword_in mode None = None
keyword_in mode (Some keyword) = if has_keyword mode keyword then Some keyword else None

-- the keyword of a mode whose word this is
abbrev pub keyword_of : Mode → List ℕ → Option Keyword
keyword_of mode word = keyword_in mode (keyword_named word)

-- the command of a keyword and the words behind it, at one of n members
abbrev pub keyword_words : ℕ → Keyword → List (List ℕ) → Result Command Fault
keyword_words n keywords.Do words = do_words n words
keyword_words n keywords.Ask words = ask_words n words
keyword_words n keywords.Ids words = lone_list n words >>= λ asked. Ok (Ids asked.0 asked.1)
keyword_words n keywords.Tombs words = lone_list n words >>= λ asked. Ok (Tombs asked.0 asked.1)
keyword_words n keywords.Beat words = lone_member n words >>= λ r. Ok (Beat r)
keyword_words n keywords.Give words = give_words n words
keyword_words n keywords.Resend words = resend_words n words
keyword_words n keywords.Raw words = raw_words n words
keyword_words n keywords.Settle words = settle_words words
keyword_words n keywords.Members words = members_words words
keyword_words n keywords.Log words = lone_member n words >>= λ r. Ok (Log r)
keyword_words n keywords.Size words = lone_member n words >>= λ r. Ok (Size r)
keyword_words n keywords.Stable words = lone_member n words >>= λ r. Ok (Stable r)
keyword_words n keywords.Seen words = lone_member n words >>= λ r. Ok (Seen r)
keyword_words n keywords.Noops words = lone_member n words >>= λ r. Ok (Noops r)
keyword_words n keywords.Lags words = lone_member n words >>= λ r. Ok (Lags r)
keyword_words n keywords.Stop words = stop_words n words

-- the command of the words behind a first word
abbrev pub words_behind : ℕ → Option Keyword → List (List ℕ) → Result Command Fault
words_behind n None words = Err fault.Keyword
words_behind n (Some keyword) words = keyword_words n keyword words

-- the command that words are in a script of a mode, at one of n members
abbrev pub command_words : Mode → ℕ → List (List ℕ) → Result Command Fault
command_words mode n [] = Err fault.Keyword
command_words mode n (keyword ∷ words) = words_behind n (keyword_of mode keyword) words

-- the command that a line is
abbrev pub command_of : Mode → ℕ → List ℕ → Result Command Fault
command_of mode n line = if nat_lt most_line_bytes (length line) then Err fault.TooLong else command_words mode n (words_of line)

-- what a line of a script of a mode is, in a store of n members
abbrev pub line_in : Mode → ℕ → List ℕ → LineOf Command
line_in mode n line = if is_passed_over line then Skip else run_or_bad (command_of mode n line)

-- behind a header store, and behind a header keep
abbrev pub line_of : ℕ → List ℕ → LineOf Command
line_of n line = line_in mode.Store n line

abbrev pub keep_line_of : ℕ → List ℕ → LineOf Command
keep_line_of n line = line_in mode.Keep n line
