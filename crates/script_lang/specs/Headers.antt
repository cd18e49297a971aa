-- The headers of scripts and live inputs.
use Rattle.std.specs.Prelude.{ℕ, Bool, ◌&&◌, nat_lt, nat_le, List, [], ◌∷◌, length, Option, Some, None, codes, if◌then◌else◌}
use Rattle.std.specs.Option.{option_and_then}
use Rattle.op_base.specs.Name.{same_text}
use Rattle.script_lang.specs.Words.{words_of}
use Rattle.script_lang.specs.Numbers.{number_of}
use Rattle.script_lang.specs.Fault.{most_line_bytes}
use Rattle.script_lang.specs.declared.header.Header.{Header}
use Rattle.script_lang.specs.declared.header.Header.TheVariants.{Store, Keep, Live}
use Rattle.script_lang.specs.declared.header.Mode.{Mode}
use Rattle.script_lang.specs.declared.header.Mode.TheVariants as mode

infixl 10 ◌>>?◌
abbrev pub ◌>>?◌ : {A B : Type 0} → Option A → (A → Option B) → Option B
o >>? f = option_and_then f o

-- how many messages a member may send where the header doesn't say
abbrev pub usual_limit : ℕ
usual_limit = 10000

-- whether a number is from the one to the other
abbrev pub is_from_to : ℕ → ℕ → ℕ → Bool
is_from_to least most x = nat_le least x && nat_le x most

-- whether the numbers of a header are in range
abbrev pub are_in_range : ℕ → ℕ → ℕ → Bool
are_in_range n w limit = is_from_to 1 16 n && is_from_to 1 64 w && is_from_to 1 1000000 limit

abbrev pub is_in_range : Header → Bool
is_in_range (Store n w limit) = are_in_range n w limit
is_in_range (Keep n w limit) = are_in_range n w limit
is_in_range (Live n w clients turns loss) =
    is_from_to 1 16 n && is_from_to 1 64 w && is_from_to 1 8 clients && nat_le turns 10000 && nat_le loss 1000000

-- a header where it is in range
abbrev pub in_range : Header → Option Header
in_range header = if is_in_range header then Some header else None

-- the header of a script of a mode
abbrev pub script_header : Mode → ℕ → ℕ → ℕ → Header
script_header mode.Store n w limit = Store n w limit
script_header mode.Keep n w limit = Keep n w limit

-- the header of the numbers behind a mode's word: n w, or n w limit
abbrev pub sized_header : Mode → List (List ℕ) → Option Header
sized_header mode (n ∷ w ∷ []) = number_of n >>? λ n. number_of w >>? λ w. in_range (script_header mode n w usual_limit)
sized_header mode (n ∷ w ∷ limit ∷ []) =
    number_of n >>? λ n. number_of w >>? λ w. number_of limit >>? λ limit. in_range (script_header mode n w limit)
sized_header mode words = None

-- the header of the numbers behind live: n w clients turns loss
abbrev pub live_header : List (List ℕ) → Option Header
live_header (n ∷ w ∷ clients ∷ turns ∷ loss ∷ []) =
    number_of n >>? λ n. number_of w >>? λ w. number_of clients >>? λ clients. number_of turns >>? λ turns.
    number_of loss >>? λ loss. in_range (Live n w clients turns loss)
live_header words = None

-- the header that words are
abbrev pub header_words : List (List ℕ) → Option Header
header_words [] = None
header_words (keyword ∷ words) =
    if same_text keyword (codes "store") then sized_header mode.Store words
    else if same_text keyword (codes "keep") then sized_header mode.Keep words
    else if same_text keyword (codes "live") then live_header words
    else None

-- the header that a line is
abbrev pub header_of : List ℕ → Option Header
header_of line = if nat_lt most_line_bytes (length line) then None else header_words (words_of line)
