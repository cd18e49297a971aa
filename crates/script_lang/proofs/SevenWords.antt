-- What words mean is told by the first seven of them: from seven on they are too many.
use Rattle.std.proofs.Common.{◌≡◌, ℕ, ◌≤◌, false, List, [], ◌∷◌, length, take, refl, sym, ap, ◌∙◌, cond, arith}
use Rattle.std.specs.Prelude.{Option, Some, None, Err, Result, codes, nat_lt}
use Rattle.std.proofs.lemmas.Bool.{cond-false}
use Rattle.std.proofs.lemmas.Bool.Decides.{nat_tests}
use Rattle.op_base.specs.Name.{same_text}
use Rattle.script_lang.specs.Words.{words_of}
use Rattle.script_lang.specs.Headers.{header_words, header_of}
use Rattle.script_lang.specs.Names.{client_digits}
use Rattle.script_lang.specs.Commands.{keyword_of, words_behind, command_words, command_of}
use Rattle.script_lang.specs.LiveCommands.{live_words, live_command_of}
use Rattle.script_lang.specs.LiveCommands as live
use Rattle.script_lang.specs.declared.command.Keyword.{Keyword}
use Rattle.script_lang.specs.declared.command.Keyword.TheVariants.{Do, Ask, Ids, Tombs, Beat, Give, Resend, Raw, Settle, Members, Log, Size, Stable, Seen, Noops, Lags, Stop}
use Rattle.script_lang.specs.declared.fault.Fault.TheVariants as fault
use Rattle.script_lang.specs.declared.header.Mode.{Mode}
use Rattle.script_lang.specs.declared.live.LiveCommand.{LiveCommand}

header_by_seven : (words : List (List ℕ)) → header_words (take 7 words) ≡ header_words words
header_by_seven [] = refl
header_by_seven (a ∷ []) = refl
header_by_seven (a ∷ b ∷ []) = refl
header_by_seven (a ∷ b ∷ c ∷ []) = refl
header_by_seven (a ∷ b ∷ c ∷ d ∷ []) = refl
header_by_seven (a ∷ b ∷ c ∷ d ∷ e ∷ []) = refl
header_by_seven (a ∷ b ∷ c ∷ d ∷ e ∷ f ∷ []) = refl
header_by_seven (a ∷ b ∷ c ∷ d ∷ e ∷ f ∷ g ∷ words) = refl

-- six words and more behind a keyword are too many
too_many : (n : ℕ) (keyword : Option Keyword) (a b c d e f : List ℕ) (words : List (List ℕ))
    → words_behind n keyword (a ∷ b ∷ c ∷ d ∷ e ∷ f ∷ []) ≡ words_behind n keyword (a ∷ b ∷ c ∷ d ∷ e ∷ f ∷ words)
too_many n None a b c d e f words = refl
too_many n (Some Do) a b c d e f words = refl
too_many n (Some Ask) a b c d e f words = refl
too_many n (Some Ids) a b c d e f words = refl
too_many n (Some Tombs) a b c d e f words = refl
too_many n (Some Beat) a b c d e f words = refl
too_many n (Some Give) a b c d e f words = refl
too_many n (Some Resend) a b c d e f words = refl
too_many n (Some Raw) a b c d e f words = refl
too_many n (Some Settle) a b c d e f words = refl
too_many n (Some Members) a b c d e f words = refl
too_many n (Some Log) a b c d e f words = refl
too_many n (Some Size) a b c d e f words = refl
too_many n (Some Stable) a b c d e f words = refl
too_many n (Some Seen) a b c d e f words = refl
too_many n (Some Noops) a b c d e f words = refl
too_many n (Some Lags) a b c d e f words = refl
too_many n (Some Stop) a b c d e f words = refl

command_by_seven : (mode : Mode) (n : ℕ) (words : List (List ℕ)) → command_words mode n (take 7 words) ≡ command_words mode n words
command_by_seven mode n [] = refl
command_by_seven mode n (v ∷ []) = refl
command_by_seven mode n (v ∷ a ∷ []) = refl
command_by_seven mode n (v ∷ a ∷ b ∷ []) = refl
command_by_seven mode n (v ∷ a ∷ b ∷ c ∷ []) = refl
command_by_seven mode n (v ∷ a ∷ b ∷ c ∷ d ∷ []) = refl
command_by_seven mode n (v ∷ a ∷ b ∷ c ∷ d ∷ e ∷ []) = refl
command_by_seven mode n (v ∷ a ∷ b ∷ c ∷ d ∷ e ∷ f ∷ words) = too_many n (keyword_of mode v) a b c d e f words

-- six words and more behind a client's name are too many
too_many_live : (clients : ℕ) (c : Option (List ℕ)) (v a b d e f : List ℕ) (words : List (List ℕ))
    → live.client_words_behind clients c (v ∷ a ∷ b ∷ d ∷ e ∷ f ∷ []) ≡ live.client_words_behind clients c (v ∷ a ∷ b ∷ d ∷ e ∷ f ∷ words)
too_many_live clients None v a b d e f words = refl
too_many_live clients (Some c) v a b d e f words = refl

live_by_seven : (n clients : ℕ) (words : List (List ℕ)) → live_words n clients (take 7 words) ≡ live_words n clients words
live_by_seven n clients [] = refl
live_by_seven n clients (v ∷ []) = refl
live_by_seven n clients (v ∷ a ∷ []) = refl
live_by_seven n clients (v ∷ a ∷ b ∷ []) = refl
live_by_seven n clients (v ∷ a ∷ b ∷ c ∷ []) = refl
live_by_seven n clients (v ∷ a ∷ b ∷ c ∷ d ∷ []) = refl
live_by_seven n clients (v ∷ a ∷ b ∷ c ∷ d ∷ e ∷ []) = refl
live_by_seven n clients (v ∷ a ∷ b ∷ c ∷ d ∷ e ∷ f ∷ words) =
    let none : Result LiveCommand _ = Err fault.Words in
    ap (λ behind. cond (same_text v (codes "client")) none behind) (too_many_live clients (client_digits v) a b c d e f words)

not_long : (line : List ℕ) → length line ≤ 16384 → nat_lt 16384 (length line) ≡ false
not_long line short = grind (arith, nat_tests)

-- a line of at most 16384 bytes is what its first seven words are
pub header_of_line : (line : List ℕ) (words : List (List ℕ)) → length line ≤ 16384 → words ≡ take 7 (words_of line) → header_words words ≡ header_of line
header_of_line line words short first = ap header_words first ∙ header_by_seven (words_of line) ∙ sym (cond-false _ _ _ (not_long line short))

pub command_of_line : (mode : Mode) (n : ℕ) (line : List ℕ) (words : List (List ℕ)) → length line ≤ 16384 → words ≡ take 7 (words_of line) → command_words mode n words ≡ command_of mode n line
command_of_line mode n line words short first = ap (command_words mode n) first ∙ command_by_seven mode n (words_of line) ∙ sym (cond-false _ _ _ (not_long line short))

pub live_command_of_line : (n clients : ℕ) (line : List ℕ) (words : List (List ℕ)) → length line ≤ 16384 → words ≡ take 7 (words_of line)
    → live_words n clients words ≡ live_command_of n clients line
live_command_of_line n clients line words short first =
    ap (live_words n clients) first ∙ live_by_seven n clients (words_of line) ∙ sym (cond-false _ _ _ (not_long line short))
