-- The lines of a script from its first command line on, and lines that lack a header.
use Rattle.std.proofs.Common.{◌≡◌, ℕ, Bool, true, false, cond, Some, None, Option, List, [], ◌∷◌, ◌++◌, refl, ap}
use Rattle.std.specs.Prelude.{is_none}
use Rattle.script_lang.specs.Words.{is_passed_over}
use Rattle.script_lang.specs.Headers.{header_of}
use Rattle.script_lang.specs.declared.header.Header.{Header}
use Rattle.script_net.specs.Lines.{from_command}
use Rattle.script_net.specs.Transcript.{AnyPlain, opened, is_no_script, lacks_header, replies_behind, transcript_from, transcript_of}

-- where lines are all passed over, those behind them begin
pub from_command-none : (done more : List (List ℕ)) → from_command done ≡ [] → from_command (done ++ more) ≡ from_command more
from_command-none [] more = λ e. refl
from_command-none (x ∷ xs) more = elim (is_passed_over x) as (λ v. cond v (from_command xs) (x ∷ xs) ≡ [] → cond v (from_command (xs ++ more)) (x ∷ (xs ++ more)) ≡ from_command more) [
  | true ↦ from_command-none xs more
  | false ↦ λ e. absurd cc
]

-- where lines have a first command line, more lines stand behind it
pub from_command-more : (done more : List (List ℕ)) (header : List ℕ) (behind : List (List ℕ)) → from_command done ≡ header ∷ behind → from_command (done ++ more) ≡ header ∷ (behind ++ more)
from_command-more [] more header behind = λ e. absurd cc
from_command-more (x ∷ xs) more header behind = elim (is_passed_over x) as (λ v. cond v (from_command xs) (x ∷ xs) ≡ header ∷ behind → cond v (from_command (xs ++ more)) (x ∷ (xs ++ more)) ≡ header ∷ (behind ++ more)) [
  | true ↦ from_command-more xs more header behind
  | false ↦ λ e. ap (λ (zs : List (List ℕ)). zs ++ more) e
]

pub from_command-passed : (line : List ℕ) → is_passed_over line ≡ true → from_command (line ∷ []) ≡ []
from_command-passed line passed = rw passed refl

pub from_command-first : (line : List ℕ) → is_passed_over line ≡ false → from_command (line ∷ []) ≡ line ∷ []
from_command-first line passed = rw passed refl

-- lines that have no header have none with more lines behind them
pub lacks_more : (is_none_of : Option Header → Bool) (ended : Bool) (done more : List (List ℕ)) → lacks_header is_none_of false (from_command done) ≡ true
    → lacks_header is_none_of ended (from_command (done ++ more)) ≡ true
lacks_more is_none_of ended [] more = λ e. absurd cc
lacks_more is_none_of ended (x ∷ xs) more = elim (is_passed_over x) as (λ v. lacks_header is_none_of false (cond v (from_command xs) (x ∷ xs)) ≡ true
    → lacks_header is_none_of ended (cond v (from_command (xs ++ more)) (x ∷ (xs ++ more))) ≡ true) [
      | true ↦ lacks_more is_none_of ended xs more
      | false ↦ λ e. e
    ]

no_replies : (o : Option AnyPlain) (lines : List (List ℕ)) → is_none o ≡ true → replies_behind o lines ≡ []
no_replies None lines e = refl
no_replies (Some world) lines e = absurd cc

-- and no reply was made before they had none
pub lacks_silent : (done more : List (List ℕ)) → lacks_header is_no_script false (from_command (done ++ more)) ≡ true → transcript_of done ≡ []
lacks_silent [] more = λ e. refl
lacks_silent (x ∷ xs) more = elim (is_passed_over x) as (λ v. lacks_header is_no_script false (cond v (from_command (xs ++ more)) (x ∷ (xs ++ more))) ≡ true → transcript_from (cond v (from_command xs) (x ∷ xs)) ≡ []) [
  | true ↦ lacks_silent xs more
  | false ↦ λ e. no_replies (opened (header_of x)) xs e
]
