-- Lemmas on the words of a run.
use Rattle.std.proofs.Common.{◌≡◌, ◌∙◌, true, refl, ap, List}
use Rattle.clap.specs.Words.{Row, Text, first_of, first_value, rows_of, is_simple, is_simple_and_free}
use Rattle.clap.specs.declared.parser.matches.Found.{Found}
use Rattle.clap.proofs.OnLiterals.{clap_on_literals}
use Rattle.clap.proofs.WalkLemmas.{first_value-rows}
use Rattle.store_program.specs.Words.{store_app, asked_for}

pub command_is_simple : is_simple store_app ≡ true
unfolding clap_on_literals
command_is_simple = refl

pub command_is_free : is_simple_and_free store_app ≡ true
unfolding clap_on_literals
command_is_free = refl

-- what matches say is what their rows say
pub said_by_rows : (f : Found) (rows : List Row) → rows_of f ≡ rows → asked_for (first_value f) ≡ asked_for (λ name. first_of name rows)
said_by_rows f rows e = λ i. asked_for (λ (name : Text). (first_value-rows f name ∙ ap (λ (rows : List Row). first_of name rows) e) i)
