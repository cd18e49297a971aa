use Rattle.std.proofs.Common.{map, ap, ◌∙◌, arith, rules}
use Rattle.script_lang.specs.Words.{words_of}
use Rattle.std.proofs.lemmas.Bool.Decides.{nat_tests}
use Rattle.workload.proofs.Views.{word_found, word_past}
use Rattle.workload.proofs.summary.word_at.Goals as goal

pub returns-in-Some : goal.returns-in-Some
returns-in-Some c =
    word_found (λ word. word.now) c.as_slice.result.now (words_of c.args.line.now) c.args.place c.in-Some.word.now
    (ap (map (λ word. word.now)) c.as_slice.ensures ∙ c.split.ensures) c.requires (grind (arith, nat_tests)) (search rules)

pub returns-in-None : goal.returns-in-None
returns-in-None c =
    word_past (λ word. word.now) c.as_slice.result.now (words_of c.args.line.now) c.args.place
    (ap (map (λ word. word.now)) c.as_slice.ensures ∙ c.split.ensures) c.requires (grind (arith, nat_tests))
