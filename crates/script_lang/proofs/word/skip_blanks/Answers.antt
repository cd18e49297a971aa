use Rattle.std.proofs.Common.{not}
use Rattle.std.proofs.lemmas.List.{take_rest}
use Rattle.script_lang.specs.Words.{is_blank}
use Rattle.script_lang.proofs.Places.{place_or_end}
use Rattle.script_lang.proofs.WordLemmas.{words-start, begins-start}
use Rattle.script_lang.proofs.word.skip_blanks.Goals as goal

pub returns-clause-words : goal.returns-clause-words
returns-clause-words c =
    let e = place_or_end (λ b. not (is_blank b)) c.args.line.now c.unwrap_or.result cc in
    rw (take_rest, e) (words-start c.args.line.now)

pub returns-clause-begins : goal.returns-clause-begins
returns-clause-begins c =
    let e = place_or_end (λ b. not (is_blank b)) c.args.line.now c.unwrap_or.result cc in
    rw (take_rest, e) (begins-start c.args.line.now)
