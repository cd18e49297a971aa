use Rattle.std.proofs.Common.{sym, ◌∙◌, arith}
use Rattle.script_lang.proofs.WordLemmas.{words-first}
use Rattle.script_lang.proofs.word.next_word.Goals as goal

pub returns-clause-words : goal.returns-clause-words
returns-clause-words c =
    let line = c.skip_blanks-line.result.now in
    rw (c.split_at.ensures.front, c.split_at.ensures.back, c.first_blank.ensures.place)
    (sym c.skip_blanks-line.ensures.words ∙ words-first line (grind arith) c.skip_blanks-line.ensures.begins)
