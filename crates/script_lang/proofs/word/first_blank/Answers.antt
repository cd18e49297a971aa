use Rattle.std.proofs.Common.{sym, ◌∙◌}
use Rattle.script_lang.specs.Words.{is_blank}
use Rattle.script_lang.proofs.Places.{place_found}
use Rattle.script_lang.proofs.word.first_blank.Goals as goal

pub returns-clause-place : goal.returns-clause-place
returns-clause-place c = c.unwrap_or.ensures ∙ sym (place_found is_blank c.args.line.now c.memchr2.result c.memchr2.ensures)
