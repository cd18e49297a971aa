use Rattle.std.proofs.Common.{arith, ap, map, ◌∙◌}
use Rattle.script_lang.proofs.SevenWords.{header_of_line}
use Rattle.script_lang.proofs.header.read_header.Goals as goal

pub returns-clause-header : goal.returns-clause-header
returns-clause-header c =
    let first = ap (map (λ word. word.now)) c.as_slice.ensures ∙ c.split.ensures in
    c.header_words.ensures.header ∙ header_of_line c.args.line.now _ (omega arith) first
