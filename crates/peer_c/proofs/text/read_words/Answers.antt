use Rattle.std.proofs.Common.{sym, subst}
use Rattle.std.proofs.lemmas.List.{take_rest}
use Rattle.script_lang.specs.Memory.{Reads}
use Rattle.peer_c.proofs.Tells.{few_update}
use Rattle.peer_c.proofs.text.read_words.Goals as goal

pub returns-in-len2-up : goal.returns-in-len2-up
returns-in-len2-up c =
    let words = c.args.words.now in
    subst (λ wanted. Reads wanted c.read_update.result) (sym (few_update (λ word. word.now) _ words _ c.in-len2-up.len_at_least (take_rest words 2) c.if-arguments-le2.true)) c.read_update.ensures.update
