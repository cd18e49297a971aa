use Rattle.std.proofs.Common.{sym, ◌∙◌, rules}
use Rattle.std.proofs.lemmas.List.{take_rest}
use Rattle.script_lang.proofs.Counts.{client_do-other}
use Rattle.script_lang.proofs.live.read_client_do.Goals as goal
use Rattle.script_lang.proofs.live.read_client_do.Goals.{in_default-via-then-words-lt2, in_default-via-in-len2-up+else-are_few}

pub returns-in_default-clause-command : goal.returns-in_default-clause-command
returns-in_default-clause-command c = λ _.
    client_do-other (λ word. word.now) c.args.clients c.args.c.now c.args.words.now (λ some. elim c.in_default.branch [
      | in_default-via-then-words-lt2 w ↦ absurd (search rules)
      | in_default-via-in-len2-up+else-are_few w ↦ sym (rw take_rest at w.are_few.ensures) ∙ w.if-are_few.false
    ])
