use Rattle.std.proofs.Common.{ap, map, subst, ◌∙◌}
use Rattle.script_lang.specs.Memory.{Reads}
use Rattle.script_lang.specs.Words.{words_of}
use Rattle.peer_c.specs.Tells.{words_update}
use Rattle.peer_c.proofs.Tells.{update_by_seven}
use Rattle.peer_c.proofs.text.read_text.Goals as goal

pub returns : goal.returns
returns c =
    subst (λ wanted. Reads wanted c.read_words.result) (ap words_update (ap (map (λ word. word.now)) c.as_slice.ensures ∙ c.split.ensures) ∙ update_by_seven (words_of c.args.text.now)) c.read_words.ensures
