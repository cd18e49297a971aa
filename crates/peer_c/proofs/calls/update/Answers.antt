use Rattle.std.proofs.Common.{◌∙◌, ap, refl, sym, inr}
use Rattle.script_lang.specs.Fault.{number_of_fault}
use Rattle.peer_c.specs.Tells.{told_fault}
use Rattle.peer_c.proofs.Tells.{only_memory, told_is_fault, number_is_not_done, unsent_update}
use Rattle.peer_c.proofs.calls.update.Goals as goal

pub returns-in-Ok-clause-refused : goal.returns-in-Ok-clause-refused
returns-in-Ok-clause-refused c = λ undone. c.update.ensures.refused (unsent_update c.update.result (λ done. undone (c.tell_update.ensures.told ∙ done)))

pub returns-in-Err-clause-answer : goal.returns-in-Err-clause-answer
returns-in-Err-clause-answer c = λ u is s stands. inr (c.faulty.ensures ∙ ap told_fault (only_memory c.in-Err.fault _ u c.in-Err.ensures is), refl, stands)

pub returns-in-Err-clause-bad_text : goal.returns-in-Err-clause-bad_text
returns-in-Err-clause-bad_text c = λ fault is other. c.faulty.ensures ∙ told_is_fault c.in-Err.fault fault _ c.in-Err.ensures is (λ memory. other (c.faulty.ensures ∙ memory))

pub returns-in-Err-clause-frame : goal.returns-in-Err-clause-frame
returns-in-Err-clause-frame c = λ done. absurd (number_is_not_done (number_of_fault c.in-Err.fault) (sym c.faulty.ensures ∙ done))
