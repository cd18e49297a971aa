use Rattle.std.proofs.Common.{◌≡◌, ◌∙◌, Some, ap, sym}
use Rattle.store_program.specs.declared.words.Request.{Request}
use Rattle.store_program.specs.declared.words.Request.TheVariants.{Make}
use Rattle.store_program.proofs.Ending.{completes, fine_is_fair, completes_asked}
use Rattle.store_program.proofs.LiveEnding.{completes_live}
use Rattle.store_program.proofs.run.run.Goals as goal

pub returns-in-Ok-Some-Script-clause-complete : goal.returns-in-Ok-Some-Script-clause-complete
returns-in-Ok-Some-Script-clause-complete g c = λ input tells good no_reads no_writes.
    completes _ _ _ _ input tells good.short good.header no_reads no_writes c.run_input.result (c.run_input.ensures)

pub returns-in-Ok-Some-Script-clause-fair : goal.returns-in-Ok-Some-Script-clause-fair
returns-in-Ok-Some-Script-clause-fair g c = λ input tells asked plain fine. fine_is_fair c.run_input.result _ _ _ _ input tells c.run_input.ensures plain fine

pub returns-in-Ok-Some-Make-clause-complete_made : goal.returns-in-Ok-Some-Make-clause-complete_made
returns-in-Ok-Some-Make-clause-complete_made g c = λ seed count n w asked steady.
    let made = c.in-Ok-Some-Make in
    let is : made.field-0 ≡ Some (Make made.seed made.count made.n made.w) = made.field-0-is ∙ ap (λ (r : Request). Some r) made.field-0-0-is in
    completes_asked c.run_made.result (Some (Make seed count n w)) (Some (Make made.seed made.count made.n made.w)) _ _ (sym is ∙ (made.ensures.request ∙ asked)) c.run_made.ensures steady

pub returns-in-Ok-Some-Live-clause-complete_live : goal.returns-in-Ok-Some-Live-clause-complete_live
returns-in-Ok-Some-Live-clause-complete_live g c = λ input tells good no_reads no_writes.
    completes_live _ _ _ _ input tells good.short good.header no_reads no_writes c.run_live.result c.run_live.ensures
