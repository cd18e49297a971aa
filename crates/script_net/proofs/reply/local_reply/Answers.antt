use Rattle.std.proofs.Common.{Err, refl, sym, ◌∙◌}
use Rattle.world.specs.declared.brief.Brief.TheVariants as told
use Rattle.script_net.proofs.Briefs.{replied_by_id}
use Rattle.script_net.proofs.reply.local_reply.Goals as goal

pub returns-in-Sent-clause-told : goal.returns-in-Sent-clause-told
returns-in-Sent-clause-told c = λ made e. replied_by_id (told.Sent c.in-Sent.id) _ refl made (sym c.in-Sent.is ∙ e)

pub returns-in-Busy-clause-told : goal.returns-in-Busy-clause-told
returns-in-Busy-clause-told c = λ made e. replied_by_id told.Busy _ refl made (sym c.in-Busy.is ∙ e)

pub returns-in-End-clause-told : goal.returns-in-End-clause-told
returns-in-End-clause-told c = λ made e. replied_by_id told.End _ refl made (sym c.in-End.is ∙ e)

pub returns-in-NoMemory-clause-told : goal.returns-in-NoMemory-clause-told
returns-in-NoMemory-clause-told c = λ made e. replied_by_id told.NoMemory (Err (record {})) refl made (sym c.in-NoMemory.is ∙ e)
