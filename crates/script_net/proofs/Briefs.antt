-- What is replied to what came of sending, where the message is told by its id.
use Rattle.std.proofs.Common.{◌≡◌, Option, Some, None, Result, refl, ap, subst, ◌∙◌}
use Rattle.op_base.specs.declared.memory.NoMemory.{NoMemory}
use Rattle.causal_model.specs.declared.outcome.Local.{Local}
use Rattle.causal_model.specs.declared.outcome.Local.TheVariants as local
use Rattle.script_lang.specs.declared.reply.Reply.{Reply}
use Rattle.script_lang.specs.declared.reply.Reply.TheVariants as reply
use Rattle.world.specs.Brief.{brief}
use Rattle.world.specs.declared.brief.Brief.{Brief}
use Rattle.world.specs.declared.brief.Brief.TheVariants as told
use Rattle.script_net.specs.Commands.{local_reply}
use Rattle.script_net.specs.Replied.{IsReply}

-- by the id
abbrev pub brief_reply : Brief → Option Reply
brief_reply (told.Sent id) = Some (reply.Sent id.seq)
brief_reply told.Busy = Some reply.Busy
brief_reply told.End = Some reply.End
brief_reply told.NoMemory = None

same_reply : (made : Local) → brief_reply (brief made) ≡ local_reply made
same_reply (local.Sent m) = refl
same_reply local.Busy = refl
same_reply local.End = refl
same_reply local.NoMemory = refl

-- it is the reply to all of which this is told
pub replied_by_id : (answer : Brief) (result : Result Reply NoMemory) → IsReply (brief_reply answer) result → (made : Local) → answer ≡ brief made → IsReply (local_reply made) result
replied_by_id answer result is made e = subst (λ o. IsReply o result) (ap brief_reply e ∙ same_reply made) is
