use Rattle.std.proofs.Common.{refl}
use Rattle.world.specs.Answers.{ShowsPlain, IsAfterSome}
use Rattle.world_model.specs.Offering.{resend_at}
use Rattle.world_model.specs.declared.outcome.Resent.TheVariants as resent
use Rattle.script_net.specs.Commands.{resent_reply}
use Rattle.script_net.proofs.Told.{stops_told}
use Rattle.script_net.proofs.reply.resend.Goals as goal

pub returns-clause-told : goal.returns-clause-told
returns-clause-told c plain shows = stops_told ShowsPlain resent_reply resent.NoMemory refl (resend_at c.args.r c.args.k) plain c.resend.result c.resend.new.self c.resent_reply.result c.resent_reply.ensures.told c.args.world.now shows (IsAfterSome c.args.r c.args.k) c.resend.ensures.answer
