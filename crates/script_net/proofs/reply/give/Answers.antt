use Rattle.std.proofs.Common.{refl}
use Rattle.causal_model.specs.declared.outcome.Receive.TheVariants as receive
use Rattle.world.specs.Answers.{ShowsPlain}
use Rattle.world_model.specs.World.{takes_frame, give_at}
use Rattle.world_model.specs.declared.outcome.Given.TheVariants as given
use Rattle.script_net.specs.Commands.{given_reply}
use Rattle.script_net.proofs.Told.{follows_told}
use Rattle.script_net.proofs.reply.give.Goals as goal

pub returns-clause-told : goal.returns-clause-told
returns-clause-told c plain shows = follows_told ShowsPlain given_reply (given.Got receive.NoMemory) refl (give_at c.args.r c.args.k c.args.s) plain c.give.result c.give.new.self c.given_reply.result c.given_reply.ensures.told c.args.world.now shows takes_frame c.give.ensures.answer
