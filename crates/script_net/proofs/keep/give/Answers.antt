use Rattle.std.proofs.Common.{refl}
use Rattle.world_model.specs.World.{takes_frame}
use Rattle.causal_model.specs.declared.outcome.Receive.TheVariants as receive
use Rattle.world_model.specs.Stops.{keep_give_at}
use Rattle.world_model.specs.declared.outcome.Given.TheVariants as given
use Rattle.script_net.specs.Commands.{given_reply}
use Rattle.script_net.proofs.Told.{ends_told}
use Rattle.script_net.proofs.keep.give.Goals as goal

pub returns-clause-told : goal.returns-clause-told
returns-clause-told c keep shown = ends_told given_reply (given.Got receive.NoMemory) refl (keep_give_at c.args.r c.args.k c.args.s) keep c.give.result c.give.new.self c.given_reply.result c.given_reply.ensures.told c.args.world.now shown takes_frame c.give.ensures.answer
