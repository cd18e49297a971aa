use Rattle.std.proofs.Common.{refl}
use Rattle.causal_model.specs.Sending.{is_sent}
use Rattle.causal_model.specs.declared.outcome.Local.TheVariants as local
use Rattle.world.specs.Answers.{ShowsPlain}
use Rattle.world_model.specs.World.{local_at}
use Rattle.script_net.specs.Commands.{local_reply}
use Rattle.script_net.proofs.Told.{follows_told}
use Rattle.script_net.proofs.reply.send.Goals as goal

pub returns-clause-told : goal.returns-clause-told
returns-clause-told c plain shows =
    let made = c.send.ensures.answer in
    follows_told ShowsPlain local_reply local.NoMemory refl (local_at c.args.r c.args.update) plain made.0 c.send.new.self c.local_reply.result (c.local_reply.ensures.told made.0 made.1) c.args.world.now shows is_sent made.2
