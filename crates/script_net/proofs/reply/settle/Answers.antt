use Rattle.std.proofs.Common.{refl}
use Rattle.world.specs.Midst.{IsInSettling}
use Rattle.world.specs.Answers.{ShowsPlain}
use Rattle.world_model.specs.Settling.{settle_at}
use Rattle.world_model.specs.declared.outcome.Settle.TheVariants as settle
use Rattle.script_net.specs.Commands.{settle_reply}
use Rattle.script_net.proofs.Told.{stops_told}
use Rattle.script_net.proofs.reply.settle.Goals as goal

pub returns-clause-told : goal.returns-clause-told
returns-clause-told c plain shows = stops_told ShowsPlain settle_reply settle.NoMemory refl settle_at plain c.settle.result c.settle.new.self c.settle_reply.result c.settle_reply.ensures.told c.args.world.now shows IsInSettling c.settle.ensures.answer
