use Rattle.std.proofs.Common.{refl}
use Rattle.world.specs.Answers.{ShowsPlain}
use Rattle.world_model.specs.Regrouping.{regroup_at, is_regrouped}
use Rattle.world_model.specs.declared.outcome.Regroup.TheVariants as regroup
use Rattle.script_net.specs.Commands.{regroup_reply}
use Rattle.script_net.proofs.Told.{follows_told}
use Rattle.script_net.proofs.reply.change_members.Goals as goal

pub returns-clause-told : goal.returns-clause-told
returns-clause-told c plain shows = follows_told ShowsPlain regroup_reply regroup.NoMemory refl (regroup_at c.args.n) plain c.regroup.result c.regroup.new.self c.regroup_reply.result c.regroup_reply.ensures.told c.args.world.now shows is_regrouped c.regroup.ensures.answer
