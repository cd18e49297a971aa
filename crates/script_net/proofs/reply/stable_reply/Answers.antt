use Rattle.std.proofs.Common.{sym, ◌∙◌}
use Rattle.script_net.proofs.Shown.{stable_is_long}
use Rattle.script_net.proofs.reply.stable_reply.Goals as goal

pub returns-clause-entries : goal.returns-clause-entries
returns-clause-entries c = stable_is_long c.args.world.now c.args.r c.requires c.stable.result c.stable.ensures ∙ sym c.members.ensures.nodes
