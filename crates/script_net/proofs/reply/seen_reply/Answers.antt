use Rattle.std.proofs.Common.{sym, ◌∙◌}
use Rattle.script_net.proofs.Shown.{seen_is_long}
use Rattle.script_net.proofs.reply.seen_reply.Goals as goal

pub returns-clause-entries : goal.returns-clause-entries
returns-clause-entries c = seen_is_long c.args.world.now c.args.r c.requires c.seen.result c.seen.ensures ∙ sym c.members.ensures.nodes
