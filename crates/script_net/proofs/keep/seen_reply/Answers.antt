use Rattle.std.proofs.Common.{sym, ◌∙◌}
use Rattle.script_net.proofs.KeepShown.{keep_seen_is_long}
use Rattle.script_net.proofs.keep.seen_reply.Goals as goal

pub returns-clause-entries : goal.returns-clause-entries
returns-clause-entries c = keep_seen_is_long c.args.world.now c.requires.goes_on c.args.r c.requires.of c.seen.result c.seen.ensures ∙ sym c.keep_members.ensures.replicas
