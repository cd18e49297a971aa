use Rattle.std.proofs.Common.{refl}
use Rattle.causal_model.specs.Sending.{is_sent}
use Rattle.causal_model.specs.declared.outcome.Local.TheVariants as local
use Rattle.world_model.specs.Stops.{keep_local_at}
use Rattle.script_net.proofs.KeepShown.{keep_local_has_number}
use Rattle.script_net.specs.Commands.{local_reply}
use Rattle.script_net.proofs.Told.{ends_told}
use Rattle.script_net.proofs.keep.send.Goals as goal

pub brief_of-requires : goal.brief_of-requires
brief_of-requires c = keep_local_has_number c.args.world.now c.requires.goes_on c.args.r c.requires.of c.args.update.now c.local.result c.local.new.self c.local.ensures.answer

pub returns-clause-told : goal.returns-clause-told
returns-clause-told c keep shown = ends_told local_reply local.NoMemory refl (keep_local_at c.args.r c.args.update.now) keep c.local.result c.local.new.self c.local_reply.result (c.local_reply.ensures.told c.local.result c.brief_of.ensures) c.args.world.now shown is_sent c.local.ensures.answer
