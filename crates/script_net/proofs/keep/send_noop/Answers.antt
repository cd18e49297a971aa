use Rattle.std.proofs.Common.{refl}
use Rattle.causal_model.specs.Sending.{is_beat}
use Rattle.causal_model.specs.declared.outcome.Beat.TheVariants as beat
use Rattle.world_model.specs.Stops.{keep_beat_at}
use Rattle.script_net.proofs.KeepShown.{keep_beat_has_number}
use Rattle.script_net.specs.Commands.{beat_reply}
use Rattle.script_net.proofs.Told.{ends_told}
use Rattle.script_net.proofs.keep.send_noop.Goals as goal

pub beat_reply-requires : goal.beat_reply-requires
beat_reply-requires c = keep_beat_has_number c.args.world.now c.requires.goes_on c.args.r c.requires.of c.beat.result c.beat.new.self c.beat.ensures.answer

pub returns-clause-told : goal.returns-clause-told
returns-clause-told c keep shown = ends_told beat_reply beat.NoMemory refl (keep_beat_at c.args.r) keep c.beat.result c.beat.new.self c.beat_reply.result c.beat_reply.ensures.told c.args.world.now shown is_beat c.beat.ensures.answer
