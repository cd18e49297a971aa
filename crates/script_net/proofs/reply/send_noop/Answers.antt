use Rattle.std.proofs.Common.{refl}
use Rattle.causal_model.specs.Sending.{is_beat}
use Rattle.causal_model.specs.declared.outcome.Beat.TheVariants as beat
use Rattle.world.specs.Answers.{ShowsPlain}
use Rattle.world_model.specs.World.{beat_at}
use Rattle.script_net.proofs.Shown.{beat_has_number}
use Rattle.script_net.specs.Commands.{beat_reply}
use Rattle.script_net.proofs.Told.{follows_told}
use Rattle.script_net.proofs.reply.send_noop.Goals as goal

pub beat_reply-requires : goal.beat_reply-requires
beat_reply-requires c = beat_has_number c.args.world.now c.args.r c.requires c.beat.result c.beat.new.self c.beat.ensures.answer

pub returns-clause-told : goal.returns-clause-told
returns-clause-told c plain shows = follows_told ShowsPlain beat_reply beat.NoMemory refl (beat_at c.args.r) plain c.beat.result c.beat.new.self c.beat_reply.result c.beat_reply.ensures.told c.args.world.now shows is_beat c.beat.ensures.answer
