use Rattle.std.proofs.Common.{refl, subst}
use Rattle.causal_model.specs.Follows.{Follows}
use Rattle.world.specs.Answers.{ShowsPlain}
use Rattle.world_model.specs.Raw.{is_frame, raw_at}
use Rattle.world_model.specs.declared.outcome.RawGot.TheVariants as raw
use Rattle.script_net.specs.Commands.{raw_reply}
use Rattle.script_net.proofs.Told.{follows_told}
use Rattle.script_net.proofs.reply.offer_bytes.Goals as goal

pub returns-clause-told : goal.returns-clause-told
returns-clause-told c plain shows =
    follows_told ShowsPlain raw_reply raw.NoMemory refl (raw_at c.args.r c.args.bytes.now) plain c.raw.result c.raw.new.self c.raw_reply.result c.raw_reply.ensures.told c.args.world.now shows is_frame
    (subst (λ bytes. Follows ShowsPlain raw.NoMemory is_frame (raw_at c.args.r bytes) c.args.world.now c.raw.result c.raw.new.self) c.as_slice.ensures c.raw.ensures.answer)
