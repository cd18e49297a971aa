use Rattle.std.proofs.Common.{sym, subst, arith}
use Rattle.frame_codec.proofs.Read.{frames_are_read}
use Rattle.world_model.specs.Raw.{is_frame}
use Rattle.world_model.specs.declared.outcome.RawGot.{RawGot}
use Rattle.world_model.specs.declared.outcome.RawGot.TheVariants as raw
use Rattle.world.specs.Steps.{raw_noting}
use Rattle.world.proofs.Bytes.{read_is_told}
use Rattle.world_model.proofs.Commands.{frame_is_carried}
use Rattle.world.proofs.Nodes.{epoch_is_low, limit_is_small}
use Rattle.world.proofs.Replies.{Notes}
use Rattle.world.proofs.Asking.{raw_is_refused}
use Rattle.world.proofs.giving.offer_bytes.Goals as goal

pub receive-requires-clause-carried : goal.receive-requires-clause-carried
receive-requires-clause-carried c = (frame_is_carried c.args.node.now.inner.n c.args.node.now.inner.epoch c.args.node.now.inner.limit c.args.bytes.now c.in-Ok.message c.in-Ok.ensures.found).1

pub returns-in-Ok-clause-answer : goal.returns-in-Ok-clause-answer
returns-in-Ok-clause-answer c =
    let node = c.args.node.now in
    let read = frames_are_read node.inner.n node.inner.epoch node.inner.limit (omega (arith, epoch_is_low node)) (limit_is_small node) c.args.bytes.now c.in-Ok.message c.in-Ok.ensures.found in
    subst (λ (x : RawGot). Notes raw.NoMemory is_frame (raw_noting node.first node.inner.n node.inner.epoch node.inner.w node.inner.limit c.args.bytes.now) node.journal.notes x c.receive.new.self.journal.notes) (sym c.raw_got.ensures)
    (read_is_told node.first node.inner.n node.inner.epoch node.inner.w node.inner.limit c.args.bytes.now c.in-Ok.message node.journal.notes c.receive.new.self.journal.notes c.receive.result read c.receive.ensures.answer)

pub returns-in-Ok-clause-untouched : goal.returns-in-Ok-clause-untouched
returns-in-Ok-clause-untouched c = raw_is_refused c.receive.result c.raw_got.result c.raw_got.ensures c.receive.ensures.untouched
