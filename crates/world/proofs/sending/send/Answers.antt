use Rattle.std.proofs.Common.{refl, sym, subst}
use Rattle.op_base.specs.declared.message.Message.{Message}
use Rattle.causal_model.specs.declared.outcome.Local.TheVariants as local
use Rattle.world.specs.Steps.{SendsUpdate}
use Rattle.world.proofs.Sends.{refused_sends, lost_sends, sent_sends}
use Rattle.world.proofs.sending.send.Goals as goal

pub returns-in-Err-clause-sends : goal.returns-in-Err-clause-sends
returns-in-Err-clause-sends c = refused_sends c.args.update.now c.args.node.now c.args.frames.now.items c.in-Err.answer c.in-Err.ensures.unsent c.in-Err.ensures.answer

pub returns-in_default-clause-sends : goal.returns-in_default-clause-sends
returns-in_default-clause-sends c = lost_sends c.args.update.now c.args.node.now c.in-Ok.message c.in-Ok.ensures.answer c.args.node.now c.args.frames.now.items c.args.frames.now.items refl refl

pub returns-in-Ok-commit-clause-sends : goal.returns-in-Ok-commit-clause-sends
returns-in-Ok-commit-clause-sends c =
    let node = c.args.node.now in let frames = c.args.frames.now.items in let new = c.commit.new.node in let left = c.commit.new.frames.items in
    subst (λ (m : Message). SendsUpdate c.args.update.now node frames (local.Sent m) new left) (sym c.in-Ok-copy.ensures.copy)
    (sent_sends c.args.update.now node c.in-Ok.message c.in-Ok.ensures.answer new frames left c.in-Ok-commit.ensures.noted c.in-Ok-commit.ensures.frames)

pub returns-in-Err-commit-clause-sends : goal.returns-in-Err-commit-clause-sends
returns-in-Err-commit-clause-sends c =
    lost_sends c.args.update.now c.args.node.now c.in-Ok.message c.in-Ok.ensures.answer c.commit.new.node c.args.frames.now.items c.commit.new.frames.items c.in-Err-commit.ensures.kept c.in-Err-commit.ensures.no_frame
