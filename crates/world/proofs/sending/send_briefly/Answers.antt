use Rattle.std.proofs.Common.{refl, ap, inl}
use Rattle.causal_model.specs.declared.outcome.Local.TheVariants as local
use Rattle.world.specs.declared.brief.Brief.TheVariants as told
use Rattle.world.proofs.Sends.{fits_has_number, unsent_has_numbers, refused_sends, lost_sends, sent_sends}
use Rattle.world.proofs.sending.send_briefly.Goals as goal

pub brief_of-requires : goal.brief_of-requires
brief_of-requires c = unsent_has_numbers c.in-Err.answer c.in-Err.ensures.unsent

pub id-id-requires : goal.id-id-requires
id-id-requires c = fits_has_number c.args.node.now.inner.n c.in-Ok.message c.in-Ok.ensures.fits

pub returns-in-Err-clause-sends : goal.returns-in-Err-clause-sends
returns-in-Err-clause-sends c = (
  c.in-Err.answer,
  c.brief_of.ensures,
  refused_sends c.args.update c.args.node.now c.args.frames.now.items c.in-Err.answer c.in-Err.ensures.unsent (λ s stands. inl (c.in-Err.ensures.answer s stands, stands)),
)

pub returns-in-Ok-commit-clause-sends : goal.returns-in-Ok-commit-clause-sends
returns-in-Ok-commit-clause-sends c = (
  local.Sent c.in-Ok.message,
  ap told.Sent c.id-id.ensures,
  sent_sends c.args.update c.args.node.now c.in-Ok.message (λ s stands. inl (c.in-Ok.ensures.answer s stands, stands)) c.commit.new.node c.args.frames.now.items c.commit.new.frames.items c.in-Ok-commit.ensures.noted c.in-Ok-commit.ensures.frames,
)

pub returns-in-Err-commit-clause-sends : goal.returns-in-Err-commit-clause-sends
returns-in-Err-commit-clause-sends c = (
  local.NoMemory,
  refl,
  lost_sends c.args.update c.args.node.now c.in-Ok.message (λ s stands. inl (c.in-Ok.ensures.answer s stands, stands)) c.commit.new.node c.args.frames.now.items c.commit.new.frames.items c.in-Err-commit.ensures.kept c.in-Err-commit.ensures.no_frame,
)
