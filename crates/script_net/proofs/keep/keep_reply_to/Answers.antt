use Rattle.std.proofs.Common.{sym, subst}
use Rattle.script_net.specs.Replied.{KeepTold}
use Rattle.script_net.proofs.keep.keep_reply_to.Goals as goal

pub returns-in-Do-clause-told : goal.returns-in-Do-clause-told
returns-in-Do-clause-told c keep shown = subst (λ command. KeepTold keep command c.send.result c.send.new.world) (sym c.in-Do.is) (c.send.ensures.told keep shown)

pub returns-in-Beat-clause-told : goal.returns-in-Beat-clause-told
returns-in-Beat-clause-told c keep shown = subst (λ command. KeepTold keep command c.send_noop.result c.send_noop.new.world) (sym c.in-Beat.is) (c.send_noop.ensures.told keep shown)
