use Rattle.std.proofs.Common.{ap, sym, subst, ◌∙◌}
use Rattle.std.specs.Prelude.{AllPairs}
use Rattle.outbox.specs.Sent.{Sent, ComesAfter, AreAbove}
use Rattle.outbox.proofs.Husks.{behind}
use Rattle.outbox.proofs.outbox.Outbox.messages_above.Goals as goal

pub above-requires : goal.above-requires
above-requires c = record { rise = subst (AllPairs ComesAfter) (sym (behind c.self.inside.kept c.deref.result.now c.self.inside.gone c.deref.ensures.value)) c.self.invariant.rise }

pub returns : goal.returns
returns c =
    subst (λ ms. AreAbove c.args.seq ms c.above.result.now) (behind c.self.inside.kept c.deref.result.now c.self.inside.gone c.deref.ensures.value ∙ ap (λ (sent : Sent). sent.messages) c.self.view_is) c.above.ensures
