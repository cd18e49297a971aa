use Rattle.std.proofs.Common.{◌++◌, ap, sym, ◌∙◌}
use Rattle.causal_model.specs.Journal.{local_notes}
use Rattle.causal_model.specs.Sending.{local_rule, is_sent}
use Rattle.causal_model.specs.declared.outcome.Local.TheVariants as local
use Rattle.replica_lock.specs.Rules.{FollowsLocal}
use Rattle.replica_lock.specs.Held.{Held}
use Rattle.replica_lock.specs.Turns.{notes_in}
use Rattle.replica_lock.proofs.Called.{follows_grow, told, told_to, call_made}
use Rattle.replica_lock.proofs.shared.SharedNode.local.Goals as goal

pub put_back-place-requires-clause-grows : goal.put_back-place-requires-clause-grows
put_back-place-requires-clause-grows g c =
    let made = follows_grow local.NoMemory is_sent _ local_notes (local_rule _ _ c.args.update.now) _ _ c.local-answer.result c.local-answer.ensures.answer in
    (made.0, made.1 ∙ ap (λ notes. notes ++ made.0) c.enter-node.ensures.fits.notes)

pub invariant_of-pass : goal.invariant_of-pass
invariant_of-pass g c =
    let made = follows_grow local.NoMemory is_sent _ local_notes (local_rule _ _ c.args.update.now) _ _ c.local-answer.result c.local-answer.ensures.answer in
    let grows = made.1 ∙ ap (λ notes. notes ++ made.0) c.enter-node.ensures.fits.notes in
    ap (λ p. p.in_turn) (c.put_back-place.ensures.turn made.0 grows)

pub returns-clause-call : goal.returns-clause-call
returns-clause-call g c =
    let made = follows_grow local.NoMemory is_sent _ local_notes (local_rule _ _ c.args.update.now) _ _ c.local-answer.result c.local-answer.ensures.answer in
    let grows = made.1 ∙ ap (λ notes. notes ++ made.0) c.enter-node.ensures.fits.notes in
    let of_lock = ap (λ h. h.lock.key) c.pass.view_is ∙ ap (λ l. l.key) (c.requires.lock ∙ sym c.self.view_is) in (
      c.enter-node.new.pass.seen,
      made.0,
      call_made _ c.args.pass.now c.pass.inside.inner c.enter-node.new.pass c.put_back-place.new.pass c.enter-node.result c.local-answer.new.self c.put_back-place.result made.0
          c.pass.view_is of_lock c.enter-node.ensures.pass c.enter-node.ensures.seen c.enter-node.ensures.own c.enter-node.ensures.fits c.local-answer.ensures.settings c.local-answer.ensures.first grows
          (c.put_back-place.ensures.turn made.0 grows) c.put_back-place.ensures.own c.put_back-place.ensures.place,
      told_to (λ w limit first before after. FollowsLocal w limit first before after c.args.update.now c.local-answer.result) _ c.args.pass.now.lock.key (notes_in c.enter-node.new.pass.seen) (notes_in c.enter-node.new.pass.seen ++ made.0) (ap (λ l. l.key) (c.requires.lock ∙ sym c.self.view_is))
          (told (λ w limit first before after. FollowsLocal w limit first before after c.args.update.now c.local-answer.result) _ c.enter-node.new.pass.seen c.enter-node.result c.local-answer.new.self.journal.notes made.0 c.enter-node.ensures.fits grows c.local-answer.ensures.answer),
    )

pub returns-clause-lock : goal.returns-clause-lock
returns-clause-lock g c = ap (λ (h : Held). h.lock) (returns-clause-call g c).2.becomes
