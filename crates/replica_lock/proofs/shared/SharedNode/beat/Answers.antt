use Rattle.std.proofs.Common.{◌++◌, ap, sym, ◌∙◌}
use Rattle.causal_model.specs.Journal.{beat_notes}
use Rattle.causal_model.specs.Sending.{beat_rule, is_beat}
use Rattle.causal_model.specs.declared.outcome.Beat.TheVariants as beat
use Rattle.replica_lock.specs.Rules.{FollowsBeat}
use Rattle.replica_lock.specs.Held.{Held}
use Rattle.replica_lock.specs.Turns.{notes_in}
use Rattle.replica_lock.proofs.Called.{follows_grow, told, told_to, call_made}
use Rattle.replica_lock.proofs.shared.SharedNode.beat.Goals as goal

pub put_back-place-requires-clause-grows : goal.put_back-place-requires-clause-grows
put_back-place-requires-clause-grows g c =
    let made = follows_grow beat.NoMemory is_beat _ beat_notes (beat_rule _ _) _ _ c.beat-answer.result c.beat-answer.ensures.answer in
    (made.0, made.1 ∙ ap (λ notes. notes ++ made.0) c.enter-node.ensures.fits.notes)

pub invariant_of-pass : goal.invariant_of-pass
invariant_of-pass g c =
    let made = follows_grow beat.NoMemory is_beat _ beat_notes (beat_rule _ _) _ _ c.beat-answer.result c.beat-answer.ensures.answer in
    let grows = made.1 ∙ ap (λ notes. notes ++ made.0) c.enter-node.ensures.fits.notes in
    ap (λ p. p.in_turn) (c.put_back-place.ensures.turn made.0 grows)

pub returns-clause-call : goal.returns-clause-call
returns-clause-call g c =
    let made = follows_grow beat.NoMemory is_beat _ beat_notes (beat_rule _ _) _ _ c.beat-answer.result c.beat-answer.ensures.answer in
    let grows = made.1 ∙ ap (λ notes. notes ++ made.0) c.enter-node.ensures.fits.notes in
    let of_lock = ap (λ h. h.lock.key) c.pass.view_is ∙ ap (λ l. l.key) (c.requires.lock ∙ sym c.self.view_is) in (
      c.enter-node.new.pass.seen,
      made.0,
      call_made _ c.args.pass.now c.pass.inside.inner c.enter-node.new.pass c.put_back-place.new.pass c.enter-node.result c.beat-answer.new.self c.put_back-place.result made.0
          c.pass.view_is of_lock c.enter-node.ensures.pass c.enter-node.ensures.seen c.enter-node.ensures.own c.enter-node.ensures.fits c.beat-answer.ensures.settings c.beat-answer.ensures.first grows
          (c.put_back-place.ensures.turn made.0 grows) c.put_back-place.ensures.own c.put_back-place.ensures.place,
      told_to (λ w limit first before after. FollowsBeat w limit first before after c.beat-answer.result) _ c.args.pass.now.lock.key (notes_in c.enter-node.new.pass.seen) (notes_in c.enter-node.new.pass.seen ++ made.0) (ap (λ l. l.key) (c.requires.lock ∙ sym c.self.view_is))
          (told (λ w limit first before after. FollowsBeat w limit first before after c.beat-answer.result) _ c.enter-node.new.pass.seen c.enter-node.result c.beat-answer.new.self.journal.notes made.0 c.enter-node.ensures.fits grows c.beat-answer.ensures.answer),
    )

pub returns-clause-lock : goal.returns-clause-lock
returns-clause-lock g c = ap (λ (h : Held). h.lock) (returns-clause-call g c).2.becomes
