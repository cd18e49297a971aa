use Rattle.std.proofs.Common.{rules, [], refl, ap, sym, ◌∙◌}
use Rattle.std.proofs.lemmas.List.{append-nil}
use Rattle.replica_lock.specs.Held.{Held}
use Rattle.replica_lock.specs.Turns.{notes_in}
use Rattle.replica_lock.proofs.Called.{call_made, same_settings}
use Rattle.replica_lock.proofs.Outboxes.{told_outbox}
use Rattle.replica_lock.proofs.shared.SharedNode.outbox.Goals as goal

pub put_back-place-requires-clause-grows : goal.put_back-place-requires-clause-grows
put_back-place-requires-clause-grows g c = ([], c.enter-node.ensures.fits.notes ∙ sym (append-nil (notes_in c.enter-node.new.pass.seen)))

pub invariant_of-pass : goal.invariant_of-pass
invariant_of-pass g c =
    let grows = c.enter-node.ensures.fits.notes ∙ sym (append-nil (notes_in c.enter-node.new.pass.seen)) in
    ap (λ p. p.in_turn) (c.put_back-place.ensures.turn [] grows)

pub returns-clause-call : goal.returns-clause-call
returns-clause-call g c =
    let grows = c.enter-node.ensures.fits.notes ∙ sym (append-nil (notes_in c.enter-node.new.pass.seen)) in
    let node = c.enter-node.result in
    let of_lock = ap (λ h. h.lock.key) c.pass.view_is ∙ ap (λ l. l.key) (c.requires.lock ∙ sym c.self.view_is) in (
      c.enter-node.new.pass.seen,
      call_made _ c.args.pass.now c.pass.inside.inner c.enter-node.new.pass c.put_back-place.new.pass node node c.put_back-place.result []
          c.pass.view_is of_lock c.enter-node.ensures.pass c.enter-node.ensures.seen c.enter-node.ensures.own c.enter-node.ensures.fits (same_settings node) refl grows
          (c.put_back-place.ensures.turn [] grows) c.put_back-place.ensures.own c.put_back-place.ensures.place,
      told_outbox _ c.args.pass.now.lock.key c.enter-node.new.pass.seen node c.args.most (ap (λ l. l.key) (c.requires.lock ∙ sym c.self.view_is)) c.enter-node.ensures.fits _ c.oldest-answer.result (search rules) c.oldest-answer.ensures,
    )

pub returns-clause-lock : goal.returns-clause-lock
returns-clause-lock g c = ap (λ (h : Held). h.lock) (returns-clause-call g c).1.becomes
