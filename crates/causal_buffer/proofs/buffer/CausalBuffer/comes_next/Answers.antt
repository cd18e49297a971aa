use Rattle.std.proofs.Common.{◌≡◌, ◌↔◌, ◌<◌, true, false, not, IsTrue, length, Some, sym, ap, subst, ◌∙◌, arith}
use Rattle.std.specs.Option.{is_none, IfSome, IfNone}
use Rattle.causal_model.specs.Counts.{is_deliverable}
use Rattle.causal_model.specs.Early.{is_again, put_early}
use Rattle.causal_model.specs.Receiving.{next_early}
use Rattle.causal_model.proofs.States.Early.{fits_member}
use Rattle.causal_buffer.specs.Buffer.{Buffer}
use Rattle.causal_buffer.specs.Queue.{AreUnready, IsLowest}
use Rattle.causal_buffer.proofs.Kept.{next_by_lower, none_is_not_some}
use Rattle.causal_buffer.proofs.buffer.CausalBuffer.comes_next.Goals as goal
use Rattle.causal_buffer.proofs.buffer.CausalBuffer.comes_next.Goals.{After-is_some}

-- whether none of a lower member can be delivered tells whether it is next
told : (c : After-is_some) → IsTrue (is_none c.ready_below.result) ↔ (next_early c.args.self.now.n c.args.counts.now (put_early c.args.message.now c.args.self.now.early) ≡ Some c.args.message.now)
told c =
    let m = c.args.message.now in
    let counts = c.args.counts.now in
    let o = c.ready_below.result in
    let inside : m.origin < length c.self.inside.queues.items = omega (arith, fits_member c.args.self.now.n m c.requires.fits, ap (λ (b : Buffer). b.n) c.self.view_is, c.self.invariant.count) in
    subst (λ (b : Buffer). IsTrue (is_none o) ↔ (next_early b.n counts (put_early m b.early) ≡ Some m)) c.self.view_is
    (next_by_lower c.self.inside.n c.self.inside.w c.self.inside.queues.items c.self.invariant.kept counts m o inside
    (subst (λ (b : Buffer). is_again b.early m ≡ false) (sym c.self.view_is) c.requires.apart)
    (subst (λ (b : Buffer). is_deliverable b.n counts m ≡ true) (sym c.self.view_is) c.requires.deliverable)
    (subst (λ (b : Buffer). IfSome o (IsLowest m.origin b.n counts b.early)) (sym c.self.view_is) c.ready_below.ensures.found)
    (subst (λ (b : Buffer). IfNone o (AreUnready m.origin b.n counts b.early)) (sym c.self.view_is) c.ready_below.ensures.none))

pub returns-then-is_some-clause-next : goal.returns-then-is_some-clause-next
returns-then-is_some-clause-next c =
    subst (λ none. IsTrue none ↔ (next_early c.args.self.now.n c.args.counts.now (put_early c.args.message.now c.args.self.now.early) ≡ Some c.args.message.now))
    (none_is_not_some c.ready_below.result ∙ ap not (sym c.is_some.ensures ∙ c.if-is_some.true)) (told (goal.at.returns-then-is_some-clause-next c).After-is_some)

pub returns-clause-next : goal.returns-clause-next
returns-clause-next c =
    subst (λ none. IsTrue none ↔ (next_early c.args.self.now.n c.args.counts.now (put_early c.args.message.now c.args.self.now.early) ≡ Some c.args.message.now))
    (none_is_not_some c.ready_below.result ∙ ap not (sym c.is_some.ensures ∙ c.if-is_some.false)) (told (goal.at.returns-clause-next c).After-is_some)
