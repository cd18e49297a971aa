use Rattle.std.proofs.Common.{◌≡◌, ◌-◌, ◌<◌, ◌≤◌, length, refl, sym, ap, subst, ◌∙◌, inl, inr, arith}
use Rattle.std.proofs.lemmas.Bool.{cases_lt, false≢true}
use Rattle.std.proofs.lemmas.List.{get_or_default}
use Rattle.op_base.specs.Timestamp.{entry, zero_tag}
use Rattle.tag_window.specs.declared.held.Held.{Held}
use Rattle.tag_window.specs.Queue.{Line, tag_held}
use Rattle.tag_window.proofs.Queues.{tag_held-at, tag_held-before, tag_held-outside}
use Rattle.tag_window.proofs.queue.Queue.find.Goals as goal

pub returns-then-seq-first-clause-none : goal.returns-then-seq-first-clause-none
returns-then-seq-first-clause-none c =
    let q = c.self.inside in
    let first = c.in_ok-front.field-0.now in
    subst (λ (l : Line). tag_held l.n l.origin l.held c.args.seq ≡ zero_tag l.n) c.self.view_is
    (tag_held-before q.n q.origin q.held.items c.args.seq first c.self.invariant.numbered (omega (arith, c.if-seq-first.true, c.at-first.ensures, ap (λ (h : Held). entry h.tag q.origin) c.in_ok-front.ensures.lookup)))

-- where it is not held
pub returns-in_err-get-clause-none : goal.returns-in_err-get-clause-none
returns-in_err-get-clause-none c =
    let q = c.self.inside in
    let first = c.in_ok-front.field-0.now in
    let past : length q.held.items ≤ c.args.seq - c.at-first.result = elim (cases_lt (c.args.seq - c.at-first.result) (length q.held.items)) [
      | inl l ↦ absurd (false≢true (c.in_err-get.ensures.variant.1 l))
      | inr high ↦ high
    ] in
    let none = subst (λ (l : Line). tag_held l.n l.origin l.held c.args.seq ≡ zero_tag l.n) c.self.view_is
    (tag_held-outside q.n q.origin q.held.items c.args.seq first c.self.invariant.numbered (omega (arith, past, c.if-seq-first.false, c.at-first.ensures, ap (λ (h : Held). entry h.tag q.origin) c.in_ok-front.ensures.lookup))) in
    rw c.from_residual-in_err-get.ensures none

pub returns-clause-found : goal.returns-clause-found
returns-clause-found c =
    let q = c.self.inside in
    let first = c.in_ok-front.field-0.now in
    let here = c.in_ok-get.field-0.now in
    let within : c.args.seq - c.at-first.result < length q.held.items = c.in_ok-get.ensures.variant.0 refl in
    ap (λ (h : Held). h.tag) c.in_ok-get.ensures.lookup
    ∙ ap (λ (h : Held). h.tag) (get_or_default q.held.items (c.args.seq - c.at-first.result) here first within)
    ∙ sym (tag_held-at q.n q.origin q.held.items (c.args.seq - c.at-first.result) c.args.seq first c.self.invariant.numbered within (omega (arith, c.if-seq-first.false, c.at-first.ensures, ap (λ (h : Held). entry h.tag q.origin) c.in_ok-front.ensures.lookup)))
    ∙ ap (λ (l : Line). tag_held l.n l.origin l.held c.args.seq) c.self.view_is
