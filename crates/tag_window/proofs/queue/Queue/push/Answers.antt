use Rattle.std.proofs.Common.{◌≡◌, ℕ, ◌+◌, ◌<◌, length, if◌then◌else◌, ◌++◌, ◌∷◌, [], sym, ap, subst, ◌∙◌, arith}
use Rattle.tag_window.specs.declared.queue.Queue.TheInside.{Inside}
use Rattle.tag_window.specs.Filled.{Filled}
use Rattle.tag_window.specs.Queue.{Line}
use Rattle.tag_window.specs.Window.{IsNextNumber}
use Rattle.tag_window.proofs.Queues.{sound-push}
use Rattle.tag_window.proofs.queue.Queue.push.Goals as goal
use Rattle.tag_window.proofs.queue.Queue.push.Goals.{then-held, else-held}

pub invariant_of-self : goal.invariant_of-self
invariant_of-self c =
    let q = c.self.inside in
    let line : Line = record { n = q.n; origin = q.origin; room = q.room; held = q.held.items } in
    let now = c.if-held.self-inside in
    let pushed = c.push.new.self in
    let goes = λ (noops : ℕ) (is : now ≡ record q { noops = noops }) (count : noops ≡ q.noops + (if c.args.held.noop then 1 else 0)).
    sound-push line (record { n = now.n; origin = now.origin; room = now.room; held = pushed.items }) q.held.room q.noops pushed.room now.noops c.args.held c.self.invariant
    (subst (λ (l : Line). length l.held < l.room) (sym c.self.view_is) c.requires.room)
    (subst (λ (l : Line). length c.args.held.tag ≡ l.n) (sym c.self.view_is) c.requires.entries)
    (subst (λ (l : Line). IsNextNumber l.origin l.held c.args.held.tag) (sym c.self.view_is) c.requires.next)
    (λ i. record { n = (is i).n; origin = (is i).origin; room = (is i).room; held = (ap (λ (b : Filled). b.items) c.push.ensures ∙ ap (λ (a : Inside). a.held.items ++ c.args.held ∷ []) is) i })
    (ap (λ (b : Filled). b.room) c.push.ensures ∙ ap (λ (a : Inside). a.held.room) is)
    (ap (λ (a : Inside). a.noops) is ∙ count) in
    elim c.if-held.branch [
      | then-held w ↦ goes (q.noops + 1) w.self-inside-is (ap (λ b. q.noops + (if b then 1 else 0)) (sym w.if-held.true))
      | else-held w ↦ goes q.noops w.self-inside-is (omega (arith, ap (λ b. q.noops + (if b then 1 else 0)) (sym w.if-held.false)))
    ]
