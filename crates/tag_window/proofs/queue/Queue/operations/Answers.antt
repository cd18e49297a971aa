use Rattle.std.proofs.Common.{◌≡◌, ◌-◌, not, subst, arith}
use Rattle.std.specs.List.{count_by}
use Rattle.tag_window.specs.declared.held.Held.{Held}
use Rattle.tag_window.specs.Queue.{Line}
use Rattle.tag_window.proofs.Queues.{count_by-not}
use Rattle.tag_window.proofs.queue.Queue.operations.Goals as goal

pub returns-clause-value : goal.returns-clause-value
returns-clause-value c =
    subst (λ (l : Line). c.len.result - c.self.inside.noops ≡ count_by (λ (h : Held). not h.noop) l.held) c.self.view_is
    (omega (arith, count_by-not (λ (h : Held). h.noop) c.self.inside.held.items, c.self.invariant.counted, c.len.ensures))
