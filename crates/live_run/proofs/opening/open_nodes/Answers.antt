use Rattle.std.proofs.Common.{ap, arith}
use Rattle.live_run.specs.Joining.{NodeOpener}
use Rattle.live_run.proofs.opening.open_nodes.Goals as goal

pub returns-clause-opened : goal.returns-clause-opened
returns-clause-opened c =
    let is = c.loop-me.invariant in
    record {
      of_each = omega (arith, is.nodes, is.openers);
      of = λ r d e l. ap (λ (o : NodeOpener). o.lock) (is.opened_are r d e l);
      out = λ r e l. ap (λ (o : NodeOpener). o.out) (is.opened_are r e.lock e l);
      none = λ r e l. ap (λ (o : NodeOpener). o.own) (is.opened_are r e.lock e l);
    }
