use Rattle.std.proofs.Common.{rules, sym, subst, ◌<◌, arith}
use Rattle.live_run.specs.Joining.{AreClosing}
use Rattle.live_run.proofs.ClosingAll.{is_own, closing_more, none_closed, some_opener, all_closed}
use Rattle.live_run.proofs.closed.close_all.Goals as goal

pub loop-node-init : goal.loop-node-init
loop-node-init c = (none_closed c.args.nodes.items c.args.openers.items _ _ _ c.in_ok-list.ensures.items (search rules) (search rules), search rules, search rules)

pub close-requires-clause-lock : goal.close-requires-clause-lock
close-requires-clause-lock c = (is_own c.args.nodes.items c.args.openers.items _ _ _ _ c.in-Some.node c.in-Some-next.opener _ c.requires c.loop-node.invariant.0 c.in-Some.ensures.steps.0 c.in-Some-next.ensures.items).0

pub close-requires-clause-none : goal.close-requires-clause-none
close-requires-clause-none c = (is_own c.args.nodes.items c.args.openers.items _ _ _ _ c.in-Some.node c.in-Some-next.opener _ c.requires c.loop-node.invariant.0 c.in-Some.ensures.steps.0 c.in-Some-next.ensures.items).1

pub loop-node-preserved : goal.loop-node-preserved
loop-node-preserved c =
    let node_is = c.in-Some.ensures.steps in
    let opener_is = c.in-Some-next.ensures.items in (
      subst (AreClosing c.args.nodes.items c.args.openers.items _ _) (sym c.in_ok-push-in-Some-next.ensures.items)
          (closing_more c.args.nodes.items c.args.openers.items _ _ _ _ c.in-Some.node c.in-Some-next.opener c.loop-node.list.items c.close.result c.loop-node.invariant.0 node_is.0 opener_is (record { is_node = c.close.ensures.fits.is_node; notes = c.close.ensures.fits.notes; order = c.close.ensures.order; fronts = c.close.ensures.fronts })),
      (let was = c.loop-node.invariant.1 in grind (rules, arith)),
      (let was = c.loop-node.invariant.2 in grind (rules, arith)),
    )

pub unreachable-requires : goal.unreachable-requires
unreachable-requires c = some_opener c.args.nodes.items c.args.openers.items _ _ _ c.in-Some.node _ c.requires c.loop-node.invariant.0 c.in-Some.ensures.steps.0 (let len = c.loop-node.invariant.2 in grind (rules, arith))

pub returns-clause-of_each : goal.returns-clause-of_each
returns-clause-of_each c = all_closed c.args.nodes.items c.args.openers.items _ _ _ c.loop-node.invariant.0 (omega (arith, c.in-None.ensures.steps.0, c.loop-node.invariant.1))

pub returns-clause-each : goal.returns-clause-each
returns-clause-each c = λ r d e f l. c.loop-node.invariant.0.each r d e f (subst (λ k. r < k) (sym (returns-clause-of_each c)) l)
