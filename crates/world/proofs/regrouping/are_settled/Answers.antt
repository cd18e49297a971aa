use Rattle.std.proofs.Common.{◌∙◌, sym}
use Rattle.world.specs.Shows.{state_of}
use Rattle.world.proofs.Regroups.{none_settled, one_more_settled, one_is_unsettled, all_are_settled, each_is_settled}
use Rattle.world.proofs.regrouping.are_settled.Goals as goal

pub loop-node-init : goal.loop-node-init
loop-node-init c = none_settled c.args.nodes.now

pub loop-node-preserved : goal.loop-node-preserved
loop-node-preserved c =
    one_more_settled c.args.nodes.now c.loop-node.node-index c.node-item.result c.loop-node-test.true c.node-item.is c.loop-node.invariant
    (λ s stands. sym c.if-not-all_settled.false ∙ c.all_settled.ensures s (rw c.replica.ensures stands))

pub returns-then-not-all_settled-clause-all : goal.returns-then-not-all_settled-clause-all
returns-then-not-all_settled-clause-all c =
    let node = c.node-item.result in
    one_is_unsettled c.args.nodes.now c.loop-node.node-index node c.loop-node-test.true c.node-item.is
    (sym c.if-not-all_settled.true ∙ c.all_settled.ensures (state_of node) (rw c.replica.ensures node.stands))

pub returns-clause-all : goal.returns-clause-all
returns-clause-all c = all_are_settled c.args.nodes.now c.loop-node.node-index c.loop-node-test.false c.loop-node.invariant

pub returns-clause-each : goal.returns-clause-each
returns-clause-each c _ = each_is_settled c.args.nodes.now c.loop-node.node-index c.loop-node-test.false c.loop-node.invariant
