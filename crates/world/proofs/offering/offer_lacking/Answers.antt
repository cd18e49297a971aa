use Rattle.std.proofs.Common.{◌≡◌, length, ap, subst, ◌∙◌, arith}
use Rattle.std.specs.Prelude.{IfOk}
use Rattle.op_base.specs.Timestamp.{entry}
use Rattle.replica_core.proofs.Stands.{length-counts_of}
use Rattle.replica_core.specs.Rules.{fields_of}
use Rattle.replica_core.specs.declared.replica.Replica.{Replica}
use Rattle.world_model.specs.Offering.{Offered}
use Rattle.world.specs.Shows.{state_of}
use Rattle.world.specs.Steps.{offered_at}
use Rattle.world.proofs.Offers.{on_err_with, all_lacking, some_lacking}
use Rattle.world.proofs.Growing.{offers_above}
use Rattle.world.proofs.offering.offer_lacking.Goals as goal

pub at-delivered-requires : goal.at-delivered-requires
at-delivered-requires c =
    let node = c.args.node.now in
    omega (arith, c.requires.of, length-counts_of (fields_of node.inner) (state_of node) node.stands, ap (λ (x : Replica). length x.counts) c.replica.ensures)

pub returns-clause-made : goal.returns-clause-made
returns-clause-made c =
    let node = c.args.node.now in
    let delivered_is = c.at-delivered.ensures ∙ ap (λ (x : Replica). entry x.counts c.args.of) c.replica.ensures in
    let all = all_lacking node c.args.of c.args.outbox.now.messages c.messages_above.result.now c.at-delivered.result delivered_is c.requires.own c.messages_above.ensures in
    subst (λ (o : Offered). IfOk c.offer_messages.result (λ made. offered_at c.offer_messages.new.node made ≡ o)) all c.offer_messages.ensures.made

pub returns-clause-some : goal.returns-clause-some
returns-clause-some c =
    let node = c.args.node.now in
    let delivered_is = c.at-delivered.ensures ∙ ap (λ (x : Replica). entry x.counts c.args.of) c.replica.ensures in
    on_err_with c.offer_messages.result _ _
    (some_lacking node c.args.of c.args.outbox.now.messages c.messages_above.result.now c.at-delivered.result delivered_is c.requires.own c.messages_above.ensures c.offer_messages.new.node) c.offer_messages.ensures.some

pub returns-clause-noted : goal.returns-clause-noted
returns-clause-noted c =
    offers_above c.at-delivered.result c.args.outbox.now.messages c.messages_above.result.now c.messages_above.ensures c.args.node.now.journal.notes c.offer_messages.new.node.journal.notes c.offer_messages.ensures.noted
