use Rattle.std.proofs.Common.{◌≡◌, nat_lt, slice_get, ap, ◌∙◌}
use Rattle.std.specs.List.{find}
use Rattle.op_base.specs.Message.{number}
use Rattle.op_base.specs.Timestamp.{entry}
use Rattle.op_base.specs.declared.tag.MessageId.{MessageId}
use Rattle.causal_model.specs.Counts.{members}
use Rattle.replica_core.specs.declared.replica.Replica.{Replica}
use Rattle.stability_matrix.specs.Rows.{row_of}
use Rattle.world.proofs.Lags.{length-rows_at, first_has_number, lagging_shown}
use Rattle.world.proofs.lagging.lagging_at.Goals as goal

pub id-requires : goal.id-requires
id-requires c =
    first_has_number c.args.node.now c.in_ok-oldest.oldest.now (c.in_ok-oldest.ensures.value ∙ ap (λ l. slice_get l 0) (c.messages.ensures ∙ ap (λ (r : Replica). r.outbox.messages) c.replica-replica.ensures))

pub first_behind-requires-clause-rows : goal.first_behind-requires-clause-rows
first_behind-requires-clause-rows c = rw c.replica-replica.ensures (length-rows_at c.args.node.now)

pub returns : goal.returns
returns c =
    let inner = c.args.node.now.inner in
    let oldest = c.in_ok-oldest.oldest.now in
    let seq : c.id.result.seq ≡ number oldest = ap (λ (i : MessageId). i.seq) c.id.ensures in
    c.first_behind.ensures
    ∙ ap (λ (r : Replica). find (λ q. nat_lt (entry (row_of r.matrix.rows q) r.me) c.id.result.seq) (members r.n)) c.replica-replica.ensures
    ∙ ap (λ s. find (λ q. nat_lt (entry (row_of inner.matrix.rows q) inner.me) s) (members inner.n)) seq
    ∙ lagging_shown c.args.node.now oldest (c.in_ok-oldest.ensures.value ∙ ap (λ l. slice_get l 0) (c.messages.ensures ∙ ap (λ (r : Replica). r.outbox.messages) c.replica-replica.ensures))
