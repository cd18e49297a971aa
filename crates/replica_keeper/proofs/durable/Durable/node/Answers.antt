use Rattle.std.proofs.Common.{◌≡◌, Option, Some, None, refl, sym, ◌∙◌}
use Rattle.std.proofs.Common.{Bor}
use Rattle.std.specs.Option.{IfSome, option_copied}
use Rattle.replica_keeper.specs.Durably.{numbers}
use Rattle.replica_keeper.specs.Keeping.{AreSentWithin}
use Rattle.replica_keeper.specs.Open.{NotedNode}
use Rattle.replica_keeper.proofs.Outboxes.{outbox_within}
use Rattle.replica_keeper.proofs.durable.Durable.node.Goals as goal

-- what holds of each copy of what is referred to holds of that
copied_has : {T : Type 0} (P : T → Type 0) (o : Option (Bor T)) → ((x : T) → option_copied o ≡ Some x → P x) → IfSome o (λ b. P b.now)
copied_has P None each = search
copied_has P (Some b) each = each b.now refl

pub returns-clause-outbox : goal.returns-clause-outbox
returns-clause-outbox g c =
    let it = c.args.self.now in
    let held = g.K.Keeper.held it.keeper in let synced = g.K.Keeper.synced it.keeper in
    copied_has (λ (node : NotedNode). AreSentWithin it.n synced node.journal.notes node.inner.outbox.messages) c.as_ref.result
    (λ node is. outbox_within (numbers it.me it.n it.w it.limit) node held synced (it.kept node (sym c.as_ref.ensures.value ∙ is)))
