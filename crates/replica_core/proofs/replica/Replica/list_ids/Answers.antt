use Rattle.std.proofs.Common.{sym}
use Rattle.replica_core.specs.Rules.{fields_of}
use Rattle.replica_core.proofs.KeptLists.{lists_of}
use Rattle.replica_core.proofs.ObjectParts.{are_own, logged_in, if_ok}
use Rattle.replica_core.proofs.replica.Replica.list_ids.Goals as goal

pub ids-requires : goal.ids-requires
ids-requires c = record { own = are_own c.args.object.now _ _ c.of_object-entries.ensures.entries }

pub returns : goal.returns
returns c = record {
  ids = if_ok c.ids.result c.ids.ensures.of (λ ids of s stands.
      let r = c.args.self.now in
      of r.w s.history stands.is_state.is_history c.requires.kind (sym stands.in_epoch) (logged_in (fields_of r) c.args.object.now _ c.of_object-entries.ensures.of s stands) (lists_of (fields_of r) s stands));
}
