use Rattle.std.proofs.Common.{sym}
use Rattle.replica_core.specs.Rules.{fields_of}
use Rattle.replica_core.proofs.KeptLists.{lists_of}
use Rattle.replica_core.proofs.ObjectParts.{are_own, logged_in}
use Rattle.replica_core.proofs.replica.Replica.tombs.Goals as goal

pub tombs-requires : goal.tombs-requires
tombs-requires c = record { own = are_own c.args.object.now _ _ c.of_object.ensures.entries }

pub returns : goal.returns
returns c = record {
  count = λ s stands.
      let r = c.args.self.now in
      c.tombs.ensures.of r.w s.history stands.is_state.is_history c.requires.kind (sym stands.in_epoch) (logged_in (fields_of r) c.args.object.now _ c.of_object.ensures.of s stands) (lists_of (fields_of r) s stands);
}
