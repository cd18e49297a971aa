-- The lists of fields that stand for a state.
use Rattle.std.proofs.Common.{◌+◌, ◌*◌, ◌^◌, length}
use denote.Struct.Props.{props}
use Rattle.std.proofs.Math.Logic.{∥∥₁_elim}
use Rattle.causal_model.specs.State.{State}
use Rattle.list_type.specs.Listed.{AreListsOf, AreWithin}
use Rattle.replica_core.specs.Standing.{Fields, Standing}

module _ (f : Fields) (s : State) (stands : Standing f s) where
  -- they are those of its history
  pub lists_of : AreListsOf s.history f.lists
  lists_of = ∥∥₁_elim stands.lists (hlevel props) (λ x. x.0)

  -- and none stands too deep
  pub depths_of : AreWithin (f.epoch * 2 ^ 24 + length s.history.present.messages) f.lists
  depths_of = ∥∥₁_elim stands.lists (hlevel props) (λ x. x.1)
