-- A worked store whose members change: what the definitions give, computed, beside what was meant. Each is the contract of a
-- function of worked_epochs.rt.
use Rattle.std.specs.Prelude.{◌≡◌, true, [], ◌∷◌}
use Rattle.op_base.specs.declared.operation.Act.TheVariants.{Rmv}
use Rattle.op_base.specs.declared.outcome.Answer.TheVariants.{Values}
use Rattle.op_base.specs.declared.outcome.Step.TheVariants as step
use Rattle.causal_model.specs.declared.outcome.Local.TheVariants as local
use Rattle.causal_model.specs.declared.outcome.Receive.TheVariants as receive
use Rattle.causal_model.specs.Worked.{does_to, id, x, yes}
use Rattle.frame_codec.specs.Grammar.{frame_of}
use Rattle.frame_codec.specs.declared.fault.FrameFault.TheVariants.{Version, Epoch}
use Rattle.frame_codec.specs.declared.version.Version.TheVariants as version
use Rattle.world_model.specs.Raw.{raw_at}
use Rattle.world_model.specs.Regrouping.{regroup_at}
use Rattle.world_model.specs.Settling.{is_quiescent, world_settled}
use Rattle.world_model.specs.Showing.{answer_at, items_at, seen_at}
use Rattle.world_model.specs.World.{PlainWorld, size_of, epoch_in, local_at, give_at}
use Rattle.world_model.specs.Worked.{set_s, added, once_added, remove_x}
use Rattle.world_model.specs.declared.outcome.Given.TheVariants as giving
use Rattle.world_model.specs.declared.outcome.RawGot.TheVariants as rawing
use Rattle.world_model.specs.declared.outcome.Regroup.TheVariants as regroup

-- the store of two members of which member 0 added x, settled, and then with a third member
abbrev pub at_rest : PlainWorld
at_rest = world_settled once_added

abbrev pub of_three_now : PlainWorld
of_three_now = (regroup_at 3 at_rest).1

-- member 2 removes x, and member 0 gets that
abbrev pub removed_by_2 : PlainWorld
removed_by_2 = (local_at 2 remove_x of_three_now).1

abbrev pub given_to_0 : PlainWorld
given_to_0 = (give_at 0 2 1 removed_by_2).1

-- the store settles again, and one member is left
abbrev pub at_rest_again : PlainWorld
at_rest_again = world_settled given_to_0

abbrev pub alone_now : PlainWorld
alone_now = (regroup_at 1 at_rest_again).1

pub record MembersChange : Type 0 where
  pub not_yet : (regroup_at 3 once_added).0 ≡ regroup.Unsettled
  pub changes : (regroup_at 3 at_rest).0 ≡ regroup.Regrouped 1
  pub epoch : epoch_in of_three_now ≡ 1
  pub size : size_of of_three_now ≡ 3
  -- member 2 has what the others had settled, and nobody has a message of this epoch
  pub known_to_2 : answer_at of_three_now 2 set_s ≡ Values (x ∷ [])
  pub items_of_2 : items_at of_three_now 2 ≡ 1
  pub seen_2 : seen_at of_three_now 2 ≡ 0 ∷ 0 ∷ 0 ∷ []
  -- what was sent before isn't given any more
  pub unsent_now : (give_at 0 0 1 of_three_now).0 ≡ giving.Unsent
  -- member 2 removes x: its message is its first, and comes to member 0
  pub sent : (local_at 2 remove_x of_three_now).0 ≡ local.Sent (does_to 2 (0 ∷ 0 ∷ 1 ∷ []) set_s (Rmv x) yes)
  pub given : (give_at 0 2 1 removed_by_2).0 ≡ giving.Got (receive.Took (step.Took (id 2 1) ∷ []))
  pub removed_at_0 : answer_at given_to_0 0 set_s ≡ Values []
  pub still_at_1 : answer_at given_to_0 1 set_s ≡ Values (x ∷ [])
  -- which has to settle before the members change again
  pub unsettled_again : (regroup_at 1 given_to_0).0 ≡ regroup.Unsettled
  pub settled_again : is_quiescent at_rest_again ≡ true
  pub changes_again : (regroup_at 1 at_rest_again).0 ≡ regroup.Regrouped 2
  pub one : size_of alone_now ≡ 1
  pub removed : answer_at alone_now 0 set_s ≡ Values []

-- frames of the epoch before are none now: version 1 is of epoch 0 alone, and version 2 says its epoch
pub record OldFramesAreNone : Type 0 where
  pub old_version : (raw_at 1 (frame_of version.One 2 0 added) of_three_now).0 ≡ rawing.Bad Version
  pub old_epoch : (raw_at 1 (frame_of version.Two 2 0 added) of_three_now).0 ≡ rawing.Bad Epoch
