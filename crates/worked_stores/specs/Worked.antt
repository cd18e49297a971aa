-- Further worked stores: what the definitions give, computed, beside what was meant. Each is the contract of a function of
-- worked.rt.
use Rattle.std.specs.Prelude.{◌≡◌, ℕ, true, false, List, [], ◌∷◌, map, codes}
use Rattle.op_base.specs.Message.{id_of}
use Rattle.op_base.specs.declared.message.Message.{Message}
use Rattle.op_base.specs.declared.operation.Act.TheVariants.{Add, Rmv}
use Rattle.op_base.specs.declared.operation.Update.{Update}
use Rattle.op_base.specs.declared.outcome.Answer.TheVariants.{Values}
use Rattle.op_base.specs.declared.outcome.Crook.TheVariants as crook
use Rattle.op_base.specs.declared.outcome.Step.TheVariants as step
use Rattle.op_base.specs.declared.tag.MessageId.{MessageId}
use Rattle.causal_model.specs.Worked.{does_to, id, x, yes}
use Rattle.causal_model.specs.declared.outcome.Receive.TheVariants as receive
use Rattle.world_model.specs.Offering.{resend_at}
use Rattle.world_model.specs.Regrouping.{regroup_at}
use Rattle.world_model.specs.Settling.{is_quiescent, round_of, settle_at, world_settled}
use Rattle.world_model.specs.Showing.{answer_at, items_at}
use Rattle.world_model.specs.World.{PlainWorld, opening, replica_of, epoch_in, local_at, offer_at, give_at}
use Rattle.world_model.specs.Worked.{add_x, once_added, once_given, once_removed, opened, remove_x, set_s}
use Rattle.world_model.specs.declared.outcome.Given.TheVariants as giving
use Rattle.world_model.specs.declared.outcome.Regroup.TheVariants as regroup
use Rattle.world_model.specs.declared.outcome.Resent.TheVariants as resending
use Rattle.world_model.specs.declared.outcome.Settle.TheVariants as settling

-- member 0 adds x once more; member 1 has the first of the two messages
abbrev pub added_twice : PlainWorld
added_twice = (local_at 0 add_x once_given).1

pub record GivenByNumber : Type 0 where
  pub first : (give_at 1 0 1 added_twice).0 ≡ giving.Got receive.Old
  pub second : (give_at 1 0 2 added_twice).0 ≡ giving.Got (receive.Took (step.Took (id 0 2) ∷ []))
  pub third : (give_at 1 0 3 added_twice).0 ≡ giving.Unsent
  -- numbers begin with 1
  pub before_all : (give_at 1 0 0 added_twice).0 ≡ giving.Unsent

-- Three members. Member 1 removes x and adds it, and what it sent waits at member 2 for the add of member 0: first the
-- second message comes there, and then the outbox.
abbrev pub put_back : PlainWorld
put_back = (local_at 1 add_x once_removed).1

abbrev pub second_first : PlainWorld
second_first = (give_at 2 1 2 put_back).1

abbrev pub both_waiting : PlainWorld
both_waiting = (resend_at 2 1 second_first).1

-- the ids of what waits at member 2
abbrev pub waiting : PlainWorld → List MessageId
waiting world = map id_of (replica_of world 2).early

pub record FirstIsKept : Type 0 where
  pub second : (give_at 2 1 2 put_back).0 ≡ giving.Got receive.Kept
  pub waits : waiting second_first ≡ id 1 2 ∷ []
  -- of the outbox the first message is kept, and the last isn't, since it was before
  pub kept : (resend_at 2 1 second_first).0 ≡ resending.Kept
  pub both_wait : waiting both_waiting ≡ id 1 1 ∷ id 1 2 ∷ []
  -- none of it is kept again
  pub nothing_more : (resend_at 2 1 both_waiting).0 ≡ resending.Nothing

-- Two members that may send two messages each. Member 1 adds x and gets a forged message, by which member 0 has that; so
-- it drops the second message of member 0, which has sent two and has nothing of member 1.
abbrev pub forged : Message
forged = does_to 0 (1 ∷ 1 ∷ []) set_s (Add x) yes

abbrev pub misled : PlainWorld
misled = let world = (local_at 1 add_x (opening 2 2 2)).1 in (offer_at 1 forged world).1

abbrev pub sent_two : PlainWorld
sent_two = let world = (local_at 0 add_x misled).1 in (local_at 0 add_x world).1

pub record DroppedMovesNothing : Type 0 where
  pub first : (give_at 1 0 1 sent_two).0 ≡ giving.Got receive.Old
  pub dropped : (give_at 1 0 2 sent_two).0 ≡ giving.Got (receive.Took (step.Crook (id 0 2) (crook.Regress 1 1 0) ∷ []))
  -- settling ends, though it is offered and dropped in every round
  pub still : (round_of (world_settled sent_two)).moved ≡ false
  pub dropped_again : (give_at 1 0 2 (world_settled sent_two)).0 ≡ giving.Got (receive.Took (step.Crook (id 0 2) (crook.Regress 1 1 0) ∷ []))
  pub unsettled : (settle_at sent_two).0 ≡ settling.Unsettled

-- member 0 added x, and member 1 has that; that it has, member 0 hasn't heard
pub record EndsOnceStable : Type 0 where
  pub equal_counts : is_quiescent once_given ≡ true
  pub not_yet : (regroup_at 2 once_given).0 ≡ regroup.Unsettled
  pub changes : (regroup_at 2 (world_settled once_given)).0 ≡ regroup.Regrouped 1

abbrev pub y : List ℕ
y = codes "y"

-- Two members. Member 0 adds x; member 1 has a forged message in its place, which adds y. They settle, and an epoch begins.
abbrev pub forged_y : Message
forged_y = does_to 0 (1 ∷ 0 ∷ []) set_s (Add y) yes

abbrev pub apart : PlainWorld
apart = world_settled (offer_at 1 forged_y once_added).1

abbrev pub apart_on : PlainWorld
apart_on = (regroup_at 2 apart).1

pub record EachKeepsItsOwn : Type 0 where
  pub changes : (regroup_at 2 apart).0 ≡ regroup.Regrouped 1
  pub at_0 : answer_at apart_on 0 set_s ≡ Values (x ∷ [])
  pub at_1 : answer_at apart_on 1 set_s ≡ Values (y ∷ [])

-- Two members, over three epochs. In the first, member 1 adds y, and member 0, which has that, removes x.
abbrev pub add_y : Update
add_y = record { object = set_s; act = Add y; of_kind = yes }

abbrev pub remove_y : Update
remove_y = record { object = set_s; act = Rmv y; of_kind = yes }

-- the world once all of it is stable and the next epoch has begun, of two members
abbrev pub gone_on : PlainWorld → PlainWorld
gone_on world = (regroup_at 2 (world_settled world)).1

abbrev pub first_epoch : PlainWorld
first_epoch = let world = (give_at 0 1 1 (local_at 1 add_y opened).1).1 in (local_at 0 remove_x world).1

-- in the second, member 1 adds x by its first message, of which number the remove had seen one
abbrev pub second_epoch : PlainWorld
second_epoch = (local_at 1 add_x (gone_on first_epoch)).1

abbrev pub third_epoch : PlainWorld
third_epoch = gone_on second_epoch

pub record EpochsAreApart : Type 0 where
  pub before : answer_at first_epoch 0 set_s ≡ Values (y ∷ [])
  -- the add of the second epoch is after the remove of the first, whatever their timestamps
  pub added : answer_at second_epoch 1 set_s ≡ Values (x ∷ y ∷ [])
  -- what was added in each of the two is there in the third, until it is removed
  pub epoch : epoch_in third_epoch ≡ 2
  pub all_there : answer_at third_epoch 0 set_s ≡ Values (x ∷ y ∷ [])
  pub items : items_at third_epoch 0 ≡ 2
  -- a remove takes out its value alone
  pub removed : answer_at (local_at 0 remove_y third_epoch).1 0 set_s ≡ Values (x ∷ [])
