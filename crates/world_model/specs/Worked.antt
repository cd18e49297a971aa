-- A worked store: what the definitions give, computed, beside what was meant. Each is the contract of a function of
-- worked.rt. Two members with a window of 2 and a limit of 10000.
use Rattle.std.specs.Prelude.{◌≡◌, true, false, [], ◌∷◌, Some, None, codes, pos}
use Rattle.op_base.specs.declared.message.Message.{Message}
use Rattle.op_base.specs.declared.name.Kind.TheVariants.{AwSet}
use Rattle.op_base.specs.declared.name.ObjectId.{ObjectId}
use Rattle.op_base.specs.declared.operation.Act.TheVariants.{Add, Rmv}
use Rattle.op_base.specs.declared.operation.Update.{Update}
use Rattle.op_base.specs.declared.outcome.Answer.TheVariants.{Values, Sum}
use Rattle.op_base.specs.declared.outcome.Step.TheVariants as step
use Rattle.causal_model.specs.declared.outcome.Local.TheVariants as local
use Rattle.causal_model.specs.declared.outcome.Beat.TheVariants as beat
use Rattle.causal_model.specs.declared.outcome.Receive.TheVariants as receive
use Rattle.causal_model.specs.Worked.{object, does_to, noop, id, x, yes, counter_c, numbered}
use Rattle.frame_codec.specs.Grammar.{frame_of}
use Rattle.frame_codec.specs.declared.fault.FrameFault.TheVariants.{Short, Members}
use Rattle.frame_codec.specs.declared.version.Version.TheVariants.{Two}
use Rattle.world_model.specs.Offering.{resend_at}
use Rattle.world_model.specs.Raw.{raw_at}
use Rattle.world_model.specs.Settling.{is_quiescent, round_of, world_settled}
use Rattle.world_model.specs.Showing.{answer_at, log_at, entries_at, items_at, stable_at, seen_at, noops_at, lags_at}
use Rattle.world_model.specs.World.{PlainWorld, opening, sent_by, local_at, beat_at, offer_at, give_at}
use Rattle.world_model.specs.declared.outcome.Given.TheVariants as giving
use Rattle.world_model.specs.declared.outcome.Resent.TheVariants as resending
use Rattle.world_model.specs.declared.outcome.RawGot.TheVariants as rawing

abbrev pub set_s : ObjectId
set_s = object AwSet (codes "s")

-- member 0 adds x to a set
abbrev pub add_x : Update
add_x = record { object = set_s; act = Add x; of_kind = yes }

abbrev pub added : Message
added = does_to 0 (1 ∷ 0 ∷ []) set_s (Add x) yes

-- the store before, after the add, and after its message was given to member 1
abbrev pub opened : PlainWorld
opened = opening 2 2 10000

abbrev pub once_added : PlainWorld
once_added = (local_at 0 add_x opened).1

abbrev pub once_given : PlainWorld
once_given = (give_at 1 0 1 once_added).1

-- a message is sent, given and asked for
pub record AddedAndGiven : Type 0 where
  pub nothing_yet : answer_at opened 0 set_s ≡ Values []
  pub unsent_yet : (give_at 1 0 1 opened).0 ≡ giving.Unsent
  pub sent : (local_at 0 add_x opened).0 ≡ local.Sent added
  pub here : answer_at once_added 0 set_s ≡ Values (x ∷ [])
  pub not_there : answer_at once_added 1 set_s ≡ Values []
  pub given : (give_at 1 0 1 once_added).0 ≡ giving.Got (receive.Took (step.Took (id 0 1) ∷ []))
  pub there : answer_at once_given 1 set_s ≡ Values (x ∷ [])
  pub given_again : (give_at 1 0 1 once_given).0 ≡ giving.Got receive.Old
  -- member 1 is to say that it has it
  pub due : (beat_at 1 once_given).0 ≡ beat.Sent (noop 1 (1 ∷ 1 ∷ []))
  pub resent : (resend_at 1 0 once_added).0 ≡ resending.Took (step.Took (id 0 1) ∷ [])

-- settling brings the message to member 1, and brings back to member 0 that it is there
pub record AddSettles : Type 0 where
  pub moves : (round_of once_added).moved ≡ true
  pub unsettled : is_quiescent once_added ≡ false
  pub settled : is_quiescent (world_settled once_added) ≡ true
  -- the add and the no-op of member 1 are everywhere
  pub seen : seen_at (world_settled once_added) 0 ≡ 1 ∷ 1 ∷ []
  pub there : answer_at (world_settled once_added) 1 set_s ≡ Values (x ∷ [])
  -- member 0 logs the add until it knows that member 1 has it
  pub logged : log_at once_given 0 ≡ id 0 1 ∷ []
  pub stable : stable_at (world_settled once_added) 0 ≡ 1 ∷ 1 ∷ []
  pub log : entries_at (world_settled once_added) 0 ≡ 0
  pub items : items_at (world_settled once_added) 0 ≡ 1
  -- no more is to say
  pub still : (round_of (world_settled once_added)).moved ≡ false

-- bytes are a message, or have a fault
pub record BytesAreOffered : Type 0 where
  pub short : (raw_at 1 [] opened).0 ≡ rawing.Bad Short
  pub of_three : (raw_at 1 (frame_of Two 3 0 (noop 0 (1 ∷ 0 ∷ 0 ∷ []))) opened).0 ≡ rawing.Bad Members
  -- those of an increment of member 0 are received as the increment is
  pub frame : (raw_at 1 (frame_of Two 2 0 (numbered 1)) opened).0 ≡ rawing.Got (offer_at 1 (numbered 1) opened).0
  pub there : answer_at (raw_at 1 (frame_of Two 2 0 (numbered 1)) opened).1 1 counter_c ≡ Sum (pos 1)
  -- but member 0 didn't send it
  pub unsent : sent_by (raw_at 1 (frame_of Two 2 0 (numbered 1)) opened).1 0 ≡ []

-- Three members with a window of 4. Member 0 adds x, and member 1, which has that, removes it.
abbrev pub remove_x : Update
remove_x = record { object = set_s; act = Rmv x; of_kind = yes }

abbrev pub of_three : PlainWorld
of_three = let world = opening 3 4 10000 in (local_at 0 add_x world).1

abbrev pub once_removed : PlainWorld
once_removed = let world = (give_at 1 0 1 of_three).1 in (local_at 1 remove_x world).1

-- the remove comes to member 2 before the add
abbrev pub removed_first : PlainWorld
removed_first = (give_at 2 1 1 once_removed).1

pub record RemoveWaits : Type 0 where
  -- the remove is kept and not delivered, given once or twice
  pub kept : (give_at 2 1 1 once_removed).0 ≡ giving.Got receive.Kept
  pub same_again : (give_at 2 1 1 removed_first).0 ≡ giving.Got receive.Again
  pub seen : seen_at removed_first 2 ≡ 0 ∷ 0 ∷ 0 ∷ []
  -- with the add both are delivered
  pub both : (resend_at 2 0 removed_first).0 ≡ resending.Took (step.Took (id 0 1) ∷ step.Took (id 1 1) ∷ [])
  pub out : answer_at (resend_at 2 0 removed_first).1 2 set_s ≡ Values []
  -- where nothing of member 1's outbox is new, nothing comes of it
  pub nothing_new : (resend_at 2 1 (resend_at 2 0 removed_first).1).0 ≡ resending.Nothing

-- the store of two once member 1 said by a no-op that it has the add, and once member 0 had that
abbrev pub once_told : PlainWorld
once_told = (beat_at 1 once_given).1

abbrev pub once_heard : PlainWorld
once_heard = (give_at 0 1 1 once_told).1

pub record EachWaitsForTheOther : Type 0 where
  -- nothing is waited for before anything was sent
  pub nothing_sent : lags_at opened 0 ≡ None
  -- member 0 doesn't know that member 1 has the add, though it has
  pub waits : lags_at once_given 0 ≡ Some 1
  pub no_noop : noops_at once_given 0 ≡ 0
  -- member 1 doesn't know that member 0 has its no-op
  pub one_noop : noops_at once_told 1 ≡ 1
  pub waits_too : lags_at once_told 1 ≡ Some 0
  -- with the no-op member 0 has heard that the add is everywhere; that it has the no-op, member 1 hasn't heard
  pub heard : lags_at once_heard 0 ≡ None
  pub unheard : lags_at once_heard 1 ≡ Some 0
  -- of several members that aren't known to have it, the least: not member 1 itself
  pub least : lags_at once_removed 1 ≡ Some 0
  pub next_least : lags_at of_three 0 ≡ Some 1
  -- after settling member 1 still waits to hear of its no-op
  pub one_left : noops_at (world_settled once_added) 1 ≡ 1
  pub left : lags_at (world_settled once_added) 1 ≡ Some 0
