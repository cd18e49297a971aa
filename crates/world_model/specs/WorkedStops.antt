-- A worked store whose replicas are stopped: what the definitions give, computed, beside what was meant. Each is the contract of
-- a function of worked_stops.rt. Two members with a window of 2; member 0 adds 5 to a counter.
use Rattle.std.specs.Prelude.{◌≡◌, ℕ, ◌+◌, false, List, [], ◌∷◌, ◌++◌, pos, take, length, Some, None}
use Rattle.op_base.specs.declared.operation.Act.TheVariants.{Inc}
use Rattle.op_base.specs.declared.operation.Update.{Update}
use Rattle.op_base.specs.declared.outcome.Answer.TheVariants.{Sum}
use Rattle.op_base.specs.declared.outcome.Step.TheVariants as step
use Rattle.causal_model.specs.declared.outcome.Receive.TheVariants as receive
use Rattle.causal_model.specs.Worked.{counter_c, id, yes}
use Rattle.world_model.specs.Records.{Settings, records_of, kept_reading, kept_prefix, kept_fault}
use Rattle.world_model.specs.Showing.{answer_at, seen_at}
use Rattle.world_model.specs.Stops.{PlainKeep, keep_opening, kept_by, keep_local_at, keep_beat_at, keep_give_at, keep_stop_at}
use Rattle.world_model.specs.declared.outcome.Given.TheVariants as giving

abbrev pub add_5 : Update
add_5 = record { object = counter_c; act = Inc 5; of_kind = yes }

-- member 1 is given what member 0 sent, and stopped before all of its record outlives it
abbrev pub sent_once : PlainKeep
sent_once = (keep_local_at 0 add_5 (keep_opening 2 2 10000)).1

abbrev pub given_once : PlainKeep
given_once = (keep_give_at 1 0 1 sent_once).1

abbrev pub stopped_early : PlainKeep
stopped_early = (keep_stop_at 1 27 given_once).1

-- it is given it again, stopped when the whole record outlives it, and confirms it
abbrev pub given_again : PlainKeep
given_again = (keep_give_at 1 0 1 stopped_early).1

abbrev pub confirmed : PlainKeep
confirmed = (keep_beat_at 1 (keep_stop_at 1 28 given_again).1).1

-- a stop then loses nothing, since what it sent is synced with all before; member 0 gets the confirmation
abbrev pub given_back : PlainKeep
given_back = (keep_give_at 0 1 1 (keep_stop_at 1 0 confirmed).1).1

pub record StopsLoseWhatIsNotSynced : Type 0 where
  pub given : (keep_give_at 1 0 1 sent_once).0 ≡ giving.Got (receive.Took (step.Took (id 0 1) ∷ []))
  pub lost : (keep_stop_at 1 27 given_once).0 ≡ 0
  pub nothing : answer_at stopped_early.world 1 counter_c ≡ Sum (pos 0)
  -- what was lost can be given again
  pub again : (keep_give_at 1 0 1 stopped_early).0 ≡ giving.Got (receive.Took (step.Took (id 0 1) ∷ []))
  pub left : (keep_stop_at 1 28 given_again).0 ≡ 2
  pub there : answer_at (keep_stop_at 1 28 given_again).1.world 1 counter_c ≡ Sum (pos 5)
  pub synced : (keep_stop_at 1 0 confirmed).0 ≡ 3
  -- member 0 keeps what it sent, and what it received as far as whole records outlive it
  pub own_alone : (keep_stop_at 0 20 given_back).0 ≡ 1
  pub seen : seen_at (keep_stop_at 0 20 given_back).1.world 0 ≡ 1 ∷ 0 ∷ []
  pub all : (keep_stop_at 0 21 given_back).0 ≡ 3

-- member 1's records at the end: of what it received, and of its no-op
abbrev pub of_1 : Settings
of_1 = record { me = 1; n = 2; w = 2; limit = 10000 }

abbrev pub bytes_1 : List ℕ
bytes_1 = records_of 2 (kept_by confirmed 1).groups

pub record RecordsAreRead : Type 0 where
  pub bytes : length bytes_1 ≡ 28 + 21
  pub all : kept_reading of_1 bytes_1 ≡ record { groups = (kept_by confirmed 1).groups; len = 49; faulty = false }
  -- a torn end is no fault
  pub torn_end : (kept_reading of_1 (take 48 bytes_1)).len ≡ 28
  pub torn : kept_fault of_1 (take 48 bytes_1) ≡ None
  -- a length that no record has is one, 8193; and a record that comes twice, and one of another member
  pub misfit : kept_fault of_1 (0 ∷ 0 ∷ 32 ∷ 1 ∷ []) ≡ Some 0
  pub twice : kept_fault of_1 (bytes_1 ++ bytes_1) ≡ Some 49
  pub other_member : kept_fault (record { me = 0; n = 2; w = 2; limit = 10000 }) bytes_1 ≡ Some 0
