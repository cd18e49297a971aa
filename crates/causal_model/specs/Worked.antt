-- Worked histories: what the definitions give, computed, beside what was meant. Each is the contract of a function of
-- worked.rt. What was meant is the rules of this project's own profile, worked out by hand.
use Rattle.std.specs.Prelude.{◌≡◌, ℕ, zero, suc, true, false, IsTrue, List, [], ◌∷◌, ◌++◌, map, length, All, Some, None, pos, codes}
use Rattle.op_base.specs.Message.{id_of}
use Rattle.op_base.specs.Operation.{has_act}
use Rattle.op_base.specs.declared.name.ObjectId.{ObjectId}
use Rattle.op_base.specs.declared.name.Kind.{Kind}
use Rattle.op_base.specs.declared.name.Kind.TheVariants.{AwSet, RwSet, EwFlag, DwFlag, MvReg, Counter, RCounter}
use Rattle.op_base.specs.declared.message.Message.{Message}
use Rattle.op_base.specs.declared.tag.MessageId.{MessageId}
use Rattle.op_base.specs.declared.operation.Act.{Act}
use Rattle.op_base.specs.declared.operation.Act.TheVariants.{Add, Rmv, Clear, Enable, Disable, Write, Inc, Dec}
use Rattle.op_base.specs.declared.operation.Update.{Update}
use Rattle.op_base.specs.declared.operation.Op.TheVariants as op
use Rattle.op_base.specs.declared.outcome.Answer.TheVariants.{Values, Flag, Sum}
use Rattle.op_base.specs.declared.outcome.Crook.TheVariants as crook
use Rattle.op_base.specs.declared.outcome.Step.TheVariants as step
use Rattle.causal_model.specs.Order.{happened_before}
use Rattle.causal_model.specs.Counts.{counts, is_deliverable}
use Rattle.causal_model.specs.Stability.{stable_vector}
use Rattle.causal_model.specs.Crook.{crook_of}
use Rattle.causal_model.specs.Chapter.{is_chapter}
use Rattle.causal_model.specs.History.{History, of_one_epoch, events_in, events, is_before, is_history}
use Rattle.causal_model.specs.Query.{answer}
use Rattle.causal_model.specs.Covering.{store_keeps, store_covers}
use Rattle.causal_model.specs.Log.{kept_log}
use Rattle.causal_model.specs.Settled.{on_cell, settled_cell, settled_items}
use Rattle.causal_model.specs.Sending.{sending, is_noop_due, beating, outbox_of}
use Rattle.causal_model.specs.Receiving.{receive_rule}
use Rattle.causal_model.specs.State.{State, start, counted}
use Rattle.causal_model.specs.Journal.{replay, receive_notes, IsLegal}
use Rattle.causal_model.specs.declared.note.Note.{Note}
use Rattle.causal_model.specs.declared.outcome.Local.TheVariants as local
use Rattle.causal_model.specs.declared.outcome.Beat.TheVariants as beat
use Rattle.causal_model.specs.declared.outcome.Receive.TheVariants as receive
use Rattle.causal_model.specs.declared.note.Note.TheVariants as note

-- the object of a kind with a key
abbrev pub object : Kind → List ℕ → ObjectId
object kind key = record { kind = kind; key = key }

-- a message of an origin with a timestamp that does an act to an object
abbrev pub does_to : ℕ → List ℕ → (o : ObjectId) (act : Act) → IsTrue (has_act o.kind act) → Message
does_to origin tag o act fits = record { origin = origin; tag = tag; op = op.Update (record { object = o; act = act; of_kind = fits }) }

-- a no-op of an origin with a timestamp
abbrev pub noop : ℕ → List ℕ → Message
noop origin tag = record { origin = origin; tag = tag; op = op.NoOp }

-- the id of an origin and a number
abbrev pub id : ℕ → ℕ → MessageId
id origin seq = record { origin = origin; seq = seq }

abbrev pub x : List ℕ
x = codes "x"

abbrev pub yes : true ≡ true
yes = λ i. true

-- ---- sets

-- Two members. Member 0 adds x; member 1 has seen that and removes x, while member 0 adds x again.
abbrev pub awset_s : ObjectId
awset_s = object AwSet (codes "s")

abbrev pub first_add : Message
first_add = does_to 0 (1 ∷ 0 ∷ []) awset_s (Add x) yes

abbrev pub remove : Message
remove = does_to 1 (1 ∷ 1 ∷ []) awset_s (Rmv x) yes

abbrev pub second_add : Message
second_add = does_to 0 (2 ∷ 0 ∷ []) awset_s (Add x) yes

abbrev pub adds_at_0 : List Message
adds_at_0 = first_add ∷ second_add ∷ remove ∷ []

abbrev pub adds_at_1 : List Message
adds_at_1 = first_add ∷ remove ∷ second_add ∷ []

-- which of these happened before which
pub record BeforeAndConcurrent : Type 0 where
  -- the sender of the remove had the first add
  pub seen : IsTrue (happened_before first_add remove)
  -- a member has its own earlier messages
  pub own : IsTrue (happened_before first_add second_add)
  -- the second add and the remove are concurrent: neither sender had the other
  pub add_unseen : happened_before second_add remove ≡ false
  pub remove_unseen : happened_before remove second_add ≡ false
  -- no message happened before itself
  pub itself : happened_before remove remove ≡ false

-- the add that is concurrent with the remove wins, at both members
pub record AddWins : Type 0 where
  pub history_0 : IsTrue (is_chapter 2 2 0 adds_at_0)
  pub history_1 : IsTrue (is_chapter 2 2 1 adds_at_1)
  -- x is in the set at both
  pub at_0 : answer awset_s (events_in 0 adds_at_0) ≡ Values (x ∷ [])
  pub at_1 : answer awset_s (events_in 0 adds_at_1) ≡ Values (x ∷ [])
  -- before the second add came, it wasn't
  pub removed : answer awset_s (events_in 0 (first_add ∷ remove ∷ [])) ≡ Values []
  -- a clear after an add leaves nothing
  pub cleared : answer awset_s (events_in 0 (first_add ∷ does_to 1 (1 ∷ 1 ∷ []) awset_s Clear yes ∷ [])) ≡ Values []

-- what is stable there, and what is logged, settled and sent again
pub record StableAndLog : Type 0 where
  -- what each member knows that both have
  pub stable_0 : stable_vector 2 0 adds_at_0 ≡ 1 ∷ 1 ∷ []
  pub stable_1 : stable_vector 2 1 adds_at_1 ≡ 2 ∷ 0 ∷ []
  -- member 1 has all three
  pub seen_1 : counts 2 adds_at_1 ≡ 2 ∷ 1 ∷ []
  -- member 0 logs its second add, which member 1 isn't known to have; at member 1 that add is settled
  pub log_0 : map id_of (kept_log store_keeps store_covers 2 0 adds_at_0) ≡ id 0 2 ∷ []
  pub log_1 : kept_log store_keeps store_covers 2 1 adds_at_1 ≡ []
  pub items_1 : length (settled_items (of_one_epoch 2 1 adds_at_1)) ≡ 1
  -- member 0's first add is acknowledged; its second add and member 1's remove are not
  pub outbox_0 : map id_of (outbox_of 2 0 adds_at_0) ≡ id 0 2 ∷ []
  pub outbox_1 : map id_of (outbox_of 2 1 adds_at_1) ≡ id 1 1 ∷ []

-- Two members add and remove one value of a remove-wins set, each without having seen the other.
abbrev pub rwset_s : ObjectId
rwset_s = object RwSet (codes "s")

pub record RemoveWins : Type 0 where
  pub history : IsTrue (is_chapter 2 4 0 (does_to 0 (1 ∷ 0 ∷ []) rwset_s (Add x) yes ∷ does_to 1 (0 ∷ 1 ∷ []) rwset_s (Rmv x) yes ∷ []))
  -- the remove wins
  pub out : answer rwset_s (events_in 0 (does_to 0 (1 ∷ 0 ∷ []) rwset_s (Add x) yes ∷ does_to 1 (0 ∷ 1 ∷ []) rwset_s (Rmv x) yes ∷ [])) ≡ Values []
  -- a clear that has seen the add voids it
  pub cleared : answer rwset_s (events_in 0 (does_to 0 (1 ∷ 0 ∷ []) rwset_s (Add x) yes ∷ does_to 1 (1 ∷ 1 ∷ []) rwset_s Clear yes ∷ [])) ≡ Values []
  -- once both are stable, the add and the remove leave no item
  pub items : settled_items (of_one_epoch 2 0 (does_to 0 (1 ∷ 0 ∷ []) rwset_s (Add x) yes ∷ does_to 1 (0 ∷ 1 ∷ []) rwset_s (Rmv x) yes ∷ noop 1 (1 ∷ 2 ∷ []) ∷ [])) ≡ []

-- Each of two members removes the value and then adds it: each remove has an add after it.
abbrev pub all_but_one : List Message
all_but_one =
    does_to 0 (1 ∷ 0 ∷ []) rwset_s (Rmv x) yes ∷ does_to 0 (2 ∷ 0 ∷ []) rwset_s (Add x) yes
    ∷ does_to 1 (0 ∷ 1 ∷ []) rwset_s (Rmv x) yes ∷ []

abbrev pub readded : List Message
readded = all_but_one ++ does_to 1 (0 ∷ 2 ∷ []) rwset_s (Add x) yes ∷ []

pub record AddAfterBothRemoves : Type 0 where
  pub history : IsTrue (is_chapter 2 4 0 readded)
  -- no add is after member 1's remove yet
  pub half : answer rwset_s (events_in 0 all_but_one) ≡ Values []
  pub inside : answer rwset_s (events_in 0 readded) ≡ Values (x ∷ [])
  -- member 0's own add is unstable, and covers its remove; member 1's add is settled
  pub log : map id_of (kept_log store_keeps store_covers 2 0 readded) ≡ id 0 2 ∷ []
  pub items : length (settled_items (of_one_epoch 2 0 readded)) ≡ 1

-- Three members. Member 0 adds x while member 1 removes it; the remove becomes stable at member 0; then member 1 clears.
abbrev pub before_clear : List Message
before_clear = does_to 0 (1 ∷ 0 ∷ 0 ∷ []) rwset_s (Add x) yes ∷ does_to 1 (0 ∷ 1 ∷ 0 ∷ []) rwset_s (Rmv x) yes ∷ noop 2 (0 ∷ 1 ∷ 1 ∷ []) ∷ []

abbrev pub after_clear : List Message
after_clear = before_clear ++ does_to 1 (0 ∷ 2 ∷ 0 ∷ []) rwset_s Clear yes ∷ []

pub record StableRemoveIsVoided : Type 0 where
  pub history : IsTrue (is_chapter 3 4 0 after_clear)
  -- the remove is all that is stable
  pub stable : stable_vector 3 0 before_clear ≡ 0 ∷ 1 ∷ 0 ∷ []
  -- the stable remove still counts against the pending add
  pub marks : settled_cell (of_one_epoch 3 0 before_clear) rwset_s (Some x) ≡ record { on = false; off = true; sum = pos 0 }
  pub out : answer rwset_s (events_in 0 before_clear) ≡ Values []
  -- the clear voids the remove, and not the add that it is concurrent with
  pub inside : answer rwset_s (events_in 0 after_clear) ≡ Values (x ∷ [])
  pub unmarked : settled_cell (of_one_epoch 3 0 after_clear) rwset_s (Some x) ≡ record { on = false; off = false; sum = pos 0 }

-- Three members. Each knows only of its own: member 0 adds, member 1 adds, member 2 removes. Members 1 and 2 then
-- acknowledge one another, and not member 0.
abbrev pub both_marks : List Message
both_marks =
    does_to 0 (1 ∷ 0 ∷ 0 ∷ []) rwset_s (Add x) yes ∷ does_to 1 (0 ∷ 1 ∷ 0 ∷ []) rwset_s (Add x) yes ∷ does_to 2 (0 ∷ 0 ∷ 1 ∷ []) rwset_s (Rmv x) yes
    ∷ noop 1 (0 ∷ 2 ∷ 1 ∷ []) ∷ noop 2 (0 ∷ 1 ∷ 2 ∷ []) ∷ []

pub record BothMarks : Type 0 where
  pub history : IsTrue (is_chapter 3 4 0 both_marks)
  -- an add and a remove are settled, and member 0's add is pending
  pub stable : stable_vector 3 0 both_marks ≡ 0 ∷ 1 ∷ 1 ∷ []
  pub marks : settled_cell (of_one_epoch 3 0 both_marks) rwset_s (Some x) ≡ record { on = true; off = true; sum = pos 0 }
  -- the remove has no add after it
  pub out : answer rwset_s (events_in 0 both_marks) ≡ Values []

-- ---- flags, registers and counters

-- Member 0 enables a flag, and member 1 disables it, mostly without having seen it.
abbrev pub flag_f : Kind → ObjectId
flag_f kind = object kind (codes "f")

abbrev pub enable_e : Message
enable_e = does_to 0 (1 ∷ 0 ∷ []) (flag_f EwFlag) Enable yes

abbrev pub ew_unseen : List Message
ew_unseen = enable_e ∷ does_to 1 (0 ∷ 1 ∷ []) (flag_f EwFlag) Disable yes ∷ []

abbrev pub ew_seen : List Message
ew_seen = enable_e ∷ does_to 1 (1 ∷ 1 ∷ []) (flag_f EwFlag) Disable yes ∷ []

abbrev pub both_d : List Message
both_d = does_to 0 (1 ∷ 0 ∷ []) (flag_f DwFlag) Enable yes ∷ does_to 1 (0 ∷ 1 ∷ []) (flag_f DwFlag) Disable yes ∷ []

abbrev pub dw_enabled : List Message
dw_enabled = both_d ++ does_to 0 (2 ∷ 1 ∷ []) (flag_f DwFlag) Enable yes ∷ []

abbrev pub dw_cleared : List Message
dw_cleared = both_d ++ does_to 1 (0 ∷ 2 ∷ []) (flag_f DwFlag) Clear yes ∷ []

pub record ConcurrentFlags : Type 0 where
  pub histories : All (λ h. IsTrue (is_chapter 2 4 0 h)) (ew_unseen ∷ ew_seen ∷ dw_enabled ∷ dw_cleared ∷ [])
  -- of two concurrent ones the enable wins in the one kind, and the disable in the other
  pub enable_wins : answer (flag_f EwFlag) (events_in 0 ew_unseen) ≡ Flag true
  pub disable_wins : answer (flag_f DwFlag) (events_in 0 both_d) ≡ Flag false
  -- what has seen the other wins in both
  pub disabled : answer (flag_f EwFlag) (events_in 0 ew_seen) ≡ Flag false
  pub enabled : answer (flag_f DwFlag) (events_in 0 dw_enabled) ≡ Flag true
  -- a clear voids the disable that it has seen, and not the enable that it hasn't
  pub cleared : answer (flag_f DwFlag) (events_in 0 dw_cleared) ≡ Flag true
  -- a clear after an enable leaves it off
  pub cleared_after : answer (flag_f EwFlag) (events_in 0 (enable_e ∷ does_to 1 (1 ∷ 1 ∷ []) (flag_f EwFlag) Clear yes ∷ [])) ≡ Flag false
  -- the flag of the other kind was never enabled
  pub other_kind : answer (flag_f DwFlag) (events_in 0 (enable_e ∷ [])) ≡ Flag false
  -- a settled enable is an on mark
  pub items : settled_items (of_one_epoch 2 0 (enable_e ∷ noop 1 (1 ∷ 1 ∷ []) ∷ [])) ≡ record { object = flag_f EwFlag; value = None; cell = on_cell true } ∷ []

-- Two members write two registers, each without having seen the other: both write a to one, b and a to the other.
abbrev pub mvreg_m : ObjectId
mvreg_m = object MvReg (codes "m")

abbrev pub mvreg_q : ObjectId
mvreg_q = object MvReg (codes "q")

abbrev pub own_write : Message
own_write = does_to 0 (1 ∷ 0 ∷ []) mvreg_m (Write (codes "a")) yes

abbrev pub writes : List Message
writes =
    own_write ∷ does_to 0 (2 ∷ 0 ∷ []) mvreg_q (Write (codes "b")) yes
    ∷ does_to 1 (0 ∷ 1 ∷ []) mvreg_m (Write (codes "a")) yes ∷ does_to 1 (0 ∷ 2 ∷ []) mvreg_q (Write (codes "a")) yes ∷ []

pub record ConcurrentWrites : Type 0 where
  pub history : IsTrue (is_chapter 2 4 0 writes)
  -- a value that was written twice is there once
  pub once : answer mvreg_m (events_in 0 writes) ≡ Values (codes "a" ∷ [])
  -- two values are in byte order, and not in that of their writes
  pub in_order : answer mvreg_q (events_in 0 writes) ≡ Values (codes "a" ∷ codes "b" ∷ [])
  -- a settled write is an on mark of its value
  pub items : settled_items (of_one_epoch 2 0 (own_write ∷ noop 1 (1 ∷ 1 ∷ []) ∷ []))
      ≡ record { object = mvreg_m; value = Some (codes "a"); cell = on_cell true } ∷ []
  -- a clear after a write leaves none
  pub cleared : answer mvreg_m (events_in 0 (own_write ∷ does_to 1 (1 ∷ 1 ∷ []) mvreg_m Clear yes ∷ [])) ≡ Values []

-- A counter is raised by 5 at one member and cleared at another, neither having seen the other.
abbrev pub rcounter_c : ObjectId
rcounter_c = object RCounter (codes "c")

abbrev pub raise : Message
raise = does_to 0 (1 ∷ 0 ∷ []) rcounter_c (Inc 5) yes

abbrev pub unseen_clear : Message
unseen_clear = does_to 1 (0 ∷ 1 ∷ []) rcounter_c Clear yes

abbrev pub seen_clear : Message
seen_clear = does_to 1 (1 ∷ 1 ∷ []) rcounter_c Clear yes

pub record ConcurrentClear : Type 0 where
  pub histories_0 : All (λ h. IsTrue (is_chapter 2 4 0 h)) ((raise ∷ unseen_clear ∷ []) ∷ (raise ∷ seen_clear ∷ []) ∷ [])
  pub history_1 : IsTrue (is_chapter 2 4 1 (unseen_clear ∷ raise ∷ []))
  -- at both members the amount that the clear hasn't seen is left
  pub at_0 : answer rcounter_c (events_in 0 (raise ∷ unseen_clear ∷ [])) ≡ Sum (pos 5)
  pub at_1 : answer rcounter_c (events_in 0 (unseen_clear ∷ raise ∷ [])) ≡ Sum (pos 5)
  -- what it has seen is cleared
  pub after : answer rcounter_c (events_in 0 (raise ∷ seen_clear ∷ [])) ≡ Sum (pos 0)

-- One member adds 5 to a counter and another takes 5 away.
abbrev pub counter_c : ObjectId
counter_c = object Counter (codes "c")

abbrev pub up : Message
up = does_to 0 (1 ∷ 0 ∷ []) counter_c (Inc 5) yes

abbrev pub down : Message
down = does_to 1 (0 ∷ 1 ∷ []) counter_c (Dec 5) yes

pub record SettledCounters : Type 0 where
  pub histories : All (λ h. IsTrue (is_chapter 2 4 0 h)) ((up ∷ down ∷ []) ∷ (raise ∷ noop 1 (1 ∷ 1 ∷ []) ∷ []) ∷ [])
  -- a counter's item has the amounts of all messages, stable or not
  pub unstable : map (λ item. item.cell.sum) (settled_items (of_one_epoch 2 0 (up ∷ []))) ≡ pos 5 ∷ []
  -- inc 5 and dec 5 together leave no item
  pub none : settled_items (of_one_epoch 2 0 (up ∷ down ∷ [])) ≡ []
  -- a counter that can be cleared has an item of its stable amounts
  pub pending : settled_items (of_one_epoch 2 0 (raise ∷ [])) ≡ []
  pub settled : map (λ item. item.cell.sum) (settled_items (of_one_epoch 2 0 (raise ∷ noop 1 (1 ∷ 1 ∷ []) ∷ []))) ≡ pos 5 ∷ []

-- Member 0's own operations on objects of each kind, none of which anybody has acknowledged.
abbrev pub own_operations : List Message
own_operations =
    does_to 0 (1 ∷ 0 ∷ []) awset_s (Add (codes "a")) yes ∷ does_to 0 (2 ∷ 0 ∷ []) awset_s (Rmv (codes "a")) yes
    ∷ does_to 0 (3 ∷ 0 ∷ []) awset_s (Add x) yes ∷ does_to 0 (4 ∷ 0 ∷ []) awset_s (Add x) yes
    ∷ does_to 0 (5 ∷ 0 ∷ []) (flag_f EwFlag) Enable yes ∷ does_to 0 (6 ∷ 0 ∷ []) (flag_f EwFlag) Disable yes ∷ does_to 0 (7 ∷ 0 ∷ []) (flag_f EwFlag) Enable yes
    ∷ does_to 0 (8 ∷ 0 ∷ []) (flag_f DwFlag) Enable yes ∷ does_to 0 (9 ∷ 0 ∷ []) (flag_f DwFlag) Disable yes
    ∷ does_to 0 (10 ∷ 0 ∷ []) mvreg_m (Write (codes "a")) yes ∷ does_to 0 (11 ∷ 0 ∷ []) mvreg_m (Write (codes "b")) yes
    ∷ does_to 0 (12 ∷ 0 ∷ []) counter_c (Inc 1) yes ∷ does_to 0 (13 ∷ 0 ∷ []) rcounter_c (Inc 1) yes ∷ does_to 0 (14 ∷ 0 ∷ []) rcounter_c Clear yes
    ∷ does_to 0 (15 ∷ 0 ∷ []) rcounter_c (Inc 1) yes ∷ does_to 0 (16 ∷ 0 ∷ []) rcounter_c (Dec 1) yes ∷ []

pub record LoggedByKind : Type 0 where
  pub history : IsTrue (is_chapter 2 16 0 own_operations)
  -- of what its kind keeps, that which no later operation covers
  pub log : map id_of (kept_log store_keeps store_covers 2 0 own_operations) ≡ id 0 4 ∷ id 0 7 ∷ id 0 9 ∷ id 0 11 ∷ id 0 15 ∷ id 0 16 ∷ []

-- ---- receiving

-- Three members. Member 1 has seen the write of a and writes b; b comes first to member 2, and is taken with its cause.
abbrev pub write_a : Message
write_a = does_to 0 (1 ∷ 0 ∷ 0 ∷ []) mvreg_m (Write (codes "a")) yes

abbrev pub write_b : Message
write_b = does_to 1 (1 ∷ 1 ∷ 0 ∷ []) mvreg_m (Write (codes "b")) yes

-- the state of member me of n members in the first epoch, with these messages delivered and these early
abbrev pub state : ℕ → ℕ → List Message → List Message → State
state n me messages early = record { history = of_one_epoch n me messages; early = early }

abbrev pub early_b : State
early_b = state 3 2 [] (write_b ∷ [])

abbrev pub both_taken : State
both_taken = state 3 2 (write_a ∷ write_b ∷ []) []

pub record TakenWithItsCause : Type 0 where
  -- b waits for a, which its sender had
  pub kept : receive_rule 4 write_b (start 3 2) ≡ (receive.Kept, early_b)
  pub same_again : receive_rule 4 write_b early_b ≡ (receive.Again, early_b)
  -- with a both are delivered, a first
  pub taken : receive_rule 4 write_a early_b ≡ (receive.Took (step.Took (id 0 1) ∷ step.Took (id 1 1) ∷ []), both_taken)
  -- b was written after a
  pub last : answer mvreg_m (events both_taken.history) ≡ Values (codes "b" ∷ [])
  pub old_then : receive_rule 4 write_a both_taken ≡ (receive.Old, both_taken)

-- what that leaves in a journal
pub record JournalReplays : Type 0 where
  -- the message as it is accepted, and then its steps in order
  pub notes_a : receive_notes write_a (receive_rule 4 write_a early_b).0
      ≡ note.Kept write_a ∷ note.Took (id 0 1) ∷ note.Took (id 1 1) ∷ []
  -- what isn't accepted leaves no note
  pub notes_old : receive_notes write_a (receive_rule 4 write_a both_taken).0 ≡ []
  -- the replay of both calls' notes is the state that they left
  pub replayed : replay 3 2 (receive_notes write_b (receive_rule 4 write_b (start 3 2)).0 ++ receive_notes write_a (receive_rule 4 write_a early_b).0)
      ≡ both_taken
  -- an own message is delivered at once, and one that was dropped is gone
  pub dropped : replay 2 0 (note.Sent first_add ∷ note.Kept remove ∷ note.Crook (id 1 1) ∷ []) ≡ state 2 0 (first_add ∷ []) []

-- Two members with a window of one, so that the two windows are 4 together. Messages of member 0 come to member 1.
abbrev pub numbered : ℕ → Message
numbered s = does_to 0 (s ∷ 0 ∷ []) counter_c (Inc 1) yes

pub record KeptUpToTheWindows : Type 0 where
  -- the fourth message is kept, and the fifth is too far ahead
  pub at_bound : receive_rule 1 (numbered 4) (start 2 1) ≡ (receive.Kept, state 2 1 [] (numbered 4 ∷ []))
  pub past_bound : receive_rule 1 (numbered 5) (start 2 1) ≡ (receive.Far, start 2 1)
  -- the same message again
  pub same_again : receive_rule 1 (numbered 4) (state 2 1 [] (numbered 4 ∷ [])) ≡ (receive.Again, state 2 1 [] (numbered 4 ∷ []))
  -- a message that has seen one of member 1, which has sent nothing
  pub seen_unsent : receive_rule 1 (does_to 0 (1 ∷ 1 ∷ []) counter_c (Inc 1) yes) (start 2 1) ≡ (receive.Far, start 2 1)
  -- a message of member 1 itself
  pub own : receive_rule 1 (does_to 1 (0 ∷ 1 ∷ []) counter_c (Inc 1) yes) (start 2 1) ≡ (receive.Old, start 2 1)

-- Four members. Members 0 and 1 have 2:1 and send; what they send comes to member 3 before it, from member 1 first.
abbrev pub cause : Message
cause = does_to 2 (0 ∷ 0 ∷ 1 ∷ 0 ∷ []) counter_c (Inc 1) yes

abbrev pub after_at_0 : Message
after_at_0 = does_to 0 (1 ∷ 0 ∷ 1 ∷ 0 ∷ []) counter_c (Inc 1) yes

abbrev pub after_at_1 : Message
after_at_1 = does_to 1 (0 ∷ 1 ∷ 1 ∷ 0 ∷ []) counter_c (Inc 1) yes

pub record LowestMemberFirst : Type 0 where
  -- both wait for their cause
  pub waiting : receive_rule 4 after_at_0 (state 4 3 [] (after_at_1 ∷ [])) ≡ (receive.Kept, state 4 3 [] (after_at_0 ∷ after_at_1 ∷ []))
  -- with it both can be delivered, and that of the lower member is first
  pub taken : receive_rule 4 cause (state 4 3 [] (after_at_0 ∷ after_at_1 ∷ [])) ≡ (receive.Took (step.Took (id 2 1) ∷ step.Took (id 0 1) ∷ step.Took (id 1 1) ∷ []), state 4 3 (cause ∷ after_at_0 ∷ after_at_1 ∷ []) [])

-- Three members. Member 0 has seen 2:1 and sends 0:1, and member 2 has both. What member 1 then can't have sent:
abbrev pub seen_both : List Message
seen_both = does_to 2 (0 ∷ 0 ∷ 1 ∷ []) counter_c (Inc 1) yes ∷ does_to 0 (1 ∷ 0 ∷ 1 ∷ []) counter_c (Inc 1) yes ∷ []

abbrev pub noops : ℕ → List Message
noops zero = []
noops (suc s) = noops s ++ noop 0 (suc s ∷ 0 ∷ 0 ∷ []) ∷ []

-- what member 1 sends with a timestamp
abbrev pub at_1 : List ℕ → Message
at_1 tag = does_to 1 tag counter_c (Inc 5) yes

abbrev pub seen_three : List Message
seen_three = seen_both ++ at_1 (1 ∷ 1 ∷ 1 ∷ []) ∷ []

-- an operation of member 0 that nobody has acknowledged
abbrev pub one_unstable : State
one_unstable = state 3 2 (does_to 0 (1 ∷ 0 ∷ 0 ∷ []) counter_c (Inc 1) yes ∷ []) []

pub record Crooks : Type 0 where
  pub histories : All (λ h. IsTrue (is_chapter 3 4 2 h)) (seen_three ∷ noops 5 ∷ [])
  -- each message that is told here can be delivered
  pub unclosed_comes : All (λ m. IsTrue (is_deliverable 3 (counts 3 seen_both) m)) (at_1 (1 ∷ 1 ∷ 0 ∷ []) ∷ at_1 (1 ∷ 1 ∷ 1 ∷ []) ∷ [])
  pub regress_comes : All (λ m. IsTrue (is_deliverable 3 (counts 3 seen_three) m)) (at_1 (0 ∷ 2 ∷ 1 ∷ []) ∷ at_1 (1 ∷ 2 ∷ 0 ∷ []) ∷ [])
  pub noop_comes : IsTrue (is_deliverable 3 (counts 3 (noops 5)) (noop 0 (6 ∷ 0 ∷ 0 ∷ [])))
  -- it has seen 0:1 and not 2:1, which 0:1 had seen
  pub unclosed : crook_of 3 4 2 seen_both (at_1 (1 ∷ 1 ∷ 0 ∷ [])) ≡ Some (crook.Unclosed 0 2 1 0)
  pub unclosed_dropped : receive_rule 4 (at_1 (1 ∷ 1 ∷ 0 ∷ [])) (state 3 2 seen_both []) ≡ (receive.Took (step.Crook (id 1 1) (crook.Unclosed 0 2 1 0) ∷ []), state 3 2 seen_both [])
  -- it has seen both
  pub none : crook_of 3 4 2 seen_both (at_1 (1 ∷ 1 ∷ 1 ∷ [])) ≡ None
  -- it had seen 0:1 before, and now hasn't
  pub regress : crook_of 3 4 2 seen_three (at_1 (0 ∷ 2 ∷ 1 ∷ [])) ≡ Some (crook.Regress 0 1 0)
  -- it is both, and over a window of one too: the first cause is told
  pub first_cause : crook_of 3 1 2 seen_three (at_1 (1 ∷ 2 ∷ 0 ∷ [])) ≡ Some (crook.Regress 2 1 0)
  -- a second operation while the first is unstable, with a window of one: it is dropped
  pub overrun : receive_rule 1 (does_to 0 (2 ∷ 0 ∷ 0 ∷ []) counter_c (Inc 1) yes) one_unstable ≡ (receive.Took (step.Crook (id 0 2) (crook.Overrun 2) ∷ []), one_unstable)
  -- a no-op in its place is delivered
  pub noop_taken : receive_rule 1 (noop 0 (2 ∷ 0 ∷ 0 ∷ [])) one_unstable ≡ (receive.Took (step.Took (id 0 2) ∷ []), state 3 2 (one_unstable.history.present.messages ++ noop 0 (2 ∷ 0 ∷ 0 ∷ []) ∷ []) [])
  -- a sixth no-op while five are unstable; a fifth has room
  pub noop_overrun : crook_of 3 1 2 (noops 5) (noop 0 (6 ∷ 0 ∷ 0 ∷ [])) ≡ Some (crook.NoopOverrun 6)
  pub noop_none : crook_of 3 1 2 (noops 4) (noop 0 (5 ∷ 0 ∷ 0 ∷ [])) ≡ None

-- ---- sending

-- Two members with a window of one.
abbrev pub inc_1 : Update
inc_1 = record { object = counter_c; act = Inc 1; of_kind = yes }

pub record BusyUntilStable : Type 0 where
  -- there is room for a first operation, and for a second once member 1 has acknowledged the first
  pub first : sending 2 1 10000 0 [] inc_1 ≡ local.Sent (numbered 1)
  pub too_soon : sending 2 1 10000 0 (numbered 1 ∷ []) inc_1 ≡ local.Busy
  pub second : sending 2 1 10000 0 (numbered 1 ∷ noop 1 (1 ∷ 1 ∷ []) ∷ []) inc_1 ≡ local.Sent (does_to 0 (2 ∷ 1 ∷ []) counter_c (Inc 1) yes)
  -- a member alone that may send one message has sent it
  pub at_limit : sending 1 1 1 0 (does_to 0 (1 ∷ []) counter_c (Inc 1) yes ∷ []) inc_1 ≡ local.End
  -- at the limit with no room it is busy
  pub busy_at_limit : sending 2 1 1 0 (numbered 1 ∷ []) inc_1 ≡ local.Busy

-- Member 0 enables a flag, and member 1 acknowledges that.
pub record NoOpsDue : Type 0 where
  -- nothing came
  pub nothing : beating 2 1 10000 0 [] ≡ beat.Quiet
  -- an operation of another member came, and the no-op says so
  pub due : beating 2 1 10000 1 (enable_e ∷ []) ≡ beat.Sent (noop 1 (1 ∷ 1 ∷ []))
  -- an own message was sent after it
  pub sent : is_noop_due 1 (enable_e ∷ noop 1 (1 ∷ 1 ∷ []) ∷ []) ≡ false
  -- an own operation and another member's no-op ask for none
  pub acknowledged : is_noop_due 0 (enable_e ∷ noop 1 (1 ∷ 1 ∷ []) ∷ []) ≡ false
  -- another member's no-op doesn't answer for this one
  pub still_due : is_noop_due 2 (write_a ∷ noop 1 (1 ∷ 1 ∷ 0 ∷ []) ∷ []) ≡ true
  -- a member that may send one message has sent it
  pub at_limit : beating 2 1 1 1 (down ∷ up ∷ []) ≡ beat.End
  -- at the limit with none due it is quiet
  pub quiet_at_limit : beating 2 1 1 1 (enable_e ∷ noop 1 (1 ∷ 1 ∷ []) ∷ []) ≡ beat.Quiet

-- Two members with a window of one. Member 0 never acknowledges; after three no-ops member 1 sends no more.
abbrev pub answered : ℕ → List Message
answered zero = []
answered (suc s) = answered s ++ (numbered (suc s) ∷ noop 1 (suc s ∷ suc s ∷ []) ∷ [])

abbrev pub unacknowledged : List Message
unacknowledged = answered 3 ++ numbered 4 ∷ []

-- member 1 sends an operation before its three no-ops, and so four messages
abbrev pub four_sent : List Message
four_sent =
    down ∷ numbered 1 ∷ noop 1 (1 ∷ 2 ∷ []) ∷ numbered 2 ∷ noop 1 (2 ∷ 3 ∷ []) ∷ numbered 3 ∷ noop 1 (3 ∷ 4 ∷ []) ∷ numbered 4 ∷ []

pub record HeldAfterThree : Type 0 where
  pub history : IsTrue (is_chapter 2 1 1 unacknowledged)
  pub is_held : beating 2 1 10000 1 unacknowledged ≡ beat.Held
  -- at the limit with no room it is held
  pub history_at_limit : IsTrue (is_chapter 2 1 1 four_sent)
  pub held_at_limit : beating 2 1 4 1 four_sent ≡ beat.Held
  -- no-ops take no room from operations
  pub operation : sending 2 1 10000 1 unacknowledged inc_1 ≡ local.Sent (does_to 1 (4 ∷ 4 ∷ []) counter_c (Inc 1) yes)
  -- no-ops are sent again too, until they are stable
  pub outbox : map id_of (outbox_of 2 1 unacknowledged) ≡ id 1 1 ∷ id 1 2 ∷ id 1 3 ∷ []

-- ---- journals

-- Member 0 sends an operation, and member 1's no-op answers it.
pub record LegalJournals : Type 0 where
  -- the note of the send and then those of the receive are legal
  pub legal : IsLegal 2 1 10000 0 (note.Sent (numbered 1) ∷ note.Kept (noop 1 (1 ∷ 1 ∷ [])) ∷ note.Took (id 1 1) ∷ [])
  -- no legal journal begins with a message that is taken or dropped, since none was accepted
  pub untaken : (n w limit me : ℕ) (first : MessageId) (later : List Note) → IsLegal n w limit me (note.Took first ∷ later) → ⊥
  pub undropped : (n w limit me : ℕ) (first : MessageId) (later : List Note) → IsLegal n w limit me (note.Crook first ∷ later) → ⊥

-- ---- two epochs

-- Two members. Member 0 adds x, and member 1's no-op answers that; so every operation is stable, and the epoch may end.
abbrev pub added : List Message
added = first_add ∷ noop 1 (1 ∷ 1 ∷ []) ∷ []

-- a first epoch of member 0 of two members, and the messages of a second, of member 0 of three
abbrev pub then_three : List Message → List Message → History
then_three first second = record { past = record { n = 2; me = 0; messages = first } ∷ []; present = record { n = 3; me = 0; messages = second } }

-- member 2, which is new, removes x
abbrev pub new_remove : Message
new_remove = does_to 2 (0 ∷ 0 ∷ 1 ∷ []) awset_s (Rmv x) yes

pub record RemovedInTheNextEpoch : Type 0 where
  pub histories : All (λ h. IsTrue (is_history 2 h)) (then_three added [] ∷ then_three added (new_remove ∷ []) ∷ [])
  -- an epoch in which an operation is unstable isn't over
  pub unstable : is_history 2 (then_three (first_add ∷ []) []) ≡ false
  -- the new epoch begins with what the old one left, counts from 0, and an item of it
  pub still_in : answer awset_s (events (then_three added [])) ≡ Values (x ∷ [])
  pub counts_anew : counted (then_three added []) ≡ 0 ∷ 0 ∷ 0 ∷ []
  pub items : settled_items (then_three added []) ≡ record { object = awset_s; value = Some x; cell = on_cell true } ∷ []
  -- the remove of the new member happened after the add of the old epoch, though its sender never had that message's
  -- timestamp
  pub after : IsTrue (is_before (record { epoch = 0; message = first_add }) (record { epoch = 1; message = new_remove }))
  pub out : answer awset_s (events (then_three added (new_remove ∷ []))) ≡ Values []
  pub no_items : settled_items (then_three added (new_remove ∷ [])) ≡ []

-- Two members add and remove one value of a remove-wins set, each without having seen the other, and then acknowledge that.
abbrev pub removed_beside : List Message
removed_beside = does_to 0 (1 ∷ 0 ∷ []) rwset_s (Add x) yes ∷ does_to 1 (0 ∷ 1 ∷ []) rwset_s (Rmv x) yes ∷ noop 1 (1 ∷ 2 ∷ []) ∷ []

abbrev pub new_add : Message
new_add = does_to 0 (1 ∷ 0 ∷ 0 ∷ []) rwset_s (Add x) yes

pub record ConcurrentInThePast : Type 0 where
  pub histories : All (λ h. IsTrue (is_history 2 h)) (then_three removed_beside [] ∷ then_three removed_beside (new_add ∷ []) ∷ [])
  -- what was concurrent in the old epoch stays so: the remove wins
  pub out : answer rwset_s (events (then_three removed_beside [])) ≡ Values []
  pub no_items : settled_items (then_three removed_beside []) ≡ []
  -- an add of the new epoch is after it
  pub inside : answer rwset_s (events (then_three removed_beside (new_add ∷ []))) ≡ Values (x ∷ [])

abbrev pub raised : List Message
raised = raise ∷ noop 1 (1 ∷ 1 ∷ []) ∷ []

pub record ClearedInTheNextEpoch : Type 0 where
  pub histories : All (λ h. IsTrue (is_history 2 h)) (then_three raised (does_to 1 (0 ∷ 1 ∷ 0 ∷ []) rcounter_c Clear yes ∷ []) ∷ [])
  -- what was raised in the old epoch is kept, raised further, or cleared
  pub kept : answer rcounter_c (events (then_three raised [])) ≡ Sum (pos 5)
  pub further : answer rcounter_c (events (then_three raised (does_to 0 (1 ∷ 0 ∷ 0 ∷ []) rcounter_c (Inc 2) yes ∷ []))) ≡ Sum (pos 7)
  pub cleared : answer rcounter_c (events (then_three raised (does_to 1 (0 ∷ 1 ∷ 0 ∷ []) rcounter_c Clear yes ∷ []))) ≡ Sum (pos 0)

-- what a journal replays to when its epoch ends
pub record EpochsReplay : Type 0 where
  pub ended : replay 2 0 (note.Sent first_add ∷ note.Kept (noop 1 (1 ∷ 1 ∷ [])) ∷ note.Took (id 1 1) ∷ note.Regroup 1 3 0 ∷ []) ≡ record { history = then_three added []; early = [] }
  -- early messages of the old epoch are gone
  pub early_gone : replay 2 1 (note.Kept (numbered 2) ∷ note.Regroup 1 2 1 ∷ []) ≡ record { history = record { past = record { n = 2; me = 1; messages = [] } ∷ []; present = record { n = 2; me = 1; messages = [] } }; early = [] }
