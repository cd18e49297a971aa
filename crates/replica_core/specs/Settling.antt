-- What log, items and lists are while a message is put into them.
use Rattle.std.specs.Prelude.{Bool, false, ◌≡◌, ℕ, ◌≤◌, ◌*◌, IsTrue, List, Option, Some, None, if◌then◌else◌}
use Rattle.op_base.specs.Message.{id_of}
use Rattle.op_base.specs.declared.message.Message.{Message}
use Rattle.op_base.specs.declared.name.Kind.TheVariants.{Counter}
use Rattle.op_base.specs.declared.operation.Op.{Op}
use Rattle.op_base.specs.declared.operation.Op.TheVariants as op
use Rattle.op_base.specs.declared.operation.Update.{Update}
use Rattle.op_base.specs.declared.tag.MessageId.{MessageId}
use Rattle.causal_model.specs.CellSteps.{is_counter}
use Rattle.causal_model.specs.Covering.{store_keeps, store_covers}
use Rattle.causal_model.specs.History.{History, with_message, is_history, is_limited, epoch_of}
use Rattle.causal_model.specs.Stability.{stable_vector}
use Rattle.list_type.specs.Listed.{Listed, AreListsOf, AreListsMoved}
use Rattle.polog.specs.Value.{Log, with_entry}
use Rattle.polog.specs.Standing.{IsLogOf, IsLogged, IsStripped}
use Rattle.stable_state.specs.Laws.{HasRange}
use Rattle.stable_state.specs.Shelf.{Shelved}
use Rattle.stable_state.specs.Standing.{AreSettledOf, AreAbsorbed}

-- log, items and lists are those of a history
pub record AreOf (h : History) (log : Log) (items : Shelved) (lists : Listed) : Type 0 where
  pub is_log : IsLogOf store_keeps store_covers h.present.n h.present.me h.present.messages log
  pub are_settled : AreSettledOf h items
  pub are_lists : AreListsOf h lists

-- They are those of a history of this epoch, and a message is its next one. These are the stable counts with it, and where they
-- haven't moved those without it too.
pub record AreReady (w limit : ℕ) (h : History) (log : Log) (items : Shelved) (lists : Listed) (epoch : ℕ) (m : Message) (moved : Bool) (stable : List ℕ) : Type 0 where
  pub wide : 1 ≤ w
  pub few : limit ≤ 1000000
  pub of_history : IsTrue (is_history w (with_message h m))
  pub of_limit : IsTrue (is_limited limit (with_message h m))
  pub in_epoch : epoch ≡ epoch_of h
  pub are_of : AreOf h log items lists
  pub room : log.room ≡ h.present.n * w
  pub stays : moved ≡ false → stable ≡ stable_vector h.present.n h.present.me h.present.messages
  pub counts : stable ≡ stable_vector h.present.n h.present.me (with_message h m).present.messages

-- so it is for some history
abbrev pub AreReadyForSome : Log → Shelved → Listed → ℕ → Message → Bool → List ℕ → Type 0
AreReadyForSome log items lists epoch m moved stable = (w : ℕ) × (limit : ℕ) × (h : History) × AreReady w limit h log items lists epoch m moved stable

-- a log with a message's update, where its kind is logged
abbrev pub with_logged : ℕ → List ℕ → Op → Log → Log
with_logged origin tag op.NoOp log = log
with_logged origin tag (op.Update u) log = if store_keeps u then with_entry log (record { origin = origin; tag = tag; update = u }) else log

-- the update of an operation that is applied at once: that of a counter which can't be cleared
abbrev pub applied_of : Op → Option Update
applied_of op.NoOp = None
applied_of (op.Update u) = if is_counter u.object.kind then Some u else None

-- how many items more it may make
abbrev pub room_of : Option Update → ℕ
room_of None = 0
room_of (Some u) = 1

-- such an update is one of a counter, there is room for its item, and its sum fits
abbrev pub CanBeApplied : Option Update → Shelved → Type 0
CanBeApplied None items = Unit {0}
CanBeApplied (Some u) items = (u.object.kind ≡ Counter) × (1 ≤ items.spare) × HasRange items u

-- What a history's next message covers is gone from log and items, the message is in the log where its kind is logged, and the
-- element that it puts in is in its list. This is its id, and these are the stable counts with it, and where they haven't moved those
-- without it too.
pub record AreLogged (w limit : ℕ) (h : History) (m : Message) (log : Log) (items : Shelved) (lists : Listed) (epoch : ℕ) (id : MessageId) (moved : Bool) (stable : List ℕ) : Type 0 where
  pub few : limit ≤ 1000000
  pub of_history : IsTrue (is_history w (with_message h m))
  pub of_limit : IsTrue (is_limited limit (with_message h m))
  pub is_logged : IsLogged store_keeps store_covers h.present.n h.present.me h.present.messages m log
  pub are_absorbed : AreAbsorbed h m 0 items
  pub in_epoch : epoch ≡ epoch_of h
  pub are_lists : AreListsMoved h m 0 lists
  pub of_message : id ≡ id_of m
  pub stays : moved ≡ false → stable ≡ stable_vector h.present.n h.present.me h.present.messages
  pub counts : stable ≡ stable_vector h.present.n h.present.me (with_message h m).present.messages

-- so it is for some history
abbrev pub AreLoggedForSome : Log → Shelved → Listed → ℕ → MessageId → Bool → List ℕ → Type 0
AreLoggedForSome log items lists epoch id moved stable = (w : ℕ) × (limit : ℕ) × (h : History) × (m : Message) × AreLogged w limit h m log items lists epoch id moved stable

-- What is stable with a history's next message was stripped from the log, and the first k entries of that were handed out and
-- are in items and lists. Those that are left wait.
pub record AreWaiting (w limit : ℕ) (h : History) (m : Message) (k : ℕ) (log : Log) (items : Shelved) (lists : Listed) (epoch : ℕ) : Type 0 where
  pub few : limit ≤ 1000000
  pub of_history : IsTrue (is_history w (with_message h m))
  pub of_limit : IsTrue (is_limited limit (with_message h m))
  pub is_stripped : IsStripped store_keeps store_covers h.present.n h.present.me h.present.messages m k log
  pub are_absorbed : AreAbsorbed h m k items
  pub in_epoch : epoch ≡ epoch_of h
  pub are_lists : AreListsMoved h m k lists

-- so it is for some history, of which none is absorbed yet
abbrev pub AreWaitingForSome : Log → Shelved → Listed → ℕ → Type 0
AreWaitingForSome log items lists epoch = (w : ℕ) × (limit : ℕ) × (h : History) × (m : Message) × AreWaiting w limit h m 0 log items lists epoch
