-- Histories: the chapters of the epochs that are over, and that of the present epoch. Epochs are this project's own
-- profile.
use Rattle.std.specs.Prelude.{ℕ, ◌↔◌, ◌+◌, Bool, not, ◌&&◌, ◌||◌, ◌==◌, nat_lt, nat_le, List, [], ◌∷◌, ◌++◌, map, length, Contains}
use Rattle.std.specs.List.{list_all}
use Rattle.op_base.specs.declared.message.Message.{Message}
use Rattle.op_base.specs.declared.name.ObjectId.{ObjectId}
use Rattle.op_base.specs.declared.operation.Act.{Act}
use Rattle.causal_model.specs.Acts.{acts_on}
use Rattle.causal_model.specs.Order.{happened_before}
use Rattle.causal_model.specs.Counts.{are_carried}
use Rattle.causal_model.specs.Stability.{carries_operation, unstable_messages}
use Rattle.causal_model.specs.Chapter.{is_chapter}

-- a chapter: how many members the store had, which of them it is of, and the messages that this one delivered, oldest
-- first
pub record Chapter : Type 0 where
  pub n : ℕ
  pub me : ℕ
  pub messages : List Message

-- a history: the chapters of the epochs that are over, oldest first, and that of the present epoch
pub record History : Type 0 where
  pub past : List Chapter
  pub present : Chapter

-- all chapters of a history, oldest first
abbrev pub chapters : History → List Chapter
chapters h = h.past ++ h.present ∷ []

-- the number of the present epoch: how many are over
abbrev pub epoch_of : History → ℕ
epoch_of h = length h.past

-- a history with other messages of the present epoch
abbrev pub with_messages : History → List Message → History
with_messages h messages = record { past = h.past; present = record { n = h.present.n; me = h.present.me; messages = messages } }

-- a history with one message more
abbrev pub with_message : History → Message → History
with_message h m = with_messages h (h.present.messages ++ m ∷ [])

-- the history of member me of n members before anything was sent or received
abbrev pub no_history : ℕ → ℕ → History
no_history n me = record { past = []; present = record { n = n; me = me; messages = [] } }

-- a history of the first epoch alone
abbrev pub of_one_epoch : ℕ → ℕ → List Message → History
of_one_epoch n me messages = with_messages (no_history n me) messages

-- an event: a message with the epoch in which it was delivered
pub record Event : Type 0 where
  pub epoch : ℕ
  pub message : Message

-- the events of an epoch's messages
abbrev pub events_in : ℕ → List Message → List Event
events_in epoch messages = map (λ m. record { epoch = epoch; message = m }) messages

-- the events of chapters, the first of which is of this epoch
abbrev pub events_from : ℕ → List Chapter → List Event
events_from epoch [] = []
events_from epoch (chapter ∷ later) = events_in epoch chapter.messages ++ events_from (epoch + 1) later

-- the events of a history, oldest first
abbrev pub events : History → List Event
events h = events_from 0 h.past ++ events_in (epoch_of h) h.present.messages

-- two histories have the same events
abbrev pub SameEvents : History → History → Type 0
SameEvents g h = (e : Event) → (Contains (events g) e ↔ Contains (events h) e)

-- whether a happened before b: in an earlier epoch, or in one epoch by their timestamps
abbrev pub is_before : Event → Event → Bool
is_before a b = nat_lt a.epoch b.epoch || ((a.epoch == b.epoch) && happened_before a.message b.message)

-- whether an event does an act that passes to an object
abbrev pub is_act_on : ObjectId → (Act → Bool) → Event → Bool
is_act_on object passes e = acts_on object passes e.message.op

-- whether a chapter is one of a store of 1 to 16 members with a window w
abbrev pub is_chapter_of : ℕ → Chapter → Bool
is_chapter_of w chapter = nat_le chapter.n 16 && nat_lt chapter.me chapter.n && is_chapter chapter.n w chapter.me chapter.messages

-- whether every operation of a chapter is stable
abbrev pub is_all_stable : Chapter → Bool
is_all_stable chapter = list_all (λ m. not (carries_operation m.op)) (unstable_messages chapter.n chapter.me chapter.messages)

-- whether chapters are a history in stores with a window w: in each that is over every operation is stable
abbrev pub is_history : ℕ → History → Bool
is_history w h = list_all (λ chapter. is_chapter_of w chapter && is_all_stable chapter) h.past && is_chapter_of w h.present

-- whether there are at most 65535 epochs before the present one, and each message can be carried in a store with a limit
abbrev pub is_limited : ℕ → History → Bool
is_limited limit h = nat_le (epoch_of h) 65535 && list_all (λ chapter. are_carried limit chapter.messages) (chapters h)
