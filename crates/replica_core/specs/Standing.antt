-- When the fields of a replica stand for a state: a history, which they need not keep, and the early messages. One set of
-- fields stands for many histories.
use Rattle.std.specs.Prelude.{◌≡◌, ℕ, ◌+◌, ◌*◌, ◌^◌, ◌≤◌, Bool, List, length}
use Rattle.causal_model.specs.Covering.{store_keeps, store_covers}
use Rattle.causal_model.specs.History.{History, epoch_of}
use Rattle.causal_model.specs.State.{State, counted}
use Rattle.causal_model.specs.Sending.{outbox_of, is_noop_due}
use Rattle.causal_model.specs.States.{IsState}
use Rattle.stability_matrix.specs.Rows.{Known}
use Rattle.stability_matrix.specs.Standing.{IsMatrixOf}
use Rattle.tag_window.specs.Window.{Window}
use Rattle.tag_window.specs.History.{IsWindowOf}
use Rattle.causal_buffer.specs.Buffer.{Buffer}
use Rattle.causal_buffer.specs.Standing.{IsBufferOf}
use Rattle.polog.specs.Value.{Log}
use Rattle.polog.specs.Standing.{IsLogOf}
use Rattle.stable_state.specs.Shelf.{Shelved}
use Rattle.stable_state.specs.Standing.{AreSettledOf}
use Rattle.outbox.specs.Sent.{Sent}
use Rattle.list_type.specs.Listed.{Listed, AreListsOf, AreWithin}
use Rattle.replica_core.specs.Insertions.{insertions}

-- the fields of a replica, as contracts see its parts
pub record Fields : Type 0 where
  pub me : ℕ
  pub n : ℕ
  pub w : ℕ
  pub limit : ℕ
  pub epoch : ℕ
  pub counts : List ℕ
  pub matrix : Known
  pub window : Window
  pub buffer : Buffer
  pub log : Log
  pub items : Shelved
  pub lists : Listed
  pub outbox : Sent
  pub due : Bool

-- lists are those of a history, and none of their elements stands deeper than so many
abbrev pub AreListsWithin : History → ℕ → Listed → Type 0
AreListsWithin h most lists = ∥ (AreListsOf h lists × AreWithin most lists) ∥₁

-- fields stand for a state
pub record Standing (f : Fields) (s : State) : Type 0 where
  -- it is a state that a replica can be in: a history of its member, none of whose messages is above the limit, and early
  -- messages that are neither old nor far
  pub is_state : IsState f.w f.limit s
  pub of_member : s.history.present.me ≡ f.me
  pub of_store : s.history.present.n ≡ f.n
  pub in_epoch : epoch_of s.history ≡ f.epoch
  -- the counts are how many messages of each member were delivered
  pub counts : f.counts ≡ counted s.history
  -- the rows are the known vectors
  pub matrix : IsMatrixOf f.n f.me s.history.present.messages f.matrix
  -- the timestamps of exactly the unstable messages are held, each with whether it is a no-op
  pub window : IsWindowOf f.n f.w f.me s.history.present.messages f.window
  -- exactly the early messages are held
  pub buffer : IsBufferOf f.w s f.buffer
  -- the log is that of the history, and the items are its settled ones
  pub log : IsLogOf store_keeps store_covers f.n f.me s.history.present.messages f.log
  pub log_room : f.log.room ≡ f.n * f.w
  pub items : AreSettledOf s.history f.items
  -- and these have room for what each entry of the log and each early message can make of them
  pub items_room : length f.log.entries + length f.buffer.early ≤ f.items.spare
  -- the lists are what is kept of those of the history; no element stands deeper than there were messages, of which an epoch
  -- has fewer than 2 ^ 24; and there is room for each element that an early message can put in
  pub lists : AreListsWithin s.history (f.epoch * 2 ^ 24 + length s.history.present.messages) f.lists
  pub lists_room : insertions f.buffer.early ≤ f.lists.spare
  -- the own messages that aren't stable are sent again, oldest first
  pub outbox : f.outbox ≡ record { n = f.n; w = f.w; messages = outbox_of f.n f.me s.history.present.messages }
  -- whether a no-op is due
  pub due : f.due ≡ is_noop_due f.me s.history.present.messages

-- fields stand for some state
abbrev pub StandsForSome : Fields → Type 0
StandsForSome f = (s : State) × Standing f s
