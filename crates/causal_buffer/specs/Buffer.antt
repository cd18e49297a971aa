-- What contracts see of a buffer of early messages, what comes of an offer, and what calls ask of the counts. What the early
-- messages are, and in what order they stand, is the rule of receiving.
use Rattle.std.specs.Prelude.{◌≡◌, ℕ, ◌+◌, ◌<◌, ◌≤◌, List, length, slice_set, All, if◌then◌else◌}
use Rattle.op_base.specs.Timestamp.{entry}
use Rattle.op_base.specs.Message.{number}
use Rattle.op_base.specs.declared.message.Message.{Message}
use Rattle.op_base.specs.declared.tag.MessageId.{MessageId}
use Rattle.causal_model.specs.Stability.{noop_window}
use Rattle.causal_model.specs.Receiving.{is_far}
use Rattle.causal_model.specs.Early.{is_again, put_early}
use Rattle.causal_buffer.specs.declared.buffer.Offer.{Offer}
use Rattle.causal_buffer.specs.declared.buffer.Offer.TheVariants.{Kept, Again, Far}

-- a buffer of a store of n members with a window w: its early messages, by origin and then by number
pub record Buffer : Type 0 where
  pub n : ℕ
  pub w : ℕ
  pub early : List Message

-- the buffer with other early messages
abbrev pub with_messages : Buffer → List Message → Buffer
with_messages b early = record { n = b.n; w = b.w; early = early }

-- what member me answers to an offer, where so many messages of each member were delivered
abbrev pub offer_of : Buffer → ℕ → List ℕ → Message → Offer
offer_of b me counted m = if is_again b.early m then Again m else if is_far b.n b.w me counted m then Far m else Kept

-- the early messages after an offer was answered: with the message where it was kept, else as they were
abbrev pub after_offer : List Message → Message → Offer → List Message
after_offer early m Kept = put_early m early
after_offer early m (Again same) = early
after_offer early m (Far same) = early

-- ---- what calls ask of the counts: both hold of any state's early messages and counts

-- none of the messages was delivered, where so many of each member were
abbrev pub AreAhead : List ℕ → List Message → Type 0
AreAhead counted early = All (λ m. entry counted m.origin < number m) early

-- no number is above the count of its origin by more than the two windows
abbrev pub AreNear : ℕ → ℕ → List ℕ → List Message → Type 0
AreNear n w counted early = All (λ m. number m ≤ entry counted m.origin + (w + noop_window n w)) early

-- an id is that of the next message of one of n members, where so many of each member were delivered
pub record IsNextId (n : ℕ) (counted : List ℕ) (id : MessageId) : Type 0 where
  pub of_member : id.origin < n
  pub numbered : id.seq ≡ entry counted id.origin + 1

-- none was delivered, where none was before, once the message of such an id is taken out and counted
abbrev pub KeepsAhead : MessageId → Buffer → Buffer → Type 0
KeepsAhead id old new = (counted : List ℕ) → IsNextId (length counted) counted id → AreAhead counted old.early → AreAhead (slice_set counted id.origin id.seq) new.early

-- and no number is further above, where none was before
abbrev pub KeepsNear : MessageId → Buffer → Buffer → Type 0
KeepsNear id old new = (counted : List ℕ) → IsNextId (length counted) counted id → AreNear old.n old.w counted old.early
    → AreNear new.n new.w (slice_set counted id.origin id.seq) new.early
