-- What is known of a mailbox once its passes are joined.
use Rattle.std.specs.Prelude.{◌≡◌, ℕ, zero, suc, List, All, Contains}
use Rattle.op_base.specs.declared.message.Message.{Message}
use Rattle.causal_model.specs.declared.note.Note.{Note}
use Rattle.causal_model.specs.declared.note.Note.TheVariants as note
use Rattle.mailboxes.specs.Seen.{IsExact, IsNumbered, KnowsAll}
use Rattle.mailboxes.specs.declared.seen.Line.{Line}
use Rattle.mailboxes.specs.declared.seen.Posted.{Posted}
use Rattle.mailboxes.specs.declared.seen.Seen.{Seen}
use Rattle.live_run.specs.declared.letter.Letter.{Letter}

-- A letter that was posted under a number: by 0 none was, which is the pass that makes the others; by k + 1 the courier of
-- member k posts, and the letter's message stands as sent in that member's journal.
abbrev pub SentBy : (ℕ → List Note) → ℕ → Letter → Type 0
SentBy journals zero letter = ⊥
SentBy journals (suc k) letter = Contains (journals k) (note.Sent letter.message)

-- so it is of each line of a roll
abbrev pub RollWasSent : (ℕ → List Note) → List (Line Letter) → Type 0
RollWasSent journals roll = All (λ l. All (SentBy journals l.by) l.items) roll

-- once every pass is joined, it is of all that was ever posted
abbrev pub PostedWasSent : Type 0
PostedWasSent = (journals : ℕ → List Note) (s : Seen Letter) → KnowsAll s → IsExact s → IsNumbered s → RollWasSent journals s.roll
    → All (λ p. SentBy journals p.by p.item) s.posted

-- a message is that of a letter that was posted
abbrev pub WasPosted : List (Posted Letter) → Message → Type 0
WasPosted posted m = (p : Posted Letter) × Contains posted p × (p.item.message ≡ m)

-- a note that keeps a message keeps that of a letter that was posted
abbrev pub KeptWasPosted : List (Posted Letter) → Note → Type 0
KeptWasPosted posted (note.Kept m) = WasPosted posted m
KeptWasPosted posted other = Unit {0}
