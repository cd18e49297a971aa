-- What is known of early messages that can't be delivered.
use Rattle.std.specs.Prelude.{◌≡◌, ◌≢◌, ℕ, ◌+◌, ◌<◌, ◌≤◌, List, length, All}
use Rattle.op_base.specs.Timestamp.{entry}
use Rattle.op_base.specs.Message.{number}
use Rattle.op_base.specs.declared.message.Message.{Message}
use Rattle.op_base.specs.declared.tag.MessageId.{MessageId}
use Rattle.causal_buffer.specs.declared.watch.Watch.{Watch}

-- a message waits for one of another member than its origin: it has seen more of the member than was delivered, and no fewer
-- than are awaited
pub record IsWaiting (counted awaited : List ℕ) (m : Message) : Type 0 where
  pub member : ℕ
  pub inside : member < length counted
  pub other : member ≢ m.origin
  pub missing : entry counted member < entry m.tag member
  pub known : entry awaited member ≤ entry m.tag member

-- of messages of a member that which is next waits
abbrev pub NextWaits : List ℕ → List ℕ → ℕ → List Message → Type 0
NextWaits counted awaited member early = All (λ m. number m ≡ entry counted member + 1 → IsWaiting counted awaited m) early

-- of a member it is known that its next message waits: only of those from one up to, and not with, another it isn't
abbrev pub IsClosed : Watch → ℕ → Type 0
IsClosed watch member = watch.from ≤ member → watch.end ≤ member

-- of each other member the next message waits
abbrev pub Waits : Watch → Message → Type 0
Waits watch m = m.origin < length watch.counts → IsClosed watch m.origin → number m ≡ entry watch.counts m.origin + 1 → IsWaiting watch.counts watch.awaited m

-- what is known of the early messages of a store of n members is true
pub record IsWatch (n : ℕ) (watch : Watch) (early : List Message) : Type 0 where
  pub counts : length watch.counts ≡ n
  pub awaited : length watch.awaited ≡ n
  pub waits : All (Waits watch) early

-- what was known truly is known truly again
abbrev pub KeepsWatch : Watch → Watch → Type 0
KeepsWatch old new = (n : ℕ) (early : List Message) → IsWatch n old early → IsWatch n new early

-- no message is the one after that of an id
abbrev pub HasNoneAfter : MessageId → List Message → Type 0
HasNoneAfter id early = All (λ m. m.origin ≡ id.origin → number m ≢ id.seq + 1) early
