-- What a plain world shows of a replica.
use Rattle.std.specs.Prelude.{ℕ, nat_lt, List, [], ◌∷◌, length, map, Option, None}
use Rattle.std.specs.List.{find}
use Rattle.op_base.specs.Message.{id_of, number}
use Rattle.op_base.specs.Timestamp.{entry}
use Rattle.op_base.specs.declared.message.Message.{Message}
use Rattle.op_base.specs.declared.name.ObjectId.{ObjectId}
use Rattle.op_base.specs.declared.outcome.Answer.{Answer}
use Rattle.op_base.specs.declared.tag.ElementId.{ElementId}
use Rattle.op_base.specs.declared.tag.MessageId.{MessageId}
use Rattle.causal_model.specs.Elements.{list_ids}
use Rattle.causal_model.specs.KeptElements.{tombs_of}
use Rattle.causal_model.specs.Log.{log_of}
use Rattle.causal_model.specs.Counts.{members}
use Rattle.causal_model.specs.History.{events}
use Rattle.causal_model.specs.Query.{answer}
use Rattle.causal_model.specs.State.{counted}
use Rattle.causal_model.specs.Sending.{outbox_of}
use Rattle.causal_model.specs.Settled.{settled_items}
use Rattle.causal_model.specs.Stability.{known_vector, stable_vector, unstable_noops}
use Rattle.world_model.specs.World.{PlainWorld, replica_of}

-- what an object is at a replica
abbrev pub answer_at : PlainWorld → ℕ → ObjectId → Answer
answer_at world r object = answer object (events (replica_of world r).history)

-- the ids of a list's elements at a replica, in its order, and how many are kept that aren't shown
abbrev pub list_ids_at : PlainWorld → ℕ → ObjectId → List ElementId
list_ids_at world r object = list_ids object (events (replica_of world r).history)

abbrev pub tombs_at : PlainWorld → ℕ → ObjectId → ℕ
tombs_at world r object = tombs_of (replica_of world r).history object

-- the ids of its log, oldest first
abbrev pub log_at : PlainWorld → ℕ → List MessageId
log_at world r = map id_of (log_of (replica_of world r).history)

-- how many entries its log has, and how many settled items there are
abbrev pub entries_at : PlainWorld → ℕ → ℕ
entries_at world r = length (log_of (replica_of world r).history)

abbrev pub items_at : PlainWorld → ℕ → ℕ
items_at world r = length (settled_items (replica_of world r).history)

-- its stable counts, and how many messages of each member it delivered
abbrev pub stable_at : PlainWorld → ℕ → List ℕ
stable_at world r = let p = (replica_of world r).history.present in stable_vector p.n p.me p.messages

abbrev pub seen_at : PlainWorld → ℕ → List ℕ
seen_at world r = counted (replica_of world r).history

-- how many of its own no-ops aren't stable
abbrev pub noops_at : PlainWorld → ℕ → ℕ
noops_at world r = let p = (replica_of world r).history.present in unstable_noops p.n p.me p.messages p.me

-- the least of n members that isn't known at member me to have the first of messages of me; none where there is no message
abbrev pub lagging : ℕ → ℕ → List Message → List Message → Option ℕ
lagging n me messages [] = None
lagging n me messages (oldest ∷ others) = find (λ q. nat_lt (entry (known_vector n me messages q) me) (number oldest)) (members n)

-- the least member that isn't known to have its oldest unstable own message, and none where all its own are stable
abbrev pub lags_at : PlainWorld → ℕ → Option ℕ
lags_at world r = let p = (replica_of world r).history.present in lagging p.n p.me p.messages (outbox_of p.n p.me p.messages)
