-- The log of an epoch's messages: what remains of them in a partially ordered log, as in Baquero, Almeida and Shoker
-- (arXiv 1710.04469). It filters all of them; nothing is pruned step by step.
use Rattle.std.specs.Prelude.{ℕ, Bool, false, not, ◌&&◌, List, [], ◌∷◌, ◌++◌, filter, if◌then◌else◌}
use Rattle.op_base.specs.declared.message.Message.{Message}
use Rattle.op_base.specs.declared.message.Entry.{Entry}
use Rattle.op_base.specs.declared.operation.Update.{Update}
use Rattle.op_base.specs.declared.operation.Op.{Op}
use Rattle.op_base.specs.declared.operation.Op.TheVariants as op
use Rattle.causal_model.specs.Covering.{store_keeps, store_covers}
use Rattle.causal_model.specs.History.{History}
use Rattle.causal_model.specs.Order.{happened_before, is_followed}
use Rattle.causal_model.specs.Stability.{stable_vector, is_stable}

-- whether an operation is one that a rule logs; the no-op never is
abbrev pub is_kept : (Update → Bool) → Op → Bool
is_kept keeps op.NoOp = false
is_kept keeps (op.Update u) = keeps u

-- whether a later operation covers an earlier one; the no-op neither covers nor is covered
abbrev pub is_covered_by : (Update → Update → Bool) → Op → Op → Bool
is_covered_by covers op.NoOp later = false
is_covered_by covers (op.Update earlier) op.NoOp = false
is_covered_by covers (op.Update earlier) (op.Update later) = covers later earlier

-- whether no message of the epoch that happened after it covers a message
abbrev pub is_uncovered : (Update → Update → Bool) → List Message → Message → Bool
is_uncovered covers messages m = not (is_followed happened_before (λ later. is_covered_by covers m.op later.op) messages m)

-- the messages that are logged: of an operation that the rule keeps, uncovered, and not stable
abbrev pub kept_log : (Update → Bool) → (Update → Update → Bool) → ℕ → ℕ → List Message → List Message
kept_log keeps covers n me messages =
    filter (λ m. is_kept keeps m.op && is_uncovered covers messages m && not (is_stable (stable_vector n me messages) m)) messages

-- the log with what a message covers gone, and the message where it is kept, before what is stable now goes
abbrev pub pruned_log : (Update → Bool) → (Update → Update → Bool) → ℕ → ℕ → List Message → Message → List Message
pruned_log keeps covers n me messages m =
    filter (λ e. not (is_covered_by covers e.op m.op && happened_before e m)) (kept_log keeps covers n me messages)
    ++ (if is_kept keeps m.op then m ∷ [] else [])

-- the entries that go from the log as settled, when a message has come
abbrev pub stripped_log : (Update → Bool) → (Update → Update → Bool) → ℕ → ℕ → List Message → Message → List Message
stripped_log keeps covers n me messages m =
    filter (is_stable (stable_vector n me (messages ++ m ∷ []))) (pruned_log keeps covers n me messages m)

-- ---- by the store's rules

-- the log of a history's present epoch
abbrev pub log_of : History → List Message
log_of h = kept_log store_keeps store_covers h.present.n h.present.me h.present.messages

-- the entries that go from that log as settled, when a message has come
abbrev pub stripped_of : History → Message → List Message
stripped_of h m = stripped_log store_keeps store_covers h.present.n h.present.me h.present.messages m

-- the message that an entry of a log is of
abbrev pub message_of : Entry → Message
message_of entry = record { origin = entry.origin; tag = entry.tag; op = op.Update entry.update }
