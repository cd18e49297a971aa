-- What contracts see of a log, and what its calls make of it.
use Rattle.std.specs.Prelude.{ℕ, ◌+◌, Bool, not, ◌&&◌, List, [], ◌∷◌, ◌++◌, filter, cond}
use Rattle.op_base.specs.Object.{same_object}
use Rattle.op_base.specs.declared.message.Entry.{Entry}
use Rattle.op_base.specs.declared.message.Message.{Message}
use Rattle.op_base.specs.declared.name.ObjectId.{ObjectId}
use Rattle.op_base.specs.declared.operation.Op.{Op}
use Rattle.op_base.specs.declared.operation.Op.TheVariants as op
use Rattle.op_base.specs.declared.operation.Update.{Update}
use Rattle.causal_model.specs.Log.{is_covered_by, message_of}
use Rattle.causal_model.specs.Order.{happened_before}
use Rattle.causal_model.specs.Stability.{is_stable}

-- a log of a store of n members, with room for so many entries: how many were pushed, its entries in history order, and
-- those that were stripped and not yet handed out, in that order too
pub record Log : Type 0 where
  pub n : ℕ
  pub room : ℕ
  pub pushed : ℕ
  pub entries : List Entry
  pub stripped : List Entry

-- a log with other entries
abbrev pub with_entries : Log → List Entry → Log
with_entries log entries = record { n = log.n; room = log.room; pushed = log.pushed; entries = entries; stripped = log.stripped }

-- a log with one entry more
abbrev pub with_entry : Log → Entry → Log
with_entry log entry = record { n = log.n; room = log.room; pushed = log.pushed + 1; entries = log.entries ++ entry ∷ []; stripped = log.stripped }

-- a log with an operation's update from a member at a timestamp, where it has one
abbrev pub with_update : ℕ → List ℕ → Op → Log → Log
with_update origin tag op.NoOp log = log
with_update origin tag (op.Update u) log = with_entry log (record { origin = origin; tag = tag; update = u })

-- whether an entry is stable where these are the stable counts
abbrev pub is_stable_entry : List ℕ → Entry → Bool
is_stable_entry stable entry = is_stable stable (message_of entry)

-- a log whose stable entries were stripped, where these are the stable counts
abbrev pub without_stable : Log → List ℕ → Log
without_stable log stable =
    record { n = log.n; room = log.room; pushed = log.pushed; entries = filter (λ e. not (is_stable_entry stable e)) log.entries; stripped = filter (is_stable_entry stable) log.entries }

-- a log with other stripped entries left
abbrev pub with_stripped : Log → List Entry → Log
with_stripped log stripped = record { n = log.n; room = log.room; pushed = log.pushed; entries = log.entries; stripped = stripped }

-- whether an entry is of an object
abbrev pub is_of : ObjectId → Entry → Bool
is_of object entry = same_object entry.update.object object

-- whether an entry stays when a message comes: it didn't happen before the message, or the message doesn't cover it
abbrev pub stays : (Update → Update → Bool) → Message → Entry → Bool
stays covers m entry = not (is_covered_by covers (message_of entry).op m.op && happened_before (message_of entry) m)

-- a log without what a message covers
abbrev pub without_covered : Log → (Update → Update → Bool) → Message → Log
without_covered log covers m = with_entries log (filter (stays covers m) log.entries)

-- a list without the first item that passes
abbrev pub without_first : {A : Type 0} → (A → Bool) → List A → List A
without_first passes [] = []
without_first passes (x ∷ xs) = cond (passes x) xs (x ∷ without_first passes xs)
