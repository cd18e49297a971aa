-- What the log's entries of an object take out, by clears and by deletions.
use Rattle.std.specs.Prelude.{◌≡◌, ℕ, ◌+◌, ◌<◌, Bool, true, false, ◌&&◌, ◌||◌, ◌==◌, nat_lt, min, List, length, slice_index, if◌then◌else◌}
use Rattle.std.specs.List.{list_any}
use Rattle.op_base.specs.Timestamp.{entry}
use Rattle.op_base.specs.declared.message.Entry.{Entry}
use Rattle.op_base.specs.declared.message.Message.{Message}
use Rattle.op_base.specs.declared.operation.Act.{Act}
use Rattle.op_base.specs.declared.operation.Act.TheVariants.{Clear, Del}
use Rattle.op_base.specs.declared.tag.ElementId.{ElementId}
use Rattle.causal_model.specs.Elements.{same_element}
use Rattle.causal_model.specs.ListSteps.{had_seen}
use Rattle.causal_model.specs.Log.{message_of}
use Rattle.list_type.specs.Deletions.{AreLinked}
use Rattle.list_type.specs.declared.removals.Clears.{Clears}
use Rattle.list_type.specs.declared.removals.Removals.{Removals}

-- whether an act is a clear
abbrev pub is_clear : Act → Bool
is_clear Clear = true
is_clear act = false

-- whether an act is the deletion of an element
abbrev pub is_deletion : ElementId → Act → Bool
is_deletion id (Del other) = same_element other id
is_deletion id act = false

-- whether an entry of an epoch clears an element
abbrev pub clears_by : ℕ → Entry → ElementId → Bool
clears_by epoch e id = is_clear e.update.act && had_seen epoch (message_of e) id

-- whether it deletes the element
abbrev pub deletes_by : ℕ → Entry → ElementId → Bool
deletes_by epoch e id = is_deletion id e.update.act && had_seen epoch (message_of e) id

-- the sender of a message had seen those elements of a member, of the message's epoch, whose numbers are below this
abbrev pub seen_below : Message → ℕ → ℕ
seen_below m x = if x == m.origin then entry m.tag x else entry m.tag x + 1

-- whether joined clears take an element of a member below 16 out
abbrev pub is_cleared : Clears → ℕ → ElementId → Bool
is_cleared clears epoch id = (clears.any && nat_lt id.epoch epoch) || ((id.epoch == epoch) && nat_lt id.seq (slice_index clears.below id.origin))

-- joined clears are those of these entries
abbrev pub AreJoined : Clears → ℕ → List Entry → Type 0
AreJoined clears epoch entries = (id : ElementId) → id.origin < 16 → is_cleared clears epoch id ≡ list_any (λ e. clears_by epoch e id) entries

-- what clears and deletions take out are the removals of these entries
pub record AreTold (removals : Removals) (epoch : ℕ) (entries : List Entry) : Type 0 where
  pub joined : AreJoined removals.clears epoch entries
  pub linked : AreLinked removals.deletions entries (min (length entries) 1024)
