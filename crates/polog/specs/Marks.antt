-- Marks of acts, and what of them an operation reaches.
use Rattle.std.specs.Prelude.{◌≡◌, ℕ, ◌+◌, ◌-◌, ◌*◌, ◌%◌, ◌^◌, nat_eq, nat_lt, cond, Bool, true, false, List, length, map, drop, Option, Some, None, IsTrue}
use Rattle.std.specs.List.{fold}
use Rattle.op_base.specs.declared.message.Entry.{Entry}
use Rattle.op_base.specs.declared.message.Message.{Message}
use Rattle.op_base.specs.declared.operation.Act.{Act}
use Rattle.op_base.specs.declared.operation.Op.{Op}
use Rattle.op_base.specs.declared.operation.Op.TheVariants as op
use Rattle.op_base.specs.declared.operation.Update.{Update}
use Rattle.causal_model.specs.Acts.{value_of}
use Rattle.polog.specs.Value.{stays}
use Rattle.polog.specs.declared.marks.Stamp.{Stamp}
use Rattle.polog.specs.declared.reach.Look.{Look}
use Rattle.polog.specs.declared.reach.Look.TheVariants.{AtNone, AtMark, AtAll}
use Rattle.polog.specs.declared.reach.Reach.{Reach}
use Rattle.polog.specs.declared.reach.Reach.TheVariants as reaches

-- a mark with one byte more
abbrev pub with_byte : ℕ → ℕ → ℕ
with_byte mark byte = ((mark * 16777619) % 2 ^ 32 + byte) % 2 ^ 32

-- the mark of a value, which its last 32 bytes make
unfoldable pub mark_of_text : List ℕ → ℕ
mark_of_text bytes = fold with_byte 0 (drop (length bytes - 32) bytes)

-- the mark of a value, or 0 where there is none
abbrev pub mark_of_named : Option (List ℕ) → ℕ
mark_of_named None = 0
mark_of_named (Some value) = mark_of_text value

-- the mark of the value that an act names, or 0 where it names none
abbrev pub mark_of : Act → ℕ
mark_of act = mark_of_named (value_of act)

-- stamps beside entries, each with the mark of its entry's act
abbrev pub AreMarked : List Stamp → List Entry → Type 0
AreMarked stamps entries = map (λ s. s.mark) stamps ≡ map (λ e. mark_of e.update.act) entries

-- whether an act is looked at
abbrev pub is_looked_at : Look → Act → Bool
is_looked_at AtNone act = false
is_looked_at (AtMark mark) act = nat_eq (mark_of act) mark
is_looked_at AtAll act = true

-- what of so many rows is looked at for an act that may cover so much
abbrev pub look_of : Reach → Act → ℕ → Look
look_of reaches.Nothing act rows = AtNone
look_of reaches.Value act rows = cond (nat_lt 2 rows) (AtMark (mark_of act)) AtAll
look_of reaches.Object act rows = AtAll

-- what isn't looked at stays when a message comes
abbrev pub RestStays : Look → (Update → Update → Bool) → Message → Type 0
RestStays look covers m = (e : Entry) → is_looked_at look e.update.act ≡ false → stays covers m e ≡ true

-- whether a later act with a reach may cover an earlier one
abbrev pub IsReached : Reach → Act → Act → Type 0
IsReached reaches.Nothing later earlier = ⊥
IsReached reaches.Value later earlier = value_of earlier ≡ value_of later
IsReached reaches.Object later earlier = Unit {0}

-- what an operation covers is within a reach
abbrev pub Reaches : Reach → (Update → Update → Bool) → Op → Type 0
Reaches reach covers op.NoOp = Unit {0}
Reaches reach covers (op.Update later) = (earlier : Update) → IsTrue (covers later earlier) → IsReached reach later.act earlier.act
