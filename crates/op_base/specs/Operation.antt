-- Acts: which each kind has, and their codes.
use Rattle.std.specs.Prelude.{ℕ, Option, Some, None, Bool, true, ◌&&◌, nat_le, nat_lt, is_some, if◌then◌else◌}
use Rattle.op_base.specs.declared.name.Kind.{Kind}
use Rattle.op_base.specs.declared.operation.Act.{Act}
use Rattle.op_base.specs.declared.operation.Act.TheVariants.{Add, Rmv, Clear, Enable, Disable, Write, Inc, Dec, Ins, Del}
use Rattle.op_base.specs.declared.tag.ElementId.{ElementId}
use Rattle.op_base.specs.declared.verb.Verb.{Verb}
use Rattle.op_base.specs.declared.verb.Verb.TheVariants as verb
use Rattle.op_base.specs.Verb.{code_of}

-- whether an id is one that an element of a list can have: of a member below 16, with a number from 1
abbrev pub is_element : ElementId → Bool
is_element id = nat_le id.origin 15 && nat_lt 0 id.seq

-- whether a value can be put there: at the head, or behind an element
abbrev pub is_place : Option ElementId → Bool
is_place None = true
is_place (Some id) = is_element id

-- what an act does, without its argument
abbrev pub verb_of : Act → Verb
verb_of (Add v) = verb.Add
verb_of (Rmv v) = verb.Rmv
verb_of Clear = verb.Clear
verb_of Enable = verb.Enable
verb_of Disable = verb.Disable
verb_of (Write v) = verb.Write
verb_of (Inc a) = verb.Inc
verb_of (Dec a) = verb.Dec
verb_of (Ins v place) = verb.Ins
verb_of (Del id) = verb.Del

-- whether what an act names, if it names one, can be an element of a list
abbrev pub names_elements : Act → Bool
names_elements (Ins v place) = is_place place
names_elements (Del id) = is_element id
names_elements act = true

-- a code, where a test passes
abbrev pub code_where : Bool → Option ℕ → Option ℕ
code_where test None = None
code_where test (Some code) = if test then Some code else None

-- the code of an act at a kind, or none where the kind has no such act, or the act names what can't be an element
abbrev pub act_code : Kind → Act → Option ℕ
act_code kind act = code_where (names_elements act) (code_of kind (verb_of act))

-- whether a kind has an act
abbrev pub has_act : Kind → Act → Bool
has_act kind act = is_some (act_code kind act)
