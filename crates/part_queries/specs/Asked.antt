-- Which queries a kind has. The kinds are this project's own profile.
use Rattle.std.specs.Prelude.{ℕ, Bool, true, false, List, Option, Some, None}
use Rattle.op_base.specs.declared.name.Kind.{Kind}
use Rattle.op_base.specs.declared.name.Kind.TheVariants.{AwSet, RwSet, EwFlag, DwFlag, MvReg}

-- whether the objects of a kind are sets or registers, so that they have values
abbrev pub has_values : Kind → Bool
has_values AwSet = true
has_values RwSet = true
has_values MvReg = true
has_values kind = false

-- whether the objects of a kind are sets
abbrev pub is_set : Kind → Bool
is_set AwSet = true
is_set RwSet = true
is_set kind = false

-- whether the objects of a kind are flags
abbrev pub is_flag : Kind → Bool
is_flag EwFlag = true
is_flag DwFlag = true
is_flag kind = false

-- whether an object of a kind can be asked for a value, or without one
abbrev pub is_asked : Kind → Option (List ℕ) → Bool
is_asked kind None = is_flag kind
is_asked kind (Some value) = has_values kind
