-- Which operations are logged, and which later operation makes an earlier one redundant. That one may do so is the idea
-- of Baquero, Almeida and Shoker (arXiv 1710.04469); the table is this project's own profile.
use Rattle.std.specs.Prelude.{Bool, true, false, ◌&&◌, ◌||◌}
use Rattle.op_base.specs.Object.{same_object}
use Rattle.op_base.specs.declared.name.Kind.{Kind}
use Rattle.op_base.specs.declared.name.Kind.TheVariants.{AwSet, RwSet, EwFlag, DwFlag, MvReg, Counter, RCounter}
use Rattle.op_base.specs.declared.name.Kind.TheVariants as kinds
use Rattle.op_base.specs.declared.operation.Act.{Act}
use Rattle.op_base.specs.declared.operation.Act.TheVariants.{Add, Rmv, Clear, Enable, Disable, Write, Inc, Dec, Del}
use Rattle.op_base.specs.declared.operation.Update.{Update}
use Rattle.causal_model.specs.Acts.{value_of, is_clear, same_value}

-- whether an act of a kind is logged while it is unstable and uncovered
abbrev pub keeps_act : Kind → Act → Bool
keeps_act AwSet (Add v) = true
keeps_act RwSet (Add v) = true
keeps_act RwSet (Rmv v) = true
keeps_act EwFlag Enable = true
keeps_act DwFlag Enable = true
keeps_act DwFlag Disable = true
keeps_act MvReg (Write v) = true
keeps_act RCounter (Inc a) = true
keeps_act RCounter (Dec a) = true
keeps_act kinds.List (Del id) = true
keeps_act kinds.List Clear = true
keeps_act kind act = false

-- Whether a later act of a kind covers an earlier one that is logged. In a set an act covers those of its value and a
-- clear covers all; in a flag and a register each act covers all; in a counter that can be cleared a clear does.
abbrev pub covers_act : Kind → Act → Act → Bool
covers_act AwSet later earlier = is_clear later || same_value (value_of later) (value_of earlier)
covers_act RwSet later earlier = is_clear later || same_value (value_of later) (value_of earlier)
covers_act EwFlag later earlier = true
covers_act DwFlag later earlier = true
covers_act MvReg later earlier = true
covers_act Counter later earlier = false
covers_act RCounter later earlier = is_clear later
covers_act kinds.List later earlier = false

-- the table's rule of what is logged, over updates
abbrev pub store_keeps : Update → Bool
store_keeps u = keeps_act u.object.kind u.act

-- The table's rule of what covers, over updates: both are of one object, the earlier one is one that is logged, and the
-- later act covers the earlier.
abbrev pub store_covers : Update → Update → Bool
store_covers later earlier =
    same_object later.object earlier.object && store_keeps earlier && covers_act earlier.object.kind later.act earlier.act
