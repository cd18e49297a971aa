-- Objects: the order of their kinds, and when two names are of one object.
use Rattle.std.specs.Prelude.{ℕ, Bool, ◌&&◌, ◌==◌}
use Rattle.op_base.specs.Name.{same_text}
use Rattle.op_base.specs.declared.name.Kind.{Kind}
use Rattle.op_base.specs.declared.name.Kind.TheVariants.{AwSet, RwSet, EwFlag, DwFlag, MvReg, Counter, RCounter, List}
use Rattle.op_base.specs.declared.name.ObjectId.{ObjectId}

-- the place of a kind in their order
abbrev pub kind_place : Kind → ℕ
kind_place AwSet = 0
kind_place RwSet = 1
kind_place EwFlag = 2
kind_place DwFlag = 3
kind_place MvReg = 4
kind_place Counter = 5
kind_place RCounter = 6
kind_place List = 7

-- whether two names are of one object: of one kind, with one key
abbrev pub same_object : ObjectId → ObjectId → Bool
same_object a b = (kind_place a.kind == kind_place b.kind) && same_text a.key b.key
