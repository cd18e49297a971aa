-- What texts and pairs stand for: the object that a text names, and the update that an object and an act make.
use Rattle.std.specs.Prelude.{ℕ, Bool, true, false, IsTrue, refl, List, Option, Some, None, if◌then◌else◌}
use Rattle.op_base.specs.Name.{is_key, kind_of, kind_part, key_part}
use Rattle.op_base.specs.Operation.{has_act}
use Rattle.op_base.specs.declared.name.Kind.{Kind}
use Rattle.op_base.specs.declared.name.ObjectId.{ObjectId}
use Rattle.op_base.specs.declared.operation.Act.{Act}
use Rattle.op_base.specs.declared.operation.Update.{Update}

-- an object of a kind with a key, where the key is one
abbrev pub object_with : Option Kind → List ℕ → Option ObjectId
object_with None key = None
object_with (Some kind) key = if is_key key then Some (record { kind = kind; key = key }) else None

-- the object that a text names
abbrev pub object_of : List ℕ → Option ObjectId
object_of bytes = object_with (kind_of (kind_part bytes)) (key_part bytes)

-- a value that is made with a fact, where the test of the fact passes
abbrev pub where_true : {A : Type 0} (test : Bool) → (IsTrue test → A) → Option A
where_true true make = Some (make refl)
where_true false make = None

-- the update that an object and an act make, where the object's kind has the act
abbrev pub update_of : ObjectId → Act → Option Update
update_of object act = where_true (has_act object.kind act) (λ fits. record { object = object; act = act; of_kind = fits })
