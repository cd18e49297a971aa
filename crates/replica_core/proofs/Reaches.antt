-- What an operation covers by the store's rules is within its reach.
use Rattle.std.proofs.Common.{◌≡◌, ◌||◌, ◌&&◌, List, ℕ, Bool, true, false, Option, Some, None, if◌then◌else◌, ap, sym, subst}
use Rattle.std.specs.Cmp.Lexicographic.{bytes_decides}
use Rattle.std.proofs.lemmas.Bool.{and_parts, false≢true}
use Rattle.op_base.specs.Object.{same_object}
use Rattle.op_base.specs.declared.name.Kind.{Kind}
use Rattle.op_base.specs.declared.name.Kind.TheVariants.{AwSet, RwSet, EwFlag, DwFlag, MvReg, Counter, RCounter}
use Rattle.op_base.specs.declared.name.Kind.TheVariants as kinds
use Rattle.op_base.specs.declared.name.ObjectId.{ObjectId}
use Rattle.op_base.specs.declared.operation.Act.{Act}
use Rattle.op_base.specs.declared.operation.Op.{Op}
use Rattle.op_base.specs.declared.operation.Op.TheVariants as op
use Rattle.causal_model.specs.Acts.{is_clear, same_value, value_of}
use Rattle.causal_model.specs.Covering.{covers_act, store_keeps, store_covers}
use Rattle.causal_model.proofs.Answers.Rules.{object_from_same, covers_one_object}
use Rattle.polog.specs.Marks.{IsReached, Reaches}
use Rattle.polog.specs.declared.reach.Reach.TheVariants.{Nothing, Value, Object}
use Rattle.replica_core.specs.Reach.{reach_in, reach_of}

-- acts of the same value name the same
same_named : (later earlier : Option (List ℕ)) → same_value later earlier ≡ true → earlier ≡ later
same_named None earlier t = absurd (false≢true t)
same_named (Some v) None t = absurd (false≢true t)
same_named (Some v) (Some w) t = ap Some (sym ((bytes_decides v w).0 t))

-- an act of a set, of which is known whether it is a clear
set_reached : (clears : Bool) (later earlier : Act) → (clears || same_value (value_of later) (value_of earlier)) ≡ true → IsReached (if clears then Object else Value) later earlier
set_reached true later earlier t = tt
set_reached false later earlier t = same_named (value_of later) (value_of earlier) t

-- and one of a counter
counter_reached : (clears : Bool) (later earlier : Act) → clears ≡ true → IsReached (if clears then Object else Nothing) later earlier
counter_reached true later earlier t = tt
counter_reached false later earlier t = absurd (false≢true t)

act_reached : (kind : Kind) (later earlier : Act) → covers_act kind later earlier ≡ true → IsReached (reach_in kind later) later earlier
act_reached AwSet later earlier t = set_reached (is_clear later) later earlier t
act_reached RwSet later earlier t = set_reached (is_clear later) later earlier t
act_reached EwFlag later earlier t = tt
act_reached DwFlag later earlier t = tt
act_reached MvReg later earlier t = tt
act_reached Counter later earlier t = absurd (false≢true t)
act_reached RCounter later earlier t = counter_reached (is_clear later) later earlier t
act_reached kinds.List later earlier t = absurd (false≢true t)

pub store_reaches : (o : Op) → Reaches (reach_of o) store_covers o
store_reaches op.NoOp = tt
store_reaches (op.Update later) = λ earlier covered.
    let same : later.object ≡ earlier.object = object_from_same later.object earlier.object (covers_one_object later earlier covered) in
    subst (λ (o : ObjectId). IsReached (reach_in o.kind later.act) later.act earlier.act) (sym same)
    (act_reached earlier.object.kind later.act earlier.act (and_parts (same_object later.object earlier.object && store_keeps earlier) (covers_act earlier.object.kind later.act earlier.act) covered).1)
