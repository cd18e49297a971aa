-- The acts and updates that words make.
use Rattle.std.specs.Prelude.{ℕ, Bool, true, false, List, [], ◌∷◌, Result, Ok, Err, ok_or, is_some, if◌then◌else◌}
use Rattle.op_base.specs.Reading.{update_of}
use Rattle.op_base.specs.Verb.{verb_of_word, code_of}
use Rattle.op_base.specs.declared.name.Kind.{Kind}
use Rattle.op_base.specs.declared.operation.Act.{Act}
use Rattle.op_base.specs.declared.operation.Act.TheVariants as acts
use Rattle.op_base.specs.declared.operation.Update.{Update}
use Rattle.op_base.specs.declared.verb.Verb.{Verb}
use Rattle.op_base.specs.declared.verb.Verb.TheVariants.{Add, Rmv, Enable, Disable, Write, Inc, Dec, Ins, Del, Clear}
use Rattle.script_lang.specs.Fault.{◌>>=◌}
use Rattle.script_lang.specs.Names.{object_in, value_in, amount_in, element_in, place_in}
use Rattle.script_lang.specs.declared.fault.Fault.{Fault}
use Rattle.script_lang.specs.declared.fault.Fault.TheVariants as fault

-- the verb whose word this is
abbrev pub verb_in : List ℕ → Result Verb Fault
verb_in word = ok_or (verb_of_word word) fault.Operation

-- the act of a verb with its arguments
abbrev pub act_in : Verb → List (List ℕ) → Result Act Fault
act_in Add (value ∷ []) = value_in value >>= λ value. Ok (acts.Add value)
act_in Rmv (value ∷ []) = value_in value >>= λ value. Ok (acts.Rmv value)
act_in Enable [] = Ok acts.Enable
act_in Disable [] = Ok acts.Disable
act_in Write (value ∷ []) = value_in value >>= λ value. Ok (acts.Write value)
act_in Inc (amount ∷ []) = amount_in amount >>= λ amount. Ok (acts.Inc amount)
act_in Dec (amount ∷ []) = amount_in amount >>= λ amount. Ok (acts.Dec amount)
act_in Ins (value ∷ place ∷ []) = value_in value >>= λ value. place_in place >>= λ place. Ok (acts.Ins value place)
act_in Del (id ∷ []) = element_in id >>= λ id. Ok (acts.Del id)
act_in Clear [] = Ok acts.Clear
act_in verb arguments = Err fault.Operation

-- the same, where the verb is one of what is done to objects of a kind
abbrev pub kind_act : Kind → Verb → List (List ℕ) → Result Act Fault
kind_act kind verb arguments = if is_some (code_of kind verb) then act_in verb arguments else Err fault.Operation

-- whether no more than two arguments stand behind a verb
abbrev pub are_few : List (List ℕ) → Bool
are_few (a ∷ b ∷ c ∷ arguments) = false
are_few arguments = true

-- the update of an object, a verb and its arguments
abbrev pub update_in : List ℕ → List ℕ → List (List ℕ) → Result Update Fault
update_in object verb arguments =
    object_in object >>= λ object. verb_in verb >>= λ verb. kind_act object.kind verb arguments >>= λ act.
    ok_or (update_of object act) fault.Operation
