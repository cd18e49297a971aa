-- The table of operations: what can be done to the objects of each kind, the code of each, its word, and what stands
-- behind it.
use Rattle.std.specs.Prelude.{ℕ, ◌-◌, List, [], ◌∷◌, Option, Some, None, is_some, codes, filter, map, slice_index_or}
use Rattle.std.specs.List.{find, flat_map}
use Rattle.op_base.specs.Name.{same_text, kinds}
use Rattle.op_base.specs.declared.name.Kind.{Kind}
use Rattle.op_base.specs.declared.name.Kind.TheVariants.{AwSet, RwSet, EwFlag, DwFlag, MvReg, Counter, RCounter}
use Rattle.op_base.specs.declared.name.Kind.TheVariants as kind
use Rattle.op_base.specs.declared.verb.Argument.{Argument}
use Rattle.op_base.specs.declared.verb.Argument.TheVariants.{Nothing, Value, Amount, Insertion, Element}
use Rattle.op_base.specs.declared.verb.Verb.{Verb}
use Rattle.op_base.specs.declared.verb.Verb.TheVariants.{Add, Rmv, Enable, Disable, Write, Inc, Dec, Ins, Del, Clear}

-- the code of what is done to an object of a kind, or none where it isn't done to such objects; 0 is the no-op's
abbrev pub code_of : Kind → Verb → Option ℕ
code_of AwSet Add = Some 1
code_of AwSet Rmv = Some 2
code_of AwSet Clear = Some 3
code_of RwSet Add = Some 4
code_of RwSet Rmv = Some 5
code_of RwSet Clear = Some 6
code_of EwFlag Enable = Some 7
code_of EwFlag Disable = Some 8
code_of EwFlag Clear = Some 9
code_of DwFlag Enable = Some 10
code_of DwFlag Disable = Some 11
code_of DwFlag Clear = Some 12
code_of MvReg Write = Some 13
code_of MvReg Clear = Some 14
code_of Counter Inc = Some 15
code_of Counter Dec = Some 16
code_of RCounter Inc = Some 17
code_of RCounter Dec = Some 18
code_of RCounter Clear = Some 19
code_of kind.List Ins = Some 20
code_of kind.List Del = Some 21
code_of kind.List Clear = Some 22
code_of kind verb = None

-- the verbs, in the order of their codes at each kind
abbrev pub verbs : List Verb
verbs = Add ∷ Rmv ∷ Enable ∷ Disable ∷ Write ∷ Inc ∷ Dec ∷ Ins ∷ Del ∷ Clear ∷ []

-- the operations in the order of their codes: the kind of an object, and what is done to it
abbrev pub operations : List (Kind × Verb)
operations = filter (λ o. is_some (code_of o.0 o.1)) (flat_map (λ kind. map (λ verb. (kind, verb)) verbs) kinds)

-- the operation of a code from 1 to 22
abbrev pub operation_of : ℕ → Kind × Verb
operation_of code = slice_index_or operations (code - 1) (AwSet, Add)

-- the word of a verb
abbrev pub verb_word : Verb → List ℕ
verb_word Add = codes "add"
verb_word Rmv = codes "rmv"
verb_word Enable = codes "enable"
verb_word Disable = codes "disable"
verb_word Write = codes "write"
verb_word Inc = codes "inc"
verb_word Dec = codes "dec"
verb_word Ins = codes "ins"
verb_word Del = codes "del"
verb_word Clear = codes "clear"

-- the verb whose word this is
abbrev pub verb_of_word : List ℕ → Option Verb
verb_of_word bytes = find (λ verb. same_text (verb_word verb) bytes) verbs

-- what stands behind a verb
abbrev pub argument_of : Verb → Argument
argument_of Add = Value
argument_of Rmv = Value
argument_of Write = Value
argument_of Inc = Amount
argument_of Dec = Amount
argument_of Ins = Insertion
argument_of Del = Element
argument_of verb = Nothing
