-- The act that is read of a kind is one that the kind has, so that it makes an update.
use Rattle.std.proofs.Common.{◌≡◌, ℕ, Bool, true, false, List, [], ◌∷◌, refl, cond, subst}
use Rattle.std.specs.Prelude.{Result, Ok, Err, Option, Some, None, ok_or, codes, IsTrue, IfOk, is_some}
use Rattle.std.specs.List.{slice_split}
use Rattle.op_base.specs.Name.{same_text}
use Rattle.op_base.specs.Operation.{is_element, is_place, code_where, has_act}
use Rattle.op_base.specs.Reading.{update_of, where_true}
use Rattle.op_base.specs.Verb.{code_of}
use Rattle.op_base.specs.declared.name.Kind.{Kind}
use Rattle.op_base.specs.declared.name.ObjectId.{ObjectId}
use Rattle.op_base.specs.declared.operation.Act.{Act}
use Rattle.op_base.specs.declared.operation.Update.{Update}
use Rattle.op_base.specs.declared.tag.ElementId.{ElementId}
use Rattle.op_base.specs.declared.verb.Verb.{Verb}
use Rattle.op_base.specs.declared.verb.Verb.TheVariants.{Add, Rmv, Enable, Disable, Write, Inc, Dec, Ins, Del, Clear}
use Rattle.script_lang.specs.Fault.{◌>>=◌}
use Rattle.script_lang.specs.Names.{value_in, amount_in, is_point, element_from, element_in, place_in}
use Rattle.script_lang.specs.Acts.{act_in, kind_act}
use Rattle.script_lang.specs.Memory.{takes_memory, has_long_value}
use Rattle.script_lang.specs.declared.fault.Fault.{Fault}
use Rattle.script_lang.specs.declared.fault.Fault.TheVariants as fault

-- what is found behind a part of which something holds
then_holds : {A B : Type 0} (inner : A → Type 0) (outer : B → Type 0) (wanted : Result A Fault) (next : A → Result B Fault) → IfOk wanted inner → ((x : A) → inner x → IfOk (next x) outer)
    → IfOk (wanted >>= next) outer
then_holds inner outer (Ok x) next h rest = rest x h
then_holds inner outer (Err fault) next h rest = tt

-- what is found behind any part
any_holds : {A B : Type 0} (outer : B → Type 0) (wanted : Result A Fault) (next : A → Result B Fault) → ((x : A) → IfOk (next x) outer) → IfOk (wanted >>= next) outer
any_holds outer (Ok x) next rest = rest x
any_holds outer (Err fault) next rest = tt

-- what is found where a test passes
tested_holds : {A : Type 0} (holds : A → Type 0) (test : Bool) (a b : Result A Fault) → (test ≡ true → IfOk a holds) → IfOk b holds → IfOk (cond test a b) holds
tested_holds holds true a b h k = h refl
tested_holds holds false a b h k = k

parts_hold : (words : List (List ℕ)) → IfOk (element_from words) (λ id. IsTrue (is_element id))
parts_hold [] = tt
parts_hold (epoch ∷ []) = tt
parts_hold (epoch ∷ origin ∷ []) = tt
parts_hold (epoch ∷ origin ∷ seq ∷ []) =
    any_holds (λ id. IsTrue (is_element id)) (amount_in epoch) _ (λ e.
    any_holds (λ id. IsTrue (is_element id)) (amount_in origin) _ (λ o.
    any_holds (λ id. IsTrue (is_element id)) (amount_in seq) _ (λ s.
    let id : ElementId = record { epoch = e; origin = o; seq = s } in
    tested_holds (λ id. IsTrue (is_element id)) (is_element id) (Ok id) (Err fault.Number) (λ h. h) tt)))
parts_hold (epoch ∷ origin ∷ seq ∷ other ∷ words) = tt

element_holds : (word : List ℕ) → IfOk (element_in word) (λ id. IsTrue (is_element id))
element_holds word = parts_hold (slice_split is_point word)

place_holds : (word : List ℕ) → IfOk (place_in word) (λ place. IsTrue (is_place place))
place_holds word =
    tested_holds (λ place. IsTrue (is_place place)) (same_text word (codes "head")) (Ok None) _ (λ _. refl)
    (then_holds (λ id. IsTrue (is_element id)) (λ place. IsTrue (is_place place)) (element_in word) _ (element_holds word) (λ id h. h))

-- a code that is there and whose test passes
coded : (test : Bool) (code : Option ℕ) → IsTrue test → IsTrue (is_some code) → IsTrue (is_some (code_where test code))
coded test None h has = has
coded true (Some code) h has = refl
coded false (Some code) h has = h

-- a kind has an act
abbrev Fits : Kind → Act → Type 0
Fits kind act = IsTrue (has_act kind act)

-- where a kind has a verb, an act that is read of it is one that the kind has
act_fits : (kind : Kind) (verb : Verb) (arguments : List (List ℕ)) → IsTrue (is_some (code_of kind verb)) → IfOk (act_in verb arguments) (Fits kind)
act_fits kind Add (word ∷ []) has = any_holds (Fits kind) (value_in word) _ (λ _. coded true (code_of kind Add) refl has)
act_fits kind Rmv (word ∷ []) has = any_holds (Fits kind) (value_in word) _ (λ _. coded true (code_of kind Rmv) refl has)
act_fits kind Enable [] has = coded true (code_of kind Enable) refl has
act_fits kind Disable [] has = coded true (code_of kind Disable) refl has
act_fits kind Write (word ∷ []) has = any_holds (Fits kind) (value_in word) _ (λ _. coded true (code_of kind Write) refl has)
act_fits kind Inc (word ∷ []) has = any_holds (Fits kind) (amount_in word) _ (λ _. coded true (code_of kind Inc) refl has)
act_fits kind Dec (word ∷ []) has = any_holds (Fits kind) (amount_in word) _ (λ _. coded true (code_of kind Dec) refl has)
act_fits kind Ins (value ∷ word ∷ []) has =
    any_holds (Fits kind) (value_in value) _ (λ v.
    then_holds (λ place. IsTrue (is_place place)) (Fits kind) (place_in word) _ (place_holds word) (λ place h. coded (is_place place) (code_of kind Ins) h has))
act_fits kind Del (word ∷ []) has =
    then_holds (λ id. IsTrue (is_element id)) (Fits kind) (element_in word) _ (element_holds word) (λ id h. coded (is_element id) (code_of kind Del) h has)
act_fits kind Clear [] has = coded true (code_of kind Clear) refl has
act_fits kind verb arguments has = tt

-- an update that is made takes memory where its act does
made_takes : (test : Bool) (make : IsTrue test → Update) → ((h : IsTrue test) → IsTrue (has_long_value (make h).act)) → IsTrue test
    → IsTrue (takes_memory (λ (update : Update). has_long_value update.act) (ok_or (where_true test make) fault.Operation))
made_takes true make long h = long refl
made_takes false make long h = absurd (cc)

fitting_takes : (object : ObjectId) (wanted : Result Act Fault) → IfOk wanted (Fits object.kind) → IsTrue (takes_memory has_long_value wanted)
    → IsTrue (takes_memory (λ (update : Update). has_long_value update.act) (wanted >>= λ act. ok_or (update_of object act) fault.Operation))
fitting_takes object (Ok act) fits takes = made_takes (has_act object.kind act) _ (λ _. takes) fits
fitting_takes object (Err fault) fits takes = takes

-- an act that is read of a kind is one that the kind has
read_fits : (kind : Kind) (verb : Verb) (arguments : List (List ℕ)) → IfOk (kind_act kind verb arguments) (Fits kind)
read_fits kind verb arguments = tested_holds (Fits kind) (is_some (code_of kind verb)) (act_in verb arguments) (Err fault.Operation) (act_fits kind verb arguments) tt

pub kind_has : (kind : Kind) (verb : Verb) (arguments : List (List ℕ)) (act : Act) → kind_act kind verb arguments ≡ Ok act → IsTrue (has_act kind act)
kind_has kind verb arguments act is = subst (λ read. IfOk read (Fits kind)) is (read_fits kind verb arguments)

-- the update of an object takes memory where its act does
pub update_takes : (object : ObjectId) (verb : Verb) (arguments : List (List ℕ)) → IsTrue (takes_memory has_long_value (kind_act object.kind verb arguments))
    → IsTrue (takes_memory (λ (update : Update). has_long_value update.act) (kind_act object.kind verb arguments >>= λ act. ok_or (update_of object act) fault.Operation))
update_takes object verb arguments = fitting_takes object (kind_act object.kind verb arguments) (read_fits object.kind verb arguments)
