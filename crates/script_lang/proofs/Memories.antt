-- Where memory may be taken: at a long value, and at what is tested behind it.
use Rattle.std.proofs.Common.{◌≡◌, ℕ, Bool, true, false, List, [], ◌∷◌, refl, sym, ◌∙◌, cond, subst}
use Rattle.std.specs.Prelude.{Result, Ok, Err, Option, Some, None, ok_or, codes, IsTrue, length, get_or, map}
use Rattle.std.specs.List.{slice_split}
use Rattle.std.specs.Result.{result_ok, IsErrAnd}
use Rattle.hex.specs.Hex.{decode_of}
use Rattle.op_base.specs.Name.{same_text}
use Rattle.op_base.specs.Operation.{is_element}
use Rattle.op_base.specs.declared.operation.Act.TheVariants as acts
use Rattle.op_base.specs.declared.tag.ElementId.{ElementId}
use Rattle.op_base.specs.declared.verb.Verb.{Verb}
use Rattle.op_base.specs.declared.verb.Verb.TheVariants.{Ins}
use Rattle.script_lang.specs.Fault.{◌>>=◌}
use Rattle.script_lang.specs.Numbers.{number_of}
use Rattle.script_lang.specs.Names.{value_in, bytes_in, amount_in, is_point, element_from, element_in, place_in}
use Rattle.script_lang.specs.Acts.{act_in}
use Rattle.script_lang.specs.Memory.{takes_memory, is_late, is_long, has_long_value, IsAmple}
use Rattle.script_lang.specs.declared.fault.Fault.{Fault}
use Rattle.script_lang.specs.declared.fault.Fault.TheVariants as fault

-- each fault of what is to be read is late
abbrev IsLate : {A : Type 0} → Result A Fault → Type 0
IsLate {A} wanted = IsTrue (takes_memory (λ (x : A). true) wanted)

-- a part at which memory may be taken, and what stands behind it
pub takes_then : {A B : Type 0} (inner : A → Bool) (keeps : B → Bool) (wanted : Result A Fault) (next : A → Result B Fault)
    → ((x : A) → IsTrue (inner x) → IsTrue (takes_memory keeps (next x))) → IsTrue (takes_memory inner wanted) → IsTrue (takes_memory keeps (wanted >>= next))
takes_then inner keeps (Ok x) next rest takes = rest x takes
takes_then inner keeps (Err fault) next rest takes = takes

-- a part behind a late part
pub late_then : {A B : Type 0} (keeps : B → Bool) (wanted : Result A Fault) (next : A → Result B Fault) → IsLate wanted → ((x : A) → IsTrue (takes_memory keeps (next x)))
    → IsTrue (takes_memory keeps (wanted >>= next))
late_then keeps wanted next late rest = takes_then (λ _. true) keeps wanted next (λ x _. rest x) late

found_late : {A : Type 0} (found : Option A) (fault : Fault) → IsTrue (is_late fault) → IsLate (ok_or found fault)
found_late None fault h = h
found_late (Some x) fault h = refl

tested_late : {A : Type 0} (test : Bool) (a b : Result A Fault) → IsLate a → IsLate b → IsLate (cond test a b)
tested_late true a b h k = h
tested_late false a b h k = k

pub bytes_late : (word : List ℕ) → IsLate (bytes_in word)
bytes_late word = found_late (result_ok (decode_of word)) fault.Value refl

amount_late : (word : List ℕ) → IsLate (amount_in word)
amount_late word = found_late (number_of word) fault.Number refl

parts_late : (words : List (List ℕ)) → IsLate (element_from words)
parts_late [] = refl
parts_late (epoch ∷ []) = refl
parts_late (epoch ∷ origin ∷ []) = refl
parts_late (epoch ∷ origin ∷ seq ∷ []) =
    late_then (λ _. true) (amount_in epoch) _ (amount_late epoch) (λ e.
    late_then (λ _. true) (amount_in origin) _ (amount_late origin) (λ o.
    late_then (λ _. true) (amount_in seq) _ (amount_late seq) (λ s.
    let id : ElementId = record { epoch = e; origin = o; seq = s } in
    tested_late {A = ElementId} (is_element id) (Ok id) (Err fault.Number) refl refl)))
parts_late (epoch ∷ origin ∷ seq ∷ other ∷ words) = refl

element_late : (word : List ℕ) → IsLate (element_in word)
element_late word = parts_late (slice_split is_point word)

place_late : (word : List ℕ) → IsLate (place_in word)
place_late word =
    tested_late {A = Option ElementId} (same_text word (codes "head")) (Ok None) _ refl (late_then (λ _. true) (element_in word) _ (element_late word) (λ _. refl))

placed_takes : (value word : List ℕ) → IsTrue (takes_memory is_long (value_in value))
    → IsTrue (takes_memory has_long_value (value_in value >>= λ v. place_in word >>= λ place. Ok (acts.Ins v place)))
placed_takes value word =
    takes_then is_long has_long_value (value_in value) (λ v. place_in word >>= λ place. Ok (acts.Ins v place)) (λ v long.
    late_then has_long_value (place_in word) (λ place. Ok (acts.Ins v place)) (place_late word) (λ _. long))

-- `ins` takes memory where its value does
pub ins_takes : {T : Type 0} (now : T → List ℕ) (other : T) (verb : Verb) (arguments : List T) → verb ≡ Ins → length arguments ≡ 2
    → IsTrue (takes_memory is_long (value_in (now (get_or arguments 0 other)))) → IsTrue (takes_memory has_long_value (act_in verb (map now arguments)))
ins_takes now other Ins (value ∷ place ∷ []) is two takes = placed_takes (now value) (now place) takes
ins_takes now other Ins [] is two takes = absurd (cc)
ins_takes now other Ins (value ∷ []) is two takes = absurd (cc)
ins_takes now other Ins (value ∷ place ∷ more ∷ arguments) is two takes = absurd (cc)
ins_takes now other verb arguments is two takes = absurd (cc)

-- a late part is read amply
pub late_ample : {A : Type 0} (keeps : A → Bool) (wanted result : Result A Fault) → IsTrue (takes_memory keeps wanted) → IsAmple keeps wanted result
late_ample keeps wanted (Ok x) late = tt
late_ample keeps wanted (Err other) late = λ _. late

-- where a part is found, what stands behind it says whether memory is taken
pub behind : {A B : Type 0} (keeps : B → Bool) (found : Result A Fault) (x : A) (next : A → Result B Fault) (result : Result B Fault) → Ok x ≡ found
    → IsAmple keeps (next x) result → IsAmple keeps (found >>= next) result
behind keeps (Ok y) x next result e ample = subst (λ v. IsAmple keeps (next v) result) (cc) ample
behind keeps (Err other) x next result e ample = absurd (cc)

-- a part that is read amply, where the whole takes memory with it
pub kept : {A B : Type 0} (inner : A → Bool) (keeps : B → Bool) (wanted : Result A Fault) (whole : Result B Fault) (fault : Fault) (result : Result B Fault)
    → IsErrAnd result (λ e. e ≡ fault) → IsAmple inner wanted (Err fault) → (IsTrue (takes_memory inner wanted) → IsTrue (takes_memory keeps whole))
    → IsAmple keeps whole result
kept inner keeps wanted whole fault (Ok x) is ample rest = tt
kept inner keeps wanted whole fault (Err other) is ample rest = λ e. rest (ample (sym is ∙ e))
