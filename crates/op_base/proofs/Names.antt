-- A text has no fault exactly where it is a name.
use Rattle.std.proofs.Common.{◌≡◌, ◌≢◌, ap, ℕ, ◌+◌, Bool, true, false, not, ◌&&◌, cond, List, [], ◌∷◌, length, zero, suc, refl, sym, ◌∙◌, arith}
use Rattle.std.specs.Prelude.{position, Option, Some, None, is_none, is_some, ◌↔◌, nat_lt, nat_le, ◌==◌, if◌then◌else◌, Result, Ok, Err, IsTrue}
use Rattle.std.specs.List.{list_all, position_or_len}
use Rattle.std.specs.Option.{option_map}
use Rattle.std.specs.Str.{IsUtf8, IsAscii, is_utf8}
use Rattle.std.proofs.lemmas.Bool.{false≢true, false_from_ne_true, cond-false, and_parts, and_from}
use Rattle.std.proofs.lemmas.Bool.Decides.{nat_tests}
use Rattle.std.proofs.lemmas.Str.{is_utf8-from_IsUtf8, IsUtf8-from_is_utf8, IsUtf8-from_ascii}
use Rattle.op_base.specs.Name.{is_short, byte_fault, is_key, is_value, is_object, is_key_byte, is_value_byte, is_plain_byte, key_fault, value_fault, object_fault, kind_fault, kind_of, kind_part, key_part, or_else, Refuses}
use Rattle.op_base.specs.Laws.{KeysAreExact, ValuesAreExact, ObjectsAreExact}
use Rattle.op_base.specs.Reading.{object_with}
use Rattle.op_base.specs.declared.name.Kind.{Kind}
use Rattle.op_base.specs.declared.name.NameFault.{NameFault}
use Rattle.op_base.specs.declared.name.NameFault.TheVariants.{Empty, TooLong, BadByte, NotUtf8, NoMemory}

-- a test that passes exactly at UTF-8 is the definition's
pub utf8_tested : (tested : Bool) (bs : List ℕ) → (IsTrue tested ↔ IsUtf8 bs) → tested ≡ is_utf8 bs
utf8_tested true bs h = sym (is_utf8-from_IsUtf8 bs (h.0 refl))
utf8_tested false bs h = sym (false_from_ne_true (is_utf8 bs) (λ t. false≢true (h.1 (IsUtf8-from_is_utf8 bs t))))

-- some byte fails exactly where not all pass
some_fails : (p : ℕ → Bool) (xs : List ℕ) → nat_lt (position_or_len (λ b. not (p b)) xs) (length xs) ≡ not (list_all p xs)
some_fails p [] = refl
some_fails p (x ∷ xs) =
    let ih = some_fails p xs in
    elim (p x) as (λ v. nat_lt (cond (not (not v)) (1 + position_or_len (λ b. not (p b)) xs) 0) (suc (length xs)) ≡ not (v && list_all p xs)) [ true ↦ grind (arith, nat_tests, ih) | false ↦ grind (arith, nat_tests) ]

-- where all pass, none that fails has a place
pub no_place : (p : ℕ → Bool) (xs : List ℕ) → list_all p xs ≡ true → position (λ b. not (p b)) xs ≡ None
no_place p xs all = cond-false _ _ _ (some_fails p xs ∙ ap not all)

no_fault : (n most place : ℕ) (fails all : Bool) → fails ≡ not all → is_none (if n == 0 then Some Empty else if nat_lt most n then Some TooLong else option_map BadByte (cond fails (Some place) None)) ≡ (nat_lt 0 n && nat_le n most && all)
no_fault n most place fails true h = grind (arith, nat_tests)
no_fault n most place fails false h = grind (arith, nat_tests)

-- a short text whose bytes all pass is one without a fault
pub byte_fault-none : (most : ℕ) (p : ℕ → Bool) (bs : List ℕ) → is_none (byte_fault most p bs) ≡ (is_short most bs && list_all p bs)
byte_fault-none most p bs = no_fault (length bs) most (position_or_len (λ b. not (p b)) bs) _ (list_all p bs) (some_fails p bs)

-- two faults in order: none of both
or_else-none : (first second : Option NameFault) → is_none (or_else first second) ≡ (is_none first && is_none second)
or_else-none None second = refl
or_else-none (Some fault) second = refl

none_exactly : {X : Type 0} (o : Option X) (b : Bool) → is_none o ≡ b → IsTrue b ↔ (o ≡ None)
none_exactly None b h = (λ _. refl, λ _. sym h)
none_exactly (Some x) b h = (λ t. cc, λ e. cc)

pub key_exactly : KeysAreExact
key_exactly bs = none_exactly (key_fault bs) (is_key bs) (byte_fault-none 32 is_key_byte bs)

pub value_exactly : ValuesAreExact
value_exactly bs =
    let bytes = byte_fault-none 4096 is_value_byte bs in
    let text : is_none (if is_utf8 bs then None else Some NotUtf8) ≡ is_utf8 bs = elim (is_utf8 bs) as (λ u. is_none (if u then None else Some NotUtf8) ≡ u) [ true ↦ refl | false ↦ refl ] in
    none_exactly (value_fault bs) (is_value bs) (or_else-none (byte_fault 4096 is_value_byte bs) (if is_utf8 bs then None else Some NotUtf8) ∙ (λ i. bytes i && text i))

plain_values : (bs : List ℕ) → list_all is_plain_byte bs ≡ true → list_all is_value_byte bs ≡ true
plain_values [] all = refl
plain_values (b ∷ bs) all =
    let parts = and_parts (is_plain_byte b) (list_all is_plain_byte bs) all in
    let plain = parts.0 in
    let byte : is_value_byte b ≡ true = grind (arith, nat_tests, plain) in
    and_from (is_value_byte b) (list_all is_value_byte bs) byte (plain_values bs parts.1)

plain_ascii : (bs : List ℕ) → list_all is_plain_byte bs ≡ true → IsAscii bs
plain_ascii [] all i = omega arith
plain_ascii (b ∷ bs) all zero = let plain = (and_parts (is_plain_byte b) (list_all is_plain_byte bs) all).0 in grind (arith, nat_tests, plain)
plain_ascii (b ∷ bs) all (suc i) = plain_ascii bs (and_parts (is_plain_byte b) (list_all is_plain_byte bs) all).1 i

-- an exclamation mark is a text
pub mark_is_utf8 : IsTrue (is_utf8 (33 ∷ []))
mark_is_utf8 = is_utf8-from_IsUtf8 (33 ∷ []) (IsUtf8-from_ascii (33 ∷ []) (plain_ascii (33 ∷ []) refl))

-- a short text of bytes of ASCII that a value may have is a value
pub plain_has_no_fault : (bs : List ℕ) → is_short 4096 bs ≡ true → list_all is_plain_byte bs ≡ true → value_fault bs ≡ None
plain_has_no_fault bs short all =
    let utf8 = is_utf8-from_IsUtf8 bs (IsUtf8-from_ascii bs (plain_ascii bs all)) in
    (value_exactly bs).0 (and_from (is_short 4096 bs && list_all is_value_byte bs) (is_utf8 bs) (and_from (is_short 4096 bs) (list_all is_value_byte bs) short (plain_values bs all)) utf8)

pub object_exactly : ObjectsAreExact
object_exactly bs =
    let kind : is_none (kind_fault (kind_of (kind_part bs))) ≡ is_some (kind_of (kind_part bs)) = elim (kind_of (kind_part bs)) as (λ k. is_none (kind_fault k) ≡ is_some k) [ None ↦ refl | Some k ↦ refl ] in
    let key = byte_fault-none 32 is_key_byte (key_part bs) in
    none_exactly (object_fault bs) (is_object bs) (or_else-none (kind_fault (kind_of (kind_part bs))) (key_fault (key_part bs)) ∙ (λ i. kind i && key i))

-- a text that is refused, but for want of memory, has a fault
refused_fails : {T : Type 0} (o : Option NameFault) (b : Bool) (result : Result T NameFault) (fault : NameFault) → is_none o ≡ b → Refuses o result → result ≡ Err fault → fault ≢ NoMemory → b ≡ false
refused_fails None b (Ok x) fault h r e n = cc
refused_fails None b (Err other) fault h r e n = absurd (n (cc))
refused_fails (Some f) b result fault h r e n = sym h

-- no object has a key that is refused
pub object_with-refused : {T : Type 0} (kind : Option Kind) (key : List ℕ) (result : Result T NameFault) (fault : NameFault) → Refuses (key_fault key) result → result ≡ Err fault → fault ≢ NoMemory → object_with kind key ≡ None
object_with-refused None key result fault r e n = refl
object_with-refused (Some kind) key result fault r e n = cond-false _ _ _ (refused_fails (key_fault key) (is_key key) result fault (byte_fault-none 32 is_key_byte key) r e n)
