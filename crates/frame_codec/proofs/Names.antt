-- A text field is read exactly where its text is a name.
use Rattle.std.proofs.Common.{◌≡◌, ℕ, ◌+◌, Bool, true, false, List, length, refl, sym, ap, ◌∙◌}
use Rattle.std.specs.Prelude.{Option, Some, None, Result, Ok, Err, IsTrue, ◌↔◌, ◌≢◌, OnOk, IfErr, is_ok, nat_le, ◌&&◌, if◌then◌else◌, nat_lt, ◌==◌}
use Rattle.std.specs.Option.{option_map}
use Rattle.std.specs.Str.{is_utf8}
use Rattle.std.proofs.lemmas.Bool.{false_from_ne_true}
use Rattle.op_base.specs.Name.{Refuses, key_fault, value_fault, byte_fault, or_else, is_key, is_value, is_value_byte}
use Rattle.op_base.specs.declared.name.NameFault.{NameFault}
use Rattle.op_base.specs.declared.name.NameFault.TheVariants.{Empty, TooLong, BadByte, NoType, NotUtf8, NoMemory}
use Rattle.op_base.proofs.Names.{key_exactly, value_exactly}
use Rattle.frame_codec.specs.declared.version.Version.{Version}
use Rattle.frame_codec.specs.Grammar.{carries_length, is_sent}
use Rattle.frame_codec.specs.Fault.{length_len, length_at, text_of, is_text_field}
use Rattle.frame_codec.specs.Reading.{is_name}

-- a whole text field passes where its text does
pub field_passes : (version : Version) (p : List ℕ → Bool) (bytes : List ℕ) → is_text_field version (λ _. true) bytes ≡ true → is_text_field version p bytes ≡ p (text_of version bytes)
field_passes version p bytes h = elim (nat_le (length_len version + length_at version bytes) (length bytes)) as (λ b. (b && true) ≡ true → (b && p (text_of version bytes)) ≡ p (text_of version bytes)) [ true ↦ λ _. refl | false ↦ λ e. absurd cc ] h

-- a fault of the text, and not want of memory
abbrev IsOfText : Option NameFault → Type 0
IsOfText None = Unit {0}
IsOfText (Some NoMemory) = ⊥
IsOfText (Some fault) = Unit {0}

bytes_of_text : (most place : ℕ) (empty long fails : Bool) → IsOfText (if empty then Some Empty else if long then Some TooLong else option_map BadByte (if fails then Some place else None))
bytes_of_text most place true long fails = tt
bytes_of_text most place false true fails = tt
bytes_of_text most place false false true = tt
bytes_of_text most place false false false = tt

-- the name of a fault is a name only for want of memory
of_fault : (T : Type 0) (f : NameFault) → IsOfText (Some f) → is_name {T = T} (Err f) ≡ false
of_fault T NoMemory text = absurd text
of_fault T Empty text = refl
of_fault T TooLong text = refl
of_fault T (BadByte at) text = refl
of_fault T NoType text = refl
of_fault T NotUtf8 text = refl

of_text : {T : Type 0} (o : Option NameFault) (r : Result T NameFault) (name : Bool) → IsOfText o → (IsTrue name ↔ (o ≡ None)) → OnOk r (IsTrue name) → Refuses o r → is_name r ≡ name
of_text o (Ok x) name text exactly valid refused = sym valid
of_text {T = T} None (Err e) name text exactly valid refused = let same : e ≡ NoMemory = cc in rw (same, exactly.1 refl) refl
of_text {T = T} (Some f) (Err e) name text exactly valid refused =
    let same : e ≡ f = cc in
    let none : name ≡ false = false_from_ne_true name (λ t. let e : Some f ≡ None = exactly.0 t in absurd cc) in
    rw (same, none) (of_fault T f text)

key_of_text : (bytes : List ℕ) → IsOfText (key_fault bytes)
key_of_text bytes = bytes_of_text 32 _ (length bytes == 0) (nat_lt 32 (length bytes)) _

pub key_named : {T : Type 0} (bytes : List ℕ) (r : Result T NameFault) → OnOk r (IsTrue (is_key bytes)) → Refuses (key_fault bytes) r → is_name r ≡ is_key bytes
key_named bytes r valid refused = of_text (key_fault bytes) r (is_key bytes) (key_of_text bytes) (key_exactly bytes) valid refused

or_of_text : (first : Option NameFault) (utf8 : Bool) → IsOfText first → IsOfText (or_else first (if utf8 then None else Some NotUtf8))
or_of_text None true text = tt
or_of_text None false text = tt
or_of_text (Some f) utf8 text = text

value_of_text : (bytes : List ℕ) → IsOfText (value_fault bytes)
value_of_text bytes = or_of_text (byte_fault 4096 is_value_byte bytes) (is_utf8 bytes) (bytes_of_text 4096 _ (length bytes == 0) (nat_lt 4096 (length bytes)) _)

pub value_named : {T : Type 0} (bytes : List ℕ) (r : Result T NameFault) → OnOk r (IsTrue (is_value bytes)) → Refuses (value_fault bytes) r → is_name r ≡ is_value bytes
value_named bytes r valid refused = of_text (value_fault bytes) r (is_value bytes) (value_of_text bytes) (value_exactly bytes) valid refused

-- without want of memory a text was read where it was a name
read_is_named : {T : Type 0} (r : Result T NameFault) → IfErr r (λ fault. fault ≢ NoMemory) → is_ok r ≡ is_name r
read_is_named (Ok x) none = refl
read_is_named (Err NoMemory) none = absurd (none refl)
read_is_named (Err Empty) none = refl
read_is_named (Err TooLong) none = refl
read_is_named (Err (BadByte at)) none = refl
read_is_named (Err NoType) none = refl
read_is_named (Err NotUtf8) none = refl

-- a whole text field is one of a key where its text was read as one
pub key_field_named : {T : Type 0} (version : Version) (text bytes : List ℕ) (r : Result T NameFault) → true ≡ is_text_field version (λ _. true) bytes → text ≡ text_of version bytes → OnOk r (IsTrue (is_key text)) → Refuses (key_fault text) r → IfErr r (λ fault. fault ≢ NoMemory) → is_ok r ≡ is_text_field version is_key bytes
key_field_named version text bytes r whole is valid refused none = read_is_named r none ∙ key_named text r valid refused ∙ ap is_key is ∙ sym (field_passes version is_key bytes (sym whole))

-- one of a value, where the version has values of this length
pub value_field_named : {T : Type 0} (version : Version) (text bytes : List ℕ) (r : Result T NameFault) → true ≡ is_text_field version (λ _. true) bytes → text ≡ text_of version bytes → carries_length version (length text) ≡ true → OnOk r (IsTrue (is_value text)) → Refuses (value_fault text) r → is_name r ≡ is_text_field version (is_sent version) bytes
value_field_named version text bytes r whole is carried valid refused =
    value_named text r valid refused ∙ sym (ap (λ c. c && is_value text) carried) ∙ ap (is_sent version) is ∙ sym (field_passes version (is_sent version) bytes (sym whole))
