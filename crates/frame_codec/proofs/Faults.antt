-- The ten tests of bytes, parted as the readers make them.
use Rattle.std.proofs.Common.{◌≡◌, ℕ, zero, suc, ◌+◌, ◌*◌, ◌≤◌, Bool, true, false, not, ◌&&◌, ◌||◌, List, [], ◌∷◌, length, drop, refl, sym, ap, ◌∙◌, arith}
use Rattle.std.specs.List.{list_any}
use Rattle.std.specs.Prelude.{◌-◌, take, slice_index, Option, Some, None, Result, Ok, Err, MatchResult, nat_lt, nat_le, ◌==◌, if◌then◌else◌}
use Rattle.std.proofs.lemmas.Bool.{ltb-false, lt-ltb, ne_eqb}
use Rattle.std.proofs.lemmas.List.{take_rest}
use Rattle.std.proofs.lemmas.Option.{none-some}
use Rattle.op_base.specs.Name.{is_key}
use Rattle.op_base.specs.declared.verb.Argument.TheVariants.{Nothing}
use Rattle.op_base.specs.declared.verb.Verb.{Verb}
use Rattle.op_base.specs.Verb.{argument_of, operation_of}
use Rattle.frame_codec.specs.declared.version.Version.{Version}
use Rattle.frame_codec.specs.declared.version.Version.TheVariants.{One, Two}
use Rattle.frame_codec.specs.Grammar.{version_byte, last_code}
use Rattle.frame_codec.specs.declared.fault.DecodeFault.{DecodeFault}
use Rattle.frame_codec.specs.declared.fault.FrameFault.{FrameFault}
use Rattle.frame_codec.specs.declared.fault.FrameFault.TheVariants.{Short, Version as OfVersion, Epoch, Members, Origin, Code, Number, BadKey, Argument, Rest}
use Rattle.frame_codec.specs.Fault.{byte_at, code_byte, head_len, is_read_in, is_bad_epoch, argument_of_code, is_whole_argument, behind_whole, numbers, timestamp_of, behind_timestamp, is_text_field, behind_text, is_bad_number, is_bad_key, is_bad_argument, behind_argument, first_fault, fault_by, Refuses}
use Rattle.frame_codec.specs.Reading.{is_argument, behind_act, act_fault, head_fault, or_else, rest_fault, operation_fault, behind_operation, IsWhy}

six_first : (a b c d e f : Bool) (others : Option FrameFault)
    → (if a then Some Short else if b then Some OfVersion else if c then Some Epoch else if d then Some Members else if e then Some Origin else if f then Some Code else others)
    ≡ or_else (if a then Some Short else if b then Some OfVersion else if c then Some Epoch else if d then Some Members else if e then Some Origin else if f then Some Code else None) others
six_first true b c d e f others = refl
six_first false true c d e f others = refl
six_first false false true d e f others = refl
six_first false false false true e f others = refl
six_first false false false false true f others = refl
six_first false false false false false true others = refl
six_first false false false false false false others = refl

pub six_pass : (a b c d e f : Bool)
    → (if a then Some Short else if b then Some OfVersion else if c then Some Epoch else if d then Some Members else if e then Some Origin else if f then Some Code else None) ≡ None
    → (a ≡ false) × (b ≡ false) × (c ≡ false) × (d ≡ false) × (e ≡ false) × (f ≡ false)
six_pass true b c d e f h = absurd cc
six_pass false true c d e f h = absurd cc
six_pass false false true d e f h = absurd cc
six_pass false false false true e f h = absurd cc
six_pass false false false false true f h = absurd cc
six_pass false false false false false true h = absurd cc
six_pass false false false false false false h = (refl, refl, refl, refl, refl, refl)

abbrev behind_tests : Version → ℕ → ℕ → List ℕ → Option FrameFault
behind_tests version n limit bytes = first_fault (
    (is_bad_number version n limit bytes, Number) ∷ (is_bad_key version n bytes, BadKey) ∷ (is_bad_argument version n bytes, Argument) ∷ (nat_lt 0 (length (behind_argument version n bytes)), Rest) ∷ [])

fault_by-split : (version : Version) (n epoch limit : ℕ) (bytes : List ℕ) → fault_by version n epoch limit bytes ≡ or_else (head_fault version n epoch bytes) (behind_tests version n limit bytes)
unfolding fault_by
fault_by-split version n epoch limit bytes =
    six_first (nat_lt (length bytes) (head_len version + 4 * n)) (not (byte_at bytes 0 == version_byte version && is_read_in version epoch)) (is_bad_epoch version epoch bytes) (not (byte_at bytes 2 == n)) (nat_le n (byte_at bytes 1)) (nat_lt (last_code version) (byte_at bytes 3)) (behind_tests version n limit bytes)

two_last : (a b r : Bool)
    → (if a then Some BadKey else if b then Some Argument else if r then Some Rest else None)
    ≡ or_else (if a then Some BadKey else if b then Some Argument else None) (if r then Some Rest else None)
two_last true b r = refl
two_last false true r = refl
two_last false false true = refl
two_last false false false = refl

-- the tests of the operation's fields
fields_alike : (version : Version) (code : ℕ) (bytes : List ℕ)
    → (let key = if code == 0 then bytes else behind_text version bytes in
    first_fault (
    (nat_lt 0 code && not (is_text_field version is_key bytes), BadKey)
    ∷ (not (is_whole_argument version (argument_of_code code) key), Argument)
    ∷ (nat_lt 0 (length (behind_whole version (argument_of_code code) key)), Rest)
    ∷ []))
    ≡ or_else (operation_fault version code bytes) (rest_fault (behind_operation version code bytes))
fields_alike version zero bytes = refl
fields_alike version (suc code) bytes =
    let verb = (operation_of (suc code)).1 in
    let some : (suc code == 0) ≡ false = ne_eqb (suc code) 0 (λ e. omega (arith, e)) in
    let above : nat_lt 0 (suc code) ≡ true = lt-ltb 0 (suc code) (omega arith) in
    let tests : (b : Bool) (w : Bool) (rest : List ℕ) → Option FrameFault = λ b w rest. if b then Some BadKey else if not w then Some Argument else if nat_lt 0 (length rest) then Some Rest else None in
    (λ i. let key = if some i then bytes else behind_text version bytes in let argument = if some i then Nothing else argument_of verb in
    tests (above i && not (is_text_field version is_key bytes)) (is_whole_argument version argument key) (behind_whole version argument key))
    ∙ two_last (not (is_text_field version is_key bytes)) (not (is_argument version verb (behind_text version bytes))) (nat_lt 0 (length (behind_act version verb (behind_text version bytes))))
    ∙ sym (λ i. or_else (if some i then None else if not (is_text_field version is_key bytes) then Some BadKey else if not (is_argument version verb (behind_text version bytes)) then Some Argument else None) (rest_fault (if some i then bytes else behind_act version verb (behind_text version bytes))))

-- an act without a fault has a whole argument
pub act_whole : (version : Version) (verb : Verb) (bytes : List ℕ) → act_fault version verb bytes ≡ None → is_argument version verb bytes ≡ true
act_whole version verb bytes none = by (is_argument version verb bytes) none where
  by : (b : Bool) → or_else (if not b then Some Argument else None) (rest_fault (behind_act version verb bytes)) ≡ None → b ≡ true
  by true t = refl
  by false t = absurd cc

most_code : (version : Version) → last_code version ≤ 22
most_code One = omega arith
most_code Two = omega arith

pub head_code : (version : Version) (n epoch : ℕ) (bytes : List ℕ) → head_fault version n epoch bytes ≡ None → code_byte bytes ≤ last_code version
head_code version n epoch bytes none = ltb-false (last_code version) (byte_at bytes 3) (six_pass _ _ _ _ _ _ none).5

pub head_most : (version : Version) (n epoch : ℕ) (bytes : List ℕ) → head_fault version n epoch bytes ≡ None → code_byte bytes ≤ 22
head_most version n epoch bytes none = omega (arith, head_code version n epoch bytes none, most_code version)

-- the fault of what stands behind the head
abbrev pub body_fault : Version → ℕ → ℕ → List ℕ → Option FrameFault
body_fault version n limit bytes =
    if is_bad_number version n limit bytes then Some Number
    else or_else (operation_fault version (code_byte bytes) (behind_timestamp version n bytes)) (rest_fault (behind_operation version (code_byte bytes) (behind_timestamp version n bytes)))

pub fault_by-body : (version : Version) (n epoch limit : ℕ) (bytes : List ℕ) → head_fault version n epoch bytes ≡ None → fault_by version n epoch limit bytes ≡ body_fault version n limit bytes
fault_by-body version n epoch limit bytes none =
    let alike = fields_alike version (code_byte bytes) (behind_timestamp version n bytes) in
    fault_by-split version n epoch limit bytes ∙ ap (λ head. or_else head (behind_tests version n limit bytes)) none
    ∙ ap (λ others. if is_bad_number version n limit bytes then Some Number else others) alike

pub fault_by-head : (version : Version) (n epoch limit : ℕ) (bytes : List ℕ) (fault : FrameFault) → head_fault version n epoch bytes ≡ Some fault → fault_by version n epoch limit bytes ≡ Some fault
fault_by-head version n epoch limit bytes fault some = fault_by-split version n epoch limit bytes ∙ ap (λ head. or_else head (behind_tests version n limit bytes)) some

pub body_pass : (bad : Bool) (operation : Option FrameFault) (rest : List ℕ)
    → (if bad then Some Number else or_else operation (rest_fault rest)) ≡ None → (bad ≡ false) × (operation ≡ None) × (rest ≡ [])
body_pass true operation rest h = absurd cc
body_pass false (Some fault) rest h = absurd cc
body_pass false None [] h = (refl, refl, refl)
body_pass false None (b ∷ rest) h =
    let left : nat_lt 0 (length (b ∷ rest)) ≡ true = lt-ltb 0 (suc (length rest)) (omega arith) in
    let some : Some Rest ≡ None = rw left at h in
    absurd (none-some Rest (sym some))

-- bytes without a fault have none in the parts
pub record HasNoFault (version : Version) (n epoch limit : ℕ) (bytes : List ℕ) : Type 0 where
  pub head : head_fault version n epoch bytes ≡ None
  pub number : is_bad_number version n limit bytes ≡ false
  pub operation : operation_fault version (code_byte bytes) (behind_timestamp version n bytes) ≡ None
  pub rest : behind_operation version (code_byte bytes) (behind_timestamp version n bytes) ≡ []

or_else_none : (first second : Option FrameFault) → or_else first second ≡ None → first ≡ None
or_else_none None second h = refl
or_else_none (Some fault) second h = absurd cc

pub no_fault : (version : Version) (n epoch limit : ℕ) (bytes : List ℕ) → fault_by version n epoch limit bytes ≡ None → HasNoFault version n epoch limit bytes
no_fault version n epoch limit bytes none =
    let head = or_else_none _ _ (sym (fault_by-split version n epoch limit bytes) ∙ none) in
    let body = body_pass _ _ _ (sym (fault_by-body version n epoch limit bytes head) ∙ none) in
    record { head = head; number = body.0; operation = body.1; rest = body.2 }

pub without_fault : (version : Version) (n epoch limit : ℕ) (bytes : List ℕ) → HasNoFault version n epoch limit bytes → fault_by version n epoch limit bytes ≡ None
without_fault version n epoch limit bytes h = fault_by-body version n epoch limit bytes h.head ∙ rw (h.number, h.operation, h.rest) refl

-- ---- what the reader knows, by the parts that it hands out

pub body_read : (v version : Version) (n epoch limit begin : ℕ) (bytes tag : List ℕ) (origin code : ℕ) → head_fault v n epoch bytes ≡ None
    → version ≡ v → begin ≡ head_len version
    → tag ≡ numbers n (take (length bytes - begin) (drop begin bytes)) → origin ≡ byte_at bytes 1 → code ≡ code_byte bytes
    → fault_by v n epoch limit bytes ≡ (if (slice_index tag origin == 0) || list_any (λ e. nat_lt limit e) tag then Some Number
    else or_else (operation_fault version code (take (length bytes - (begin + 4 * n)) (drop (begin + 4 * n) bytes))) (rest_fault (behind_operation version code (take (length bytes - (begin + 4 * n)) (drop (begin + 4 * n) bytes)))))
body_read v version n epoch limit begin bytes tag origin code none version_is begin_is tag_is origin_is code_is =
    let head_is : begin ≡ head_len v = begin_is ∙ ap head_len version_is in
    let numbers_are : tag ≡ timestamp_of v n bytes = tag_is ∙ ap (numbers n) (take_rest bytes begin) ∙ (λ i. numbers n (drop (head_is i) bytes)) in
    let fields_are : take (length bytes - (begin + 4 * n)) (drop (begin + 4 * n) bytes) ≡ behind_timestamp v n bytes = take_rest bytes (begin + 4 * n) ∙ (λ i. drop (head_is i + 4 * n) bytes) in
    fault_by-body v n epoch limit bytes none
    ∙ sym (λ i. if (slice_index (numbers_are i) (origin_is i) == 0) || list_any (λ e. nat_lt limit e) (numbers_are i) then Some Number
    else or_else (operation_fault (version_is i) (code_is i) (fields_are i)) (rest_fault (behind_operation (version_is i) (code_is i) (fields_are i))))

-- ---- why bytes are not decoded

-- what a decoder answers for such a reason
pub refused : {T : Type 0} (fault : Option FrameFault) (result : Result T DecodeFault) → MatchResult result (λ _. fault ≡ None) (IsWhy fault) → Refuses fault result
refused None (Ok x) h = tt
refused None (Err e) h = h
refused (Some f) (Ok x) h = absurd cc
refused (Some f) (Err e) h = ap Err h
