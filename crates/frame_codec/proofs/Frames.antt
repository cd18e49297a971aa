-- What the bytes say is the message that they spell, and no other.
use Rattle.std.proofs.Common.{◌≡◌, ◌≢◌, ℕ, zero, suc, ◌+◌, ◌*◌, ◌^◌, ◌<◌, ◌≤◌, Bool, true, false, not, ◌||◌, ◌&&◌, List, [], ◌∷◌, ◌++◌, length, drop, refl, sym, ap, subst, ◌∙◌, append_assoc, arith, inl, inr}
use Rattle.std.specs.Prelude.{Some, None, Result, Ok, Err, MatchResult, IfOk, IfErr, IsOk, IsTrue, All, nat_lt, nat_le, ◌==◌, slice_index, if◌then◌else◌}
use Rattle.std.specs.List.{flat_map, list_any, AllByRecursion}
use Rattle.std.proofs.lemmas.Bool.{and_parts, or_parts, and_from, or_from, eqb-true, eqb-false, ltb-true, ltb-false, leb-false, lt-ltb, le-ltb, lt-leb, eq-eqb, cases_lt, not-false, ne_eqb, cases_eq}
use Rattle.std.proofs.lemmas.List.{append-nil, drop_at, drop-drop, length-append, length-drop, get_or_past}
use Rattle.std.proofs.lemmas.List.Elements.{All-from_recursion, recursion_from_All}
use Rattle.op_base.specs.Verb.{operation_of}
use Rattle.op_base.specs.Code.{op_code}
use Rattle.op_base.specs.Message.{fits}
use Rattle.op_base.specs.Name.{is_key}
use Rattle.op_base.proofs.Updates.{same_update}
use Rattle.op_base.specs.Operation.{has_act, verb_of}
use Rattle.op_base.specs.declared.message.Message.{Message}
use Rattle.op_base.specs.declared.operation.Op.{Op}
use Rattle.op_base.specs.declared.operation.Op.TheVariants as op
use Rattle.op_base.specs.declared.name.Kind.{Kind}
use Rattle.op_base.specs.declared.name.ObjectId.{ObjectId}
use Rattle.op_base.specs.declared.verb.Verb.{Verb}
use Rattle.frame_codec.specs.declared.fault.DecodeFault.{DecodeFault}
use Rattle.frame_codec.specs.declared.fault.DecodeFault.TheVariants.{NoMemory}
use Rattle.frame_codec.specs.declared.fault.FrameFault.TheVariants.{Short, Version as OfVersion, Epoch, Members, Origin, Code, BadKey, Argument}
use Rattle.frame_codec.specs.declared.version.Version.{Version}
use Rattle.frame_codec.specs.declared.version.Version.TheVariants.{One, Two}
use Rattle.frame_codec.specs.Grammar.{version_byte, last_code, IsReadIn, epoch_field, number_field, text_field, argument_field, operation_fields, frame_of, IsOperation, IsSpelling, IsFrame}
use Rattle.op_base.specs.InPlace.{IsInPlace}
use Rattle.frame_codec.specs.Laws.{SomeSpelling, OneSpelling, OneMessage, NoFrameBegins, FramesHaveNoFault, WithoutFaultIsAFrame}
use Rattle.frame_codec.specs.Fault.{byte_at, code_byte, version_at, head_len, is_read_in, is_bad_epoch, numbers, timestamp_of, behind_timestamp, text_of, behind_text, is_text_field, is_bad_number, frame_fault, Gives}
use Rattle.frame_codec.specs.Reading.{act_at, is_argument, behind_act, operation_fault, behind_operation, SaysOperation, head_fault, IsWhy, Says}
use Rattle.frame_codec.proofs.Codes.{row_code, row_has, code_row, op_code_most}
use Rattle.frame_codec.proofs.Spelled.{IsBytes, IsBytes-drop, IsBytes-behind, epoch_spelled, epoch_again, behind_head, length-head, short_key, numbers_spelled, numbers_again, length-number_fields, text_spelled, text_whole, text_again, behind_again, argument_spelled, argument_again}
use Rattle.frame_codec.proofs.Faults.{six_pass, HasNoFault, no_fault, without_fault, head_code, head_most}

-- ---- operations

-- the bytes say one operation
says_one : (version : Version) (code : ℕ) (bytes : List ℕ) (a b : Op) → SaysOperation version code bytes a → SaysOperation version code bytes b → a ≡ b
says_one version code bytes op.NoOp op.NoOp x y = refl
says_one version code bytes op.NoOp (op.Update v) x y = absurd (omega (arith, x, y.0))
says_one version code bytes (op.Update u) op.NoOp x y = absurd (omega (arith, x.0, y))
says_one version code bytes (op.Update u) (op.Update v) x y = ap op.Update (same_update u v (x.1 ∙ sym y.1) (x.2 ∙ sym y.2))

two_pass : (key argument : Bool) → (if not key then Some BadKey else if not argument then Some Argument else None) ≡ None → (key ≡ true) × (argument ≡ true)
two_pass false argument h = absurd cc
two_pass true false h = absurd cc
two_pass true true h = (refl, refl)

-- so the argument of an operation without a fault is whole
pub whole_argument : (version : Version) (code : ℕ) (bytes : List ℕ) → 1 ≤ code → operation_fault version code bytes ≡ None → is_argument version (operation_of code).1 (behind_text version bytes) ≡ true
whole_argument version code bytes low none =
    let some : (code == 0) ≡ false = ne_eqb code 0 (λ e. omega (arith, e, low)) in
    (two_pass _ _ (rw some at none)).1

-- an operation that bytes without a fault say is spelled so
record IsSpelledOperation (version : Version) (code : ℕ) (bytes : List ℕ) (o : Op) : Type 0 where
  parts : bytes ≡ operation_fields version o ++ behind_operation version code bytes
  valid : IsOperation version o
  code_is : op_code o ≡ code

operation_spelled : (version : Version) (code : ℕ) (bytes : List ℕ) (o : Op) → code ≤ 22 → IsBytes bytes → operation_fault version code bytes ≡ None → SaysOperation version code bytes o → IsSpelledOperation version code bytes o
operation_spelled version code bytes op.NoOp most fits none says =
    let zero_is : (code == 0) ≡ true = eq-eqb code 0 says in
    record { parts = rw zero_is refl; valid = tt; code_is = sym says }
operation_spelled version code bytes (op.Update u) most fits none says =
    let some : (code == 0) ≡ false = ne_eqb code 0 (λ e. omega (arith, e, says.0)) in
    let tests = two_pass _ _ (rw some at none) in
    let key = text_spelled version is_key bytes fits tests.0 in
    let behind = behind_text version bytes in
    let argument = argument_spelled version (operation_of code).1 behind (IsBytes-behind version bytes fits) tests.1 in
    let key_is : u.object.key ≡ text_of version bytes = ap (λ (o : ObjectId). o.key) says.1 in
    let kind_is : u.object.kind ≡ (operation_of code).0 = ap (λ (o : ObjectId). o.kind) says.1 in
    let whole = key.0 ∙ ap (λ (r : List ℕ). text_field version (text_of version bytes) ++ r) argument.parts
    ∙ sym (append_assoc (text_field version (text_of version bytes)) (argument_field version (act_at version (operation_of code).1 behind)) (behind_act version (operation_of code).1 behind)) in
    record {
      parts = whole ∙ sym (λ i. (text_field version (key_is i) ++ argument_field version (says.2 i)) ++ (if some i then bytes else behind_act version (operation_of code).1 behind));
      valid = (rw key_is key.1, rw (says.2) argument.valid);
      code_is = rw (kind_is, says.2, row_code version code says.0 most behind tests.1) refl;
    }

-- an operation that was written is said again
record IsSaidOperation (version : Version) (code : ℕ) (bytes : List ℕ) (o : Op) (rest : List ℕ) : Type 0 where
  says : SaysOperation version code bytes o
  none : operation_fault version code bytes ≡ None
  behind : behind_operation version code bytes ≡ rest

operation_again : (version : Version) (o : Op) (rest : List ℕ) → IsOperation version o → IsSaidOperation version (op_code o) (operation_fields version o ++ rest) o rest
operation_again version op.NoOp rest valid = record { says = refl; none = refl; behind = refl }
operation_again version (op.Update u) rest valid =
    let key = u.object.key in
    let code = op_code (op.Update u) in
    let bytes = operation_fields version (op.Update u) ++ rest in
    let fields = argument_field version u.act ++ rest in
    let table = code_row u.object.kind u.act u.of_kind in
    let kind : (operation_of code).0 ≡ u.object.kind = ap (λ (r : Kind × Verb). r.0) table.row in
    let verb : (operation_of code).1 ≡ verb_of u.act = ap (λ (r : Kind × Verb). r.1) table.row in
    let some : (code == 0) ≡ false = ne_eqb code 0 (λ e. omega (arith, e, table.least)) in
    let small = short_key key valid.0 in
    let regrouped : bytes ≡ text_field version key ++ fields = append_assoc (text_field version key) (argument_field version u.act) rest in
    let key_is : text_of version bytes ≡ key = ap (text_of version) regrouped ∙ text_again version key fields small in
    let behind_is : behind_text version bytes ≡ fields = ap (behind_text version) regrouped ∙ behind_again version key fields small in
    let key_passes : is_text_field version is_key bytes ≡ true = ap (is_text_field version is_key) regrouped ∙ text_whole version is_key key fields small valid.0 in
    let argument = argument_again version u.object.kind u.act rest u.of_kind valid.1 in
    record {
      says = (table.least, sym (λ i. record { kind = kind i; key = key_is i }), sym ((λ i. act_at version (verb i) (behind_is i)) ∙ argument.act_is));
      none = rw (some, key_passes, verb, behind_is, argument.whole) refl;
      behind = rw (some, verb, behind_is) argument.behind;
    }

-- ---- messages

-- the bytes say one message
pub says_one_message : (version : Version) (n : ℕ) (bytes : List ℕ) (a b : Message) → Says version n bytes a → Says version n bytes b → a ≡ b
says_one_message version n bytes a b x y =
    let origin = x.origin ∙ sym y.origin in
    let tag = x.tag ∙ sym y.tag in
    let operation = says_one version (code_byte bytes) (behind_timestamp version n bytes) a.op b.op x.operation y.operation in
    λ i. record { origin = origin i; tag = tag i; op = operation i }

four_parts : (bytes : List ℕ) → 4 ≤ length bytes → bytes ≡ byte_at bytes 0 ∷ byte_at bytes 1 ∷ byte_at bytes 2 ∷ byte_at bytes 3 ∷ drop 4 bytes
four_parts [] long = absurd (omega (arith, long))
four_parts (a ∷ []) long = absurd (omega (arith, long))
four_parts (a ∷ b ∷ []) long = absurd (omega (arith, long))
four_parts (a ∷ b ∷ c ∷ []) long = absurd (omega (arith, long))
four_parts (a ∷ b ∷ c ∷ d ∷ bytes) long = refl

-- a version is read where its test says so
read_in : (version : Version) (epoch : ℕ) → is_read_in version epoch ≡ true → IsReadIn version epoch
read_in One epoch h = eqb-true epoch 0 h
read_in Two epoch h = tt

in_read : (version : Version) (epoch : ℕ) → IsReadIn version epoch → is_read_in version epoch ≡ true
in_read One epoch h = eq-eqb epoch 0 h
in_read Two epoch h = refl

-- what a head is where it has no fault
pub record IsHead (version : Version) (n epoch : ℕ) (bytes : List ℕ) : Type 0 where
  pub long : head_len version + 4 * n ≤ length bytes
  pub version_is : byte_at bytes 0 ≡ version_byte version
  pub in_epoch : IsReadIn version epoch
  pub epoch_is : is_bad_epoch version epoch bytes ≡ false
  pub members_is : byte_at bytes 2 ≡ n
  pub origin_below : byte_at bytes 1 < n

pub head_is : (version : Version) (n epoch : ℕ) (bytes : List ℕ) → head_fault version n epoch bytes ≡ None → IsHead version n epoch bytes
head_is version n epoch bytes none =
    let tests = six_pass _ _ _ _ _ _ none in
    let read = and_parts (byte_at bytes 0 == version_byte version) (is_read_in version epoch) (not-false _ tests.1) in
    record {
      long = ltb-false _ _ tests.0;
      version_is = eqb-true _ _ read.0;
      in_epoch = read_in version epoch read.1;
      epoch_is = tests.2;
      members_is = eqb-true _ _ (not-false _ tests.3);
      origin_below = leb-false _ _ tests.4;
    }

head_least : (version : Version) → 4 ≤ head_len version
head_least One = omega arith
head_least Two = omega arith

pub length-numbers : (n : ℕ) (bytes : List ℕ) → length (numbers n bytes) ≡ n
length-numbers zero bytes = refl
length-numbers (suc n) bytes = ap suc (length-numbers n (drop 4 bytes))

none_above : (limit : ℕ) (xs : List ℕ) → list_any (λ e. nat_lt limit e) xs ≡ false → AllByRecursion (λ e. e ≤ limit) xs
none_above limit [] h = tt
none_above limit (x ∷ xs) h = let parts = or_parts (nat_lt limit x) _ h in (ltb-false limit x parts.0, none_above limit xs parts.1)

above_none : (limit : ℕ) (xs : List ℕ) → AllByRecursion (λ e. e ≤ limit) xs → list_any (λ e. nat_lt limit e) xs ≡ false
above_none limit [] h = refl
above_none limit (x ∷ xs) h = or_from (nat_lt limit x) _ (le-ltb limit x h.0) (above_none limit xs h.1)

all_small : (limit : ℕ) (xs : List ℕ) → limit < 2 ^ 32 → AllByRecursion (λ e. e ≤ limit) xs → AllByRecursion (λ e. e < 2 ^ 32) xs
all_small limit [] small h = tt
all_small limit (x ∷ xs) small h = (omega (arith, h.0), all_small limit xs small h.1)

-- the message that bytes without a fault say is spelled so
pub spelled : (version : Version) (n epoch limit : ℕ) (bytes : List ℕ) (m : Message) → IsBytes bytes → HasNoFault version n epoch limit bytes → Says version n bytes m → IsSpelling version n epoch limit bytes m
spelled version n epoch limit bytes m fits h says =
    let head = head_is version n epoch bytes h.head in
    let begin = head_len version in
    let least = head_least version in
    let tail = drop begin bytes in
    let front = epoch_spelled version epoch bytes fits (omega (arith, head.long)) head.epoch_is in
    let tag = numbers_spelled n tail (IsBytes-drop begin bytes fits) (omega (arith, head.long, length-drop begin bytes)) in
    let operation = operation_spelled version (code_byte bytes) (behind_timestamp version n bytes) m.op (head_most version n epoch bytes h.head) (IsBytes-drop (begin + 4 * n) bytes fits) h.operation says.operation in
    let fields : drop (4 * n) tail ≡ operation_fields version m.op =
    drop-drop (4 * n) begin bytes ∙ operation.parts ∙ ap (λ (r : List ℕ). operation_fields version m.op ++ r) h.rest ∙ append-nil (operation_fields version m.op) in
    let numbers_is : timestamp_of version n bytes ≡ m.tag = sym says.tag in
    let tail_is : tail ≡ flat_map number_field m.tag ++ operation_fields version m.op = tag ∙ (λ i. flat_map number_field (numbers_is i) ++ fields i) in
    let behind_is : drop 4 bytes ≡ epoch_field version epoch ++ (flat_map number_field m.tag ++ operation_fields version m.op) = front ∙ (λ i. epoch_field version epoch ++ tail_is i) in
    let code_is : code_byte bytes ≡ op_code m.op = sym operation.code_is in
    let origin_is : byte_at bytes 1 ≡ m.origin = sym says.origin in
    let tests = or_parts (slice_index (timestamp_of version n bytes) (byte_at bytes 1) == 0) _ h.number in
    let number : 0 < slice_index (timestamp_of version n bytes) (byte_at bytes 1) = let some = eqb-false _ _ tests.0 in elim (cases_eq (slice_index (timestamp_of version n bytes) (byte_at bytes 1)) 0) [ inl none ↦ absurd (some none) | inr ne ↦ omega (arith, ne) ] in
    record {
      in_epoch = head.in_epoch;
      fits = and_from _ _ (and_from _ _ (eq-eqb _ _ (ap length says.tag ∙ length-numbers n tail)) (rw says.origin (lt-ltb _ _ head.origin_below))) (rw (says.tag, says.origin) (lt-ltb _ _ number));
      within = rw says.tag (All-from_recursion (λ e. e ≤ limit) (timestamp_of version n bytes) (none_above limit (timestamp_of version n bytes) tests.1));
      code = subst (λ c. c ≤ last_code version) code_is (head_code version n epoch bytes h.head);
      operation = operation.valid;
      spelled = four_parts bytes (omega (arith, head.long, least)) ∙ (λ i. head.version_is i ∷ origin_is i ∷ head.members_is i ∷ code_is i ∷ behind_is i);
    }

-- a spelling says its message again, whatever follows
pub record IsSaid (version : Version) (n epoch limit : ℕ) (bytes : List ℕ) (m : Message) (rest : List ℕ) : Type 0 where
  pub version_is : version_at bytes ≡ version
  pub says : Says version n bytes m
  pub head : head_fault version n epoch bytes ≡ None
  pub number : is_bad_number version n limit bytes ≡ false
  pub operation : operation_fault version (code_byte bytes) (behind_timestamp version n bytes) ≡ None
  pub behind : behind_operation version (code_byte bytes) (behind_timestamp version n bytes) ≡ rest

version_again : (version : Version) (rest : List ℕ) → version_at (version_byte version ∷ rest) ≡ version
version_again One rest = refl
version_again Two rest = refl

head_none : (version : Version) (n epoch len origin code : ℕ) (bad_epoch : Bool) → head_len version + 4 * n ≤ len → IsReadIn version epoch → bad_epoch ≡ false → origin < n → code ≤ last_code version
    → (if nat_lt len (head_len version + 4 * n) then Some Short else if not (version_byte version == version_byte version && is_read_in version epoch) then Some OfVersion else if bad_epoch then Some Epoch else if not (n == n) then Some Members else if nat_le n origin then Some Origin else if nat_lt (last_code version) code then Some Code else None) ≡ None
head_none version n epoch len origin code bad_epoch long read good below most =
    rw (le-ltb len (head_len version + 4 * n) long, eq-eqb (version_byte version) (version_byte version) refl, in_read version epoch read, good, eq-eqb n n refl, lt-leb n origin below, le-ltb (last_code version) code most) refl

pub said : (version : Version) (n epoch limit : ℕ) (m : Message) (rest : List ℕ) → epoch < 2 ^ 32 → limit < 2 ^ 32 → IsReadIn version epoch → IsTrue (fits n m) → All (λ e. e ≤ limit) m.tag → op_code m.op ≤ last_code version → IsOperation version m.op
    → IsSaid version n epoch limit (frame_of version n epoch m ++ rest) m rest
said version n epoch limit m rest epoch_small small read fit within code valid =
    let bytes = frame_of version n epoch m ++ rest in
    let fields = operation_fields version m.op ++ rest in
    let body = flat_map number_field m.tag ++ fields in
    let tests = and_parts _ (nat_lt 0 (slice_index m.tag m.origin)) fit in
    let members = and_parts (length m.tag == n) (nat_lt m.origin n) tests.0 in
    let len : length m.tag ≡ n = eqb-true _ _ members.0 in
    let below : m.origin < n = ltb-true _ _ members.1 in
    let number : 0 < slice_index m.tag m.origin = ltb-true _ _ tests.1 in
    let each = recursion_from_All (λ e. e ≤ limit) m.tag within in
    let operation = operation_again version m.op rest valid in
    let regrouped : drop 4 bytes ≡ epoch_field version epoch ++ body =
    append_assoc (epoch_field version epoch) (flat_map number_field m.tag ++ operation_fields version m.op) rest
    ∙ ap (λ (r : List ℕ). epoch_field version epoch ++ r) (append_assoc (flat_map number_field m.tag) (operation_fields version m.op) rest) in
    let whole : bytes ≡ version_byte version ∷ m.origin ∷ n ∷ op_code m.op ∷ (epoch_field version epoch ++ body) = λ i. version_byte version ∷ m.origin ∷ n ∷ op_code m.op ∷ regrouped i in
    let tail : drop (head_len version) bytes ≡ body = ap (drop (head_len version)) whole ∙ behind_head version epoch (version_byte version) m.origin n (op_code m.op) body in
    let tag_is : timestamp_of version n bytes ≡ m.tag = sym (λ i. numbers (len i) (drop (head_len version) bytes)) ∙ ap (numbers (length m.tag)) tail ∙ numbers_again m.tag fields (all_small limit m.tag small each) in
    let fields_len : length (flat_map number_field m.tag) ≡ 4 * n = length-number_fields m.tag ∙ ap (λ k. 4 * k) len in
    let behind_is : behind_timestamp version n bytes ≡ fields =
    sym (drop-drop (4 * n) (head_len version) bytes) ∙ ap (drop (4 * n)) tail ∙ drop_at (flat_map number_field m.tag) fields (4 * n) fields_len in
    let epoch_is : is_bad_epoch version epoch bytes ≡ false = ap (is_bad_epoch version epoch) whole ∙ epoch_again version epoch (version_byte version) m.origin n (op_code m.op) body epoch_small in
    let front = length-head version epoch in
    record {
      version_is = version_again version (m.origin ∷ n ∷ op_code m.op ∷ (epoch_field version epoch ++ (flat_map number_field m.tag ++ operation_fields version m.op) ++ rest));
      says = record { origin = refl; tag = sym tag_is; operation = subst (λ b. SaysOperation version (op_code m.op) b m.op) (sym behind_is) operation.says };
      head = head_none version n epoch (length bytes) m.origin (op_code m.op) (is_bad_epoch version epoch bytes) (omega (arith, ap length whole, length-append (epoch_field version epoch) body, length-append (flat_map number_field m.tag) fields, fields_len, front)) read epoch_is below code;
      number = subst (λ t. ((slice_index t m.origin == 0) || list_any (λ e. nat_lt limit e) t) ≡ false) (sym tag_is) (or_from _ _ (ne_eqb _ 0 (λ e. omega (arith, e, number))) (above_none limit m.tag each));
      operation = ap (operation_fault version (op_code m.op)) behind_is ∙ operation.none;
      behind = ap (behind_operation version (op_code m.op)) behind_is ∙ operation.behind;
    }

-- some operation is said by a code and bytes without a fault
says_some : (version : Version) (code : ℕ) (bytes : List ℕ) → code ≤ 22 → operation_fault version code bytes ≡ None → (o : Op) × SaysOperation version code bytes o
says_some version zero bytes most none = (op.NoOp, refl)
says_some version (suc code) bytes most none =
    let row = operation_of (suc code) in
    let act = act_at version row.1 (behind_text version bytes) in
    let has : IsTrue (has_act row.0 act) = row_has version (suc code) row (behind_text version bytes) act refl (omega arith) most (whole_argument version (suc code) bytes (omega arith) none) refl in
    (op.Update (record { object = record { kind = row.0; key = text_of version bytes }; act = act; of_kind = has }), (omega arith, refl, refl))

-- ---- frames

-- what a spelling says, and that it has no fault
pub spelling_said : (version : Version) (n epoch limit : ℕ) (bytes : List ℕ) (m : Message) → epoch < 2 ^ 32 → limit < 2 ^ 32 → IsSpelling version n epoch limit bytes m → IsSaid version n epoch limit bytes m []
spelling_said version n epoch limit bytes m epoch_small small frame =
    let same : frame_of version n epoch m ++ [] ≡ bytes = append-nil (frame_of version n epoch m) ∙ sym frame.spelled in
    subst (λ b. IsSaid version n epoch limit b m []) same (said version n epoch limit m [] epoch_small small frame.in_epoch frame.fits frame.within frame.code frame.operation)

-- what a frame says by its own version, and that it has no fault
pub frame_said : (n epoch limit : ℕ) (bytes : List ℕ) (m : Message) → epoch < 2 ^ 32 → limit < 2 ^ 32 → IsFrame n epoch limit bytes m → IsSaid (version_at bytes) n epoch limit bytes m []
frame_said n epoch limit bytes m epoch_small small frame =
    let s = spelling_said frame.0 n epoch limit bytes m epoch_small small frame.1 in
    subst (λ v. IsSaid v n epoch limit bytes m []) (sym s.version_is) s

pub some_spelling : SomeSpelling
some_spelling n epoch limit m fit within valid = record { in_epoch = tt; fits = fit; within = within; code = op_code_most m.op; operation = valid; spelled = refl }

pub one_spelling : OneSpelling
one_spelling version n epoch limit a b m x y = x.spelled ∙ sym y.spelled

pub one_message : OneMessage
one_message n epoch limit epoch_small small bytes a b x y =
    says_one_message (version_at bytes) n bytes a b (frame_said n epoch limit bytes a epoch_small small x).says (frame_said n epoch limit bytes b epoch_small small y).says

pub no_prefix : NoFrameBegins
no_prefix n epoch limit epoch_small small bytes more a b x y =
    let spelling = x.1 in
    let whole : frame_of x.0 n epoch a ++ more ≡ bytes ++ more = ap (λ (f : List ℕ). f ++ more) (sym spelling.spelled) in
    let first = subst (λ f. IsSaid x.0 n epoch limit f a more) whole (said x.0 n epoch limit a more epoch_small small spelling.in_epoch spelling.fits spelling.within spelling.code spelling.operation) in
    let second = frame_said n epoch limit (bytes ++ more) b epoch_small small y in
    let same = first.version_is in
    sym first.behind ∙ sym (λ i. behind_operation (same i) (code_byte (bytes ++ more)) (behind_timestamp (same i) n (bytes ++ more))) ∙ second.behind

pub frames_pass : FramesHaveNoFault
frames_pass n epoch limit epoch_small small bytes m frame =
    let s = frame_said n epoch limit bytes m epoch_small small frame in
    without_fault (version_at bytes) n epoch limit bytes (record { head = s.head; number = s.number; operation = s.operation; rest = s.behind })

pub bytes_of : (bytes : List ℕ) → All (λ b. b < 256) bytes → IsBytes bytes
bytes_of bytes each i = elim (cases_lt i (length bytes)) [ inl within ↦ each i 0 within | inr past ↦ rw (get_or_past bytes i 0 past) (omega arith) ]

pub some_frame : WithoutFaultIsAFrame
some_frame n epoch limit bytes each none =
    let version = version_at bytes in
    let parts = no_fault version n epoch limit bytes none in
    let operation = says_some version (code_byte bytes) (behind_timestamp version n bytes) (head_most version n epoch bytes parts.head) parts.operation in
    let m : Message = record { origin = byte_at bytes 1; tag = timestamp_of version n bytes; op = operation.0 } in
    (m, (version, spelled version n epoch limit bytes m (bytes_of bytes each) parts (record { origin = refl; tag = refl; operation = operation.1 })))

-- ---- what a decoder answers that reads what the bytes say, or tells why not

pub found : (n epoch limit : ℕ) (bytes : List ℕ) (result : Result Message DecodeFault) → IsBytes bytes
    → MatchResult result (λ _. frame_fault n epoch limit bytes ≡ None) (IsWhy (frame_fault n epoch limit bytes)) → IfOk result (λ m. Says (version_at bytes) n bytes m)
    → IfOk result (λ m. IsFrame n epoch limit bytes m)
found n epoch limit bytes (Ok m) fits none says = (version_at bytes, spelled (version_at bytes) n epoch limit bytes m fits (no_fault (version_at bytes) n epoch limit bytes none) says)
found n epoch limit bytes (Err e) fits why says = tt

pub gives : (n epoch limit : ℕ) (bytes : List ℕ) (result : Result Message DecodeFault) → epoch < 2 ^ 32 → limit < 2 ^ 32
    → MatchResult result (λ _. frame_fault n epoch limit bytes ≡ None) (IsWhy (frame_fault n epoch limit bytes)) → IfOk result (λ m. Says (version_at bytes) n bytes m)
    → (m : Message) → IsFrame n epoch limit bytes m → Gives m result
gives n epoch limit bytes (Ok x) epoch_small small none says m frame = says_one_message (version_at bytes) n bytes x m says (frame_said n epoch limit bytes m epoch_small small frame).says
gives n epoch limit bytes (Err e) epoch_small small why says m frame = subst (λ fault. IsWhy fault e) (frames_pass n epoch limit epoch_small small bytes m frame) why

-- a reader that tells want of memory only of a value out of place answers a frame whose value is in place
pub placed : (n epoch limit : ℕ) (bytes : List ℕ) (m : Message) (result : Result Message DecodeFault) → epoch < 2 ^ 32 → limit < 2 ^ 32
    → MatchResult result (λ _. frame_fault n epoch limit bytes ≡ None) (IsWhy (frame_fault n epoch limit bytes))
    → ((m : Message) → Says (version_at bytes) n bytes m → IsInPlace m.op → IfErr result (λ fault. fault ≢ NoMemory))
    → IsFrame n epoch limit bytes m → IsInPlace m.op → IsOk result
placed n epoch limit bytes m (Ok read) epoch_small small fault memory frame here = refl
placed n epoch limit bytes m (Err e) epoch_small small fault memory frame here =
    let none = frames_pass n epoch limit epoch_small small bytes m frame in
    let says = (frame_said n epoch limit bytes m epoch_small small frame).says in
    absurd (memory m says here (subst (λ f. IsWhy f e) none fault))
