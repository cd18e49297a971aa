-- What bytes are read as is the message of which they are a frame, or their first fault.
use Rattle.std.proofs.Common.{◌≡◌, ◌↔◌, ℕ, zero, suc, ◌≤◌, ◌==◌, Bool, true, false, List, refl, sym, ap, subst, ◌∙◌, arith}
use Rattle.std.specs.Prelude.{Option, Some, None, Ok, Err, IsTrue, if◌then◌else◌}
use Rattle.std.proofs.lemmas.Bool.{false≢true, ne_eqb}
use Rattle.op_base.specs.Verb.{operation_of}
use Rattle.op_base.specs.Operation.{has_act}
use Rattle.op_base.specs.Reading.{where_true}
use Rattle.op_base.specs.declared.message.Message.{Message}
use Rattle.op_base.specs.declared.operation.Op.{Op}
use Rattle.op_base.specs.declared.operation.Op.TheVariants as op
use Rattle.op_base.specs.declared.operation.Update.{Update}
use Rattle.frame_codec.specs.declared.fault.FrameFault.{FrameFault}
use Rattle.frame_codec.specs.declared.version.Version.{Version}
use Rattle.frame_codec.specs.Fault.{code_byte, version_at, behind_timestamp, text_of, behind_text, frame_fault}
use Rattle.frame_codec.specs.Grammar.{IsFrame}
use Rattle.frame_codec.specs.Laws.{FramesAreRead, ReadIsAFrame, FaultsAreRead}
use Rattle.frame_codec.specs.Message.{op_of, operation_at, message_at, read_unless}
use Rattle.frame_codec.specs.Reading.{act_at, operation_fault, SaysOperation, Says}
use Rattle.frame_codec.proofs.Codes.{row_has}
use Rattle.frame_codec.proofs.Faults.{HasNoFault, no_fault, head_most}
use Rattle.frame_codec.proofs.Frames.{whole_argument, says_one_message, spelled, frame_said, frames_pass, bytes_of}

-- a value is made where its test passes
is_made : {A : Type 0} (test : Bool) (make : IsTrue test → A) → IsTrue test → (fact : IsTrue test) × (where_true test make ≡ Some (make fact))
is_made true make passes = (refl, refl)
is_made false make passes = absurd (false≢true passes)

-- the operation that is read of a code and bytes is the one that they say
operation_says : (version : Version) (code : ℕ) (bytes : List ℕ) → code ≤ 22 → operation_fault version code bytes ≡ None → SaysOperation version code bytes (operation_at version code bytes)
operation_says version zero bytes most none = refl
operation_says version (suc code) bytes most none =
    let row = operation_of (suc code) in
    let act = act_at version row.1 (behind_text version bytes) in
    let has : IsTrue (has_act row.0 act) = row_has version (suc code) row (behind_text version bytes) act refl (omega arith) most (whole_argument version (suc code) bytes (omega arith) none) refl in
    let make : IsTrue (has_act row.0 act) → Update = λ fits. record { object = record { kind = row.0; key = text_of version bytes }; act = act; of_kind = fits } in
    let made = is_made (has_act row.0 act) make has in
    let some : (suc code == 0) ≡ false = ne_eqb (suc code) 0 (λ e. omega (arith, e)) in
    let read : operation_at version (suc code) bytes ≡ op_of (where_true (has_act row.0 act) make) = ap (λ (none : Bool). if none then op.NoOp else op_of (where_true (has_act row.0 act) make)) some in
    subst (λ (o : Op). SaysOperation version (suc code) bytes o) (sym (read ∙ ap op_of made.1)) (omega arith, refl, refl)

-- the message that is read of bytes without a fault is the one that they say
message_says : (version : Version) (n epoch limit : ℕ) (bytes : List ℕ) → HasNoFault version n epoch limit bytes → Says version n bytes (message_at version n bytes)
message_says version n epoch limit bytes h =
    record { origin = refl; tag = refl; operation = operation_says version (code_byte bytes) (behind_timestamp version n bytes) (head_most version n epoch bytes h.head) h.operation }

-- ---- frames

pub frames_are_read : FramesAreRead
frames_are_read n epoch limit epoch_small small bytes m frame =
    let version = version_at bytes in
    let none = frames_pass n epoch limit epoch_small small bytes m frame in
    let says = message_says version n epoch limit bytes (no_fault version n epoch limit bytes none) in
    let one = says_one_message version n bytes (message_at version n bytes) m says (frame_said n epoch limit bytes m epoch_small small frame).says in
    ap (λ fault. read_unless fault (message_at version n bytes)) none ∙ ap Ok one

-- what a reader answers without a fault is the message
read_parts : (fault : Option FrameFault) (read m : Message) → read_unless fault read ≡ Ok m → (fault ≡ None) × (read ≡ m)
read_parts None read m e = (refl, cc)
read_parts (Some fault) read m e = absurd cc

pub read_is_a_frame : ReadIsAFrame
read_is_a_frame n epoch limit bytes m each e =
    let version = version_at bytes in
    let parts = read_parts (frame_fault n epoch limit bytes) (message_at version n bytes) m e in
    let none = no_fault version n epoch limit bytes parts.0 in
    let frame : IsFrame n epoch limit bytes (message_at version n bytes) = (version, spelled version n epoch limit bytes (message_at version n bytes) (bytes_of bytes each) none (message_says version n epoch limit bytes none)) in
    subst (λ read. IsFrame n epoch limit bytes read) parts.1 frame

-- ---- faults

fault_read : (found : Option FrameFault) (read : Message) (fault : FrameFault) → (read_unless found read ≡ Err fault) ↔ (found ≡ Some fault)
fault_read None read fault = (λ e. absurd cc, λ e. absurd cc)
fault_read (Some other) read fault = (λ e. cc, λ e. cc)

pub faults_are_read : FaultsAreRead
faults_are_read n epoch limit bytes fault = fault_read (frame_fault n epoch limit bytes) (message_at (version_at bytes) n bytes) fault
