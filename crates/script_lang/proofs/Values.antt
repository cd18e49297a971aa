-- Values that are read.
use Rattle.std.proofs.Common.{◌≡◌, ◌≢◌, ℕ, ◌≤◌, Bool, true, false, List, refl, cond}
use Rattle.std.specs.Prelude.{Result, Ok, Err, Option, Some, None, IfErr, IsTrue, length}
use Rattle.std.proofs.lemmas.Bool.{false_from_ne_true, ltb-false}
use Rattle.op_base.proofs.Names.{value_exactly}
use Rattle.op_base.specs.Name.{is_value, value_fault, Refuses}
use Rattle.op_base.specs.declared.name.NameFault.{NameFault}
use Rattle.op_base.specs.declared.name.NameFault.TheVariants.{NoMemory}
use Rattle.op_base.specs.declared.name.TheConstants.{VALUE_BYTES_IN_PLACE}
use Rattle.script_lang.specs.Names.{value_in}
use Rattle.script_lang.specs.Memory.{takes_memory, is_long}
use Rattle.script_lang.specs.declared.fault.Fault.TheVariants as fault

-- a text without a fault is refused for want of memory alone
without_fault : {T : Type 0} (fault : Option NameFault) (result : Result T NameFault) → Refuses fault result → fault ≡ None → IfErr result (λ why. why ≡ NoMemory)
without_fault None (Ok x) h e = h
without_fault None (Err why) h e = h
without_fault (Some fault) result h e = absurd (cc)

-- a text that is refused, but for want of memory, is no value
pub no_value : {T : Type 0} (bytes : List ℕ) (result : Result T NameFault) → Refuses (value_fault bytes) result → IfErr result (λ why. why ≢ NoMemory → is_value bytes ≡ false)
no_value bytes (Ok x) h = tt
no_value {T} bytes (Err why) h = λ other. false_from_ne_true (is_value bytes) (λ t. other (without_fault {T = T} (value_fault bytes) (Err why) h ((value_exactly bytes).0 t)))

surely : (test : Bool) → test ≢ false → IsTrue test
surely true h = refl
surely false h = absurd (h refl)

long_takes : (test : Bool) (word : List ℕ) → IsTrue (is_long word) → IsTrue (takes_memory is_long (cond test (Ok word) (Err fault.Value)))
long_takes true word h = h
long_takes false word h = refl

-- where memory runs out at a word that is read, a long value is to be copied, unless it is none
pub value_takes : {T : Type 0} (word : List ℕ) (read : Result T NameFault) → (length word ≤ VALUE_BYTES_IN_PLACE → IfErr read (λ why. why ≢ NoMemory))
    → IfErr read (λ why. why ≡ NoMemory → IsTrue (takes_memory is_long (value_in word)))
value_takes word (Ok x) h = tt
value_takes word (Err why) h = λ none.
    long_takes (is_value word) word (surely (is_long word) (λ e. h (ltb-false VALUE_BYTES_IN_PLACE (length word) e) none))
