-- A key's fields: its bytes in front of an array, and how many they are.
use Rattle.std.specs.Prelude.{◌≡◌, ℕ, ◌-◌, ◌++◌, List, length, take, replicate, IsTrue}
use Rattle.std.proofs.Common.{arith}
use Rattle.std.proofs.lemmas.List.{length-take, take-append-drop}
use Rattle.op_base.specs.Name.{is_key}
use Rattle.op_base.specs.Zeros.{HasZerosBehind}
use Rattle.op_base.specs.declared.name.Key.TheInside.{Inside}

-- the bytes of the key
abbrev pub text_of : Inside → List ℕ
text_of k = take k.len k.bytes

-- they are a key, with zeros behind them up to 32 bytes
abbrev pub IsStored : Inside → Type 0
IsStored k = IsTrue (is_key (text_of k)) × HasZerosBehind 32 k.len k.bytes

-- the fields of a text
abbrev pub stored : List ℕ → Inside
stored text = record { len = length text; bytes = text ++ replicate (32 - length text) 0 }

pub stored-text_of : (k : Inside) → IsStored k → stored (text_of k) ≡ k
stored-text_of k h =
    let len : length (take k.len k.bytes) ≡ k.len = omega (arith, length-take k.len k.bytes, h.1.0, h.1.1) in
    let bytes : take k.len k.bytes ++ replicate (32 - length (take k.len k.bytes)) 0 ≡ k.bytes = rw (len, ← h.1.2) (take-append-drop k.len k.bytes) in
    λ i. record { len = len i; bytes = bytes i }
