-- What a log is after it handed out an entry, or had none.
use Rattle.std.proofs.Common.{◌≡◌, ◌<◌, true, false, List, [], ◌∷◌, length, Option, Some, None, is_some, refl, arith}
use Rattle.op_base.specs.declared.message.Entry.{Entry}
use Rattle.polog.specs.Value.{Log, with_stripped}

-- it is the same but for what waits: that is one less, or nothing
pub record IsHandedOut (old new : Log) (result : Option Entry) : Type 0 where
  pub members : new.n ≡ old.n
  pub fewer : is_some result ≡ true → length new.stripped < length old.stripped
  pub none : is_some result ≡ false → new.stripped ≡ []

by_waiting : (old new : Log) (result : Option Entry) (stripped : List Entry) → old.stripped ≡ stripped
    → (old.stripped ≡ [] → (result ≡ None) × (new ≡ old))
    → ((e : Entry) (rest : List Entry) → old.stripped ≡ e ∷ rest → (result ≡ Some e) × (new ≡ with_stripped old rest)) → IsHandedOut old new result
by_waiting old new result [] is none first = let n = none is in grind arith
by_waiting old new result (e ∷ rest) is none first = let f = first e rest is in grind arith

pub handed_out : (old new : Log) (result : Option Entry) → (old.stripped ≡ [] → (result ≡ None) × (new ≡ old))
    → ((e : Entry) (rest : List Entry) → old.stripped ≡ e ∷ rest → (result ≡ Some e) × (new ≡ with_stripped old rest)) → IsHandedOut old new result
handed_out old new result none first = by_waiting old new result old.stripped refl none first
