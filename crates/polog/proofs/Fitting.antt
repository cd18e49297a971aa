-- What a message that fits a store has.
use Rattle.std.proofs.Common.{◌≡◌, ℕ, ◌<◌, ◌&&◌, ◌==◌, nat_lt, zero, suc, false, length, get_or, replicate, IsTrue, inl, inr, refl, arith}
use Rattle.std.proofs.lemmas.Bool.{eqb-true, ltb-true, and_parts}
use Rattle.std.proofs.lemmas.Bool.Decides.{leb_tells}
use Rattle.op_base.specs.Message.{fits, number}
use Rattle.op_base.specs.Timestamp.{zero_tag}
use Rattle.op_base.specs.declared.message.Message.{Message}
use Rattle.causal_model.specs.Stability.{is_stable}
use Rattle.causal_model.proofs.States.Early.{fits_member}

pub fits-length : (n : ℕ) (m : Message) → IsTrue (fits n m) → length m.tag ≡ n
fits-length n m h =
    let formed = and_parts (length m.tag == n && nat_lt m.origin n) (nat_lt 0 (number m)) h in
    eqb-true (length m.tag) n (and_parts (length m.tag == n) (nat_lt m.origin n) formed.0).0

pub fits-origin : (n : ℕ) (m : Message) → IsTrue (fits n m) → m.origin < length m.tag
fits-origin n m h = let many = fits-length n m h in let member = fits_member n m h in omega (arith, many, member)

same-at : (z n k : ℕ) → get_or (replicate n z) k z ≡ z
same-at z zero k = refl
same-at z (suc n) zero = refl
same-at z (suc n) (suc k) = same-at z n k

-- before anything was sent, nothing is stable
pub none-stable : (n : ℕ) (m : Message) → IsTrue (fits n m) → is_stable (zero_tag n) m ≡ false
none-stable n m h =
    let formed = and_parts (length m.tag == n && nat_lt m.origin n) (nat_lt 0 (number m)) h in
    let sent : 0 < number m = ltb-true 0 (number m) formed.1 in
    elim (leb_tells (number m) (get_or (replicate n 0) m.origin 0)) [
      | inl (t, l) ↦ absurd (omega (arith, l, same-at 0 n m.origin, sent))
      | inr (t, l) ↦ t
    ]
