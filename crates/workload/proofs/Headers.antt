-- The header of a made script is read as the store's. There are few stores, so that each is tried.
use Rattle.std.proofs.Common.{◌≡◌, ℕ, zero, suc, ◌≤◌, Bool, true, false, eqb, refl, arith, inl, inr}
use Rattle.std.specs.Prelude.{◌&&◌, Option, Some, None}
use Rattle.std.specs.Fmt.{digits}
use Rattle.std.proofs.lemmas.Bool.{and_parts}
use Rattle.std.proofs.lemmas.Bool.Decides.{nat_tests}
use Rattle.std.proofs.Math.Nat.{eq-or-lt_of_le}
use Rattle.script_lang.specs.Headers.{header_of}
use Rattle.script_lang.specs.Replies.{joined}
use Rattle.script_lang.specs.declared.header.Header.{Header}
use Rattle.script_lang.specs.declared.header.Header.TheVariants.{Store, Keep, Live}
use Rattle.workload.specs.Script.{made_header}

-- whether it is the header of a store of n members with a window of w
abbrev is_store : ℕ → ℕ → Option Header → Bool
is_store n w (Some (Store m v limit)) = eqb m n && eqb v w && eqb limit 65535
is_store n w header = false

store-is : (n w : ℕ) (header : Option Header) → is_store n w header ≡ true → header ≡ Some (Store n w 65535)
store-is n w (Some (Store m v limit)) h = grind (arith, nat_tests)
store-is n w (Some (Keep m v limit)) h = absurd cc
store-is n w (Some (Live m v clients turns loss)) h = absurd cc
store-is n w None h = absurd cc

-- whether a test holds of each number from 1 to k
abbrev each_to : ℕ → (ℕ → Bool) → Bool
each_to zero p = true
each_to (suc k) p = p (suc k) && each_to k p

each-is : (k : ℕ) (p : ℕ → Bool) → each_to k p ≡ true → (i : ℕ) → 1 ≤ i → i ≤ k → p i ≡ true
each-is zero p h i low high = absurd (omega arith)
each-is (suc k) p h i low high =
    let parts = and_parts (p (suc k)) (each_to k p) h in
    elim (eq-or-lt_of_le high) as (λ _. p i ≡ true) [
      | inl last ↦ rw last parts.0
      | inr before ↦ each-is k p parts.1 i low (omega arith)
    ]

abbrev is_read : ℕ → ℕ → Bool
is_read n w = is_store n w (header_of (joined (made_header n w)))

all-read : each_to 16 (λ n. each_to 64 (is_read n)) ≡ true
unfolding digits
all-read = refl

pub header-read : (n w : ℕ) → 1 ≤ n → n ≤ 16 → 1 ≤ w → w ≤ 64 → header_of (joined (made_header n w)) ≡ Some (Store n w 65535)
header-read n w few_n most_n few_w most_w =
    store-is n w _ (each-is 64 (is_read n) (each-is 16 (λ n. each_to 64 (is_read n)) all-read n few_n most_n) w few_w most_w)
