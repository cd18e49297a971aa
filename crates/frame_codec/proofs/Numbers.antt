-- Numbers of 32 bits, as the readers take them and as a timestamp has them.
use Rattle.std.proofs.Common.{◌≡◌, ℕ, zero, suc, ◌+◌, ◌*◌, List, [], ◌∷◌, ◌++◌, take, drop, refl, sym, ap, ◌∙◌, arith}
use Rattle.std.specs.Int.{w32, from_be_bytes}
use Rattle.std.proofs.lemmas.List.{drop-drop}
use Rattle.byteorder.specs.Endian.{big_number}
use Rattle.byteorder.specs.Numbers.{big_from-take}
use Rattle.frame_codec.specs.Fault.{numbers}

-- what byteorder reads from the front is the number of the first four bytes
pub number_read : (bytes : List ℕ) → big_number 4 bytes ≡ from_be_bytes w32 (take 4 bytes)
number_read bytes = sym (big_from-take 0 4 4 bytes (omega arith)) ∙ omega arith

-- one number more
pub numbers_more : (n : ℕ) (bytes : List ℕ) → numbers (suc n) bytes ≡ numbers n bytes ++ from_be_bytes w32 (take 4 (drop (4 * n) bytes)) ∷ []
numbers_more zero bytes = refl
numbers_more (suc n) bytes =
    let at : 4 + 4 * n ≡ 4 * suc n = omega arith in
    let rest : drop (4 * n) (drop 4 bytes) ≡ drop (4 * suc n) bytes = drop-drop (4 * n) 4 bytes ∙ ap (λ k. drop k bytes) at in
    ap (λ ns. from_be_bytes w32 (take 4 bytes) ∷ ns) (numbers_more n (drop 4 bytes) ∙ ap (λ bs. numbers n (drop 4 bytes) ++ from_be_bytes w32 (take 4 bs) ∷ []) rest)
