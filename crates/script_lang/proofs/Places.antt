-- Lemmas on the first place of a list where a test passes, and on the parts that it is cut into there.
use Rattle.std.proofs.Common.{◌≡◌, ℕ, ◌+◌, ◌<◌, Bool, true, false, not, Option, Some, None, List, [], ◌∷◌, length, take, drop, get_or, refl, arith, suc}
use Rattle.std.specs.List.{slice_split, position_or_len, position}
use Rattle.std.specs.Option.{unwrap_or}
use Rattle.std.proofs.lemmas.Bool.Decides.{nat_tests}
use Rattle.std.proofs.lemmas.Grind.{common_steps}
use Rattle.std.proofs.lemmas.List.Splits.{slice_split_first, slice_split-cons_no}
use Rattle.std.proofs.lemmas.List.Sums.{prefix_len-le-length, position_or_len_is}
use Rattle.memchr.specs.Find.{IsFirstByte}

pub place-no : (p : ℕ → Bool) (b : ℕ) (bs : List ℕ) → p b ≡ false → position_or_len p (b ∷ bs) ≡ suc (position_or_len p bs)
place-no p b bs h = grind (arith, common_steps)

pub place-yes : (p : ℕ → Bool) (b : ℕ) (bs : List ℕ) → p b ≡ true → position_or_len p (b ∷ bs) ≡ 0
place-yes p b bs h = grind (arith, common_steps)

-- the place of the first element that passes, or the length
pub place_or_end : (p : ℕ → Bool) (xs : List ℕ) (n : ℕ) → n ≡ unwrap_or (position p xs) (length xs) → n ≡ position_or_len p xs
place_or_end p xs n h = grind (arith, common_steps, nat_tests, prefix_len-le-length (λ x. not (p x)) xs)

-- without an element that passes a list is cut nowhere
pub split_whole : (p : ℕ → Bool) (xs : List ℕ) → position_or_len p xs ≡ length xs → slice_split p xs ≡ xs ∷ []
split_whole p [] h = refl
split_whole p (x ∷ xs) h = by_test (p x) refl (split_whole p xs) where
  by_test : (t : Bool) → p x ≡ t → (position_or_len p xs ≡ length xs → slice_split p xs ≡ xs ∷ []) → slice_split p (x ∷ xs) ≡ (x ∷ xs) ∷ []
  by_test true e whole = absurd (omega (arith, place-yes p x xs e))
  by_test false e whole = rw (slice_split-cons_no p x xs e, whole (omega (arith, place-no p x xs e))) refl

-- where one passes, a list is cut first there
pub split_there : (p : ℕ → Bool) (xs : List ℕ) (at : ℕ) → Some at ≡ position p xs → slice_split p xs ≡ take at xs ∷ slice_split p (drop (at + 1) xs)
split_there p xs at h =
    let within : position_or_len p xs < length xs = grind (arith, common_steps, nat_tests) in
    let same : at ≡ position_or_len p xs = grind (arith, common_steps, nat_tests) in
    rw same (slice_split_first p xs 0 within)

pub split_nowhere : (p : ℕ → Bool) (xs : List ℕ) → None ≡ position p xs → slice_split p xs ≡ xs ∷ []
split_nowhere p xs h =
    let whole : position_or_len p xs ≡ length xs = grind (arith, common_steps, nat_tests, prefix_len-le-length (λ x. not (p x)) xs) in
    split_whole p xs whole

-- a test that doesn't hold fails
fails_there : (t : Bool) → (t ≡ true → ⊥) → t ≡ false
fails_there true h = absurd (h refl)
fails_there false h = refl

-- what a search for the first byte that passes answers is its place
pub place_found : (p : ℕ → Bool) (xs : List ℕ) (r : Option ℕ) → IsFirstByte p xs r → position_or_len p xs ≡ unwrap_or r (length xs)
place_found p xs None h = position_or_len_is p xs (length xs) 0 (omega arith) (λ k below. fails_there (p (get_or xs k 0)) (h k (omega arith) below)) (λ below. absurd (omega arith))
place_found p xs (Some at) h = position_or_len_is p xs at 0 (omega (arith, h.0.high)) (λ k below. fails_there (p (get_or xs k 0)) (h.0.before k (omega arith) below)) (λ below. h.1)

pub position_found : (p : ℕ → Bool) (xs : List ℕ) (r : Option ℕ) → IsFirstByte p xs r → r ≡ position p xs
position_found p xs None h =
    let whole : position_or_len p xs ≡ length xs = place_found p xs None h in
    grind (arith, nat_tests)
position_found p xs (Some at) h =
    let there : position_or_len p xs ≡ at = place_found p xs (Some at) h in
    let within : at < length xs = omega (arith, h.0.high) in
    grind (arith, nat_tests)
