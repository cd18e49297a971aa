-- The first words of a line, at most seven, as they are found one behind another.
use Rattle.std.proofs.Common.{◌≡◌, ◌⊎◌, inl, inr, ℕ, ◌+◌, ◌<◌, ◌≤◌, List, [], ◌∷◌, ◌++◌, length, map, take, set, sym, ap, ◌∙◌, append_assoc, arith}
use Rattle.std.proofs.lemmas.List.{length-map, length-take-le, map-append, take_more_set, take-append-le, take_all, append-nil}

-- one word more
pub one_more : {X : Type 0} (f : X → List ℕ) (found : List X) (count : ℕ) (word : X) (rest behind all : List (List ℕ)) → count < length found
    → map f (take count found) ++ rest ≡ all → rest ≡ f word ∷ behind → map f (take (count + 1) (set found count word)) ++ behind ≡ all
one_more f found count word rest behind all within so_far next =
    rw (take_more_set found count word within, map-append, append_assoc) (ap (λ r. map f (take count found) ++ r) (sym next) ∙ so_far)

-- where seven are found, or none is left, they are the first seven
pub first_seven : {X : Type 0} (found rest all : List X) → found ++ rest ≡ all → length found ≤ 7 → (length found ≡ 7) ⊎ (rest ≡ []) → found ≡ take 7 all
first_seven found rest all split few (inl full) =
    sym (ap (take 7) (sym split) ∙ take-append-le 7 found rest (omega arith) ∙ take_all 7 found few)
first_seven found rest all split few (inr none) =
    let whole : found ≡ all = sym (append-nil found) ∙ ap (λ r. found ++ r) (sym none) ∙ split in
    sym (ap (take 7) (sym whole) ∙ take_all 7 found few)

-- the same of those that are found in the first places
pub seven_found : {X : Type 0} (f : X → List ℕ) (found : List X) (count : ℕ) (rest all : List (List ℕ)) → count ≤ length found → count ≡ 7 → map f (take count found) ++ rest ≡ all → map f (take count found) ≡ take 7 all
seven_found f found count rest all within full so_far =
    let long : length (map f (take count found)) ≡ count = length-map _ _ ∙ length-take-le count found within in
    first_seven (map f (take count found)) rest all so_far (omega arith) (inl (omega arith))

pub all_found : {X : Type 0} (f : X → List ℕ) (found : List X) (count : ℕ) (rest all : List (List ℕ)) → count ≤ length found → count ≤ 7 → rest ≡ [] → map f (take count found) ++ rest ≡ all → map f (take count found) ≡ take 7 all
all_found f found count rest all within few none so_far =
    let long : length (map f (take count found)) ≡ count = length-map _ _ ∙ length-take-le count found within in
    first_seven (map f (take count found)) rest all so_far (omega arith) (inr none)
