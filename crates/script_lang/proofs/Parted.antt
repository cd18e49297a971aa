-- A text of parts with one byte between them tells its parts, where no part has the byte.
use Rattle.std.proofs.Common.{◌≡◌, ℕ, Bool, true, false, not, List, [], ◌∷◌, ◌++◌, append_assoc, eqb, refl, ap, ◌∙◌}
use Rattle.std.specs.List.{All, list_all, slice_split}
use Rattle.std.proofs.lemmas.Bool.{and_parts}
use Rattle.std.proofs.lemmas.List.{append-nil}
use Rattle.std.proofs.lemmas.List.Elements.{All-nil, All-cons}
use Rattle.std.proofs.lemmas.List.Splits.{slice_split_at, slice_split_none}
use Rattle.script_lang.specs.Replies.{joined}

-- whether a text is without a byte
abbrev pub lacks : ℕ → List ℕ → Bool
lacks c xs = list_all (λ b. not (eqb b c)) xs

-- what a test that fails says
pub false_from_not : (t : Bool) → not t ≡ true → t ≡ false
false_from_not true e = absurd cc
false_from_not false e = refl

lacks-All : (c : ℕ) (xs : List ℕ) → lacks c xs ≡ true → All (λ b. eqb b c ≡ false) xs
lacks-All c [] h = All-nil _
lacks-All c (b ∷ xs) h =
    let p = and_parts (not (eqb b c)) (lacks c xs) h in
    All-cons (λ x. eqb x c ≡ false) b xs (false_from_not (eqb b c) p.0) (lacks-All c xs p.1)

-- a part, the byte and one part more
pub split-two : (c : ℕ) (xs ys : List ℕ) → eqb c c ≡ true → lacks c xs ≡ true → lacks c ys ≡ true → slice_split (λ b. eqb b c) (xs ++ c ∷ ys) ≡ xs ∷ ys ∷ []
split-two c xs ys is h k = slice_split_at _ xs c ys (lacks-All c xs h) is ∙ ap (λ parts. xs ∷ parts) (slice_split_none _ ys (lacks-All c ys k))

-- the same of three parts
pub split-three : (c : ℕ) (xs ys zs : List ℕ) → eqb c c ≡ true → lacks c xs ≡ true → lacks c ys ≡ true → lacks c zs ≡ true
    → slice_split (λ b. eqb b c) (xs ++ c ∷ ys ++ c ∷ zs) ≡ xs ∷ ys ∷ zs ∷ []
split-three c xs ys zs is h k l =
    ap (slice_split (λ b. eqb b c)) (append_assoc xs (c ∷ ys) (c ∷ zs)) ∙ slice_split_at _ xs c (ys ++ c ∷ zs) (lacks-All c xs h) is
    ∙ ap (λ parts. xs ∷ parts) (split-two c ys zs is k l)

-- the words of a line
pub split-joined : (word : List ℕ) (words : List (List ℕ)) → list_all (lacks 32) (word ∷ words) ≡ true → slice_split (λ b. eqb b 32) (joined (word ∷ words)) ≡ word ∷ words
split-joined word [] h =
    let p = and_parts (lacks 32 word) true h in
    rw (append-nil word) (slice_split_none _ word (lacks-All 32 word p.0))
split-joined word (next ∷ words) h =
    let p = and_parts (lacks 32 word) (list_all (lacks 32) (next ∷ words)) h in
    slice_split_at _ word 32 (joined (next ∷ words)) (lacks-All 32 word p.0) refl ∙ ap (λ parts. word ∷ parts) (split-joined next words p.1)
