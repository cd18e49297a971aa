-- Places that passes took: none of them twice.
use Rattle.std.proofs.Common.{◌≡◌, ◌≢◌, ℕ, suc, ◌+◌, ◌<◌, List, [], ◌∷◌, ◌++◌, length, sym, ap, ◌∙◌, get_or, length-append, arith}
use Rattle.std.proofs.lemmas.List.{get_or_append_left, get_or-append-add}
use Rattle.std.proofs.lemmas.List.Elements.{All-append, All-weaker}
use Rattle.std.proofs.lemmas.List.Kept.{AllPairs-cons}
use Rattle.std.specs.Prelude.{All, AllPairs}
use Rattle.mailboxes.specs.Seen.{AreApart}
use Rattle.mailboxes.specs.Rule.{Took}

-- two lists, each without repeats, that have nothing in common
pub apart_append : (xs ys : List ℕ) → AllPairs (λ a b. a ≢ b) xs → AllPairs (λ a b. a ≢ b) ys
    → ((i j d : ℕ) → i < length xs → j < length ys → get_or xs i d ≢ get_or ys j d) → AllPairs (λ a b. a ≢ b) (xs ++ ys)
apart_append [] ys p q cross = q
apart_append (x ∷ xs) ys p q cross = AllPairs-cons (λ a b. a ≢ b) x (xs ++ ys)
    (All-append (λ b. x ≢ b) xs ys (λ k d lt. p 0 (suc k) d (omega arith) (omega arith)) (λ k d lt. cross 0 k d (omega arith) lt))
    (apart_append xs ys (λ i j d l m. p (suc i) (suc j) d (omega arith) (omega arith)) q (λ i j d l m. cross (suc i) j d (omega arith) m))

-- what two passes took has nothing in common
pub apart_takers : (taker : ℕ → ℕ) (a b n m : ℕ) (xs ys : List ℕ) → a ≢ b → All (Took n taker a) xs → All (Took m taker b) ys
    → (i j d : ℕ) → i < length xs → j < length ys → get_or xs i d ≢ get_or ys j d
apart_takers taker a b n m xs ys other p q i j d l r same = other (sym (p i d l).by ∙ (ap taker same ∙ (q j d r).by))

-- the parts of a list without repeats
pub apart_parts : (xs ys : List ℕ) → AllPairs (λ a b. a ≢ b) (xs ++ ys) → AreApart xs ys
apart_parts xs ys h k (i, lt, e) (j, le, f) = h i (length xs + j) k (omega arith) (omega (arith, length-append xs ys))
    (get_or_append_left xs ys k i lt ∙ (e ∙ sym (get_or-append-add xs ys j k ∙ f)))

-- who took the places is told by another function, which agrees at these
pub took_again : (n m : ℕ) (taker now : ℕ → ℕ) (j : ℕ) (xs : List ℕ) → ((k : ℕ) → k < n → taker k ≡ j → Took m now j k) → All (Took n taker j) xs → All (Took m now j) xs
took_again n m taker now j xs to h = All-weaker (Took n taker j) (Took m now j) (λ k t. to k t.below t.by) xs h
