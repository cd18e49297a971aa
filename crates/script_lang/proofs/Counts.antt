-- Words that are too few or too many.
use Rattle.std.proofs.Common.{◌≡◌, ℕ, ◌≤◌, false, List, [], ◌∷◌, length, map, drop, refl, arith}
use Rattle.std.specs.Prelude.{Err}
use Rattle.std.proofs.lemmas.Bool.{cond-false}
use Rattle.script_lang.specs.Acts.{are_few}
use Rattle.script_lang.specs.Commands.{do_words, ask_words, lone_list, raw_words}
use Rattle.script_lang.specs.LiveCommands.{client_do_words, client_ask_words}
use Rattle.script_lang.specs.declared.fault.Fault.TheVariants as fault

pub do-other : {X : Type 0} (f : X → List ℕ) (n : ℕ) (words : List X) → (3 ≤ length words → are_few (map f (drop 3 words)) ≡ false) → do_words n (map f words) ≡ Err fault.Words
do-other f n [] many = refl
do-other f n (r ∷ []) many = refl
do-other f n (r ∷ o ∷ []) many = refl
do-other f n (r ∷ o ∷ p ∷ words) many = cond-false _ _ _ (many (omega arith))

pub list-other : {X : Type 0} (f : X → List ℕ) (n : ℕ) (words : List X) → (length words ≡ 2 → ⊥) → lone_list n (map f words) ≡ Err fault.Words
list-other f n [] two = refl
list-other f n (r ∷ []) two = refl
list-other f n (r ∷ l ∷ []) two = absurd (two refl)
list-other f n (r ∷ l ∷ a ∷ words) two = refl

pub ask-other : {X : Type 0} (f : X → List ℕ) (n : ℕ) (words : List X) → (length words ≡ 2 → ⊥) → ask_words n (map f words) ≡ Err fault.Words
ask-other f n [] two = refl
ask-other f n (r ∷ []) two = refl
ask-other f n (r ∷ o ∷ []) two = absurd (two refl)
ask-other f n (r ∷ o ∷ a ∷ words) two = refl

pub raw-other : {X : Type 0} (f : X → List ℕ) (n : ℕ) (words : List X) → (length words ≡ 2 → ⊥) → raw_words n (map f words) ≡ Err fault.Words
raw-other f n [] two = refl
raw-other f n (r ∷ []) two = refl
raw-other f n (r ∷ h ∷ []) two = absurd (two refl)
raw-other f n (r ∷ h ∷ a ∷ words) two = refl

pub client_do-other : {X : Type 0} (f : X → List ℕ) (clients : ℕ) (c : List ℕ) (words : List X) → (2 ≤ length words → are_few (map f (drop 2 words)) ≡ false)
    → client_do_words clients c (map f words) ≡ Err fault.Words
client_do-other f clients c [] many = refl
client_do-other f clients c (o ∷ []) many = refl
client_do-other f clients c (o ∷ p ∷ words) many = cond-false _ _ _ (many (omega arith))

pub client_ask-other : {X : Type 0} (f : X → List ℕ) (clients : ℕ) (c : List ℕ) (words : List X) → (length words ≡ 1 → ⊥)
    → client_ask_words clients c (map f words) ≡ Err fault.Words
client_ask-other f clients c [] one = refl
client_ask-other f clients c (o ∷ []) one = absurd (one refl)
client_ask-other f clients c (o ∷ a ∷ words) one = refl
