-- Messages of one origin with rising numbers, of which the stable ones stand in front.
use Rattle.std.proofs.Common.{◌≡◌, ℕ, zero, suc, ◌<◌, ◌≤◌, ◌-◌, Bool, true, false, not, List, [], ◌∷◌, length, drop, get_or, refl, sym, ap, ◌∙◌, inl, inr, arith}
use Rattle.std.specs.Prelude.{AllPairs, nat_le}
use Rattle.std.proofs.lemmas.List.{get_or_default}
use Rattle.std.specs.List.{filter}
use Rattle.std.proofs.lemmas.Bool.{cond-false, cases_lt, le-leb, leb-true, false_from_ne_true}
use Rattle.op_base.specs.Message.{number}
use Rattle.op_base.specs.Timestamp.{entry}
use Rattle.op_base.specs.declared.message.Message.{Message}
use Rattle.causal_model.specs.Stability.{is_stable}
use Rattle.causal_model.proofs.Cells.ItemMaps.{filter_all_of}
use Rattle.outbox.specs.Sent.{ComesAfter, unstable_in}

-- a list of which the first ones fail a test, and the others pass, passes it without the first ones
drop-is-filter : {X : Type 0} (p : X → Bool) (xs : List X) (i : ℕ) → ((k : ℕ) (d : X) → k < i → k < length xs → p (get_or xs k d) ≡ false)
    → ((k : ℕ) (d : X) → i ≤ k → k < length xs → p (get_or xs k d) ≡ true) → drop i xs ≡ filter p xs
drop-is-filter p [] zero first others = refl
drop-is-filter p [] (suc i) first others = refl
drop-is-filter p (x ∷ xs) zero first others = sym (filter_all_of p (x ∷ xs) (λ k d l. others k d (omega arith) l))
drop-is-filter p (x ∷ xs) (suc i) first others =
    drop-is-filter p xs i (λ k d l within. first (suc k) d (omega (arith, l)) (omega (arith, within))) (λ k d past within. others (suc k) d (omega (arith, past)) (omega (arith, within)))
    ∙ sym (cond-false (p x) (x ∷ filter p xs) (filter p xs) (first zero x (omega arith) (omega arith)))

-- what comes after a message that isn't stable isn't either
after_unstable : (stable : List ℕ) (a b : Message) → ComesAfter a b → is_stable stable a ≡ false → is_stable stable b ≡ false
after_unstable stable a b comes unstable = false_from_ne_true (is_stable stable b) (λ t.
    let below : number b ≤ entry stable b.origin = leb-true (number b) (entry stable b.origin) t in
    let at : entry stable a.origin ≡ entry stable b.origin = ap (entry stable) comes.of_origin in
    let stands : is_stable stable a ≡ true = le-leb (number a) (entry stable a.origin) (omega (arith, below, at, comes.rises)) in
    absurd (differ stands unstable)) where
      differ : is_stable stable a ≡ true → is_stable stable a ≡ false → ⊥
      differ t f = cc

module _ (stable : List ℕ) (ms : List Message) where
  -- without the stable ones in front, up to the first that isn't stable
  pub unstable_from : (i : ℕ) (d : Message) → AllPairs ComesAfter ms → i < length ms → ((k : ℕ) (e : Message) → k < i → is_stable stable (get_or ms k e) ≡ true)
      → is_stable stable (get_or ms i d) ≡ false → drop i ms ≡ unstable_in stable ms
  unstable_from i d rise l before here =
      drop-is-filter (λ m. not (is_stable stable m)) ms i (λ k e less within. ap not (before k e less)) (λ k e past within. elim (cases_lt i k) [
        | inl later ↦ ap not (after_unstable stable (get_or ms i e) (get_or ms k e) (rise i k e later within) (ap (is_stable stable) (get_or_default ms i e d l) ∙ here))
        | inr not_later ↦ let same : k ≡ i = omega (arith, past, not_later) in ap not (ap (λ j. is_stable stable (get_or ms j e)) same ∙ ap (is_stable stable) (get_or_default ms i e d l) ∙ here)
      ])

  -- where all are stable, none is left
  pub none_unstable : (i : ℕ) → length ms ≤ i → ((k : ℕ) (e : Message) → k < i → is_stable stable (get_or ms k e) ≡ true) → drop i ms ≡ unstable_in stable ms
  none_unstable i past before = drop-is-filter (λ m. not (is_stable stable m)) ms i (λ k e less within. ap not (before k e less)) (λ k e past' within. absurd (omega (arith, past, past', within)))

-- no number is above that of the newest message
pub newest_is_highest : (ms : List Message) (seq : ℕ) (newest : Message) → AllPairs ComesAfter ms → newest ≡ get_or ms (length ms - 1) newest → number newest ≤ seq
    → (k : ℕ) (d : Message) → k < length ms → number (get_or ms k d) ≤ seq
newest_is_highest ms seq newest rise is upto k d within = elim (cases_lt k (length ms - 1)) [
  | inl before ↦ omega (arith, (rise k (length ms - 1) d before (omega (arith, within))).rises, upto, ap number (get_or_default ms (length ms - 1) d newest (omega (arith, within)) ∙ sym is))
  | inr last ↦
      let same : k ≡ length ms - 1 = omega (arith, last, within) in
      omega (arith, upto, ap (λ j. number (get_or ms j d)) same, ap number (get_or_default ms (length ms - 1) d newest (omega (arith, within)) ∙ sym is))
]

-- a message with no greater number stands in front of each that has none greater
pub up_to-first : (ms : List Message) (seq : ℕ) → AllPairs ComesAfter ms → (i j : ℕ) (d : Message) → i ≤ j → j < length ms
    → nat_le (number (get_or ms j d)) seq ≡ true → nat_le (number (get_or ms i d)) seq ≡ true
up_to-first ms seq rise i j d order within upto = elim (cases_lt i j) [
  | inl before ↦ le-leb (number (get_or ms i d)) seq (omega (arith, (rise i j d before within).rises, leb-true (number (get_or ms j d)) seq upto))
  | inr same ↦ let is : i ≡ j = omega (arith, order, same) in ap (λ k. nat_le (number (get_or ms k d)) seq) is ∙ upto
]
