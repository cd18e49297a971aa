-- Messages of member 0 whose numbers reach no further than a last one.
use Rattle.std.proofs.Common.{◌≡◌, ℕ, ◌<◌, ◌≤◌, not, List, [], ◌∷◌, ◌++◌, All, sym, ◌∙◌, arith}
use Rattle.std.proofs.lemmas.List.Elements.{All-append, All-filter}
use Rattle.op_base.specs.Message.{number}
use Rattle.op_base.specs.declared.message.Message.{Message}
use Rattle.causal_model.specs.Stability.{is_stable}
use Rattle.outbox.specs.Sent.{ComesAfter, unstable_in}

-- a message with a greater number comes after them
pub comes_after : (last : ℕ) (message : Message) (messages : List Message) → All (λ m. m.origin ≡ 0) messages → All (λ m. number m ≤ last) messages
    → message.origin ≡ 0 → last < number message → All (λ m. ComesAfter m message) messages
comes_after last message messages own upto origin above = λ i d lt. record {
  of_origin = own i d lt ∙ sym origin;
  rises = omega (arith, upto i d lt, above);
}

-- with one more they are member 0's
pub own_with : (message : Message) (messages : List Message) → All (λ m. m.origin ≡ 0) messages → message.origin ≡ 0
    → All (λ m. m.origin ≡ 0) (messages ++ message ∷ [])
own_with message messages own origin = grind (arith, All-append (λ m. m.origin ≡ 0) messages (message ∷ []) own)

-- with one more their numbers reach that one's
pub upto_with : (last next : ℕ) (message : Message) (messages : List Message) → All (λ m. number m ≤ last) messages → last ≤ next → number message ≤ next
    → All (λ m. number m ≤ next) (messages ++ message ∷ [])
upto_with last next message messages upto grows within =
    let before : All (λ m. number m ≤ next) messages = λ i d lt. omega (arith, upto i d lt, grows) in
    grind (arith, All-append (λ m. number m ≤ next) messages (message ∷ []) before)

-- those that stay are member 0's
pub own_stay : (stable : List ℕ) (messages : List Message) → All (λ m. m.origin ≡ 0) messages → All (λ m. m.origin ≡ 0) (unstable_in stable messages)
own_stay stable messages own = All-filter (λ m. not (is_stable stable m)) (λ m. m.origin ≡ 0) messages own

-- the numbers of those that stay reach no further
pub upto_stay : (last : ℕ) (stable : List ℕ) (messages : List Message) → All (λ m. number m ≤ last) messages → All (λ m. number m ≤ last) (unstable_in stable messages)
upto_stay last stable messages upto = All-filter (λ m. not (is_stable stable m)) (λ m. number m ≤ last) messages upto
