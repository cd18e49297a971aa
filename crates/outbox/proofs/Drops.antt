-- What is left of an outbox's messages, and what it stands for.
use Rattle.std.proofs.Common.{◌≡◌, ℕ, ◌==◌, List, [], ◌∷◌, ◌++◌, sym, ap, ◌∙◌, inl, inr, if◌then◌else◌, append-nil}
use Rattle.std.proofs.lemmas.Bool.{cases_eq, cond-true, cond-false, eq-eqb, ne_eqb}
use Rattle.op_base.specs.declared.message.Message.{Message}
use Rattle.causal_model.specs.Sending.{outbox_of}
use Rattle.causal_model.specs.Stability.{stable_vector}
use Rattle.causal_model.proofs.Delivery.Logs.{outbox_of-push}
use Rattle.outbox.specs.Sent.{Sent, unstable_in}
use Rattle.outbox.specs.Standing.{SendsNext, DropsAfter}

pub sends_next : (m : Message) (old new : List Message) → new ≡ old ++ m ∷ [] → SendsNext m old new
sends_next m old new is n me ms stands own = (λ _. is ∙ ap (λ held. held ++ m ∷ []) stands, λ other. absurd (other own))

pub drops_after : (stable : List ℕ) (old new : Sent) → new.messages ≡ unstable_in stable old.messages → DropsAfter stable old new
drops_after stable old new is w me ms m l chapter before vector =
    let held : old.messages ≡ outbox_of old.n me ms ++ (if m.origin == me then m ∷ [] else []) = elim (cases_eq m.origin me) [
      | inl e ↦ before.0 e ∙ ap (λ last. outbox_of old.n me ms ++ last) (sym (cond-true (m.origin == me) (m ∷ []) [] (eq-eqb m.origin me e)))
      | inr ne ↦ before.1 ne ∙ sym (ap (λ last. outbox_of old.n me ms ++ last) (cond-false (m.origin == me) (m ∷ []) [] (ne_eqb m.origin me ne)) ∙ append-nil (outbox_of old.n me ms))
    ] in
    is ∙ ap (λ tag. unstable_in tag old.messages) vector ∙ ap (unstable_in (stable_vector old.n me (ms ++ m ∷ []))) held ∙ sym (outbox_of-push old.n w me ms m l chapter)

-- an outbox of its store's numbers and its messages
abbrev pub with_messages : ℕ → ℕ → List Message → Sent
with_messages n w messages = record { n = n; w = w; messages = messages }

-- an outbox of which the unstable messages are left
pub left_of : (n w : ℕ) (old : Sent) (messages left : List Message) (stable : List ℕ) → with_messages n w messages ≡ old → left ≡ unstable_in stable messages
    → with_messages n w left ≡ with_messages old.n old.w (unstable_in stable old.messages)
left_of n w old messages left stable was is =
    let rest : Sent → Sent = λ sent. with_messages sent.n sent.w (unstable_in stable sent.messages) in
    ap (with_messages n w) is ∙ ap rest was
