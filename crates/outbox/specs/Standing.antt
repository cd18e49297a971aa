-- What an outbox's calls keep of the messages that a member delivered.
use Rattle.std.specs.Prelude.{◌≡◌, ◌≢◌, ℕ, ◌<◌, IsTrue, List, [], ◌∷◌, ◌++◌}
use Rattle.op_base.specs.declared.message.Message.{Message}
use Rattle.causal_model.specs.Chapter.{is_chapter}
use Rattle.causal_model.specs.Sending.{outbox_of}
use Rattle.causal_model.specs.Stability.{stable_vector}
use Rattle.outbox.specs.Sent.{Sent}

-- Messages are what an outbox has before the stable ones of messages with one more are dropped: the outbox of the messages,
-- and then the one more where it is an own message.
abbrev pub IsBeforeDrop : ℕ → ℕ → List Message → Message → List Message → Type 0
IsBeforeDrop n me ms m held =
    (m.origin ≡ me → held ≡ outbox_of n me ms ++ m ∷ []) × (m.origin ≢ me → held ≡ outbox_of n me ms)

-- An outbox that was that of messages has the next own message too.
abbrev pub SendsNext : Message → List Message → List Message → Type 0
SendsNext m old new = (n me : ℕ) (ms : List Message) → old ≡ outbox_of n me ms → m.origin ≡ me → IsBeforeDrop n me ms m new

-- an outbox is that of messages with one more once the stable ones are dropped
abbrev pub DropsAfter : List ℕ → Sent → Sent → Type 0
DropsAfter stable old new = (w me : ℕ) (ms : List Message) (m : Message) → me < old.n → IsTrue (is_chapter old.n w me (ms ++ m ∷ []))
    → IsBeforeDrop old.n me ms m old.messages → stable ≡ stable_vector old.n me (ms ++ m ∷ []) → new.messages ≡ outbox_of old.n me (ms ++ m ∷ [])
