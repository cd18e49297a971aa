-- What an outbox needs of the messages that a member delivers. Each statement is the contract of a function of laws.rt.
use Rattle.std.specs.Prelude.{◌≡◌, ◌≢◌, ℕ, ◌<◌, ◌≤◌, List, [], ◌∷◌, ◌++◌, length, IsTrue, All}
use Rattle.op_base.specs.declared.message.Message.{Message}
use Rattle.causal_model.specs.Chapter.{is_chapter}
use Rattle.causal_model.specs.Sending.{outbox_of}
use Rattle.outbox.specs.Sent.{ComesAfter, room_of}
use Rattle.outbox.specs.Standing.{IsBeforeDrop}

-- a member's next own message finds room in its outbox, and comes after all that is there
abbrev pub NextIsPushed : Type 0
NextIsPushed = (n w me : ℕ) (ms : List Message) (m : Message) → me < n → 1 ≤ w → IsTrue (is_chapter n w me (ms ++ m ∷ [])) → m.origin ≡ me
    → (length (outbox_of n me ms) < room_of n w) × All (λ e. ComesAfter e m) (outbox_of n me ms)

-- with a message of another member nothing is pushed before the stable ones are dropped
abbrev pub OtherIsNotPushed : Type 0
OtherIsNotPushed = (n me : ℕ) (ms : List Message) (m : Message) → m.origin ≢ me → IsBeforeDrop n me ms m (outbox_of n me ms)
