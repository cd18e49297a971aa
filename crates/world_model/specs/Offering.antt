-- Offers of an outbox: its messages as they stand, oldest first, one after the other.
use Rattle.std.specs.Prelude.{ℕ, Bool, false, ◌||◌, List, [], ◌∷◌, ◌++◌, fold, if◌then◌else◌}
use Rattle.op_base.specs.declared.message.Message.{Message}
use Rattle.op_base.specs.declared.outcome.Step.{Step}
use Rattle.causal_model.specs.Receiving.{steps_of, is_accepted, receive_rule}
use Rattle.causal_model.specs.Sending.{outbox_of}
use Rattle.causal_model.specs.State.{State}
use Rattle.world_model.specs.World.{PlainWorld, replica_of, with_state}
use Rattle.world_model.specs.declared.outcome.Resent.{Resent}
use Rattle.world_model.specs.declared.outcome.Resent.TheVariants as resent

-- what has come of messages that were offered one after the other: the state then, all steps that were made, and whether
-- a message was accepted
pub record Offered : Type 0 where
  pub state : State
  pub steps : List Step
  pub kept : Bool

-- before any offer
abbrev pub none_offered : State → Offered
none_offered s = record { state = s; steps = []; kept = false }

-- with one offer more, in a store with a window w
abbrev pub offered_more : ℕ → Offered → Message → Offered
offered_more w o m =
    let got = receive_rule w m o.state in
    record { state = got.1; steps = o.steps ++ steps_of got.0; kept = o.kept || is_accepted got.0 }

-- what comes of messages that are offered to a state
abbrev pub offered : ℕ → State → List Message → Offered
offered w s messages = fold (offered_more w) (none_offered s) messages

-- the own unstable messages of a state, oldest first
abbrev pub outbox_in : State → List Message
outbox_in s = outbox_of s.history.present.n s.history.present.me s.history.present.messages

-- what comes of offering member k's outbox to replica r
abbrev pub offered_between : PlainWorld → ℕ → ℕ → Offered
offered_between world r k = offered world.w (replica_of world r) (outbox_in (replica_of world k))

-- the answer: the steps, where there was one; that a message was kept; or that none was
abbrev pub resent_of : List Step → Bool → Resent
resent_of [] kept = if kept then resent.Kept else resent.Nothing
resent_of (step ∷ steps) kept = resent.Took (step ∷ steps)

-- offering member k's outbox to replica r, and the world after it
abbrev pub resend_at : ℕ → ℕ → PlainWorld → Resent × PlainWorld
resend_at r k world = let o = offered_between world r k in (resent_of o.steps o.kept, with_state world r o.state)
