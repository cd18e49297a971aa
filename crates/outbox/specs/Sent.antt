-- Messages that a member has sent, in a store of n members with a window w.
use Rattle.std.specs.Prelude.{◌≡◌, ℕ, ◌+◌, ◌<◌, ◌≤◌, List, take, drop, not, filter, All}
use Rattle.op_base.specs.Message.{number}
use Rattle.op_base.specs.declared.message.Message.{Message}
use Rattle.op_base.specs.declared.operation.Op.TheVariants as op
use Rattle.causal_model.specs.Stability.{is_stable, noop_window}

-- an outbox: the numbers of its store, and the messages that it has, oldest first
pub record Sent : Type 0 where
  pub n : ℕ
  pub w : ℕ
  pub messages : List Message

-- how many messages it has room for
abbrev pub room_of : ℕ → ℕ → ℕ
room_of n w = w + noop_window n w

-- a message comes after another: it is of the same origin, with a greater number
pub record ComesAfter (earlier later : Message) : Type 0 where
  pub of_origin : earlier.origin ≡ later.origin
  pub rises : number earlier < number later

-- what stays of a message that was dropped, until its room is needed: it carries no operation
abbrev pub IsHusk : Message → Type 0
IsHusk m = m.op ≡ op.NoOp

-- the messages that aren't stable where these are the stable counts
abbrev pub unstable_in : List ℕ → List Message → List Message
unstable_in stable messages = filter (λ m. not (is_stable stable m)) messages

-- of messages, those with a number above one: they stand behind all the others
pub record AreAbove (seq : ℕ) (messages above : List Message) : Type 0 where
  pub others : ℕ
  pub are_behind : above ≡ drop others messages
  pub have_not : All (λ m. number m ≤ seq) (take others messages)
  pub have : All (λ m. seq < number m) above
