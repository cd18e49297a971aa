-- The states that a replica can be in: what its calls keep of a history and of early messages.
use Rattle.std.specs.Prelude.{◌≡◌, ℕ, false, IsTrue, List, All, AllPairs}
use Rattle.op_base.specs.Message.{fits}
use Rattle.op_base.specs.declared.message.Message.{Message}
use Rattle.causal_model.specs.Counts.{is_carried}
use Rattle.causal_model.specs.History.{is_history, is_limited}
use Rattle.causal_model.specs.Early.{stands_before}
use Rattle.causal_model.specs.Receiving.{is_old, is_far}
use Rattle.causal_model.specs.State.{State, counted}

-- messages are early at member me of n members, with a window w and a limit, where so many of each member were delivered
pub record AreEarly (n w limit me : ℕ) (counted : List ℕ) (early : List Message) : Type 0 where
  -- they stand by origin and then by number, at most one of an id
  pub rise : AllPairs (λ (a b : Message). IsTrue (stands_before a b)) early
  -- each is a message of the store that can be carried there
  pub fit : All (λ m. IsTrue (fits n m)) early
  pub carried : All (λ m. IsTrue (is_carried limit m)) early
  -- none is old or far
  pub new : All (λ m. is_old me counted m ≡ false) early
  pub near : All (λ m. is_far n w me counted m ≡ false) early

-- a state that a replica can be in, in a store with a window w and a limit
pub record IsState (w limit : ℕ) (s : State) : Type 0 where
  pub is_history : IsTrue (is_history w s.history)
  pub is_limited : IsTrue (is_limited limit s.history)
  pub are_early : AreEarly s.history.present.n w limit s.history.present.me (counted s.history) s.early
