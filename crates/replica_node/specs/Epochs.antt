-- The end of an epoch in a journal.
use Rattle.std.specs.Prelude.{◌≡◌, ℕ, ◌<◌, IsTrue, List}
use Rattle.causal_model.specs.History.{epoch_of, is_all_stable}
use Rattle.causal_model.specs.Journal.{regrouped}
use Rattle.causal_model.specs.declared.note.Note.{Note}
use Rattle.replica_core.specs.Rules.{StandsFor}
use Rattle.replica_core.specs.declared.replica.Replica.{Replica}
use Rattle.replica_node.specs.Nodes.{state_by}

-- a replica can go on in the next epoch behind notes, in a store with a window and a limit: the present epoch can end, and the
-- replica stands for the state that its end gives
pub record IsNextOf (first : ℕ × ℕ) (window most : ℕ) (notes : List Note) (next : Replica) : Type 0 where
  pub early : epoch_of (state_by first notes).history < 65535
  pub rests : IsTrue (is_all_stable (state_by first notes).history.present)
  pub w : next.w ≡ window
  pub limit : next.limit ≡ most
  pub stands : StandsFor next (regrouped next.n next.me (state_by first notes))
