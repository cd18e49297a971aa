use Rattle.std.proofs.Common.{◌≡◌, ℕ, Option, Some, None, refl, sym, ap, subst, ◌∙◌, arith}
use Rattle.std.proofs.lemmas.Bool.{false≢true}
use Rattle.store_io.specs.Keeping.{Leaves}
use Rattle.store_io.specs.MemoryKeeping.{KeeperState}
use Rattle.replica_keeper.specs.ShowsKeep.{SteadyDurable}
use Rattle.replica_keeper.specs.declared.start.StartFault.{StartFault}
use Rattle.replica_keeper.specs.declared.start.StartFault.TheVariants.{BadNumbers, Damaged, KeeperFault, NoMemory}
use Rattle.replica_keeper.proofs.KeepStops.{left_is_faultless}
use Rattle.replica_keeper.proofs.steady.restart.Goals as goal

-- a fault that is none of the others is want of memory
only_memory : (fault : StartFault) → (fault ≡ BadNumbers → ⊥) → ((at : ℕ) → fault ≡ Damaged at → ⊥) → (fault ≡ KeeperFault → ⊥) → fault ≡ NoMemory
only_memory BadNumbers numbers bytes keeper = absurd (numbers refl)
only_memory (Damaged at) numbers bytes keeper = absurd (bytes at refl)
only_memory KeeperFault numbers bytes keeper = absurd (keeper refl)
only_memory NoMemory numbers bytes keeper = refl

none_is_some : (at : ℕ) → (let none : Option ℕ = None in none ≡ Some at) → ⊥
none_is_some at e = cc

pub want_of_memory-requires : goal.want_of_memory-requires
want_of_memory-requires c =
    let it = c.args.replica.now in
    let keeper : c.stop.result ≡ it.keeper = c.stop.ensures ∙ ap (λ (x : SteadyDurable). x.keeper) c.replace-stopped.ensures.value in
    let leaves = subst (λ (k : KeeperState). Leaves k.held k.synced c.crash-keeper.result.held) keeper c.crash-keeper.ensures.left in
    only_memory c.in-Err.fault
    (λ e. false≢true (sym (c.in-Err.ensures.bad_numbers.0 e) ∙ it.in_range))
    (λ at e. none_is_some at (sym (left_is_faultless it c.requires c.crash-keeper.result.held leaves) ∙ c.in-Err.ensures.damaged at e))
    (λ e. omega (arith, c.in-Err.ensures.fault e))
