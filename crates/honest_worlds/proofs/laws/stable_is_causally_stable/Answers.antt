use Rattle.honest_worlds.proofs.CausallyStable.{stable_is_causally_stable, stable_is_everywhere}
use Rattle.honest_worlds.proofs.laws.stable_is_causally_stable.Goals as goal

pub returns : goal.returns
returns c = record { later = stable_is_causally_stable; everywhere = stable_is_everywhere }
