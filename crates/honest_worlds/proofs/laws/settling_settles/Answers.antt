use Rattle.honest_worlds.proofs.Settling.{still_round_settles, settling_settles, settled_logs_are_empty, regrouping_is_possible, equal_counts_are_equal_events}
use Rattle.honest_worlds.proofs.laws.settling_settles.Goals as goal

pub returns : goal.returns
returns c = record { still = still_round_settles; settles = settling_settles; logs = settled_logs_are_empty; regroups = regrouping_is_possible; equal = equal_counts_are_equal_events }
