use Rattle.honest_worlds.proofs.Beats.{no_beat_is_held, noops_are_few_in}
use Rattle.honest_worlds.proofs.laws.no_beat_is_held.Goals as goal

pub returns : goal.returns
returns c = record { held = no_beat_is_held; noops = noops_are_few_in }
