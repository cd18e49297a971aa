use Rattle.std.proofs.Common.{refl}
use Rattle.clap.specs.Faults.{flags_fault, walk_fault, defaults_fault}
use Rattle.clap.specs.Walk.{bundle_met, walked}
use Rattle.store_program.proofs.worked.modes_are_asked.Goals as goal

pub returns : goal.returns
unfolding flags_fault walk_fault defaults_fault bundle_met walked
returns c = record { script = refl; live = refl; make = refl; with_all = refl; in_one_word = refl; behind_dashes = refl }
