use Rattle.std.proofs.Common.{refl}
use Rattle.clap.specs.Faults.{flags_fault, walk_fault, defaults_fault}
use Rattle.clap.specs.Walk.{bundle_met, walked}
use Rattle.store_program.proofs.worked.others_are_refused.Goals as goal

pub returns : goal.returns
unfolding flags_fault walk_fault defaults_fault bundle_met walked
returns c = record { nothing = refl; no_mode = refl; two_modes = refl; twice = refl; help = refl; shortened = refl; option_last = refl; no_number = refl; too_many = refl }
