use Rattle.list_type.proofs.Depths.{pruned_is_kept}
use Rattle.list_type.proofs.laws.kept_is_told_from_the_end.Goals as goal

pub returns : goal.returns
returns g c = λ depth gone xs. pruned_is_kept depth gone xs
