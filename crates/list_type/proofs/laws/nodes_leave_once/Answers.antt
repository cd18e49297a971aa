use Rattle.list_type.proofs.Depths.{pruned_again}
use Rattle.list_type.proofs.laws.nodes_leave_once.Goals as goal

pub returns : goal.returns
returns g c = λ depth gone f same_depth still_gone xs. pruned_again depth gone f same_depth still_gone xs
