use Rattle.causal_model.proofs.Delivery.Apart.{ids_are_apart}
use Rattle.causal_model.proofs.laws.delivery.ids_are_apart.Goals as goal

pub returns : goal.returns
returns c = ids_are_apart
