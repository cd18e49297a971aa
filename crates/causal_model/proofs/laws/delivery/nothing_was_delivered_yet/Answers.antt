use Rattle.std.proofs.Common.{refl}
use Rattle.causal_model.proofs.Delivery.Begin.{counts-none, known_vector-none, stable_vector-none}
use Rattle.causal_model.proofs.laws.delivery.nothing_was_delivered_yet.Goals as goal

pub returns : goal.returns
returns c = λ keeps covers n w me. (refl, counts-none n, known_vector-none n me, stable_vector-none n me, refl, refl, refl, refl)
