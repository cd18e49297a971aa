use Rattle.world_model.proofs.Growing.{growing_goes_on, grown_are_journals}
use Rattle.world_model.proofs.laws.journals_grow_on.Goals as goal

pub returns : goal.returns
returns c = record { twice = growing_goes_on; journals = grown_are_journals }
