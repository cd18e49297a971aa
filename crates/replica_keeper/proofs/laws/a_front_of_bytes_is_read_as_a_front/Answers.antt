use Rattle.replica_keeper.proofs.Left.{prefix_front}
use Rattle.replica_keeper.proofs.laws.a_front_of_bytes_is_read_as_a_front.Goals as goal

pub returns : goal.returns
returns c = prefix_front
