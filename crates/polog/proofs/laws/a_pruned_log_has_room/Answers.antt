use Rattle.polog.proofs.Standing.{has-room}
use Rattle.polog.proofs.laws.a_pruned_log_has_room.Goals as goal

pub returns : goal.returns
returns c keeps covers n w me ms m log inside some chapter kept stands room = has-room keeps covers n me ms w m log inside some chapter kept stands room
