use Rattle.polog.proofs.Standing.{stripping-is}
use Rattle.polog.proofs.laws.what_is_logged_can_be_stripped.Goals as goal

pub returns : goal.returns
returns c keeps covers n w me ms m stable log chapter now stands = stripping-is keeps covers n me ms w m log stable chapter now stands
