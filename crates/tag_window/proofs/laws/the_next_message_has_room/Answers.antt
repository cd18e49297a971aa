use Rattle.tag_window.proofs.Nexts.{next_has_room}
use Rattle.tag_window.proofs.laws.the_next_message_has_room.Goals as goal

pub returns : goal.returns
returns c = next_has_room
