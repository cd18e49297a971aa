-- What comes of sending, where a message is told by its id alone.
use Rattle.std.specs.Prelude.{Bool, true, false}
use Rattle.op_base.specs.Message.{id_of}
use Rattle.causal_model.specs.declared.outcome.Local.{Local}
use Rattle.causal_model.specs.declared.outcome.Local.TheVariants as local
use Rattle.world.specs.declared.brief.Brief.{Brief}
use Rattle.world.specs.declared.brief.Brief.TheVariants as told

-- what came of sending, with the id of the message in its place
abbrev pub brief : Local → Brief
brief (local.Sent m) = told.Sent (id_of m)
brief local.Busy = told.Busy
brief local.End = told.End
brief local.NoMemory = told.NoMemory

-- whether a message was sent
abbrev pub is_sent_briefly : Brief → Bool
is_sent_briefly (told.Sent id) = true
is_sent_briefly answer = false
