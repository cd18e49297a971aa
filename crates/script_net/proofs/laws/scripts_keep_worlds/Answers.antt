use Rattle.script_net.proofs.Kept.{scripts_keep_worlds, members_are_asked, members_stay, logs_are_bounded}
use Rattle.script_net.proofs.laws.scripts_keep_worlds.Goals as goal

pub returns : goal.returns
returns c = record { worlds = scripts_keep_worlds; asked = members_are_asked; stay = members_stay; logs = logs_are_bounded }
