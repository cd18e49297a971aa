use Rattle.script_net.proofs.Honest.{scripts_are_honest, keep_scripts_are_honest, transcripts_are_fair}
use Rattle.script_net.proofs.laws.unforged_scripts_are_honest.Goals as goal

pub returns : goal.returns
returns c = record { worlds = scripts_are_honest; stops = keep_scripts_are_honest; fair = transcripts_are_fair }
