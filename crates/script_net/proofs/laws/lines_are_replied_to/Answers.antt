use Rattle.script_net.proofs.Kept.{busy_is_exact, equal_events_answer_alike}
use Rattle.script_net.proofs.Replied.{commands_are_replied_to, keep_commands_are_replied_to}
use Rattle.script_net.proofs.laws.lines_are_replied_to.Goals as goal

pub returns : goal.returns
returns c = record { each = commands_are_replied_to; each_kept = keep_commands_are_replied_to; busy = busy_is_exact; answers = equal_events_answer_alike }
