use Rattle.honest_worlds.proofs.Commands.{opening_is_honest, commands_keep_honest, offering_keeps_honest}
use Rattle.honest_worlds.proofs.Regrouping.{regrouping_keeps_honest}
use Rattle.honest_worlds.proofs.laws.worlds_stay_honest.Goals as goal

pub returns : goal.returns
returns c = record { opening = opening_is_honest; commands = commands_keep_honest; regrouping = regrouping_keeps_honest; offering = offering_keeps_honest }
