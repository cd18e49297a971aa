use Rattle.std.specs.Prelude.{◌≡◌, ◌++◌, OnOk}
use Rattle.script_net.specs.Runs.{ShowsAny}
use Rattle.script_net.specs.Transcript.{text_of_line, world_of_line}
use Rattle.script_net.specs.declared.runner.AnyWorld.TheVariants.{Keep}
use Rattle.script_net.proofs.AnyWorlds.{of_keep}
use Rattle.script_net.proofs.runner.run_line.Goals as goal

pub returns-in-Keep-clause-text : goal.returns-in-Keep-clause-text
returns-in-Keep-clause-text c =
    of_keep c.args.world.now c.in-Keep.world c.in-Keep.is (λ plain. OnOk c.run_keep_line.result (c.run_keep_line.new.out ≡ c.args.out.now ++ text_of_line plain c.args.line.now)) c.run_keep_line.ensures.text

pub returns-in-Keep-clause-world : goal.returns-in-Keep-clause-world
returns-in-Keep-clause-world c =
    of_keep c.args.world.now c.in-Keep.world c.in-Keep.is (λ plain. OnOk c.run_keep_line.result (ShowsAny (Keep c.run_keep_line.new.world) (world_of_line plain c.args.line.now))) c.run_keep_line.ensures.world
