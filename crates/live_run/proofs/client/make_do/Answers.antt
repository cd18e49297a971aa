use Rattle.std.proofs.Common.{[], ◌∷◌, ◌++◌, refl, ap, ◌∙◌}
use Rattle.script_lang.specs.declared.live.LiveCommand.TheVariants.{Do}
use Rattle.live_run.proofs.Making.{done_more}
use Rattle.live_run.proofs.client.make_do.Goals as goal

pub returns-clause-made : goal.returns-clause-made
returns-clause-made g c = λ number commands is.
    done_more c.args.node.now commands c.args.desk.now.done is c.send.new.desk.done.pass (Do number c.args.update.now) c.in_ok-told.told (c.in_ok-told.ensures.made number)
    (record { told = c.push.new.self; pass = c.send.new.desk.done.pass }) refl
    (c.in_ok-push.ensures.items ∙ ap (λ told. told.items ++ c.in_ok-told.told ∷ []) c.in_ok-told.ensures.told)
