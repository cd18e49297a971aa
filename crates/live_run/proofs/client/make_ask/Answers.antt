use Rattle.std.proofs.Common.{[], ◌∷◌, ◌++◌, refl, ap, ◌∙◌}
use Rattle.script_lang.specs.declared.live.LiveCommand.TheVariants.{Ask}
use Rattle.live_run.proofs.Making.{done_more}
use Rattle.live_run.proofs.client.make_ask.Goals as goal

pub returns-clause-made : goal.returns-clause-made
returns-clause-made g c = λ number commands is.
    done_more c.args.node.now commands c.args.desk.now.done is c.ask.new.desk.done.pass (Ask number c.args.object.now) c.in_ok-told.told (c.in_ok-told.ensures.made number)
    (record { told = c.push.new.self; pass = c.ask.new.desk.done.pass }) refl
    (c.in_ok-push.ensures.items ∙ ap (λ told. told.items ++ c.in_ok-told.told ∷ []) c.in_ok-told.ensures.told)
