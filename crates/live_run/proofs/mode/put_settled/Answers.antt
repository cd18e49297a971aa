use Rattle.std.proofs.Common.{◌++◌, map, ap, ◌∙◌}
use Rattle.live_run.specs.Ended.{notes_of_each}
use Rattle.live_run.specs.Inputs.{commands_in}
use Rattle.live_run.specs.Limits.{live_limit}
use Rattle.live_run.specs.Texts.{live_text}
use Rattle.world_model.specs.Journals.{world_of_journals}
use Rattle.live_run.proofs.Lines.{on_ok, run_lines, run_replies}
use Rattle.live_run.proofs.Settles.{states_are}
use Rattle.live_run.proofs.mode.put_settled.Goals as goal

pub put_live_text-requires-clause-replies : goal.put_live_text-requires-clause-replies
put_live_text-requires-clause-replies c =
    run_replies (λ ts. ts.items) c.args.plan.now.n c.requires.run.0 c.args.plan.now.clients (commands_in c.args.lines.now) c.args.told.now (notes_of_each c.args.nodes.now) c.requires.run.1.run

pub put_live_text-requires-clause-notes : goal.put_live_text-requires-clause-notes
put_live_text-requires-clause-notes c =
    run_lines (λ j. j.now) c.args.plan.now.n c.requires.run.0 c.args.plan.now.clients (commands_in c.args.lines.now) (map (λ ts. ts.items) c.args.told.now) (notes_of_each c.args.nodes.now) c.as_slice.result.now c.requires.few c.requires.run.1.run
    (ap (map (λ j. j.now)) c.as_slice.ensures.value ∙ c.in_ok-journals.ensures)

pub returns-clause-ok : goal.returns-clause-ok
returns-clause-ok c = λ w.
    let plain = world_of_journals c.args.plan.now.n w live_limit (notes_of_each c.args.nodes.now) in
    let told = map (λ ts. ts.items) c.args.told.now in
    on_ok c.put_live_text.result (λ is. is ∙ ap (λ journals. c.args.out.now ++ live_text c.args.plan.now.n c.args.lines.now plain told journals) (ap (map (λ j. j.now)) c.as_slice.ensures.value ∙ c.in_ok-journals.ensures))
    (c.put_live_text.ensures.ok plain (states_are c.args.plan.now.n c.requires.run.0 live_limit c.args.nodes.now c.requires.run.1.members))
