use Rattle.std.proofs.Common.{◌++◌, List, map, refl, sym, subst, ap, ◌∙◌}
use Rattle.replica_lock.specs.Turns.{NotedNode}
use Rattle.world_model.specs.Journals.{world_of_journals}
use Rattle.live_run.specs.Ended.{IsRunOf, notes_of_each}
use Rattle.live_run.specs.Inputs.{commands_in}
use Rattle.live_run.specs.Limits.{live_limit}
use Rattle.live_run.specs.Texts.{live_text}
use Rattle.live_run.specs.declared.told.Told.{Told}
use Rattle.live_run.proofs.Lines.{on_ok}
use Rattle.live_run.proofs.mode.put_run.Goals as goal

pub settle_run-requires-clause-ended : goal.settle_run-requires-clause-ended
settle_run-requires-clause-ended g c = (c.args.w, c.requires.window, c.in_ok-ran.ensures)

pub put_settled-requires-clause-run : goal.put_settled-requires-clause-run
put_settled-requires-clause-run g c = (
  c.args.w,
  subst (λ (p : List (List Told) × List NotedNode). IsRunOf c.args.plan.now.n c.args.w c.args.plan.now.clients (commands_in c.args.lines.now) p.0 p.1) (λ i. (map (λ ts. ts.items) (sym c.as_slice.ensures.value i), sym c.as_slice-2.ensures.value i))
      (c.in_ok-told.ensures c.args.w c.requires.window c.in_ok-ran.ensures),
)

pub returns-clause-text : goal.returns-clause-text
returns-clause-text g c =
    let n = c.args.plan.now.n in
    let told = map (λ ts. ts.items) c.in_ok-told.field-0.told.items in
    let journals = notes_of_each c.in_ok-told.field-0.nodes.items in
    let text_of = λ (nodes : List NotedNode) (ts : List (List Told)). live_text n c.args.lines.now (world_of_journals n c.args.w live_limit (notes_of_each nodes)) ts (notes_of_each nodes) in
    on_ok c.put_settled.result (λ is. (
      text_of c.in_ok-told.field-0.nodes.items told,
      is ∙ ap (λ ts. c.args.out.now ++ text_of c.as_slice-2.result.now ts) (ap (map (λ ts. ts.items)) c.as_slice.ensures.value)
          ∙ ap (λ nodes. c.args.out.now ++ text_of nodes told) c.as_slice-2.ensures.value,
      record { told = told; journals = journals; run = (c.in_ok-told.ensures c.args.w c.requires.window c.in_ok-ran.ensures).run; is = refl },
    )) (c.put_settled.ensures.ok c.args.w)
