use Rattle.std.proofs.Common.{ap, ◌∙◌, map, None, arith}
use Rattle.std.specs.Prelude.{◌+ℤ◌}
use Rattle.std.proofs.lemmas.Int.{ints}
use Rattle.std.proofs.lemmas.List.{take_all}
use Rattle.causal_model.specs.Items.{cell_in}
use Rattle.causal_model.specs.Log.{message_of}
use Rattle.causal_model.specs.Query.{total_of}
use Rattle.op_base.specs.declared.outcome.Answer.TheVariants.{Sum}
use Rattle.counter_types.proofs.Sums.{total_more, sum_is_answer}
use Rattle.counter_types.proofs.sum.count_sum.Goals as goal

pub loop-entry-preserved : goal.loop-entry-preserved
loop-entry-preserved g c =
    let more = total_more c.args.object.now c.args.entries.now c.loop-entry.entry-index c.entry-item.result c.loop-entry-test.true c.entry-item.is in
    record { sum = omega (arith, ints); small = (omega (arith, ints), omega (arith, ints)) }

pub returns-clause-of : goal.returns-clause-of
returns-clause-of g c = λ w h t parts.
    let object = c.args.object.now in
    let log = map message_of c.args.entries.now in
    let items = g.V.ItemView.items c.args.items.now in
    let all = take_all c.loop-entry.entry-index c.args.entries.now c.loop-entry-test.false in
    ap Sum (c.loop-entry.invariant.sum ∙ (λ k. (cell_in items object None).sum +ℤ total_of object (map (λ m. m.op) (map message_of (all k)))))
    ∙ sum_is_answer w h object log items t parts c.requires.kind
