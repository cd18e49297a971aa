use Rattle.std.proofs.Common.{◌≡◌, sym, ◌∙◌, map, option_copied}
use Rattle.causal_model.specs.Items.{cell_in}
use Rattle.causal_model.specs.Log.{message_of}
use Rattle.causal_model.specs.Parts.{is_in, has_by_parts}
use Rattle.causal_model.proofs.Answers.ObjectParts.{has_from_parts}
use Rattle.part_queries.proofs.membership.has.Goals as goal

pub returns-clause-of : goal.returns-clause-of
returns-clause-of g c = λ w h is parts.
    let object = c.args.object.now in
    let value = option_copied c.args.value in
    let log = map message_of c.args.entries.now in
    let items = g.V.ItemView.items c.args.items.now in
    let by_parts : c.is_in.result ≡ has_by_parts object.kind object (cell_in items object value) log value =
    c.is_in.ensures ∙ (λ i. is_in object.kind (c.marks_with.ensures.put i) (c.marks_with.ensures.taken i))
    ∙ (λ i. has_by_parts object.kind object (c.cell-cell.ensures i) log value) in
    by_parts ∙ sym (has_from_parts w h object log items is parts value)
