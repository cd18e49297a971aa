use Rattle.std.proofs.Common.{ap, sym, ◌∙◌, ◌≡◌, option_copied}
use Rattle.op_base.specs.Object.{same_object}
use Rattle.causal_model.specs.Parts.{puts, takes}
use Rattle.part_queries.specs.declared.marks.Marks.{Marks}
use Rattle.part_queries.proofs.Logged.{mark_of_same, mark_of_other}
use Rattle.part_queries.proofs.membership.marks_with.Goals as goal
use Rattle.part_queries.proofs.membership.marks_with.Goals.{then-is_same, else-is_same}

pub loop-entry-preserved : goal.loop-entry-preserved
loop-entry-preserved c =
    let value = option_copied c.args.value in
    let e = c.entry-item.result in
    let same : c.is_same.result ≡ same_object e.update.object c.args.object.now = c.is_same.ensures ∙ ap (λ o. same_object o c.args.object.now) c.object.ensures in
    let put = mark_of_same c.args.cell.on c.args.object.now (puts value) c.args.entries.now c.loop-entry.entry-index e c.loop-entry-test.true c.entry-item.is c.loop-entry.marks.put c.loop-entry.invariant.put in
    let taken = mark_of_same c.args.cell.off c.args.object.now (takes value) c.args.entries.now c.loop-entry.entry-index e c.loop-entry-test.true c.entry-item.is c.loop-entry.marks.taken c.loop-entry.invariant.taken in
    let kept = mark_of_other c.args.cell.on c.args.object.now (puts value) c.args.entries.now c.loop-entry.entry-index e c.loop-entry-test.true c.entry-item.is c.loop-entry.marks.put c.loop-entry.invariant.put in
    let stays = mark_of_other c.args.cell.off c.args.object.now (takes value) c.args.entries.now c.loop-entry.entry-index e c.loop-entry-test.true c.entry-item.is c.loop-entry.marks.taken c.loop-entry.invariant.taken in
    elim c.if-is_same.branch [
      | then-is_same w ↦ record {
        put = ap (λ (m : Marks). m.put) w.marks-is ∙ put w.puts.result (sym same ∙ w.if-is_same.true) (w.puts.ensures ∙ ap (puts value) w.act.ensures);
        taken = ap (λ (m : Marks). m.taken) w.marks-is ∙ taken w.takes.result (sym same ∙ w.if-is_same.true) (w.takes.ensures ∙ ap (takes value) w.act-then-is_same.ensures);
      }
      | else-is_same w ↦ record {
        put = ap (λ (m : Marks). m.put) w.marks-is ∙ kept (sym same ∙ w.if-is_same.false);
        taken = ap (λ (m : Marks). m.taken) w.marks-is ∙ stays (sym same ∙ w.if-is_same.false);
      }
    ]
