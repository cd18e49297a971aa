use Rattle.op_base.specs.declared.name.Kind.TheVariants.{AwSet}
use Rattle.workload.specs.Script.{drawn_kinds, questions_of}
use Rattle.workload.proofs.Lines.{lines_more}
use Rattle.workload.proofs.script.put_closing.Goals as goal

pub loop-place-preserved : goal.loop-place-preserved
loop-place-preserved c =
    let more = lines_more questions_of c.extend_from_slice.new.self drawn_kinds c.loop-place.place AwSet c.loop-place-test.true in
    rw (c.in_ok-put_questions.ensures, c.loop-place.invariant, c.kind_at.ensures) more
