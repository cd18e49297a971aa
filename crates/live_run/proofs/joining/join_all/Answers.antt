use Rattle.std.proofs.Common.{rules, ap, sym, ◌∙◌, ◌+◌}
use Rattle.std.specs.List.{slice_index_or}
use Rattle.std.specs.Vec.Iter.{into_iter_items}
use Rattle.live_run.specs.Joining.{taken_back}
use Rattle.live_run.proofs.joining.join_all.Goals as goal

pub loop-back-preserved : goal.loop-back-preserved
loop-back-preserved c =
    let was = c.loop-back.invariant in
    let step = c.in-Some.ensures.steps in
    let left = into_iter_items c.next.new.self in (
      c.join_one.ensures.out left (search rules),
      (λ k d below. let h = was.1 (k + 1) d in grind rules),
      λ r e l.
          ap (taken_back r left) (c.join_one.ensures.taken r e l) ∙ sym (ap (λ backs. taken_back r backs (slice_index_or c.loop-back.openers r e)) step.0) ∙ was.2 r e l,
    )
