use Rattle.std.proofs.Common.{rules, ◌+◌, ◌∙◌, ap}
use Rattle.thread_tests.proofs.mails.four_threads_lose_nothing_and_take_nothing_twice.Goals as goal

pub loop-job-preserved : goal.loop-job-preserved
loop-job-preserved g c =
    let was = c.loop-job.invariant in
    let step = c.in-Some.ensures.steps in
    (c.join.ensures.of ∙ was.0, ap (λ s. s.number) c.join.ensures.joined ∙ was.1, λ k d below. let h = was.2 (k + 1) d in grind rules)
