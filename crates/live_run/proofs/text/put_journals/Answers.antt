use Rattle.std.proofs.Common.{[], ◌++◌, map, rules, ap, ◌∙◌}
use Rattle.live_run.specs.Texts.{journal_lines, journals_lines}
use Rattle.live_run.proofs.Texting.{member_more, value_at}
use Rattle.live_run.proofs.text.put_journals.Goals as goal

pub loop-r-preserved : goal.loop-r-preserved
loop-r-preserved c =
    let n = c.args.n in
    let r = c.loop-r.r in
    member_more (journals_lines n (map (λ j. j.now) c.args.journals.now)) r c.args.out.now c.loop-r.out c.put_journal.new.out c.loop-r.invariant
    (c.in_ok-put_journal.ensures.ok
    ∙ ap (λ notes. c.loop-r.out ++ journal_lines n r notes) (value_at (λ j. j.now) c.args.journals.now r c.index-journals-r.result [] (search rules) c.index-journals-r.is))
