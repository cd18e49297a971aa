use Rattle.std.proofs.Common.{rules}
use Rattle.std.proofs.lemmas.Result.{on_ok_weaker, on_err_weaker}
use Rattle.workload.proofs.Puts.{begins_still}
use Rattle.workload.proofs.SortedCounts.{seen}
use Rattle.workload.proofs.Summed.{summed_up}
use Rattle.workload.proofs.summary.put_lines.Goals as goal

pub returns-clause-ok : goal.returns-clause-ok
returns-clause-ok c =
    let counts = seen c.in_ok-counts_of.field-0.entries in
    on_ok_weaker c.put_replies.result (λ put. summed_up c.args.script.now c.args.transcript.now c.args.out.now c.put_count.new.out c.put_counts-2.new.out c.put_replies.new.out
    c.in_ok-lines.lines.items c.in_ok-replies.replies.items c.last_lines.result.now c.last_lines-2.result.now counts
    c.in_ok-lines.ensures c.in_ok-replies.ensures (search rules) (search rules) (search rules) (search rules) c.in_ok-put_counts.ensures.ok put)
    c.put_replies.ensures.ok

pub returns-clause-err : goal.returns-clause-err
returns-clause-err c =
    on_err_weaker c.put_replies.result (λ begins.
    begins_still c.args.out.now _ c.put_count.new.out c.put_replies.new.out c.in_ok-put_count.ensures.ok
    (begins_still c.put_count.new.out _ c.put_counts-2.new.out c.put_replies.new.out c.in_ok-put_counts.ensures.ok begins))
    c.put_replies.ensures.err
