use Rattle.std.proofs.Common.{◌≡◌, ◌++◌, map, ap, ◌∙◌, rules}
use Rattle.std.specs.Map.Iter.{deref_pair}
use Rattle.std.proofs.lemmas.Map.Iter.{iter_end}
use Rattle.workload.specs.Summary.{ended, count_line}
use Rattle.workload.proofs.SortedCounts.{seen}
use Rattle.workload.proofs.Puts.{begins_still}
use Rattle.workload.proofs.summary.put_counts.Goals as goal

pub returns-in_err-put_count-clause-err : goal.returns-in_err-put_count-clause-err
returns-in_err-put_count-clause-err c =
    let begins = begins_still c.args.out.now _ c.loop-word.out c.put_count.new.out c.loop-word.invariant c.in_err-put_count.ensures.err in
    search rules

pub returns-clause-ok : goal.returns-clause-ok
returns-clause-ok c =
    let whole : map deref_pair c.loop-word.yielded ≡ c.args.counts.now.entries = search (rules, iter_end) in
    c.loop-word.invariant ∙ ap (λ entries. c.args.out.now ++ ended (map count_line (seen entries))) whole
