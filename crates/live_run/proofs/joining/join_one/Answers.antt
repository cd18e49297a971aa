use Rattle.live_run.proofs.Joins.{pass_of, one_back, one_taken}
use Rattle.live_run.proofs.joining.join_one.Goals as goal

pub returns-clause-out : goal.returns-clause-out
returns-clause-out c = λ rest are.
    one_back c.args.nodes.now c.args.openers.now c.args.back rest c.index-openers-at.result (pass_of c.args.back) c.join.new.opener c.requires.back.inside c.join.ensures are

pub returns-clause-taken : goal.returns-clause-taken
returns-clause-taken c =
    let out = c.requires.out in
    one_taken c.args.nodes.now c.args.openers.now c.args.back out.0 c.index-openers-at.result c.join.new.opener c.requires.back.inside c.join.ensures out.1
