use Rattle.std.proofs.Common.{◌++◌, length, map, ap, sym, ◌∙◌, rules}
use Rattle.std.proofs.lemmas.Slice.Zip.{zip_turn, zip_end}
use Rattle.workload.specs.Summary.{ended, told_reply}
use Rattle.workload.proofs.Puts.{begins_still, ended_more, replies_more, pairs_all}
use Rattle.workload.proofs.summary.put_replies.Goals as goal

pub loop-line-preserved : goal.loop-line-preserved
loop-line-preserved c =
    let line = c.in-Some.line.now in
    let reply = c.in-Some.reply.now in
    let turn = zip_turn c.args.lines.now c.args.replies.now c.loop-line.yielded c.into_iter-line-iterator.result c.loop-line.line-iterator c.next.new.self c.next.result (search rules) (search rules)
    c.loop-line.yielded_by (c.in-Some.line, c.in-Some.reply) c.in-Some.is c.next.ensures.steps in
    let more = replies_more (λ line. line.now) (λ reply. reply.now) c.args.lines.now c.args.replies.now c.loop-line.yielded (c.in-Some.line, c.in-Some.reply) line reply
    turn.0 turn.1 (turn.2 line) (turn.3 reply) in
    ended_more c.args.out.now c.loop-line.out c.put_reply.new.out _ (told_reply (line.now, reply.now)) c.loop-line.invariant c.in_ok-put_reply.ensures.ok
    ∙ ap (λ lines. c.args.out.now ++ ended lines) (sym more)

pub returns-in_err-put_reply-clause-err : goal.returns-in_err-put_reply-clause-err
returns-in_err-put_reply-clause-err c =
    let begins = begins_still c.args.out.now _ c.loop-line.out c.put_reply.new.out c.loop-line.invariant c.in_err-put_reply.ensures.err in
    search rules

pub returns-clause-ok : goal.returns-clause-ok
returns-clause-ok c =
    let done = zip_end c.args.lines.now c.args.replies.now c.loop-line.yielded c.into_iter-line-iterator.result c.loop-line.line-iterator c.next.new.self c.next.result (search rules) (search rules)
    c.loop-line.yielded_by c.in-None.is c.next.ensures.steps in
    c.loop-line.invariant ∙ ap (λ pairs. c.args.out.now ++ ended (map told_reply pairs)) (pairs_all (λ line. line.now) (λ reply. reply.now) c.args.lines.now c.args.replies.now (length c.loop-line.yielded) done)
