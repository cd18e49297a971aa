use Rattle.std.proofs.Common.{rules, arith}
use Rattle.world.proofs.Entrants.{can_enter, one_enters, last_enters}
use Rattle.world.proofs.regrouping.enter_all.Goals as goal

pub enter-requires-clause-place : goal.enter-requires-clause-place
enter-requires-clause-place c =
    let before = c.args.nodes.now.items in
    let last = last_enters c.args.n c.loop-q.q before c.loop-q.entrants.items c.take_last.new.self.items c.take_last.result (omega (arith, c.loop-q-test.true)) c.loop-q.invariant.1 c.take_last.ensures.items in
    can_enter c.args.n before c.loop-q.q c.loop-q.nodes.items c.loop-q.invariant.0 c.take_last.result c.requires.ready last.0

pub loop-q-preserved : goal.loop-q-preserved
loop-q-preserved c =
    let before = c.args.nodes.now.items in
    let last = last_enters c.args.n c.loop-q.q before c.loop-q.entrants.items c.take_last.new.self.items c.take_last.result (omega (arith, c.loop-q-test.true)) c.loop-q.invariant.1 c.take_last.ensures.items in
    let entered = one_enters c.args.n before c.loop-q.q c.loop-q.nodes.items c.loop-q.invariant.0 c.enter.new.nodes.items c.enter.ensures.others c.take_last.result last.0 c.enter.ensures.count c.enter.ensures.here in
    (entered, last.1, search rules)
