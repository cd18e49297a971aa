use Rattle.std.proofs.Common.{◌∙◌, sym, arith}
use Rattle.world.proofs.Settles.{is_quiescent_where, isnt_quiescent_where, equal_counts_agree, size_of_shown}
use Rattle.world.proofs.world.World.is_quiescent.Goals as goal

pub returns : goal.returns
returns c plain shows = is_quiescent_where plain c.loop-r.r (omega (arith, size_of_shown c.args.self.now plain shows)) (c.loop-r.invariant plain shows)

pub returns-then-ne : goal.returns-then-ne
returns-then-ne c plain shows =
    isnt_quiescent_where plain c.loop-r.r (omega (arith, size_of_shown c.args.self.now plain shows))
    (λ e. equal_counts_agree c.seen.result c.seen-first.result (c.seen.ensures plain shows ∙ e ∙ sym (c.seen-first.ensures plain shows)) c.if-ne.ensures)
