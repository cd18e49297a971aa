use Rattle.std.proofs.Common.{ℕ, arith, length-take, length-drop, ◌∙◌}
use Rattle.store_io.proofs.BytesLemmas.{Took-more}
use Rattle.store_io.proofs.traits.write_whole.Goals as goal

pub loop-done-preserved : goal.loop-done-preserved
loop-done-preserved g c = record {
  within = omega (arith, length-take {A = ℕ}, length-drop {A = ℕ}, c.in_ok-done.ensures.within.1);
  took = Took-more _ _ _ c.args.piece.now _ _ c.loop-done.invariant.took c.in_ok-done.ensures.appended;
  steady = c.in_ok-done.ensures.steady ∙ c.loop-done.invariant.steady;
}
