use Rattle.std.proofs.Common.{◌≡◌, ◌<◌, ℕ, false, get_or}
use Rattle.polog.specs.declared.marks.Stamp.{Stamp}
use Rattle.polog.proofs.marks.is_among.Given as goal

abbrev pub invariant-loop-stamp : goal.invariant-loop-stamp
invariant-loop-stamp l = l.found ≡ false → (k : ℕ) (d : Stamp) → k < l.stamp-index → (get_or l.stamps k d).mark ≡ l.mark → ⊥
