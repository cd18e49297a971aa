use Rattle.std.proofs.Common.{◌≡◌, ◌-◌, ◌<◌, ◌≤◌, ℕ, get_or}
use Rattle.polog.specs.declared.marks.Stamp.{Stamp}
use Rattle.polog.proofs.marks.block_marked.Given as goal

abbrev pub invariant-loop-at : goal.invariant-loop-at
invariant-loop-at l = record {
  least : l.from ≤ l.at;
  most : l.at ≤ l.to;
  passed : (k : ℕ) (d : Stamp) → l.from ≤ k → k < l.at → (get_or l.stamps k d).mark ≡ l.mark → ⊥;
}

abbrev pub decreases-loop-at : goal.decreases-loop-at
decreases-loop-at l = l.to - l.at
