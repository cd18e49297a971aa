use Rattle.std.proofs.Common.{◌≡◌, ℕ, ◌<◌, length}
use Rattle.op_base.specs.Timestamp.{entry}
use Rattle.stability_matrix.specs.Rows.{column_of, noted}
use Rattle.stability_matrix.proofs.Minimums.{IsLeastBeside}
use Rattle.stability_matrix.proofs.columns.least_with.Given as goal

abbrev pub invariant-loop-y : goal.invariant-loop-y
invariant-loop-y l = record {
  members : length l.least ≡ length l.rows;
  so_far : (x : ℕ) → x < length l.rows → IsLeastBeside (column_of (noted l.me l.origin l.tag l.rows) x) l.me l.origin (entry l.least x) l.y;
}
