use Rattle.std.proofs.Common.{◌≡◌, [], ◌++◌, take, drop, ap, sym, ◌∙◌, arith}
use Rattle.polog.specs.Rows.{with_rows}
use Rattle.polog.proofs.Laid.{joined}
use Rattle.polog.proofs.placing.free_gone.Goals as goal

pub returns-else-swept : goal.returns-else-swept
returns-else-swept c =
    let old = c.args.rows.now in
    let kept = c.args.swept.kept in
    let none : kept ≡ c.args.swept.stand.end = omega (arith, c.requires.most, c.if-swept.false) in
    record {
      gap = [];
      free = tt;
      count = omega (arith, none);
      rows = ap (with_rows old) (sym (joined kept old.rows) ∙ ap (λ k. take kept old.rows ++ drop k old.rows) none);
    }
