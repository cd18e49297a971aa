use Rattle.std.proofs.Common.{ap, ◌∙◌}
use Rattle.stability_matrix.specs.Rows.{stable_of}
use Rattle.stability_matrix.proofs.Standing.{stable_of-known}
use Rattle.stability_matrix.proofs.matrix.Matrix.stable_counts.Goals as goal

pub returns-clause-known : goal.returns-clause-known
returns-clause-known c = λ n me messages stands.
    c.self.invariant.least ∙ ap (λ known. stable_of known.rows) c.self.view_is ∙ ap stable_of stands.known ∙ stable_of-known n me messages
