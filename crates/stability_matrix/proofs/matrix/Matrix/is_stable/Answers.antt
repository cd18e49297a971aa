use Rattle.std.proofs.Common.{length, ap, sym, ◌∙◌, arith}
use Rattle.op_base.specs.Timestamp.{covers}
use Rattle.causal_model.specs.Stability.{stable_vector}
use Rattle.stability_matrix.specs.Fields.{rows_of}
use Rattle.stability_matrix.specs.Rows.{stable_of}
use Rattle.stability_matrix.proofs.Entries.{length-stable_of}
use Rattle.stability_matrix.proofs.Standing.{stable_of-known}
use Rattle.stability_matrix.proofs.matrix.Matrix.is_stable.Goals as goal

pub covers_id-requires : goal.covers_id-requires
covers_id-requires c =
    omega (arith, c.requires, ap length c.self.invariant.least, length-stable_of (rows_of c.self.inside), ap (λ known. length known.rows) c.self.view_is)

pub returns-clause-known : goal.returns-clause-known
returns-clause-known c = λ n me messages m stands id.
    c.covers_id.ensures
    ∙ ap (λ tag. covers tag c.args.id) (c.self.invariant.least ∙ ap (λ known. stable_of known.rows) c.self.view_is ∙ ap stable_of stands.known ∙ stable_of-known n me messages)
    ∙ ap (covers (stable_vector n me messages)) (sym id)
