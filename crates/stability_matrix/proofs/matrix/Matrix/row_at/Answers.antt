use Rattle.std.proofs.Common.{◌<◌, [], length, length-take, ap, sym, ◌∙◌, arith}
use Rattle.std.proofs.lemmas.List.{get_or_default, get_or-take}
use Rattle.stability_matrix.specs.Fields.{rows_of}
use Rattle.stability_matrix.specs.Rows.{row_of}
use Rattle.stability_matrix.proofs.Standing.{get_or-known, length-known}
use Rattle.stability_matrix.proofs.matrix.Matrix.row_at.Goals as goal

pub returns-clause-known : goal.returns-clause-known
returns-clause-known c = λ n me messages stands.
    let rows = c.self.inside.rows in
    let within : c.args.y < length (rows_of c.self.inside) = omega (arith, c.requires, ap (λ known. length known.rows) c.self.view_is) in
    let few : c.args.y < c.self.inside.n = omega (arith, within, length-take c.self.inside.n rows, c.self.invariant.room, c.self.invariant.few) in
    get_or_default rows c.args.y c.index-self-y.result [] (omega (arith, few, c.self.invariant.room, c.self.invariant.few))
    ∙ sym (get_or-take c.self.inside.n rows c.args.y [] few) ∙ ap (λ known. row_of known.rows c.args.y) c.self.view_is
    ∙ ap (λ known. row_of known c.args.y) stands.known
    ∙ get_or-known n me messages c.args.y [] (omega (arith, c.requires, ap length stands.known, length-known n me messages))
