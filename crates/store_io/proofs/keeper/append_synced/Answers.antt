use Rattle.std.proofs.Common.{◌++◌, length, ap, sym, ◌∙◌, arith}
use Rattle.std.proofs.Math.Seq.{take-length}
use Rattle.store_io.proofs.keeper.append_synced.Goals as goal

pub returns-clause-front : goal.returns-clause-front
returns-clause-front g c =
    (length c.args.piece.now, omega arith, c.sync.ensures.held ∙ c.in_ok-append.ensures.appended ∙ ap (λ piece. g.K.Keeper.held c.args.keeper.now ++ piece) (sym (take-length c.args.piece.now)))
