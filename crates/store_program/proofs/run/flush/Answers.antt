use Rattle.std.proofs.Common.{ℕ, List, subst}
use Rattle.store_io.specs.Bytes.{TookPrefix}
use Rattle.store_program.proofs.Going.{took_front}
use Rattle.store_program.proofs.run.flush.Goals as goal

pub returns-in-Err-clause-front : goal.returns-in-Err-clause-front
returns-in-Err-clause-front g c = λ old written took.
    took_front old _ _ written c.args.out.now took
    (subst (λ (text : List ℕ). TookPrefix (g.K.Sink.held c.args.sink.now) (g.K.Sink.held c.write_whole-written.new.sink) text) c.as_slice.ensures c.in-Err.ensures.prefix)
