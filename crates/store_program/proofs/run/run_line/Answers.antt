use Rattle.std.proofs.Common.{◌∷◌, ◌++◌, [], ℕ, List, subst}
use Rattle.store_program.specs.Feeding.{GoesOn}
use Rattle.store_program.specs.Run.{TookFront}
use Rattle.store_program.proofs.Going.{goes_headless, goes_without_memory, goes_written}
use Rattle.store_program.proofs.run.run_line.Goals as goal

pub returns-in-Err-BadHeader-clause-goes : goal.returns-in-Err-BadHeader-clause-goes
returns-in-Err-BadHeader-clause-goes g c = λ done old before goes.
    goes_headless _ done _ _ old _ before _ goes (c.in-Err-BadHeader.ensures.bad_header done goes.stands c.in-Err-BadHeader.field-0-is)

pub returns-in-Err-NoMemory-clause-goes : goal.returns-in-Err-NoMemory-clause-goes
returns-in-Err-NoMemory-clause-goes g c = λ done old before goes.
    goes_without_memory _ done _ _ old _ _ before _ _ _ c.give_up.ensures.status goes
    (subst (λ (out : List ℕ). TookFront old (g.K.Sink.held c.give_up.new.sink) (goes.written ++ out)) c.in-Err-NoMemory.ensures.err (c.give_up.ensures.front old goes.written goes.took))

pub returns-clause-goes : goal.returns-clause-goes
returns-clause-goes g c = λ done old before goes.
    let now : GoesOn c.end_line.new.self.stage (done ++ _ ∷ []) c.end_line.new.out old (g.K.Sink.held c.args.sink.now) before (g.K.Sink.faults c.args.sink.now) = record {
      stands = c.in-Ok.ensures.stands done goes.stands;
      written = goes.written;
      took = goes.took;
      steady = goes.steady;
      text = c.in-Ok.ensures.text done goes.written goes.stands goes.text;
    } in
    goes_written c.flush.result _ _ _ _ old _ _ before _ _ now c.flush.ensures.empty
    (c.flush.ensures.ok old goes.written goes.took) (c.flush.ensures.front old goes.written goes.took) c.flush.ensures.some c.flush.ensures.steady c.flush.ensures.fault c.flush.ensures.status
