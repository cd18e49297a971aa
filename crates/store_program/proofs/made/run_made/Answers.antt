use Rattle.std.proofs.Common.{◌∙◌, ℕ, List, subst}
use Rattle.store_program.specs.Run.{TookFront}
use Rattle.store_program.proofs.Going.{front_taken}
use Rattle.store_program.proofs.made.run_made.Goals as goal

pub returns : goal.returns
returns g c = (
  c.in-Err.ensures.fault,
  subst (λ (text : List ℕ). TookFront (g.K.Sink.held c.args.sink.now) (g.K.Sink.held c.write_whole.new.sink) text) (c.as_slice.ensures ∙ c.in-Ok.ensures)
      (front_taken _ _ _ c.in-Err.ensures.prefix),
)
