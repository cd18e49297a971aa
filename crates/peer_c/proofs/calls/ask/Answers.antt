use Rattle.std.proofs.Common.{subst, ◌∙◌}
use Rattle.peer_c.specs.Tells.{IsTold}
use Rattle.peer_c.proofs.calls.ask.Goals as goal

pub returns-in-Ok-clause-line : goal.returns-in-Ok-clause-line
returns-in-Ok-clause-line c = λ o is s stands other.
    subst (λ bytes. IsTold bytes c.args.buffer.now c.told.new.buffer c.told.new.count c.told.result) (c.as_slice.ensures ∙ c.in-Ok.ensures.line o is s stands) c.told.ensures
