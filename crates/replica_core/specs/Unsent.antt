-- What is answered where no update can be sent.
use Rattle.causal_model.specs.declared.outcome.Local.{Local}
use Rattle.causal_model.specs.declared.outcome.Local.TheVariants as local
use Rattle.replica_core.specs.declared.sending.Unsent.{Unsent}
use Rattle.replica_core.specs.declared.sending.Unsent.TheVariants as unsent

-- the answer
abbrev pub told : Unsent → Local
told unsent.Busy = local.Busy
told unsent.End = local.End
