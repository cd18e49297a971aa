use Rattle.std.proofs.Common.{◌≡◌, map, take}
use Rattle.op_base.specs.Message.{id_of}
use Rattle.causal_model.specs.Log.{message_of}
use Rattle.polog.specs.Rows.{live_rows}
use Rattle.polog.proofs.ids.numbered_ids.Given as goal

abbrev pub invariant-loop-at : goal.invariant-loop-at
invariant-loop-at l = l.ids.items ≡ map (λ r. (r.0, id_of (message_of r.1))) (live_rows (take l.at l.rows.rows))
