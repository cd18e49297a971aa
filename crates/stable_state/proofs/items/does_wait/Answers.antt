use Rattle.stable_state.proofs.Pending.{waits_for_entry}
use Rattle.stable_state.proofs.items.does_wait.Goals as goal

pub returns-in-Some-clause-waits : goal.returns-in-Some-clause-waits
returns-in-Some-clause-waits c = waits_for_entry c.args.item.now _ c.args.entries.now _ c.as_ref.ensures.value c.if-not-can_lose_mark.ensures c.in-Some.ensures.some

pub returns-in-None-clause-waits : goal.returns-in-None-clause-waits
returns-in-None-clause-waits c = waits_for_entry c.args.item.now _ c.args.entries.now _ c.as_ref.ensures.value c.if-not-can_lose_mark.ensures c.in-None.ensures.some
