use Rattle.std.proofs.Common.{option_copied}
use Rattle.stable_state.proofs.Pending.{does_put_in, any_ahead, any_behind}
use Rattle.stable_state.proofs.items.put_in_near.Goals as goal

pub returns-in-Some-clause-some : goal.returns-in-Some-clause-some
returns-in-Some-clause-some c = any_ahead (does_put_in c.args.object.now (option_copied c.args.value)) c.args.entries.now c.args.near c.in-Some.ensures.some

pub returns-in-Some-put_in_last-clause-some : goal.returns-in-Some-put_in_last-clause-some
returns-in-Some-put_in_last-clause-some c = any_behind (does_put_in c.args.object.now (option_copied c.args.value)) c.args.entries.now c.args.near _ c.in-None.ensures.some c.in-Some-put_in_last.ensures.some

pub returns-in-None-put_in_last-clause-some : goal.returns-in-None-put_in_last-clause-some
returns-in-None-put_in_last-clause-some c = any_behind (does_put_in c.args.object.now (option_copied c.args.value)) c.args.entries.now c.args.near _ c.in-None.ensures.some c.in-None-put_in_last.ensures.some
