use Rattle.replica_keeper.specs.Durably.{numbers}
use Rattle.replica_keeper.specs.Starting.{MayLeave}
use Rattle.replica_keeper.proofs.Moments.{started}
use Rattle.replica_keeper.proofs.Starts.{may_leave}
use Rattle.replica_keeper.proofs.durable.Durable.start.Goals as goal

pub returns-in-Err-BadNumbers-clause-any_moment_err : goal.returns-in-Err-BadNumbers-clause-any_moment_err
returns-in-Err-BadNumbers-clause-any_moment_err g c =
    let k = c.args.keeper in let of = numbers c.args.me c.args.n c.args.w c.args.limit in let held = g.K.Keeper.held k in let synced = g.K.Keeper.synced k in
    started g.K.Keeper.moment g.K.Keeper.left_since k (MayLeave of held synced) (λ left since. may_leave of held synced left (g.met.K.Keeper.only_now k left since))

pub returns-in-Err-NoMemory-clause-any_moment_err : goal.returns-in-Err-NoMemory-clause-any_moment_err
returns-in-Err-NoMemory-clause-any_moment_err g c =
    let k = c.args.keeper in let of = numbers c.args.me c.args.n c.args.w c.args.limit in let held = g.K.Keeper.held k in let synced = g.K.Keeper.synced k in
    started g.K.Keeper.moment g.K.Keeper.left_since k (MayLeave of held synced) (λ left since. may_leave of held synced left (g.met.K.Keeper.only_now k left since))
