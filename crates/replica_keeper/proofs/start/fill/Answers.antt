use Rattle.std.proofs.Common.{ℕ, ◌≡◌, Some, Result, Ok, Err, min, take, ap, subst, ◌∙◌}
use Rattle.store_io.specs.Keeping.{Leaves, LeavesEither}
use Rattle.replica_keeper.specs.Open.{settings_by}
use Rattle.world_model.specs.Records.{kept_fault}
use Rattle.replica_keeper.specs.Starting.{MayLeave}
use Rattle.replica_keeper.specs.declared.start.StartFault.{StartFault}
use Rattle.replica_keeper.specs.declared.start.StartFault.TheVariants.{BadNumbers, Damaged, KeeperFault, NoMemory}
use Rattle.replica_keeper.proofs.Moments.{weaker, goes_far}
use Rattle.replica_keeper.proofs.Opened.{same_settings}
use Rattle.replica_keeper.proofs.Starts.{may_leave, settle_leaves}
use Rattle.replica_keeper.proofs.start.fill.Goals as goal

abbrev place : {T : Type 0} → ℕ → Result T StartFault → ℕ
place at (Ok x) = at
place at (Err BadNumbers) = at
place at (Err (Damaged there)) = there
place at (Err KeeperFault) = at
place at (Err NoMemory) = at

pub returns-in-Err-NoMemory-clause-any_moment : goal.returns-in-Err-NoMemory-clause-any_moment
returns-in-Err-NoMemory-clause-any_moment g c =
    let k = c.args.keeper.now in let of = settings_by c.args.node.now in let held = g.K.Keeper.held k in let synced = g.K.Keeper.synced k in
    let read = weaker g.K.Keeper.moment g.K.Keeper.left_since k c.read_all.new.keeper (Leaves held synced) (MayLeave of held synced) c.read_all.ensures.any_moment (λ left l. may_leave of held synced left l) in
    read

pub returns-in-Err-Failed-clause-any_moment : goal.returns-in-Err-Failed-clause-any_moment
returns-in-Err-Failed-clause-any_moment g c =
    let k = c.args.keeper.now in let of = settings_by c.args.node.now in let held = g.K.Keeper.held k in let synced = g.K.Keeper.synced k in
    let read = weaker g.K.Keeper.moment g.K.Keeper.left_since k c.read_all.new.keeper (Leaves held synced) (MayLeave of held synced) c.read_all.ensures.any_moment (λ left l. may_leave of held synced left l) in
    read

pub returns-in-Err-NoMemory-replay-clause-any_moment : goal.returns-in-Err-NoMemory-replay-clause-any_moment
returns-in-Err-NoMemory-replay-clause-any_moment g c =
    let k = c.args.keeper.now in let of = settings_by c.args.node.now in let held = g.K.Keeper.held k in let synced = g.K.Keeper.synced k in
    let read = weaker g.K.Keeper.moment g.K.Keeper.left_since k c.read_all.new.keeper (Leaves held synced) (MayLeave of held synced) c.read_all.ensures.any_moment (λ left l. may_leave of held synced left l) in
    read

pub returns-in-Err-Damaged-clause-any_moment : goal.returns-in-Err-Damaged-clause-any_moment
returns-in-Err-Damaged-clause-any_moment g c =
    let k = c.args.keeper.now in let of = settings_by c.args.node.now in let held = g.K.Keeper.held k in let synced = g.K.Keeper.synced k in
    let read = weaker g.K.Keeper.moment g.K.Keeper.left_since k c.read_all.new.keeper (Leaves held synced) (MayLeave of held synced) c.read_all.ensures.any_moment (λ left l. may_leave of held synced left l) in
    read

pub returns-in-Err-Damaged-clause-damaged : goal.returns-in-Err-Damaged-clause-damaged
returns-in-Err-Damaged-clause-damaged g c =
    let of = settings_by c.args.node.now in
    let at = c.in-Err-Damaged.at in
    let told = c.in-Err-Damaged.ensures.damaged at (ap Err c.in-Err-Damaged.field-0-is) in
    λ there e. subst (λ bytes. kept_fault of bytes ≡ Some at) (c.as_slice.ensures.value ∙ c.in-Ok.ensures.bytes) told ∙ ap Some (ap (place at) e)

pub returns-in-Ok-settle-clause-any_moment : goal.returns-in-Ok-settle-clause-any_moment
returns-in-Ok-settle-clause-any_moment g c =
    let k = c.args.keeper.now in let of = settings_by c.args.node.now in let held = g.K.Keeper.held k in let synced = g.K.Keeper.synced k in
    let read = weaker g.K.Keeper.moment g.K.Keeper.left_since k c.read_all.new.keeper (Leaves held synced) (MayLeave of held synced) c.read_all.ensures.any_moment (λ left l. may_leave of held synced left l) in
    let there = c.read_all.new.keeper in let len = c.in-Ok-replay.len in
    goes_far g.K.Keeper.moment g.K.Keeper.left_since k there c.settle.new.keeper (MayLeave of held synced) (LeavesEither (g.K.Keeper.held there) (g.K.Keeper.synced there) (take len (g.K.Keeper.held there)) (min len (g.K.Keeper.synced there))) read c.settle.ensures.any_moment
    (λ left either. settle_leaves of c.replay.new.node c.as_slice.result.now held len synced left (c.as_slice.ensures.value ∙ c.in-Ok.ensures.bytes) (same_settings c.args.node.now c.replay.new.node c.replay.ensures.same.settings) c.in-Ok-replay.ensures.within c.in-Ok-replay.ensures.open c.in-Ok-replay.ensures.read
    (rw (c.read_all.ensures.held, c.read_all.ensures.synced) at either))

pub returns-clause-any_moment : goal.returns-clause-any_moment
returns-clause-any_moment g c =
    let k = c.args.keeper.now in let of = settings_by c.args.node.now in let held = g.K.Keeper.held k in let synced = g.K.Keeper.synced k in
    let read = weaker g.K.Keeper.moment g.K.Keeper.left_since k c.read_all.new.keeper (Leaves held synced) (MayLeave of held synced) c.read_all.ensures.any_moment (λ left l. may_leave of held synced left l) in
    let there = c.read_all.new.keeper in let len = c.in-Ok-replay.len in
    goes_far g.K.Keeper.moment g.K.Keeper.left_since k there c.settle.new.keeper (MayLeave of held synced) (LeavesEither (g.K.Keeper.held there) (g.K.Keeper.synced there) (take len (g.K.Keeper.held there)) (min len (g.K.Keeper.synced there))) read c.settle.ensures.any_moment
    (λ left either. settle_leaves of c.replay.new.node c.as_slice.result.now held len synced left (c.as_slice.ensures.value ∙ c.in-Ok.ensures.bytes) (same_settings c.args.node.now c.replay.new.node c.replay.ensures.same.settings) c.in-Ok-replay.ensures.within c.in-Ok-replay.ensures.open c.in-Ok-replay.ensures.read
    (rw (c.read_all.ensures.held, c.read_all.ensures.synced) at either))
