use Rattle.std.proofs.Common.{refl}
use Rattle.list_type.proofs.Listings.{stay_listed, stay_shown, same_at_each}
use Rattle.list_type.proofs.lists.Lists.reserve.Goals as goal

pub invariant_of-self : goal.invariant_of-self
invariant_of-self c =
    let old = c.args.self.now in
    let same = same_at_each old.rows c.reserve.new.self c.reserve.ensures.entries.2 in
    record { listed = stay_listed _ _ _ _ _ _ same (λ id. refl) refl old.listed }

pub invariant_of-self-in-Break-branch-2 : goal.invariant_of-self-in-Break-branch-2
invariant_of-self-in-Break-branch-2 c =
    let old = c.args.self.now in
    let same = same_at_each old.rows c.reserve.new.self c.reserve.ensures.entries.2 in
    record { listed = stay_listed _ _ _ _ _ _ same c.reserve-2.ensures.entries.2 refl old.listed }

pub invariant_of-self-2 : goal.invariant_of-self-2
invariant_of-self-2 c =
    let old = c.args.self.now in
    let same = same_at_each old.rows c.reserve.new.self c.reserve.ensures.entries.2 in
    record { listed = stay_listed _ _ _ _ _ _ same c.reserve-2.ensures.entries.2 c.reserve-3.ensures.rows old.listed }

pub returns-in_err-reserve-2-clause-kept : goal.returns-in_err-reserve-2-clause-kept
returns-in_err-reserve-2-clause-kept c =
    let old = c.args.self.now in
    stay_shown old.rows c.reserve.new.self old.chains old.chains (same_at_each old.rows c.reserve.new.self c.reserve.ensures.entries.2) refl

pub returns-clause-kept : goal.returns-clause-kept
returns-clause-kept c =
    let old = c.args.self.now in
    stay_shown old.rows c.reserve.new.self old.chains c.reserve-3.new.self (same_at_each old.rows c.reserve.new.self c.reserve.ensures.entries.2) c.reserve-3.ensures.rows
