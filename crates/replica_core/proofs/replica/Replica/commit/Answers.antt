use Rattle.replica_core.proofs.Bounds.{is_bounded}
use Rattle.replica_core.proofs.Own.{draft_fits, draft_is_carried, draft_is_state_of}
use Rattle.replica_core.proofs.Stands.{unchanged_stands}
use Rattle.replica_core.proofs.replica.Replica.commit.Goals as goal

pub commit_reserved-requires : goal.commit_reserved-requires
commit_reserved-requires c = record { ready = c.in_ok-room.ensures.ready }

pub returns-clause-stands : goal.returns-clause-stands
returns-clause-stands c = λ s stands.
    let r = c.args.self.now in
    let new = c.reserve_commit.new.self in
    let same = c.reserve_commit.ensures.unchanged in
    c.commit_reserved.ensures.stands s (unchanged_stands r new s same stands) (draft_is_state_of r c.args.message c.requires.draft new same.settings s stands)

pub returns-in_err-room-clause-fits : goal.returns-in_err-room-clause-fits
returns-in_err-room-clause-fits c = draft_fits c.args.self.now c.args.message c.requires.draft

pub returns-in_err-room-clause-carried : goal.returns-in_err-room-clause-carried
returns-in_err-room-clause-carried c = draft_is_carried c.args.self.now c.args.message c.requires.draft

pub returns-in_err-room-clause-bounded : goal.returns-in_err-room-clause-bounded
returns-in_err-room-clause-bounded c = is_bounded _

pub returns-clause-fits : goal.returns-clause-fits
returns-clause-fits c = draft_fits c.args.self.now c.args.message c.requires.draft

pub returns-clause-carried : goal.returns-clause-carried
returns-clause-carried c = draft_is_carried c.args.self.now c.args.message c.requires.draft

pub returns-clause-bounded : goal.returns-clause-bounded
returns-clause-bounded c = is_bounded _
