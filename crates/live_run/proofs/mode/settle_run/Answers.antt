use Rattle.std.proofs.Common.{map}
use Rattle.live_run.specs.Ended.{AreApartIn, notes_of_each}
use Rattle.live_run.specs.Inputs.{commands_in}
use Rattle.live_run.proofs.Settled.{settled_is_run}
use Rattle.live_run.proofs.Settles.{legal_there}
use Rattle.live_run.proofs.Working.{replica_below}
use Rattle.live_run.proofs.mode.settle_run.Goals as goal

pub settle-requires : goal.settle-requires
settle-requires c =
    let ended = c.requires.ended.2 in
    (c.args.plan.now.n, c.requires.ended.0, record { some = c.requires.some; few = c.requires.few; wide = c.requires.ended.1; members = ended.members; journals = ended.run.journals_are })

pub returns : goal.returns
returns c = λ w wide ended.
    let n = c.args.plan.now.n in
    let old = c.args.ran.nodes.items in
    let new = c.in_ok-nodes.nodes.items in
    let apart : AreApartIn n w old = record { some = c.requires.some; few = c.requires.few; wide = wide; members = ended.members; journals = ended.run.journals_are } in
    let settled = c.in_ok-nodes.ensures.settled n w apart in
    record {
      run = settled_is_run n w c.args.plan.now.clients (commands_in c.args.lines.now) (map (λ ts. ts.items) c.args.ran.told.items) (notes_of_each old) (notes_of_each new) c.requires.some c.requires.few wide
          (λ k l. replica_below n c.args.plan.now.clients k c.args.lines.now c.requires.some c.requires.within) ended.run c.in_ok-nodes.ensures.grown (legal_there n w new settled.members) settled.still settled.settled;
      members = settled.members;
    }
