use Rattle.std.proofs.Common.{◌≡◌, ◌+◌, ◌-◌, None, take, drop, ap, subst, arith}
use Rattle.replica_keeper.specs.Replaying.{told_to, Replays}
use Rattle.replica_keeper.proofs.Steps.{untold_is_fault, has_read}
use Rattle.replica_keeper.proofs.reading.step.Goals as goal

pub returns-then-branch-clause-read : goal.returns-then-branch-clause-read
returns-then-branch-clause-read c =
    let bytes = c.args.bytes.now in let len = c.in-Whole.len in
    let content : take (4 + len - 4) (drop 4 bytes) ≡ take len (drop 4 bytes) = ap (λ k. take k (drop 4 bytes)) (omega arith) in
    has_read c.args.node.now c.replay_content.new.node bytes (take (4 + len - 4) (drop 4 bytes)) len c.in-Whole.ensures content (λ i. omega (arith, c.type_inv.bytes i))
    (subst (Replays c.args.node.now c.replay_content.new.node (take (4 + len - 4) (drop 4 bytes))) c.if-branch.true c.in_ok-replay_content-in-Whole.ensures.replays)

pub returns-else-branch-clause-read : goal.returns-else-branch-clause-read
returns-else-branch-clause-read c =
    let bytes = c.args.bytes.now in let len = c.in-Whole.len in let node = c.args.node.now in
    let content : take (4 + len - 4) (drop 4 bytes) ≡ take len (drop 4 bytes) = ap (λ k. take k (drop 4 bytes)) (omega arith) in
    let untold = subst (Replays node c.replay_content.new.node (take (4 + len - 4) (drop 4 bytes))) c.if-branch.false c.in_ok-replay_content-in-Whole.ensures.replays in
    λ most. untold_is_fault node bytes (take len (drop 4 bytes)) (drop len (drop 4 bytes)) most c.in-Whole.ensures.front (subst (λ t. told_to node t ≡ None) content untold)
