use Rattle.std.proofs.Common.{◌≡◌, ◌+◌, ◌^◌, ◌≤◌, length, sym, ap, ◌∙◌, inl, inr, arith}
use Rattle.std.specs.Option.{option_map}
use Rattle.std.proofs.lemmas.Bool.{cases_lt}
use Rattle.op_base.specs.Timestamp.{entry}
use Rattle.op_base.specs.Message.{id_of}
use Rattle.op_base.specs.declared.tag.MessageId.{MessageId}
use Rattle.causal_buffer.specs.Queue.{messages, is_ready}
use Rattle.causal_buffer.proofs.Kept.{queue_ready_by_id, queue_none_ready, can_be_told}
use Rattle.causal_buffer.proofs.queue.Queue.next_ready.Goals as goal
use Rattle.causal_buffer.proofs.queue.Queue.next_ready.Goals.{After-is_ready}
use Rattle.causal_buffer.proofs.Watched.{told_waits}
use Rattle.std.specs.Bool.{then_some}
use Rattle.std.specs.List.{find}

-- the count has no number after it
pub returns-in_err-seq-clause-ready : goal.returns-in_err-seq-clause-ready
returns-in_err-seq-clause-ready c =
    let counts = c.args.counts.now in
    let high : 2 ^ 32 ≤ entry counts c.args.member + 1 = elim (cases_lt (c.at.result + 1) (2 ^ 32)) [ inl l ↦ absurd (c.in_err-seq.ensures l) | inr past ↦ omega (arith, past, c.at.ensures) ] in
    c.from_residual.ensures ∙ sym (ap (option_map id_of) (queue_none_ready (length counts) counts c.args.member c.args.self.now c.requires.queue high))

-- what is found of the next message is what is told of its id
found_by_id : (c : After-is_ready) → then_some c.is_ready.result (record { origin = c.args.member; seq = c.in_ok-seq.seq }) ≡ option_map id_of (find (is_ready (length c.args.counts.now) c.args.counts.now c.args.member) (messages c.args.self.now))
found_by_id c =
    let counts = c.args.counts.now in
    let q = c.args.self.now in
    let id : MessageId = record { origin = c.args.member; seq = c.in_ok-seq.seq } in
    can_be_told (length counts) counts id (messages q) c.is_ready.result c.is_ready.ensures.ready
    ∙ sym (ap (option_map id_of) (queue_ready_by_id (length counts) counts id q c.requires.queue (omega (arith, c.in_ok-seq.ensures, c.at.ensures))))

pub returns-then-is_ready-clause-ready : goal.returns-then-is_ready-clause-ready
returns-then-is_ready-clause-ready c =
    let id : MessageId = record { origin = c.args.member; seq = c.in_ok-seq.seq } in
    sym (ap (λ b. then_some b id) c.if-is_ready.true) ∙ found_by_id (goal.at.returns-then-is_ready-clause-ready c).After-is_ready

pub returns-clause-ready : goal.returns-clause-ready
returns-clause-ready c =
    let id : MessageId = record { origin = c.args.member; seq = c.in_ok-seq.seq } in
    sym (ap (λ b. then_some b id) c.if-is_ready.false) ∙ found_by_id (goal.at.returns-clause-ready c).After-is_ready

pub returns-clause-waits : goal.returns-clause-waits
returns-clause-waits c =
    let told = c.is_ready.ensures in
    told_waits c.args.member c.in_ok-seq.seq c.args.counts.now c.lower.new.awaited c.is_ready.new.self told.kept told.wait (omega (arith, c.in_ok-seq.ensures, c.at.ensures)) (told.told c.if-is_ready.false) c.lower.ensures.known
