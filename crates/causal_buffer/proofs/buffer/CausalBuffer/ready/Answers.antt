use Rattle.std.proofs.Common.{◌≡◌, ◌+◌, ◌^◌, ◌<◌, ◌≤◌, true, IsTrue, Contains, length, sym, ap, subst, ◌∙◌, inl, inr, arith}
use Rattle.std.specs.List.{find}
use Rattle.std.specs.Option.{option_map, option_to_list}
use Rattle.std.proofs.lemmas.Bool.{cases_lt}
use Rattle.std.proofs.lemmas.List.Elements.{All-contains}
use Rattle.op_base.specs.Timestamp.{entry}
use Rattle.op_base.specs.Message.{id_of, fits}
use Rattle.op_base.specs.declared.tag.MessageId.{MessageId}
use Rattle.causal_model.specs.Counts.{is_deliverable}
use Rattle.causal_model.specs.Early.{has_id}
use Rattle.causal_model.proofs.Theory.Finds.{found}
use Rattle.causal_buffer.specs.Buffer.{Buffer}
use Rattle.causal_buffer.specs.Queue.{messages, is_ready}
use Rattle.causal_buffer.proofs.Kept.{kept_at, ready_by_id, none_ready, next_is_told}
use Rattle.causal_buffer.proofs.buffer.CausalBuffer.ready.Goals as goal
use Rattle.causal_buffer.proofs.buffer.CausalBuffer.ready.Goals.{After-index-queue, After-get, In_ok-message}

has_queue : (c : After-index-queue) → c.args.member < length c.self.inside.queues.items
has_queue c = omega (arith, ap (λ (b : Buffer). b.n) c.self.view_is, c.self.invariant.count, c.requires.member)

-- the count has no number after it
pub returns-in_err-seq-clause-ready : goal.returns-in_err-seq-clause-ready
returns-in_err-seq-clause-ready c =
    let counts = c.args.counts.now in
    let high : 2 ^ 32 ≤ entry counts c.args.member + 1 = elim (cases_lt (c.at.result + 1) (2 ^ 32)) [ inl l ↦ absurd (c.in_err-seq.ensures l) | inr past ↦ omega (arith, past, c.at.ensures) ] in
    let none = none_ready c.self.inside.n c.self.inside.w c.self.inside.queues.items c.self.invariant.kept counts c.args.member c.index-queue.result.now (has_queue (goal.at.returns-in_err-seq-clause-ready c).After-index-queue) c.index-queue.ensures high in
    c.from_residual.ensures ∙ sym (ap (option_map id_of) (ap (λ (b : Buffer). find (is_ready b.n counts c.args.member) b.early) (sym c.self.view_is) ∙ none))

-- what can be delivered of the member is what is found by the id
by_id : (c : After-get) → find (is_ready c.args.self.now.n c.args.counts.now c.args.member) c.args.self.now.early
    ≡ find (is_ready c.self.inside.n c.args.counts.now c.args.member) (option_to_list (find (has_id (record { origin = c.args.member; seq = c.in_ok-seq.seq })) (messages c.index-queue.result.now)))
by_id c =
    let id : MessageId = record { origin = c.args.member; seq = c.in_ok-seq.seq } in
    ap (λ (b : Buffer). find (is_ready b.n c.args.counts.now c.args.member) b.early) (sym c.self.view_is)
    ∙ ready_by_id c.self.inside.n c.self.inside.w c.self.inside.queues.items c.self.invariant.kept c.args.counts.now id c.index-queue.result.now (has_queue (goal.at-After-get c).After-index-queue) c.index-queue.ensures (omega (arith, c.in_ok-seq.ensures, c.at.ensures))

pub returns-in_err-message-clause-ready : goal.returns-in_err-message-clause-ready
returns-in_err-message-clause-ready c =
    c.from_residual-in_err-message.ensures
    ∙ sym (ap (option_map id_of) (by_id (goal.at.returns-in_err-message-clause-ready c).After-get ∙ ap (λ o. find (is_ready c.self.inside.n c.args.counts.now c.args.member) (option_to_list o)) (sym c.in_err-message.ensures)))

-- the message is one of the queue, and has the id
held : (c : In_ok-message) → Contains (messages c.index-queue.result.now) c.in_ok-message.message.now × (has_id (record { origin = c.args.member; seq = c.in_ok-seq.seq }) c.in_ok-message.message.now ≡ true)
held c = found (has_id (record { origin = c.args.member; seq = c.in_ok-seq.seq })) (messages c.index-queue.result.now) c.in_ok-message.message.now (sym c.in_ok-message.ensures)

pub is_deliverable-requires : goal.is_deliverable-requires
is_deliverable-requires c =
    let at = goal.at.is_deliverable-requires c in
    let n = c.self.inside.n in
    let q = c.index-queue.result.now in
    let m = c.in_ok-message.message.now in
    let kept = kept_at n c.self.inside.w c.self.inside.queues.items c.self.invariant.kept c.args.member q (has_queue at.After-index-queue) c.index-queue.ensures in
    let fit : IsTrue (fits n m) = All-contains (λ z. IsTrue (fits n z)) (messages q) m kept.fit (held at.In_ok-message).0 in
    subst (λ k. IsTrue (fits k m)) (ap (λ (b : Buffer). b.n) c.self.view_is ∙ sym c.requires.counts) fit

pub returns-clause-ready : goal.returns-clause-ready
returns-clause-ready c =
    let at = goal.at.returns-clause-ready c in
    let n = c.self.inside.n in
    let counts = c.args.counts.now in
    let id : MessageId = record { origin = c.args.member; seq = c.in_ok-seq.seq } in
    let told = c.is_deliverable.ensures ∙ ap (λ k. is_deliverable k counts c.in_ok-message.message.now) (c.requires.counts ∙ sym (ap (λ (b : Buffer). b.n) c.self.view_is)) in
    c.then_some.ensures ∙ next_is_told n counts id c.in_ok-message.message.now c.is_deliverable.result (held at.In_ok-message).1 told
    ∙ sym (ap (option_map id_of) (by_id at.After-get ∙ ap (λ o. find (is_ready n counts c.args.member) (option_to_list o)) (sym c.in_ok-message.ensures)))
