use Rattle.std.proofs.Common.{◌+◌, IsTrue, length, sym, ap, ◌∙◌, subst}
use Rattle.std.proofs.lemmas.List.Elements.{All-contains}
use Rattle.std.proofs.lemmas.Bool.{false≢true}
use Rattle.op_base.specs.Timestamp.{entry}
use Rattle.causal_buffer.proofs.Kept.{has_parts}
use Rattle.op_base.specs.Message.{fits}
use Rattle.causal_model.specs.Early.{has_id}
use Rattle.causal_model.proofs.Theory.Finds.{found}
use Rattle.causal_buffer.specs.Queue.{AreWaiting, messages}
use Rattle.causal_buffer.proofs.Deliverable.{fits_store, seen_is_deliverable}
use Rattle.causal_buffer.proofs.Watched.{none_numbered}
use Rattle.std.specs.Option.{option_copied}
use Rattle.causal_buffer.proofs.Waits.{waits_for}
use Rattle.causal_buffer.proofs.queue.Queue.look.Goals as goal
use Rattle.causal_buffer.proofs.queue.Queue.look.Goals.{In-Some}

-- the message is one of the queue, and fits
fit : (c : In-Some) → IsTrue (fits (length c.args.counts.now) c.in-Some.message.now)
fit c =
    let m = c.in-Some.message.now in
    let q = c.args.self.now in
    All-contains (λ z. IsTrue (fits (length c.args.counts.now) z)) (messages q) m c.requires.fit (found (has_id c.args.id) (messages q) m (sym c.in-Some.ensures)).0

pub is_deliverable-requires : goal.is_deliverable-requires
is_deliverable-requires c = fit (goal.at.is_deliverable-requires c).In-Some

pub first_missing-requires : goal.first_missing-requires
first_missing-requires c = (fits_store (length c.args.counts.now) c.in-Some.message.now (fit (goal.at.first_missing-requires c).In-Some)).0

pub returns-in-Some-first_missing-clause-kept : goal.returns-in-Some-first_missing-clause-kept
returns-in-Some-first_missing-clause-kept c =
    let q = c.args.self.now in
    let id = c.args.id in
    let x = c.in-Some-first_missing.member in
    let is = c.requires.queue in
    record {
      are_places = is.are_places;
      within = is.within;
      counted = is.counted;
      small = is.small;
      waiting = subst (λ count. AreWaiting id.origin (record { seq = id.seq; member = x; count = count }) (messages q)) (sym c.at.ensures)
          (waits_for id q c.in-Some.message.now c.args.counts.now x is (sym c.in-Some.ensures) c.in-Some-first_missing.ensures.first.missing);
    }

pub returns-in_default-clause-told : goal.returns-in_default-clause-told
returns-in_default-clause-told c _ k d l numbered =
    absurd (none_numbered c.args.id c.args.self.now c.requires.queue (ap option_copied (sym c.in_default.is) ∙ c.get.ensures) k d l numbered)

-- one that isn't missing anything can be delivered
pub returns-in_default-first_missing-clause-told : goal.returns-in_default-first_missing-clause-told
returns-in_default-first_missing-clause-told c _ k d l numbered =
    let m = c.in-Some.message.now in
    let own = has_parts c.args.id m (found (has_id c.args.id) (messages c.args.self.now) m (sym c.in-Some.ensures)).1 in
    let next = own.1 ∙ c.requires.next ∙ ap (λ x. entry c.args.counts.now x + 1) (sym own.0) in
    absurd (false≢true (sym c.if-is_deliverable.false ∙ c.is_deliverable.ensures ∙ seen_is_deliverable c.args.counts.now m next c.in_default-first_missing.ensures.none))
