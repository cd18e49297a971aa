-- What the message of a number is known to wait for.
use Rattle.std.proofs.Common.{◌≡◌, ◌≢◌, ℕ, ◌+◌, ◌<◌, ◌≤◌, true, false, not, ◌&&◌, ◌||◌, ◌==◌, nat_lt, All, List, ◌∷◌, refl, sym, subst, ◌∙◌, inl, inr, Option, Some, None, if◌then◌else◌, arith}
use Rattle.std.specs.List.{find}
use Rattle.std.proofs.lemmas.Bool.{and_parts, or_cases, cond_both, eqb-true, eqb-false, ltb-true, not-true, false_from_ne_true}
use Rattle.std.proofs.lemmas.List.Elements.{All-contains, All-head, All-tail, All-weaker}
use Rattle.op_base.specs.Timestamp.{entry}
use Rattle.op_base.specs.Message.{number}
use Rattle.op_base.specs.declared.message.Message.{Message}
use Rattle.op_base.specs.declared.tag.MessageId.{MessageId}
use Rattle.causal_model.specs.Counts.{is_deliverable}
use Rattle.causal_model.specs.Early.{has_id, put_early}
use Rattle.causal_model.proofs.States.Early.{All-put_early, IsDeliverable-from_test}
use Rattle.causal_model.proofs.Theory.Finds.{found}
use Rattle.causal_buffer.specs.declared.queue.Queue.{Queue}
use Rattle.causal_buffer.specs.declared.queue.TheConstants.{NO_WAIT}
use Rattle.causal_buffer.specs.declared.queue.Wait.{Wait}
use Rattle.causal_buffer.specs.Queue.{messages, IsQueue, AreWithin, WaitsFor, AreWaiting, is_missing, can_be_taken}
use Rattle.causal_buffer.proofs.Kept.{has_parts}
use Rattle.causal_buffer.proofs.Places.{only_of_number}

-- a message that waits can't be delivered
pub waits_is_unready : (n : ℕ) (counted : List ℕ) (id : MessageId) (q : Queue) → IsQueue id.origin q → q.wait.member < n
    → ((q.filled == 0) || ((q.wait.seq == id.seq) && nat_lt (entry counted q.wait.member) q.wait.count)) ≡ true → can_be_taken n counted (find (has_id id) (messages q)) ≡ false
waits_is_unready n counted id q is inside told = by (find (has_id id) (messages q)) refl where
  by : (o : Option Message) → find (has_id id) (messages q) ≡ o → can_be_taken n counted o ≡ false
  by None e = refl
  by (Some m) e = elim (or_cases (q.filled == 0) ((q.wait.seq == id.seq) && nat_lt (entry counted q.wait.member) q.wait.count) told) [
    | inl empty ↦
        let there = (found (has_id id) (messages q) m e).0 in
        absurd (omega (arith, there.1, is.counted, eqb-true q.filled 0 empty))
    | inr both ↦
        let parts = and_parts (q.wait.seq == id.seq) (nat_lt (entry counted q.wait.member) q.wait.count) both in
        let there = found (has_id id) (messages q) m e in
        let own = has_parts id m there.1 in
        let waits = All-contains (WaitsFor id.origin q.wait) (messages q) m is.waiting there.0 (own.1 ∙ sym (eqb-true q.wait.seq id.seq parts.0)) in
        false_from_ne_true (is_deliverable n counted m) (λ can.
        let seen = (IsDeliverable-from_test n counted m can).seen q.wait.member inside (λ same. waits.0 (same ∙ own.0)) in
        omega (arith, seen, waits.1, ltb-true (entry counted q.wait.member) q.wait.count parts.1))
  ]

-- what is found of a message is true of each of its number
pub waits_for : (id : MessageId) (q : Queue) (m : Message) (counted : List ℕ) (member : ℕ) → IsQueue id.origin q → find (has_id id) (messages q) ≡ Some m → is_missing counted m member ≡ true
    → AreWaiting id.origin (record { seq = id.seq; member = member; count = entry m.tag member }) (messages q)
waits_for id q m counted member is e missing =
    let own = has_parts id m (found (has_id id) (messages q) m e).1 in
    let parts = and_parts (not (member == m.origin)) (nat_lt (entry counted member) (entry m.tag member)) missing in
    let other : member ≢ id.origin = λ same. eqb-false member m.origin (not-true (member == m.origin) parts.0) (same ∙ sym own.0) in
    All-weaker (λ y. number y ≡ id.seq → y ≡ m) (WaitsFor id.origin (record { seq = id.seq; member = member; count = entry m.tag member }))
    (λ y only numbered. (other, subst (λ (z : Message). entry m.tag member ≤ entry z.tag member) (sym (only numbered)) (omega arith)))
    (messages q) (only_of_number id.origin q.first q.places.items is.are_places id refl m e)

-- with a new message, of whose number nothing is known then
pub waits_after : (member count room : ℕ) (old : Wait) (m : Message) (early : List Message) → AreWithin count room (m ∷ early) → AreWaiting member old early
    → AreWaiting member (if old.seq == number m then NO_WAIT else old) (put_early m early)
waits_after member count room old m early within waiting =
    let above : All (λ e. (count < number e) × (number e ≤ count + room)) (put_early m early)
    = All-put_early (λ e. (count < number e) × (number e ≤ count + room)) m early (All-head (λ e. (count < number e) × (number e ≤ count + room)) m early within) (All-tail (λ e. (count < number e) × (number e ≤ count + room)) m early within) in
    cond_both (old.seq == number m) NO_WAIT old (λ wait. AreWaiting member wait (put_early m early))
    (λ _. All-weaker (λ e. (count < number e) × (number e ≤ count + room)) (WaitsFor member NO_WAIT) (λ e near none. absurd (omega (arith, near.0, none))) (put_early m early) above)
    (λ other. All-put_early (WaitsFor member old) m early (λ same. absurd (eqb-false old.seq (number m) other (sym same))) waiting)
