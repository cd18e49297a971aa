-- A message can be delivered exactly where its number is its origin's next, and the only one above what was delivered.
use Rattle.std.proofs.Common.{◌≡◌, true, ℕ, ◌+◌, ◌-◌, ◌<◌, ◌&&◌, ◌==◌, not, nat_lt, IsTrue, List, length, sym, ◌∙◌, inl, inr, arith}
use Rattle.std.proofs.lemmas.Bool.{and_parts, and_from, cases_lt, eqb-true, eq-eqb, ne_eqb, lt-ltb, ltb-true, not_from_false, false≢true}
use Rattle.std.specs.Cmp.{both_ways}
use Rattle.op_base.specs.Timestamp.{entry, count_above}
use Rattle.op_base.specs.Message.{number, fits}
use Rattle.op_base.specs.declared.message.Message.{Message}
use Rattle.op_base.proofs.Timestamps.{alone_above, above_alone}
use Rattle.causal_model.specs.Counts.{is_deliverable}
use Rattle.causal_buffer.specs.Queue.{AreSeen}
use Rattle.causal_model.proofs.States.Early.{IsDeliverable-from_test, test-from_IsDeliverable}

-- that a message fits, in parts
pub fits_store : (n : ℕ) (m : Message) → IsTrue (fits n m) → (length m.tag ≡ n) × (0 < number m)
fits_store n m t =
    let outer = and_parts ((length m.tag == n) && nat_lt m.origin n) (nat_lt 0 (number m)) t in
    (eqb-true (length m.tag) n (and_parts (length m.tag == n) (nat_lt m.origin n) outer.0).0, ltb-true 0 (number m) outer.1)

-- whether it can be delivered, as it is told
pub told_deliverable : (counted : List ℕ) (m : Message) → IsTrue (fits (length counted) m) → ((number m - 1 == entry counted m.origin) && (count_above m.tag counted == 1)) ≡ is_deliverable (length counted) counted m
told_deliverable counted m fit =
    let fitting = fits_store (length counted) m fit in
    let long = fitting.0 in
    let some = fitting.1 in
    both_ways _ _
    (λ told.
    let parts = and_parts (number m - 1 == entry counted m.origin) (count_above m.tag counted == 1) told in
    let before = eqb-true (number m - 1) (entry counted m.origin) parts.0 in
    let next : number m ≡ entry counted m.origin + 1 = omega (arith, before, some) in
    test-from_IsDeliverable (length counted) counted m (record {
      next = next;
      seen = λ x l ne. alone_above m.origin m.tag counted long (omega (arith, next)) (eqb-true (count_above m.tag counted) 1 parts.1) x ne;
    }))
    (λ can.
    let d = IsDeliverable-from_test (length counted) counted m can in
    let next = d.next in
    and_from (number m - 1 == entry counted m.origin) (count_above m.tag counted == 1) (eq-eqb (number m - 1) (entry counted m.origin) (omega (arith, next)))
    (eq-eqb (count_above m.tag counted) 1 (above_alone m.origin m.tag counted long (omega (arith, next)) (λ k l ne. d.seen k (omega (arith, l, long)) ne))))

-- so one that is next, and of which nothing is missing, can be
pub seen_is_deliverable : (counted : List ℕ) (m : Message) → number m ≡ entry counted m.origin + 1 → AreSeen (length counted) counted m → is_deliverable (length counted) counted m ≡ true
seen_is_deliverable counted m next seen = test-from_IsDeliverable (length counted) counted m (record {
  next = next;
  seen = λ x l ne. elim (cases_lt (entry counted x) (entry m.tag x)) [
    | inl more ↦ absurd (false≢true (sym (seen x l) ∙ and_from (not (x == m.origin)) (nat_lt (entry counted x) (entry m.tag x)) (not_from_false (x == m.origin) (ne_eqb x m.origin ne)) (lt-ltb (entry counted x) (entry m.tag x) more)))
    | inr most ↦ most
  ];
})
