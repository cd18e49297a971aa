-- What is known of early messages that can't be delivered, and what follows from it.
use Rattle.std.proofs.Common.{◌≡◌, ◌≢◌, ℕ, ◌+◌, ◌-◌, ◌<◌, ◌≤◌, true, not, ◌&&◌, ◌||◌, ◌==◌, nat_lt, nat_eq, ◌++◌, take, replicate, All, List, length, get_or, set, refl, sym, ap, subst, ◌∙◌, inl, inr, None, arith}
use Rattle.std.specs.List.{find, flat_map}
use Rattle.std.proofs.lemmas.Bool.{and_parts, or_cases, cases_eq, eqb-true, ltb-true, false_from_ne_true, false≢true}
use Rattle.std.proofs.lemmas.List.Elements.{All-filter}
use Rattle.std.proofs.lemmas.List.{length-set, get_or_default, get_or-set_same, get_or-set_other}
use Rattle.std.specs.Cmp.Lexicographic.{pointwise}
use Rattle.std.proofs.lemmas.Slice.Eq.{slice_eq-Decides}
use Rattle.std.proofs.lemmas.Bool.Decides.{Decides-eqb}
use Rattle.std.proofs.Math.Seq.{take-append_seam}
use Rattle.op_base.specs.Timestamp.{entry}
use Rattle.op_base.specs.Message.{number}
use Rattle.op_base.specs.declared.message.Message.{Message}
use Rattle.op_base.specs.declared.tag.MessageId.{MessageId}
use Rattle.causal_model.specs.Counts.{is_deliverable}
use Rattle.causal_model.specs.Early.{has_id, put_early, without}
use Rattle.causal_model.proofs.States.Early.{All-put_early, IsDeliverable-from_test}
use Rattle.causal_model.proofs.Theory.Finds.{none_found, none_passes}
use Rattle.causal_buffer.specs.declared.queue.Queue.{Queue}
use Rattle.causal_buffer.specs.declared.watch.Watch.{Watch}
use Rattle.causal_buffer.specs.Queue.{messages, IsQueue, AreTold, AreKept, AreUnready, is_ready}
use Rattle.causal_buffer.specs.Watch.{IsWaiting, NextWaits, IsClosed, Waits, IsWatch, HasNoneAfter}
use Rattle.causal_buffer.proofs.Kept.{queue_own}
use Rattle.causal_buffer.proofs.Parts.{All-flat}
use Rattle.causal_buffer.proofs.Places.{has}

-- timestamps are one another where their parts are, which are filled up by zeros
pub tags_alike : (xs ys : List ℕ) → ((length xs == length ys) && pointwise nat_eq (xs ++ replicate (16 - length xs) 0) (ys ++ replicate (16 - length ys) 0)) ≡ true → xs ≡ ys
tags_alike xs ys alike =
    let parts = and_parts (length xs == length ys) (pointwise nat_eq (xs ++ replicate (16 - length xs) 0) (ys ++ replicate (16 - length ys) 0)) alike in
    let long = eqb-true (length xs) (length ys) parts.0 in
    let same = (slice_eq-Decides Decides-eqb (xs ++ replicate (16 - length xs) 0) (ys ++ replicate (16 - length ys) 0) _ refl).0 parts.1 in
    sym (take-append_seam xs (replicate (16 - length xs) 0)) ∙ (λ i. take (long i) (same i)) ∙ take-append_seam ys (replicate (16 - length ys) 0)

-- ---- one queue

-- what is told of the messages of a member's next number makes these wait
pub told_waits : (member seq : ℕ) (counted awaited : List ℕ) (q : Queue) → IsQueue member q → q.wait.member < length counted → seq ≡ entry counted member + 1 → AreTold seq counted q.wait (messages q)
    → (q.wait.seq ≡ seq → entry awaited q.wait.member ≤ q.wait.count) → NextWaits counted awaited member (messages q)
told_waits member seq counted awaited q is inside next told known = λ k d l numbered.
    let here = told k d l (numbered ∙ sym next) in
    let waits = is.waiting k d l (numbered ∙ sym next ∙ sym here.0) in
    record {
      member = q.wait.member;
      inside = inside;
      other = λ e. waits.0 (e ∙ queue_own member q is k d l);
      missing = omega (arith, here.1, waits.1);
      known = omega (arith, known here.0, waits.1);
    }

-- it is told where there is none, or where the wait is of that number and not over
pub told_by_test : (seq : ℕ) (counted : List ℕ) (q : Queue) → q.filled ≡ length (messages q) → ((q.filled == 0) || ((q.wait.seq == seq) && nat_lt (entry counted q.wait.member) q.wait.count)) ≡ true
    → AreTold seq counted q.wait (messages q)
told_by_test seq counted q filled told = λ k d l numbered. elim (or_cases (q.filled == 0) ((q.wait.seq == seq) && nat_lt (entry counted q.wait.member) q.wait.count) told) [
  | inl empty ↦ absurd (omega (arith, l, filled, eqb-true q.filled 0 empty))
  | inr both ↦ let parts = and_parts (q.wait.seq == seq) (nat_lt (entry counted q.wait.member) q.wait.count) both in (eqb-true q.wait.seq seq parts.0, ltb-true (entry counted q.wait.member) q.wait.count parts.1)
]

-- none is of the number of an id that isn't found
pub none_numbered : (id : MessageId) (q : Queue) → IsQueue id.origin q → None ≡ find (has_id id) (messages q) → All (λ m. number m ≢ id.seq) (messages q)
none_numbered id q is none = λ k d l numbered.
    false≢true (sym (none_passes (has_id id) (messages q) (sym none) k d l) ∙ has id (get_or (messages q) k d) (queue_own id.origin q is k d l) numbered)

-- ---- all queues

-- what is true of a member's messages is, of the member's, true of all
module _ (n w : ℕ) (qs : List Queue) (kept : AreKept n w qs) (x : ℕ) where
  pub of_member : (P : Message → Type 0) (q : Queue) → q ≡ get_or qs x q → All P (messages q) → All (λ m. m.origin ≡ x → P m) (flat_map messages qs)
  of_member P q at each = All-flat messages (λ m. m.origin ≡ x → P m) qs (λ y d l. elim (cases_eq y x) [
    | inl same ↦ λ k e i own. subst (λ z. All P (messages z)) (at ∙ sym (ap (λ z. get_or qs z q) same) ∙ get_or_default qs y q d (omega (arith, l))) each k e i
    | inr other ↦ λ k e i own. absurd (other (sym (queue_own y (get_or qs y d) (kept y d l).is_queue k e i) ∙ own))
  ])

-- once one more member's next message waits
pub one_more_waits : (n : ℕ) (watch : Watch) (x : ℕ) (awaited : List ℕ) (early : List Message) → IsWatch n watch early → watch.from ≡ x → length awaited ≡ length watch.awaited → ((y : ℕ) → entry awaited y ≤ entry watch.awaited y)
    → All (λ m. m.origin ≡ x → number m ≡ entry watch.counts x + 1 → IsWaiting watch.counts awaited m) early → IsWatch n (record watch { awaited = awaited; from = x + 1 }) early
one_more_waits n watch x awaited early is at same lower here = record {
  counts = is.counts;
  awaited = same ∙ is.awaited;
  waits = λ k d l inside closed numbered.
      let m = get_or early k d in
      elim (cases_eq m.origin x) [
        | inl own ↦ here k d l own (numbered ∙ ap (λ y. entry watch.counts y + 1) own)
        | inr other ↦
            let waits = is.waits k d l inside (λ le. closed (omega (arith, le, other, at))) numbered in
            record { member = waits.member; inside = waits.inside; other = waits.other; missing = waits.missing; known = omega (arith, waits.known, lower waits.member) }
      ];
}

-- no message of closed members can be delivered
pub closed_are_unready : (end n : ℕ) (watch : Watch) (early : List Message) → IsWatch n watch early → end ≤ n → ((x : ℕ) → x < end → IsClosed watch x) → AreUnready end n watch.counts early
closed_are_unready end n watch early is inside closed member below = none_found (is_ready n watch.counts member) early (λ k d l.
    let m = get_or early k d in
    false_from_ne_true (is_ready n watch.counts member m) (λ t.
    let parts = and_parts (m.origin == member) (is_deliverable n watch.counts m) t in
    let own = eqb-true m.origin member parts.0 in
    let can = IsDeliverable-from_test n watch.counts m parts.1 in
    let waits = is.waits k d l (omega (arith, own, below, inside, is.counts)) (subst (IsClosed watch) (sym own) (closed member below)) can.next in
    omega (arith, waits.missing, can.seen waits.member (omega (arith, waits.inside, is.counts)) waits.other)))

-- a message is put among them, of whose member nothing is known where it is next
pub put_is_watched : (n : ℕ) (watch : Watch) (m : Message) (early : List Message) → IsWatch n watch early → (number m ≡ entry watch.counts m.origin + 1 → IsClosed watch m.origin → ⊥) → IsWatch n watch (put_early m early)
put_is_watched n watch m early is unknown = record {
  counts = is.counts;
  awaited = is.awaited;
  waits = All-put_early (Waits watch) m early (λ inside closed numbered. absurd (unknown numbered closed)) is.waits;
}

-- some are taken out
pub left_are_watched : (n : ℕ) (watch : Watch) (id : MessageId) (early : List Message) → IsWatch n watch early → IsWatch n watch (without id early)
left_are_watched n watch id early is = record { counts = is.counts; awaited = is.awaited; waits = All-filter (λ m. not (has_id id m)) (Waits watch) early is.waits }

-- fewer are awaited
pub lower_is_watched : (n : ℕ) (watch : Watch) (awaited : List ℕ) (early : List Message) → IsWatch n watch early → length awaited ≡ length watch.awaited → ((y : ℕ) → entry awaited y ≤ entry watch.awaited y)
    → IsWatch n (record watch { awaited = awaited }) early
lower_is_watched n watch awaited early is same lower = record {
  counts = is.counts;
  awaited = same ∙ is.awaited;
  waits = λ k d l inside closed numbered.
      let waits = is.waits k d l inside closed numbered in
      record { member = waits.member; inside = waits.inside; other = waits.other; missing = waits.missing; known = omega (arith, waits.known, lower waits.member) };
}

-- one is counted for which none waits, and none is after it of whose member anything is known
pub counted_is_watched : (n : ℕ) (watch : Watch) (id : MessageId) (early : List Message) → IsWatch n watch early → id.origin < n → ((x : ℕ) → x < length watch.counts → IsClosed watch x → id.seq < entry watch.awaited id.origin) → (IsClosed watch id.origin → HasNoneAfter id early)
    → IsWatch n (record watch { counts = set watch.counts id.origin id.seq }) early
counted_is_watched n watch id early is member unawaited none = record {
  counts = length-set watch.counts id.origin id.seq ∙ is.counts;
  awaited = is.awaited;
  waits = λ k d l inside closed numbered.
      let m = get_or early k d in
      let here : entry (set watch.counts id.origin id.seq) id.origin ≡ id.seq = get_or-set_same watch.counts id.origin id.seq 0 (omega (arith, member, is.counts)) in
      let before : m.origin < length watch.counts = omega (arith, inside, length-set watch.counts id.origin id.seq) in
      elim (cases_eq m.origin id.origin) [
        | inl own ↦ absurd (none (subst (IsClosed watch) own closed) k d l own (numbered ∙ ap (λ x. entry (set watch.counts id.origin id.seq) x + 1) own ∙ ap (λ c. c + 1) here))
        | inr other ↦
            let waits = is.waits k d l before closed (numbered ∙ ap (λ c. c + 1) (get_or-set_other watch.counts id.origin m.origin id.seq 0 other)) in
            record {
              member = waits.member;
              inside = omega (arith, waits.inside, length-set watch.counts id.origin id.seq);
              other = waits.other;
              missing = elim (cases_eq waits.member id.origin) [
                | inl awaited ↦ omega (arith, unawaited m.origin before closed, waits.known, ap (λ x. entry watch.awaited x) awaited, ap (λ x. entry (set watch.counts id.origin id.seq) x) awaited, here)
                | inr apart ↦ omega (arith, waits.missing, get_or-set_other watch.counts id.origin waits.member id.seq 0 apart)
              ];
              known = waits.known;
            }
      ];
}
