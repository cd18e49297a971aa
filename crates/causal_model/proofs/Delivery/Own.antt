-- Where its windows have room, a member's own message is the next of its history.
use Rattle.std.proofs.Common.{ℕ, ◌+◌, ◌<◌, ◌≤◌, Bool, not, ◌&&◌, ◌==◌, cond, IsTrue, List, [], ◌∷◌, ◌++◌, length, refl, arith}
use Rattle.std.specs.List.{filter}
use Rattle.std.proofs.lemmas.Bool.{and_parts}
use Rattle.op_base.specs.Timestamp.{entry}
use Rattle.op_base.specs.declared.message.Message.{Message}
use Rattle.op_base.specs.declared.operation.Op.{Op}
use Rattle.op_base.specs.declared.operation.Op.TheVariants as op
use Rattle.causal_model.specs.Counts.{next_tag}
use Rattle.causal_model.specs.Stability.{last_tag, carries_operation, unstable_of, unstable_operations, unstable_noops, noop_window}
use Rattle.causal_model.specs.Chapter.{is_chapter, is_next}
use Rattle.causal_model.specs.Sending.{own_message, HasRoom}
use Rattle.causal_model.proofs.Delivery.Counts.{length-next_tag, entry-next_tag_other, number-own_message}
use Rattle.causal_model.proofs.Delivery.Crooks.{IsStraight}
use Rattle.causal_model.proofs.Delivery.Chapters.{is_next-from_IsNext}
use Rattle.causal_model.proofs.Theory.Lists.{cond-le-cond}
use Rattle.causal_model.proofs.Delivery.Timestamps.{last_tag_is_counted, tag_of_is_counted, next_tag_has_counts}
use Rattle.causal_model.proofs.Delivery.Windows.{unstable_grows, windows_hold}

-- room for an operation is room in its window
has_room : (n w me : ℕ) (h : List Message) (o : Op) → HasRoom n w me h o → unstable_operations n me h me ≤ w → unstable_noops n me h me ≤ noop_window n w
    → (unstable_operations n me h me + cond (carries_operation o) 1 0 ≤ w) × (unstable_noops n me h me + cond (not (carries_operation o)) 1 0 ≤ noop_window n w)
has_room n w me h op.NoOp room operations noops = (omega (arith, operations), omega (arith, room))
has_room n w me h (op.Update u) room operations noops = (omega (arith, room), omega (arith, noops))

module _ (n w me : ℕ) (h : List Message) (o : Op) (l : me < n) (t : IsTrue (is_chapter n w me h)) where
  own_message_rises : (y x : ℕ) → x < n → entry (last_tag n h y) x ≤ entry (next_tag n me h) x
  own_message_rises y x k = omega (arith, last_tag_is_counted n w me h y x t, next_tag_has_counts n me h x l k)

  one_more : (test : Message → Bool) → length (filter test (unstable_of n me (h ++ own_message n me h o ∷ []) me)) ≤ length (filter test (unstable_of n me h me)) + cond (test (own_message n me h o)) 1 0
  one_more test =
      let m = own_message n me h o in
      let grown = unstable_grows n me h m (own_message_rises me) test me l in
      omega (arith, grown, cond-le-cond ((me == me) && test m) (test m) (λ both. (and_parts (me == me) (test m) both).1))

  own_message_is_straight : HasRoom n w me h o → IsStraight n w me h (own_message n me h o)
  own_message_is_straight room =
      let held = windows_hold n w me me h l t in
      let fits = has_room n w me h o room held.0 held.1 in
      record {
        risen = own_message_rises me;
        closed = λ x y _ k _ _. omega (arith, tag_of_is_counted n w me h x (entry (next_tag n me h) x) y t, next_tag_has_counts n me h y l k);
        operations = omega (arith, fits.0, one_more (λ e. carries_operation e.op));
        noops = omega (arith, fits.1, one_more (λ e. not (carries_operation e.op)));
      }

pub own_message_is_next : (n w me : ℕ) (h : List Message) (o : Op) → me < n → IsTrue (is_chapter n w me h) → HasRoom n w me h o → IsTrue (is_next n w me h (own_message n me h o))
own_message_is_next n w me h o l t room = is_next-from_IsNext n w me h (own_message n me h o) (record {
  entries = length-next_tag n me h;
  member = l;
  counted = number-own_message n me h o l;
  seen = λ x k ne. omega (arith, entry-next_tag_other n me h x k ne);
  straight = own_message_is_straight n w me h o l t room;
  own = λ _. refl;
})
