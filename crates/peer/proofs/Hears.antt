-- What a peer hears is what its replica receives.
use Rattle.std.proofs.Common.{◌≡◌, ℕ, ◌<◌, ◌^◌, true, IsTrue, List, Result, Ok, refl, sym, ap, subst, inl, inr, slice_index_or, nat_le, arith}
use Rattle.std.specs.List.{list_all}
use Rattle.std.proofs.lemmas.Bool.{and_from, le-leb}
use Rattle.std.proofs.lemmas.List.Sums.{list_all-from_AllPass}
use Rattle.op_base.specs.Valid.{is_valid}
use Rattle.op_base.specs.declared.message.Message.{Message}
use Rattle.causal_model.specs.Counts.{is_carried}
use Rattle.causal_model.specs.Follows.{Follows}
use Rattle.causal_model.specs.Receiving.{is_accepted, receive_rule}
use Rattle.causal_model.specs.declared.outcome.Receive.{Receive}
use Rattle.causal_model.specs.declared.outcome.Receive.TheVariants as receive
use Rattle.frame_codec.specs.Grammar.{IsFrame}
use Rattle.frame_codec.specs.Message.{frame_read}
use Rattle.frame_codec.specs.declared.fault.FrameFault.{FrameFault}
use Rattle.frame_codec.proofs.Read.{frames_are_read}
use Rattle.replica_core.specs.Rules.{StandsFor}
use Rattle.replica_core.specs.declared.replica.Replica.{Replica}
use Rattle.replica_core.proofs.Ranges.{AreNumbers-from_test}
use Rattle.peer.specs.Calls.{heard_of, is_read, is_taken}
use Rattle.peer.specs.Rules.{hear_by, hear_rule}
use Rattle.peer.specs.declared.answers.Heard.TheVariants as heard

-- a message of a frame can be carried
pub frame_is_carried : (n limit : ℕ) (frame : List ℕ) (m : Message) → IsFrame n 0 limit frame m → IsTrue (is_valid m.op) → IsTrue (is_carried limit m)
frame_is_carried n limit frame m is valid =
    and_from (list_all (λ e. nat_le e limit) m.tag) (is_valid m.op) (list_all-from_AllPass (λ e. nat_le e limit) m.tag (λ i d b. le-leb (slice_index_or m.tag i d) limit (is.1.within i d b))) valid

-- a limit is a number of 32 bits
limit_is_small : (r : Replica) → r.limit < 2 ^ 32
limit_is_small r = omega (arith, (AreNumbers-from_test r.me r.n r.w r.limit r.numbers).most)

-- memory may be wanted to read each frame
heard_is_read : (answer : Receive) → is_read (heard_of answer) ≡ true
heard_is_read receive.Old = refl
heard_is_read receive.Again = refl
heard_is_read receive.Far = refl
heard_is_read receive.Kept = refl
heard_is_read (receive.Took steps) = refl
heard_is_read receive.NoMemory = refl

-- a message is taken in where its replica accepts it
pub taken_is_accepted : (answer : Receive) → is_taken (heard_of answer) ≡ is_accepted answer
taken_is_accepted receive.Old = refl
taken_is_accepted receive.Again = refl
taken_is_accepted receive.Far = refl
taken_is_accepted receive.Kept = refl
taken_is_accepted (receive.Took steps) = refl
taken_is_accepted receive.NoMemory = refl

-- where bytes are the frame of a message, what its replica makes of the message follows the rule of hearing them
pub heard_follows : (r new : Replica) (bytes : List ℕ) (m : Message) (answer : Receive) → IsFrame r.n 0 r.limit bytes m
    → Follows StandsFor receive.NoMemory is_accepted (receive_rule r.w m) r answer new → Follows StandsFor heard.NoMemory is_read (hear_rule r.n r.w r.limit bytes) r (heard_of answer) new
heard_follows r new bytes m answer is got =
    let read : frame_read r.n 0 r.limit bytes ≡ Ok m = frames_are_read r.n 0 r.limit (omega arith) (limit_is_small r) bytes m is in
    subst (λ (o : Result Message FrameFault). Follows StandsFor heard.NoMemory is_read (hear_by r.w o) r (heard_of answer) new) (sym read) (λ s stands. elim (got s stands) [
      | inl same ↦ inl (ap heard_of same.0, same.1)
      | inr lacks ↦ inr (ap heard_of lacks.0, heard_is_read (receive_rule r.w m s).0, lacks.2)
    ])
