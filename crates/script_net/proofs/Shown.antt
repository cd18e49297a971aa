-- What a world that shows a plain world has of it: as many nodes as members, timestamps of as many numbers, and messages
-- with a number of their origin.
use Rattle.std.proofs.Common.{◌≡◌, ℕ, ◌<◌, ◌∙◌, Bool, true, false, cond, List, [], ◌∷◌, length, inl, inr, refl, sym, ap, subst, arith}
use Rattle.std.proofs.Math.Logic.{∥∥₁_elim}
use Rattle.std.proofs.Props.{props}
use Rattle.std.proofs.lemmas.List.{set-get_or}
use Rattle.std.proofs.lemmas.List.Elements.{All-nil, All-cons}
use Rattle.std.proofs.lemmas.List.FromFn.{length-map-range_with_len}
use Rattle.op_base.specs.declared.message.Message.{Message}
use Rattle.op_base.specs.declared.operation.Update.{Update}
use Rattle.op_base.specs.declared.operation.Op.{Op}
use Rattle.op_base.specs.declared.operation.Op.TheVariants as op
use Rattle.causal_model.proofs.Delivery.Counts.{length-counts, length-next_tag}
use Rattle.causal_model.specs.State.{start}
use Rattle.causal_model.specs.Follows.{Follows}
use Rattle.causal_model.specs.Sending.{own_message, is_beat, local_messages, beat_messages}
use Rattle.causal_model.specs.Stability.{stable_count}
use Rattle.causal_model.specs.declared.outcome.Local.{Local}
use Rattle.causal_model.specs.declared.outcome.Local.TheVariants as local
use Rattle.causal_model.specs.declared.outcome.Beat.{Beat}
use Rattle.causal_model.specs.declared.outcome.Beat.TheVariants as beat
use Rattle.world.specs.Answers.{ShowsPlain}
use Rattle.world.specs.declared.world.World.{World}
use Rattle.world_model.specs.World.{PlainWorld, size_of, replica_of, with_state, local_at, beat_at}
use Rattle.world_model.specs.Worlds.{IsWorld}
use Rattle.world_model.specs.Showing.{stable_at, seen_at}
use Rattle.world.proofs.Settles.{size_of_shown}
use Rattle.script_net.specs.Replied.{HaveNumbers}

-- a replica that comes to the state that it is in leaves its world as it is
pub same_state : (plain : PlainWorld) (r : ℕ) → with_state plain r (replica_of plain r) ≡ plain
same_state plain r = ap (λ replicas. record { w = plain.w; limit = plain.limit; replicas = replicas; sent = plain.sent }) (set-get_or plain.replicas r (start 0 0))

-- the timestamps that a replica shows have a number for each member
pub length-stable_at : (plain : PlainWorld) (r : ℕ) → IsWorld plain → r < size_of plain → length (stable_at plain r) ≡ size_of plain
length-stable_at plain r w l =
    let p = (replica_of plain r).history.present in
    length-map-range_with_len (stable_count p.n p.me p.messages) 0 p.n ∙ (w.replicas r l).of_store

pub length-seen_at : (plain : PlainWorld) (r : ℕ) → IsWorld plain → r < size_of plain → length (seen_at plain r) ≡ size_of plain
length-seen_at plain r w l =
    let p = (replica_of plain r).history.present in
    length-counts p.n p.messages ∙ (w.replicas r l).of_store

-- what is sent is the own message
sent_own : (a b : Bool) (own m : Message) → cond a local.Busy (cond b local.End (local.Sent own)) ≡ local.Sent m → own ≡ m
sent_own true b own m e = cc
sent_own false true own m e = cc
sent_own false false own m e = cc

beaten_own : (a b d : Bool) (own m : Message) → cond a beat.Quiet (cond b beat.Held (cond d beat.End (beat.Sent own))) ≡ beat.Sent m → own ≡ m
beaten_own true b d own m e = cc
beaten_own false true d own m e = cc
beaten_own false false true own m e = cc
beaten_own false false false own m e = cc

-- one message with a number of its origin
one_number : (m : Message) → m.origin < length m.tag → HaveNumbers (m ∷ [])
one_number m l = All-cons (λ (m : Message). m.origin < length m.tag) m [] l (All-nil (λ (m : Message). m.origin < length m.tag))

-- an own message of a replica has a number of its origin
own_has_number : (plain : PlainWorld) (r : ℕ) (o : Op) → IsWorld plain → r < size_of plain
    → (let p = (replica_of plain r).history.present in let own = own_message p.n p.me p.messages o in own.origin < length own.tag)
own_has_number plain r o w l =
    let p = (replica_of plain r).history.present in
    let is = w.replicas r l in
    omega (arith, length-next_tag p.n p.me p.messages, is.of_store, is.of_member)

module _ (plain : PlainWorld) (r : ℕ) (is : IsWorld plain) (l : r < size_of plain) where
  -- so has a message that is sent by the rule
  pub local_numbered : (update : Update) (m : Message) → local.Sent m ≡ (local_at r update plain).0 → m.origin < length m.tag
  local_numbered update m e = subst (λ (m : Message). m.origin < length m.tag) (sent_own _ _ _ m (sym e)) (own_has_number plain r (op.Update update) is l)

  pub beat_numbered : (m : Message) → beat.Sent m ≡ (beat_at r plain).0 → m.origin < length m.tag
  beat_numbered m e = subst (λ (m : Message). m.origin < length m.tag) (beaten_own _ _ _ _ m (sym e)) (own_has_number plain r op.NoOp is l)

-- what is answered has numbers, where a message that is sent has one
pub local_numbers : (answer : Local) → ((m : Message) → answer ≡ local.Sent m → m.origin < length m.tag) → HaveNumbers (local_messages answer)
local_numbers (local.Sent m) sent = one_number m (sent m refl)
local_numbers local.Busy sent = All-nil (λ (m : Message). m.origin < length m.tag)
local_numbers local.End sent = All-nil (λ (m : Message). m.origin < length m.tag)
local_numbers local.NoMemory sent = All-nil (λ (m : Message). m.origin < length m.tag)

pub beat_numbers : (answer : Beat) → ((m : Message) → answer ≡ beat.Sent m → m.origin < length m.tag) → HaveNumbers (beat_messages answer)
beat_numbers (beat.Sent m) sent = one_number m (sent m refl)
beat_numbers beat.Quiet sent = All-nil (λ (m : Message). m.origin < length m.tag)
beat_numbers beat.Held sent = All-nil (λ (m : Message). m.origin < length m.tag)
beat_numbers beat.End sent = All-nil (λ (m : Message). m.origin < length m.tag)
beat_numbers beat.NoMemory sent = All-nil (λ (m : Message). m.origin < length m.tag)

module _ (world : World) (r : ℕ) (l : r < length world.nodes.items) where
  inside : (plain : PlainWorld) → ShowsPlain world plain → r < size_of plain
  inside plain shows = subst (λ n. r < n) (size_of_shown world plain shows) l

  -- a no-op that a world sends has a number of its origin
  pub beat_has_number : (answer : Beat) (new : World) → Follows ShowsPlain beat.NoMemory is_beat (beat_at r) world answer new → HaveNumbers (beat_messages answer)
  beat_has_number answer new follows =
      beat_numbers answer (λ m sent. ∥∥₁_elim world.shows (search props) (λ shown.
      elim (follows shown.0 shown.1) [
        | inl a ↦ beat_numbered shown.0 r shown.1.is_world (inside shown.0 shown.1) m (sym sent ∙ a.0)
        | inr a ↦ cc (a.0, sent)
      ]))

  -- what a world shows to be stable and seen has a number for each node
  pub stable_is_long : (tag : List ℕ) → ((plain : PlainWorld) → ShowsPlain world plain → tag ≡ stable_at plain r) → length tag ≡ length world.nodes.items
  stable_is_long tag is =
      ∥∥₁_elim world.shows (search props) (λ shown.
      ap length (is shown.0 shown.1) ∙ length-stable_at shown.0 r shown.1.is_world (inside shown.0 shown.1) ∙ sym (size_of_shown world shown.0 shown.1))

  pub seen_is_long : (tag : List ℕ) → ((plain : PlainWorld) → ShowsPlain world plain → tag ≡ seen_at plain r) → length tag ≡ length world.nodes.items
  seen_is_long tag is =
      ∥∥₁_elim world.shows (search props) (λ shown.
      ap length (is shown.0 shown.1) ∙ length-seen_at shown.0 r shown.1.is_world (inside shown.0 shown.1) ∙ sym (size_of_shown world shown.0 shown.1))
