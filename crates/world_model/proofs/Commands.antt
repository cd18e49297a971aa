-- What each command keeps of a world.
use Rattle.std.proofs.Common.{◌≡◌, ℕ, ◌<◌, Bool, true, not, ◌==◌, nat_le, All, IsTrue, List, [], ◌∷◌, length, get_or, refl, sym, ap, subst, inl, inr, Option, Some, None, Result, Ok, Err, arith}
use Rattle.std.specs.List.{filter, find, list_any, list_all, fold}
use Rattle.std.proofs.lemmas.Bool.{and_parts, and_from, cases_lt, le-leb, lt-ltb}
use Rattle.std.proofs.lemmas.List.{get_or_past}
use Rattle.std.proofs.lemmas.List.Elements.{All-filter, All-head, All-tail}
use Rattle.std.proofs.lemmas.List.Folds.{list_any-append}
use Rattle.std.proofs.lemmas.List.Sums.{list_all-from_AllPass}
use Rattle.op_base.specs.Message.{fits}
use Rattle.op_base.specs.Name.{is_key, is_value}
use Rattle.op_base.specs.Valid.{is_valid_place, is_valid_act, is_valid}
use Rattle.op_base.specs.declared.message.Message.{Message}
use Rattle.op_base.specs.declared.operation.Act.{Act}
use Rattle.op_base.specs.declared.operation.Act.TheVariants as acts
use Rattle.op_base.specs.declared.operation.Op.{Op}
use Rattle.op_base.specs.declared.operation.Op.TheVariants as op
use Rattle.causal_model.specs.Counts.{is_carried}
use Rattle.causal_model.specs.History.{epoch_of}
use Rattle.causal_model.specs.Journal.{IsGroup, sent, beaten}
use Rattle.causal_model.specs.State.{State, start}
use Rattle.causal_model.specs.Receiving.{steps_of, receive_rule}
use Rattle.causal_model.specs.Early.{has_id}
use Rattle.causal_model.specs.Sending.{local_messages, beat_messages}
use Rattle.causal_model.specs.Stability.{stable_vector, is_stable}
use Rattle.causal_model.specs.declared.note.Note.TheVariants.{Sent}
use Rattle.causal_model.specs.declared.outcome.Beat.{Beat}
use Rattle.causal_model.specs.declared.outcome.Beat.TheVariants as beat
use Rattle.causal_model.specs.declared.outcome.Local.{Local}
use Rattle.causal_model.specs.declared.outcome.Local.TheVariants as local
use Rattle.frame_codec.specs.Grammar.{IsArgument, IsOperation, carries_length, IsFrame}
use Rattle.frame_codec.specs.declared.fault.FrameFault.{FrameFault}
use Rattle.frame_codec.specs.declared.version.Version.{Version}
use Rattle.frame_codec.proofs.Read.{read_is_a_frame}
use Rattle.world_model.specs.Laws.{SendingKeepsWorld, BeatingKeepsWorld, OfferingKeepsWorld, GivingKeepsWorld, ResendingKeepsWorld, RawingKeepsWorld}
use Rattle.world_model.specs.Offering.{Offered, none_offered, offered_more, offered, outbox_in, offered_between}
use Rattle.world_model.specs.Raw.{read_at, raw_of}
use Rattle.world_model.specs.Settling.{is_delivery}
use Rattle.world_model.specs.World.{PlainWorld, size_of, epoch_in, replica_of, with_sent, with_all_sent, local_at, beat_at, sent_message, give_of}
use Rattle.world_model.specs.Worlds.{IsWorld, KeepsWorld}
use Rattle.world_model.proofs.Received.{IsLater, later_twice, is_as_before, receives}
use Rattle.world_model.proofs.Sends.{update_is_given, noop_is_given, sent_is_replica}
use Rattle.world_model.proofs.Sent.{messages_fit, messages_carried, sent_message_is_sent}
use Rattle.world_model.proofs.Worlds.{world_keeps_itself, state_changes, message_is_sent}

-- ---- sending

-- a replica sends a message by the rules
sent_keeps_world : (world : PlainWorld) (r : ℕ) (m : Message) → IsWorld world → r < size_of world → IsGroup world.w world.limit (replica_of world r) (Sent m ∷ []) → m.origin ≡ r → KeepsWorld world (with_sent world r m)
sent_keeps_world world r m is l group own =
    message_is_sent world r m is l (sent_is_replica (size_of world) world.w world.limit r (replica_of world r) m (is.replicas r l) group) own

pub sending_keeps_world : SendingKeepsWorld
sending_keeps_world world r update is l valid = by (local_at r update world).0 refl where
  by : (answer : Local) → (local_at r update world).0 ≡ answer → KeepsWorld world (with_all_sent r world (local_messages answer))
  by (local.Sent m) e = sent_keeps_world world r m is l (sent update m valid e) (update_is_given (size_of world) world.w world.limit r (replica_of world r) m (is.replicas r l) update e).own
  by local.Busy e = world_keeps_itself world is
  by local.End e = world_keeps_itself world is
  by local.NoMemory e = world_keeps_itself world is

-- a beat that sends keeps a world
pub beat_is_sent : (world : PlainWorld) (r : ℕ) (m : Message) → IsWorld world → r < size_of world → (beat_at r world).0 ≡ beat.Sent m → KeepsWorld world (with_sent world r m)
beat_is_sent world r m is l e =
    sent_keeps_world world r m is l (beaten m e) (noop_is_given (size_of world) world.w world.limit r (replica_of world r) m (is.replicas r l) e).own

pub beating_keeps_world : BeatingKeepsWorld
beating_keeps_world world r is l = by (beat_at r world).0 refl where
  by : (answer : Beat) → (beat_at r world).0 ≡ answer → KeepsWorld world (with_all_sent r world (beat_messages answer))
  by (beat.Sent m) e = beat_is_sent world r m is l e
  by beat.Quiet e = world_keeps_itself world is
  by beat.Held e = world_keeps_itself world is
  by beat.End e = world_keeps_itself world is
  by beat.NoMemory e = world_keeps_itself world is

-- ---- receiving

pub offering_keeps_world : OfferingKeepsWorld
offering_keeps_world world r m is l fit carried =
    let later = receives (size_of world) world.w world.limit r (replica_of world r) (is.replicas r l) m fit carried in
    state_changes world r _ is l later.is_replica later.own

pub giving_keeps_world : GivingKeepsWorld
giving_keeps_world world r k seq is l = by (sent_message world k seq) refl where
  by : (found : Option Message) → sent_message world k seq ≡ found → KeepsWorld world (give_of r world found).1
  by None e = world_keeps_itself world is
  by (Some m) e = elim (cases_lt k (size_of world)) [
    | inl member ↦ let parts = sent_message_is_sent world k seq m is member e in offering_keeps_world world r m is l parts.1 parts.2
    | inr past ↦
        let nothing : sent_message world k seq ≡ None = ap (find (has_id (record { origin = k; seq = seq }))) (get_or_past world.sent k [] (omega (arith, past, is.of_each))) in
        absurd cc
  ]

-- ---- an outbox

-- messages that fit and can be carried, offered one after the other
module _ {epoch : ℕ} (n w limit r : ℕ) (s : State) where
  pub offers_keep : (o : Offered) (ms : List Message) → All (λ m. IsTrue (fits n m)) ms → All (λ m. IsTrue (is_carried limit m)) ms
      → IsLater n w limit epoch r s (list_any is_delivery o.steps) o.state
      → IsLater n w limit epoch r s (list_any is_delivery (fold (offered_more w) o ms).steps) (fold (offered_more w) o ms).state
  offers_keep o [] fit carried is = is
  offers_keep o (m ∷ ms) fit carried is =
      let got = receive_rule w m o.state in
      let next = receives n w limit r o.state is.is_replica m (All-head (λ y. IsTrue (fits n y)) m ms fit) (All-head (λ y. IsTrue (is_carried limit y)) m ms carried) in
      let both = later_twice n w limit r s o.state got.1 (list_any is_delivery o.steps) (list_any is_delivery (steps_of got.0)) is next in
      offers_keep (offered_more w o m) ms (All-tail (λ y. IsTrue (fits n y)) m ms fit) (All-tail (λ y. IsTrue (is_carried limit y)) m ms carried)
      (subst (λ b. IsLater n w limit epoch r s b got.1) (sym (list_any-append is_delivery o.steps (steps_of got.0))) both)

-- what an outbox makes of a replica to which it is offered
pub outbox_is_offered : (world : PlainWorld) (r k : ℕ) → IsWorld world → r < size_of world
    → IsLater (size_of world) world.w world.limit (epoch_in world) r (replica_of world r) (list_any is_delivery (offered_between world r k).steps) (offered_between world r k).state
outbox_is_offered world r k is l =
    let n = size_of world in
    let before = is_as_before n world.w world.limit r (replica_of world r) (is.replicas r l) in
    elim (cases_lt k n) [
      | inl member ↦
          let s = replica_of world k in
          let h = s.history.present in
          let lies : Message → Bool = λ m. not (is_stable (stable_vector h.n h.me h.messages) m) in
          let own : Message → Bool = λ m. m.origin == h.me in
          let fit = All-filter own (λ m. IsTrue (fits n m)) (filter lies h.messages) (All-filter lies (λ m. IsTrue (fits n m)) h.messages (messages_fit n world.w world.limit k s (is.replicas k member))) in
          let carried = All-filter own (λ m. IsTrue (is_carried world.limit m)) (filter lies h.messages) (All-filter lies (λ m. IsTrue (is_carried world.limit m)) h.messages (messages_carried n world.w world.limit k s (is.replicas k member))) in
          offers_keep n world.w world.limit r (replica_of world r) (none_offered (replica_of world r)) (outbox_in s) fit carried before
      | inr past ↦
          let nothing : outbox_in (replica_of world k) ≡ [] = ap outbox_in (get_or_past world.replicas k (start 0 0) past) in
          subst (λ ms. IsLater n world.w world.limit (epoch_in world) r (replica_of world r) (list_any is_delivery (offered world.w (replica_of world r) ms).steps) (offered world.w (replica_of world r) ms).state) (sym nothing) before
    ]

pub resending_keeps_world : ResendingKeepsWorld
resending_keeps_world world r k is l =
    let later = outbox_is_offered world r k is l in
    state_changes world r _ is l later.is_replica later.own

-- ---- bytes

argument_is_valid : (version : Version) (act : Act) → IsArgument version act → is_valid_act act ≡ true
argument_is_valid version (acts.Add v) h = (and_parts (carries_length version (length v)) (is_value v) h).1
argument_is_valid version (acts.Rmv v) h = (and_parts (carries_length version (length v)) (is_value v) h).1
argument_is_valid version acts.Clear h = refl
argument_is_valid version acts.Enable h = refl
argument_is_valid version acts.Disable h = refl
argument_is_valid version (acts.Write v) h = (and_parts (carries_length version (length v)) (is_value v) h).1
argument_is_valid version (acts.Inc a) h = lt-ltb a 4294967296 (omega (arith, h))
argument_is_valid version (acts.Dec a) h = lt-ltb a 4294967296 (omega (arith, h))
argument_is_valid version (acts.Ins v place) h = and_from (is_value v) (is_valid_place place) (and_parts (carries_length version (length v)) (is_value v) h.0).1 h.1
argument_is_valid version (acts.Del id) h = h

operation_is_valid : (version : Version) (o : Op) → IsOperation version o → is_valid o ≡ true
operation_is_valid version op.NoOp h = refl
operation_is_valid version (op.Update u) h = and_from (is_key u.object.key) (is_valid_act u.act) h.0 (argument_is_valid version u.act h.1)

-- a message of a frame fits the store and can be carried there
pub frame_is_carried : (n epoch limit : ℕ) (bytes : List ℕ) (m : Message) → IsFrame n epoch limit bytes m → IsTrue (fits n m) × IsTrue (is_carried limit m)
frame_is_carried n epoch limit bytes m frame = (
  frame.1.fits,
  and_from (list_all (λ e. nat_le e limit) m.tag) (is_valid m.op) (list_all-from_AllPass (λ e. nat_le e limit) m.tag (λ i d l. le-leb (get_or m.tag i d) limit (frame.1.within i d l))) (operation_is_valid frame.0 m.op frame.1.operation),
)

pub rawing_keeps_world : RawingKeepsWorld
rawing_keeps_world world r bytes is l each = by (read_at world r bytes) refl where
  by : (read : Result Message FrameFault) → read_at world r bytes ≡ read → KeepsWorld world (raw_of r world read).1
  by (Err fault) e = world_keeps_itself world is
  by (Ok m) e =
      let epoch = epoch_of (replica_of world r).history in
      let parts = frame_is_carried (size_of world) epoch world.limit bytes m (read_is_a_frame (size_of world) epoch world.limit bytes m each e) in
      offering_keeps_world world r m is l parts.0 parts.1
