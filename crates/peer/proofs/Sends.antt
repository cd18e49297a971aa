-- What a peer sends is the frame of what its replica sends, and what it sends again are messages of the store.
use Rattle.std.proofs.Common.{◌≡◌, ℕ, Bool, false, not, ◌&&◌, ◌==◌, nat_lt, IsTrue, List, [], All, fold, length, refl, sym, ap, subst, ◌∙◌, inl, inr, arith, eq-eqb, lt-ltb}
use denote.Struct.Props.{props}
use Rattle.std.proofs.Math.Logic.{∥∥₁_elim}
use Rattle.std.specs.List.{filter}
use Rattle.std.proofs.lemmas.Bool.{and_from}
use Rattle.std.proofs.lemmas.List.Elements.{All-nil, All-push, All-filter}
use Rattle.op_base.specs.Message.{number, fits}
use Rattle.op_base.specs.declared.message.Message.{Message}
use Rattle.op_base.specs.declared.operation.Update.{Update}
use Rattle.causal_model.specs.Chapter.{is_chapter}
use Rattle.causal_model.specs.Follows.{Follows}
use Rattle.causal_model.specs.Sending.{is_sent, local_messages, local_rule, beat_messages, beat_rule}
use Rattle.causal_model.specs.Stability.{stable_vector, is_stable}
use Rattle.causal_model.specs.State.{State, with_own}
use Rattle.causal_model.specs.declared.outcome.Beat.{Beat}
use Rattle.causal_model.specs.declared.outcome.Beat.TheVariants as beat_of_replica
use Rattle.causal_model.specs.declared.outcome.Local.{Local}
use Rattle.causal_model.specs.declared.outcome.Local.TheVariants as local
use Rattle.causal_model.proofs.Delivery.Chapters.{chapter_induction}
use Rattle.replica_core.specs.Standing.{Fields, Standing}
use Rattle.replica_core.specs.Rules.{fields_of, StandsFor, Unchanged}
use Rattle.replica_core.proofs.Stands.{chapter_of, unchanged_stands}
use Rattle.replica_core.specs.declared.replica.Replica.{Replica}
use Rattle.peer.specs.Calls.{updated_of, beaten_of, is_framed, is_beat_framed}
use Rattle.peer.specs.Rules.{update_rule, peer_beat_rule, frame_at}
use Rattle.peer.specs.declared.answers.Beat.TheVariants as beat
use Rattle.peer.specs.declared.answers.Updated.TheVariants as updated

-- ---- what isn't sent

unsent_has_none : (answer : Local) → is_sent answer ≡ false → local_messages answer ≡ []
unsent_has_none (local.Sent m) e = cc
unsent_has_none local.Busy e = refl
unsent_has_none local.End e = refl
unsent_has_none local.NoMemory e = refl

-- a frame is what is sent
framed_is_sent : (n : ℕ) (answer : Local) → is_framed (updated_of n answer) ≡ is_sent answer
framed_is_sent n (local.Sent m) = refl
framed_is_sent n local.Busy = refl
framed_is_sent n local.End = refl
framed_is_sent n local.NoMemory = refl

-- where a replica drafts nothing of an update, it follows the rule of updates that nothing is sent
pub unsent_follows : (r : Replica) (u : Update) (answer : Local) → is_sent answer ≡ false → Follows StandsFor local.NoMemory is_sent (λ s. ((local_rule r.w r.limit u s).0, s)) r answer r
    → Follows StandsFor updated.NoMemory is_framed (update_rule r.n r.w r.limit u) r (updated_of r.n answer) r
unsent_follows r u answer unsent told s stands = elim (told s stands) [
  | inl is ↦ inl (ap (updated_of r.n) is.0, subst (λ sent. StandsFor r (fold with_own s sent)) (sym (unsent_has_none answer unsent) ∙ ap local_messages is.0) is.1)
  | inr lacks ↦ inr (ap (updated_of r.n) lacks.0, framed_is_sent r.n (local_rule r.w r.limit u s).0 ∙ lacks.1, lacks.2)
]

-- ---- what is sent

sent_is_no_fault : (m : Message) → local.Sent m ≡ local.NoMemory → ⊥
sent_is_no_fault m e = cc

-- what is drafted of an update is what the rule of updates sends
drafted_is_sent : (r : Replica) (u : Update) (m : Message) → Follows StandsFor local.NoMemory is_sent (λ s. ((local_rule r.w r.limit u s).0, s)) r (local.Sent m) r
    → (s : State) → StandsFor r s → local.Sent m ≡ (local_rule r.w r.limit u s).0
drafted_is_sent r u m told s stands = elim (told s stands) [
  | inl is ↦ is.0
  | inr lacks ↦ absurd (sent_is_no_fault m lacks.0)
]

-- where it is sent, and its frame handed out, the replica follows that rule
pub sent_follows : (r new : Replica) (u : Update) (m : Message) (frame : List ℕ) → Follows StandsFor local.NoMemory is_sent (λ s. ((local_rule r.w r.limit u s).0, s)) r (local.Sent m) r
    → frame ≡ frame_at r m → ((s : State) → StandsFor r s → StandsFor new (with_own s m)) → Follows StandsFor updated.NoMemory is_framed (update_rule r.n r.w r.limit u) r (updated.Frame frame) new
sent_follows r new u m frame told of goes s stands =
    let sent = drafted_is_sent r u m told s stands in
    inl (ap (λ (f : List ℕ). updated.Frame f) of ∙ ap (updated_of r.n) sent, subst (λ (ms : List Message). StandsFor new (fold with_own s ms)) (ap local_messages sent) (goes s stands))

-- so it does where there is no memory for that
pub lacking_follows : (r new : Replica) (u : Update) (m : Message) → Follows StandsFor local.NoMemory is_sent (λ s. ((local_rule r.w r.limit u s).0, s)) r (local.Sent m) r
    → Unchanged r new → Follows StandsFor updated.NoMemory is_framed (update_rule r.n r.w r.limit u) r updated.NoMemory new
lacking_follows r new u m told same s stands =
    inr (refl, ap (λ (answer : Local). is_framed (updated_of r.n answer)) (sym (drafted_is_sent r u m told s stands)), unchanged_stands r new s same stands)

-- a no-op that is drafted, sent and handed out follows the rule of beats
pub beat_follows : (r new : Replica) (m : Message) (frame : List ℕ) → ((s : State) → StandsFor r s → beat_of_replica.Sent m ≡ (beat_rule r.w r.limit s).0)
    → frame ≡ frame_at r m → ((s : State) → StandsFor r s → StandsFor new (with_own s m)) → Follows StandsFor beat.NoMemory is_beat_framed (peer_beat_rule r.n r.w r.limit) r (beat.Frame frame) new
beat_follows r new m frame told of goes s stands =
    let sent = told s stands in
    inl (ap (λ (f : List ℕ). beat.Frame f) of ∙ ap (beaten_of r.n) sent, subst (λ (ms : List Message). StandsFor new (fold with_own s ms)) (ap beat_messages sent) (goes s stands))

-- so does one where there is no memory for that
pub lacking_beat_follows : (r new : Replica) (m : Message) → ((s : State) → StandsFor r s → beat_of_replica.Sent m ≡ (beat_rule r.w r.limit s).0)
    → Unchanged r new → Follows StandsFor beat.NoMemory is_beat_framed (peer_beat_rule r.n r.w r.limit) r beat.NoMemory new
lacking_beat_follows r new m told same s stands =
    inr (refl, ap (λ (answer : Beat). is_beat_framed (beaten_of r.n answer)) (sym (told s stands)), unchanged_stands r new s same stands)

-- ---- what is sent again

-- each message of a chapter is one of the store
chapter_fits : (n w me : ℕ) (ms : List Message) → IsTrue (is_chapter n w me ms) → All (λ m. IsTrue (fits n m)) ms
chapter_fits n w me = chapter_induction n w me (λ g. All (λ m. IsTrue (fits n m)) g) (All-nil (λ m. IsTrue (fits n m))) (λ g m _ next all.
    All-push (λ y. IsTrue (fits n y)) g m all (and_from (length m.tag == n && nat_lt m.origin n) (nat_lt 0 (number m))
    (and_from (length m.tag == n) (nat_lt m.origin n) (eq-eqb (length m.tag) n next.entries) (lt-ltb m.origin n next.member)) (lt-ltb 0 (number m) (omega (arith, next.counted)))))

-- so is each own one that isn't stable
outbox_fits : (f : Fields) (s : State) → Standing f s → All (λ m. IsTrue (fits f.n m)) f.outbox.messages
outbox_fits f s stands =
    let messages = s.history.present.messages in
    let lies : Message → Bool = λ m. not (is_stable (stable_vector f.n f.me messages) m) in
    let each = chapter_fits f.n f.w f.me messages (chapter_of f s stands) in
    subst (λ (own : List Message). All (λ m. IsTrue (fits f.n m)) own) (sym (ap (λ (o : _). o.messages) stands.outbox))
    (All-filter (λ m. m.origin == f.me) (λ m. IsTrue (fits f.n m)) (filter lies messages) (All-filter lies (λ m. IsTrue (fits f.n m)) messages each))

pub outbox_fits_in : (r : Replica) → All (λ m. IsTrue (fits r.n m)) r.outbox.messages
outbox_fits_in r = λ k d l. ∥∥₁_elim r.stands (search props) (λ x. outbox_fits (fields_of r) x.0 x.1 k d l)
