-- What holds of honest worlds. Each statement is the contract of a function of laws.rt.
use Rattle.std.specs.Prelude.{◌≡◌, ◌≢◌, ◌↔◌, ℕ, ◌+◌, ◌-◌, ◌*◌, ◌<◌, ◌≤◌, true, false, List, [], ◌++◌, slice_get, Some, IsTrue, All, Contains}
use Rattle.op_base.specs.Message.{number}
use Rattle.op_base.specs.declared.message.Message.{Message}
use Rattle.causal_model.specs.Log.{log_of}
use Rattle.causal_model.specs.Chapter.{is_admissible}
use Rattle.causal_model.specs.Counts.{count_of, counts, is_deliverable}
use Rattle.causal_model.specs.History.{Event, events, is_before, is_all_stable, SameEvents}
use Rattle.causal_model.specs.Journal.{replay, IsLegal}
use Rattle.causal_model.specs.Receiving.{steps_of}
use Rattle.causal_model.specs.declared.outcome.Beat.TheVariants as beat
use Rattle.causal_model.specs.declared.outcome.Receive.TheVariants as receive
use Rattle.causal_model.specs.Sending.{KeepsRule}
use Rattle.causal_model.specs.Settled.{is_stable_event}
use Rattle.causal_model.specs.Stability.{unstable_noops, noop_window}
use Rattle.causal_model.specs.declared.note.Note.{Note}
use Rattle.causal_model.specs.declared.note.Note.TheVariants.{Kept}
use Rattle.world_model.specs.CausallyStable.{IsCausallyStable}
use Rattle.world_model.specs.Commands.{WorldCommand, CanRun, is_raw, after_command}
use Rattle.world_model.specs.EventOrder.{IsEvent, IsSentEvent, EventOrder}
use Rattle.world_model.specs.Honest.{IsSentMessage, history_of, delivered_by, IsHonest, KeepsHonest}
use Rattle.world_model.specs.Journals.{journal_of, world_of_journals, ends_epoch, is_crook, sent_in, AreJournals}
use Rattle.world_model.specs.Offering.{offered_between}
use Rattle.world_model.specs.Regrouping.{regroup_at}
use Rattle.world_model.specs.Settling.{is_delivery, round_of, world_settled, is_quiescent}
use Rattle.world_model.specs.World.{PlainWorld, size_of, opening, beat_at, offer_at}
use Rattle.world_model.specs.Worlds.{IsWorld, KeepsStore, own_of}
use Rattle.world_model.specs.declared.outcome.Regroup.TheVariants as regroup

-- ---- worlds stay honest

-- a store begins honest
abbrev pub OpeningIsHonest : Type 0
OpeningIsHonest = (n w limit : ℕ) → 1 ≤ n → n ≤ 16 → 1 ≤ w → limit ≤ 1000000 → IsHonest (opening n w limit)

-- every command but one of bytes keeps it so
abbrev pub CommandsKeepHonest : Type 0
CommandsKeepHonest = (world : PlainWorld) (command : WorldCommand) → IsHonest world → CanRun world command → is_raw command ≡ false
    → IsHonest (after_command world command) × KeepsStore world (after_command world command)

-- and so does offering any message that was sent
abbrev pub OfferingSentKeepsHonest : Type 0
OfferingSentKeepsHonest = (world : PlainWorld) (r : ℕ) (m : Message) → IsHonest world → r < size_of world → IsSentMessage world m
    → KeepsHonest world (offer_at r m world).1

-- ---- what was sent is delivered

-- no message that was sent is refused as far
abbrev pub SentIsNear : Type 0
SentIsNear = (world : PlainWorld) (r : ℕ) (m : Message) → IsHonest world → r < size_of world → IsSentMessage world m → (offer_at r m world).0 ≢ receive.Far

-- after each front of a history a message that was sent and can be delivered is not crooked
abbrev pub DeliverableIsAdmissible : Type 0
DeliverableIsAdmissible = (world : PlainWorld) (r : ℕ) (before later : List Message) (m : Message) → IsHonest world → r < size_of world
    → delivered_by world r ≡ before ++ later → IsSentMessage world m
    → IsTrue (is_deliverable (size_of world) (counts (size_of world) before) m) → IsTrue (is_admissible (size_of world) world.w r before m)

-- so each step that a message which was sent makes delivers
abbrev pub StepsDeliver : Type 0
StepsDeliver = (world : PlainWorld) (r : ℕ) (m : Message) → IsHonest world → r < size_of world → IsSentMessage world m
    → All (λ step. IsTrue (is_delivery step)) (steps_of (offer_at r m world).0)

-- and each step that an outbox makes
abbrev pub ResentStepsDeliver : Type 0
ResentStepsDeliver = (world : PlainWorld) (r k : ℕ) → IsHonest world → r < size_of world
    → All (λ step. IsTrue (is_delivery step)) (offered_between world r k).steps

-- ---- the order of events

-- by their timestamps an event happened before one that was sent exactly where it does in the order of events
abbrev pub HappenedBeforeIsEventOrder : Type 0
HappenedBeforeIsEventOrder = (world : PlainWorld) (a b : Event) → IsHonest world → IsEvent world a → IsSentEvent world b
    → (IsTrue (is_before a b) ↔ EventOrder world a b)

-- ---- what is stable

-- in every world, honest or not, what is stable at a replica is causally stable there
abbrev pub StableIsCausallyStable : Type 0
StableIsCausallyStable = (world : PlainWorld) (r : ℕ) (e : Event) → IsWorld world → r < size_of world → Contains (events (history_of world r)) e
    → IsTrue (is_stable_event (history_of world r) e) → IsCausallyStable world r e

-- in an honest one it is in the history of every replica
abbrev pub StableIsEverywhere : Type 0
StableIsEverywhere = (world : PlainWorld) (r q : ℕ) (e : Event) → IsHonest world → r < size_of world → q < size_of world
    → Contains (events (history_of world r)) e → IsTrue (is_stable_event (history_of world r) e) → Contains (events (history_of world q)) e

-- ---- settling

-- all replicas have the same events
abbrev pub HaveSameEvents : PlainWorld → Type 0
HaveSameEvents world = (r q : ℕ) → r < size_of world → q < size_of world → SameEvents (history_of world r) (history_of world q)

-- no member has sent as many messages as the limit lets it
abbrev pub AreBelowLimit : PlainWorld → Type 0
AreBelowLimit world = (r : ℕ) → r < size_of world → count_of (delivered_by world r) r ≢ world.limit

-- after a round that moves nothing all replicas have the same events; where moreover no member has reached the limit, every
-- operation is stable
abbrev pub StillRoundSettles : Type 0
StillRoundSettles = (world : PlainWorld) → IsHonest world → (round_of world).moved ≡ false
    → HaveSameEvents (round_of world).world × (is_quiescent (round_of world).world ≡ true)
    × (AreBelowLimit (round_of world).world → (r : ℕ) → r < size_of world → IsTrue (is_all_stable (history_of (round_of world).world r).present))

-- so it is once a world has settled
abbrev pub SettlingSettles : Type 0
SettlingSettles = (world : PlainWorld) → IsHonest world → HaveSameEvents (world_settled world) × (is_quiescent (world_settled world) ≡ true)

-- and where no member has reached the limit, every log is empty
abbrev pub SettledLogsAreEmpty : Type 0
SettledLogsAreEmpty = (world : PlainWorld) (r : ℕ) → IsHonest world → AreBelowLimit (world_settled world) → r < size_of world
    → IsTrue (is_all_stable (history_of (world_settled world) r).present) × (log_of (history_of (world_settled world) r) ≡ [])

-- so a change of its members, however many they are to be, is then not refused as unsettled
abbrev pub RegroupingIsPossible : Type 0
RegroupingIsPossible = (world : PlainWorld) (n : ℕ) → IsHonest world → AreBelowLimit (world_settled world) → (regroup_at n (world_settled world)).0 ≢ regroup.Unsettled

-- a change of members keeps a world honest
abbrev pub RegroupingKeepsHonest : Type 0
RegroupingKeepsHonest = (world : PlainWorld) (n : ℕ) → IsHonest world → 1 ≤ n → n ≤ 16 → IsHonest (regroup_at n world).1

-- equal counts are equal events
abbrev pub EqualCountsAreEqualEvents : Type 0
EqualCountsAreEqualEvents = (world : PlainWorld) → IsHonest world → is_quiescent world ≡ true → HaveSameEvents world

-- ---- no-ops

-- how many own no-ops can be unstable in an honest store of n members with a window of w, none where there is one member
abbrev pub honest_noops : ℕ → ℕ → ℕ
honest_noops n w = (2 * n - 3) * w

-- No more are, fewer than the no-op window. A test of scripts reaches as many with three members and a window of one.
abbrev pub NoopsAreFew : Type 0
NoopsAreFew = (world : PlainWorld) (r : ℕ) → IsHonest world → r < size_of world
    → (unstable_noops (size_of world) r (delivered_by world r) r ≤ honest_noops (size_of world) world.w)
    × (honest_noops (size_of world) world.w < noop_window (size_of world) world.w)

-- so no beat is held
abbrev pub NoBeatIsHeld : Type 0
NoBeatIsHeld = (world : PlainWorld) (r : ℕ) → IsHonest world → r < size_of world → (beat_at r world).0 ≢ beat.Held

-- ---- journals

-- the own messages of a replay are those that its notes sent, in order
abbrev pub SentNotesAreOwn : Type 0
SentNotesAreOwn = (n w limit me : ℕ) (notes : List Note) → n ≤ 16 → me < n → IsLegal n w limit me notes → All (λ note. ends_epoch note ≡ false) notes
    → own_of (replay n me notes) ≡ sent_in notes

-- what such notes sent has the numbers from 1 on, in order: no two messages that one journal sent have one number
abbrev pub SentAreNumbered : Type 0
SentAreNumbered = (n w limit me : ℕ) (notes : List Note) (i : ℕ) (m : Message) → n ≤ 16 → me < n → IsLegal n w limit me notes → All (λ note. ends_epoch note ≡ false) notes
    → slice_get (sent_in notes) i ≡ Some m → number m ≡ i + 1

-- each other message, and each early one, was kept by a note
abbrev pub OthersWereKept : Type 0
OthersWereKept = (n w limit me : ℕ) (notes : List Note) → n ≤ 16 → me < n → IsLegal n w limit me notes → All (λ note. ends_epoch note ≡ false) notes
    → All (λ m. m.origin ≢ me → Contains notes (Kept m)) (replay n me notes).history.present.messages
    × All (λ m. Contains notes (Kept m)) (replay n me notes).early

-- each own message is what the rule gives
abbrev pub LegalKeepsRule : Type 0
LegalKeepsRule = (n w limit me : ℕ) (notes : List Note) → n ≤ 16 → me < n → IsLegal n w limit me notes → All (λ note. ends_epoch note ≡ false) notes
    → KeepsRule n w limit me (replay n me notes).history.present.messages

-- journals whose kept messages stand as sent in those of their origins give an honest world
abbrev pub JournalsAreHonest : Type 0
JournalsAreHonest = (n w limit : ℕ) (journals : List (List Note)) → 1 ≤ n → n ≤ 16 → 1 ≤ w → limit ≤ 1000000 → AreJournals n w limit journals
    → IsHonest (world_of_journals n w limit journals)

-- and none of them has a note of a crooked message
abbrev pub JournalsHaveNoCrook : Type 0
JournalsHaveNoCrook = (n w limit r : ℕ) (journals : List (List Note)) → 1 ≤ n → n ≤ 16 → 1 ≤ w → limit ≤ 1000000 → AreJournals n w limit journals
    → r < n → All (λ note. is_crook note ≡ false) (journal_of journals r)
