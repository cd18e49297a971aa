-- What holds of plain worlds. Each statement is the contract of a function of laws.rt.
use Rattle.std.specs.Prelude.{◌≡◌, ◌≢◌, ◌↔◌, ℕ, ◌+◌, ◌<◌, ◌≤◌, ◌==◌, ◌-◌, List, [], length, nat_lt, slice_get, Some, None, true, false, IsTrue, All, if◌then◌else◌}
use Rattle.op_base.specs.Message.{fits}
use Rattle.op_base.specs.Valid.{is_valid_update}
use Rattle.op_base.specs.declared.message.Message.{Message}
use Rattle.op_base.specs.declared.name.ObjectId.{ObjectId}
use Rattle.op_base.specs.declared.operation.Update.{Update}
use Rattle.causal_model.specs.Counts.{is_carried, count_of}
use Rattle.causal_model.specs.History.{SameEvents}
use Rattle.causal_model.specs.Journal.{IsLegal}
use Rattle.causal_model.specs.declared.note.Note.{Note}
use Rattle.world_model.specs.Journals.{journal_of, AreJournals, HaveGrown}
use Rattle.world_model.specs.World.{PlainWorld, size_of, epoch_in, opening, replica_of, sent_by, local_at, beat_at, offer_at, sent_message, give_at}
use Rattle.world_model.specs.Offering.{outbox_in, resend_at}
use Rattle.world_model.specs.Raw.{raw_at}
use Rattle.world_model.specs.Regrouping.{last_epoch, is_at_rest, regroup_at, is_regrouped}
use Rattle.world_model.specs.Settling.{round_of, rounds_within, most_rounds, world_settled, is_quiescent}
use Rattle.world_model.specs.Showing.{answer_at, log_at, items_at, seen_at, lags_at}
use Rattle.world_model.specs.declared.outcome.Regroup.TheVariants as regroup
use Rattle.world_model.specs.Worlds.{IsWorld, KeepsStore, KeepsWorld}

-- ---- worlds

-- the world before anything was sent is one, of so many members
abbrev pub OpeningIsWorld : Type 0
OpeningIsWorld = (n w limit : ℕ) → 1 ≤ n → n ≤ 16 → 1 ≤ w → limit ≤ 1000000 → IsWorld (opening n w limit)

abbrev pub OpeningHasSize : Type 0
OpeningHasSize = (n w limit : ℕ) → size_of (opening n w limit) ≡ n

-- ---- what was sent

-- what a member sent are its own messages, one after the other; each fits the store and can be carried there
abbrev pub SentAreOwn : Type 0
SentAreOwn = (world : PlainWorld) (k : ℕ) → IsWorld world → k < size_of world
    → (length (sent_by world k) ≡ count_of (replica_of world k).history.present.messages k)
    × All (λ m. (m.origin ≡ k) × IsTrue (fits (size_of world) m) × IsTrue (is_carried world.limit m)) (sent_by world k)

-- they are numbered from 1, so the sent message with a number is the one at its place
abbrev pub SentIsNumbered : Type 0
SentIsNumbered = (world : PlainWorld) (k seq : ℕ) → IsWorld world → k < size_of world
    → sent_message world k seq ≡ (if seq == 0 then None else slice_get (sent_by world k) (seq - 1))

-- ---- commands

-- sending a valid update keeps a world
abbrev pub SendingKeepsWorld : Type 0
SendingKeepsWorld = (world : PlainWorld) (r : ℕ) (update : Update) → IsWorld world → r < size_of world → IsTrue (is_valid_update update)
    → KeepsWorld world (local_at r update world).1

-- so does a beat
abbrev pub BeatingKeepsWorld : Type 0
BeatingKeepsWorld = (world : PlainWorld) (r : ℕ) → IsWorld world → r < size_of world → KeepsWorld world (beat_at r world).1

-- so does offering a message that fits the store and can be carried there
abbrev pub OfferingKeepsWorld : Type 0
OfferingKeepsWorld = (world : PlainWorld) (r : ℕ) (m : Message) → IsWorld world → r < size_of world → IsTrue (fits (size_of world) m) → IsTrue (is_carried world.limit m)
    → KeepsWorld world (offer_at r m world).1

-- so does giving a message, whether or not it was sent
abbrev pub GivingKeepsWorld : Type 0
GivingKeepsWorld = (world : PlainWorld) (r k seq : ℕ) → IsWorld world → r < size_of world → KeepsWorld world (give_at r k seq world).1

-- so does offering an outbox
abbrev pub ResendingKeepsWorld : Type 0
ResendingKeepsWorld = (world : PlainWorld) (r k : ℕ) → IsWorld world → r < size_of world → KeepsWorld world (resend_at r k world).1

-- so does offering bytes, whatever they are
abbrev pub RawingKeepsWorld : Type 0
RawingKeepsWorld = (world : PlainWorld) (r : ℕ) (bytes : List ℕ) → IsWorld world → r < size_of world → All (λ b. b < 256) bytes
    → KeepsWorld world (raw_at r bytes world).1

-- so does settling
abbrev pub SettlingKeepsWorld : Type 0
SettlingKeepsWorld = (world : PlainWorld) → IsWorld world → KeepsWorld world (world_settled world)

-- a change of members leaves a world of the same store; where an epoch begins, it is the next, of so many members
abbrev pub RegroupingKeepsStore : Type 0
RegroupingKeepsStore = (world : PlainWorld) (n : ℕ) → IsWorld world → 1 ≤ n → n ≤ 16 → KeepsStore world (regroup_at n world).1

abbrev pub NextEpochBegins : Type 0
NextEpochBegins = (world : PlainWorld) (n epoch : ℕ) → IsWorld world → 1 ≤ n → n ≤ 16 → (regroup_at n world).0 ≡ regroup.Regrouped epoch
    → (epoch ≡ epoch_in world + 1) × (size_of (regroup_at n world).1 ≡ n) × (epoch_in (regroup_at n world).1 ≡ epoch)

-- where no epoch begins, the world stays
abbrev pub RefusedChangesNothing : Type 0
RefusedChangesNothing = (world : PlainWorld) (n : ℕ) → is_regrouped (regroup_at n world).0 ≡ false → (regroup_at n world).1 ≡ world

-- none begins exactly in the last epoch, and where the store isn't at rest in any other
abbrev pub ChangesAreRefused : Type 0
ChangesAreRefused = (world : PlainWorld) (n : ℕ) → (((regroup_at n world).0 ≡ regroup.Last) ↔ (epoch_in world ≡ last_epoch))
    × (((regroup_at n world).0 ≡ regroup.Unsettled) ↔ ((epoch_in world ≢ last_epoch) × (is_at_rest world ≡ false)))

-- A replica that goes on answers each object as it did, and shows as many settled items; one that begins as replica 0 did. No
-- log has an entry.
abbrev pub NextEpochShowsTheSame : Type 0
NextEpochShowsTheSame = (world : PlainWorld) (n epoch r : ℕ) (object : ObjectId) → IsWorld world → 1 ≤ n → n ≤ 16 → r < n → (regroup_at n world).0 ≡ regroup.Regrouped epoch
    → let from = if nat_lt r (size_of world) then r else 0 in
    (answer_at (regroup_at n world).1 r object ≡ answer_at world from object) × (items_at (regroup_at n world).1 r ≡ items_at world from) × (log_at (regroup_at n world).1 r ≡ [])

-- ---- settling

-- settling gives what a round that moves nothing gives, of some world of the store
abbrev pub SettlingEnds : Type 0
SettlingEnds = (world : PlainWorld) → IsWorld world
    → (before : PlainWorld) × KeepsWorld world before × ((round_of before).moved ≡ false) × ((round_of before).world ≡ world_settled world)

-- more rounds are not made, however many may be
abbrev pub MoreRoundsAreNone : Type 0
MoreRoundsAreNone = (world : PlainWorld) (more : ℕ) → IsWorld world → rounds_within (most_rounds world + more) world ≡ world_settled world

-- where all counts are equal once a world has settled, one more round moves nothing
abbrev pub SettledIsStill : Type 0
SettledIsStill = (world : PlainWorld) → IsWorld world → is_quiescent (world_settled world) ≡ true → (round_of (world_settled world)).moved ≡ false

-- a world is settled exactly where all replicas show equal counts
abbrev pub SettledIsEqualCounts : Type 0
SettledIsEqualCounts = (world : PlainWorld) → (is_quiescent world ≡ true) ↔ ((r : ℕ) → r < size_of world → seen_at world r ≡ seen_at world 0)

-- ---- answers

-- two replicas, of one world or of two with one window, that have the same events answer every object alike
abbrev pub SameEventsAnswerAlike : Type 0
SameEventsAnswerAlike = (world other : PlainWorld) (r q : ℕ) (object : ObjectId) → IsWorld world → IsWorld other → world.w ≡ other.w → r < size_of world → q < size_of other
    → SameEvents (replica_of world r).history (replica_of other q).history → answer_at world r object ≡ answer_at other q object

-- ---- what delays a replica

-- no member lags exactly where all own messages of a replica are stable
abbrev pub NoneLagsIsAllStable : Type 0
NoneLagsIsAllStable = (world : PlainWorld) (r : ℕ) → IsWorld world → r < size_of world → (lags_at world r ≡ None) ↔ (outbox_in (replica_of world r) ≡ [])

-- one that lags is another member of the store
abbrev pub LaggingIsAnother : Type 0
LaggingIsAnother = (world : PlainWorld) (r q : ℕ) → IsWorld world → r < size_of world → lags_at world r ≡ Some q → (q < size_of world) × (q ≢ r)

-- ---- journals

-- journals that have grown twice have grown
abbrev pub GrowingGoesOn : Type 0
GrowingGoesOn = (a b c : List (List Note)) → HaveGrown a b → HaveGrown b c → HaveGrown a c

-- and those of one store that have grown are ones of one store, where each is legal
abbrev pub GrownAreJournals : Type 0
GrownAreJournals = (n w limit : ℕ) (old new : List (List Note)) → AreJournals n w limit old → HaveGrown old new → ((r : ℕ) → r < n → IsLegal n w limit r (journal_of new r))
    → ∥ AreJournals n w limit new ∥₁
