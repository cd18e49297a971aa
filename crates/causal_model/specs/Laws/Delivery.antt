-- What holds of the messages that a member delivers in an epoch, and of what is computed from them. Each statement is the
-- contract of a function of laws/delivery.rt.
use Rattle.std.specs.Prelude.{◌≡◌, ◌≢◌, ℕ, ◌+◌, ◌-◌, ◌*◌, ◌<◌, ◌≤◌, Bool, true, false, not, ◌&&◌, ◌||◌, ◌==◌, List, [], ◌∷◌, ◌++◌, length, filter, map, slice_get, slice_set, IsTrue, All, AllPairs, Contains, Some, None, if◌then◌else◌}
use Rattle.std.specs.List.{range_with_len}
use Rattle.op_base.specs.Message.{number, fits}
use Rattle.op_base.specs.Object.{same_object}
use Rattle.op_base.specs.Timestamp.{entry, zero_tag}
use Rattle.op_base.specs.Valid.{is_valid}
use Rattle.op_base.specs.declared.message.Message.{Message}
use Rattle.op_base.specs.declared.operation.Update.{Update}
use Rattle.op_base.specs.declared.operation.Op.{Op}
use Rattle.causal_model.specs.Order.{happened_before, same_id}
use Rattle.causal_model.specs.Counts.{members, count_of, counts, is_deliverable, is_carried, are_carried}
use Rattle.causal_model.specs.Stability.{last_tag, known_vector, minimum, stable_count, stable_vector, is_stable, carries_operation, unstable_messages, unstable_of, unstable_operations, unstable_noops, noop_window}
use Rattle.causal_model.specs.Crook.{tag_of, regress_of, unclosed_at, unclosed_of}
use Rattle.causal_model.specs.Chapter.{is_next, is_chapter}
use Rattle.causal_model.specs.Covering.{store_keeps, store_covers}
use Rattle.causal_model.specs.Log.{is_covered_by, is_uncovered, kept_log, pruned_log}
use Rattle.causal_model.specs.Sending.{own_message, HasRoom, is_noop_due, outbox_of}

-- ---- before anything was delivered

-- each definition begins with zeros, or with nothing
abbrev pub NothingYet : Type 0
NothingYet = (keeps : Update → Bool) (covers : Update → Update → Bool) (n w me : ℕ) → IsTrue (is_chapter n w me [])
    × (counts n [] ≡ zero_tag n) × ((y : ℕ) → known_vector n me [] y ≡ zero_tag n) × (stable_vector n me [] ≡ zero_tag n)
    × (unstable_messages n me [] ≡ []) × (kept_log keeps covers n me [] ≡ []) × (outbox_of n me [] ≡ []) × (is_noop_due me [] ≡ false)

-- ---- chapters

-- messages with one more are a chapter where they are, and the message is their next
abbrev pub ChapterGrows : Type 0
ChapterGrows = (n w me : ℕ) (ms : List Message) (m : Message)
    → is_chapter n w me (ms ++ m ∷ []) ≡ (is_chapter n w me ms && is_next n w me ms m)

-- where there is room, a member's own message is the next that it delivers: it is deliverable, and not crooked
abbrev pub OwnMessageIsNext : Type 0
OwnMessageIsNext = (n w me : ℕ) (ms : List Message) (o : Op) → me < n → IsTrue (is_chapter n w me ms) → HasRoom n w me ms o
    → IsTrue (is_next n w me ms (own_message n me ms o))

-- no number of a message is above the count of its origin
abbrev pub NumbersAreCounted : Type 0
NumbersAreCounted = (n w me : ℕ) (ms : List Message) → IsTrue (is_chapter n w me ms) → All (λ m. number m ≤ count_of ms m.origin) ms

-- where no entry is above a limit, no count is
abbrev pub CountsAreWithin : Type 0
CountsAreWithin = (n w me limit x : ℕ) (ms : List Message) → IsTrue (is_chapter n w me ms) → IsTrue (are_carried limit ms) → count_of ms x ≤ limit

-- where a member hasn't sent all that it may, its own message of a valid operation can be carried
abbrev pub OwnMessageIsCarried : Type 0
OwnMessageIsCarried = (n w me limit : ℕ) (ms : List Message) (o : Op) → me < n → IsTrue (is_chapter n w me ms) → IsTrue (are_carried limit ms)
    → count_of ms me < limit → IsTrue (is_valid o) → IsTrue (is_carried limit (own_message n me ms o))

-- in a store of one member the count is the number of messages
abbrev pub CountsAlone : Type 0
CountsAlone = (w : ℕ) (ms : List Message) → IsTrue (is_chapter 1 w 0 ms) → counts 1 ms ≡ length ms ∷ []

-- in a store of one member no operation is unstable
abbrev pub NoneUnstableAlone : Type 0
NoneUnstableAlone = (w : ℕ) (ms : List Message) → IsTrue (is_chapter 1 w 0 ms) → unstable_operations 1 0 ms 0 ≡ 0

-- no two messages of a chapter have one id
abbrev pub IdsAreApart : Type 0
IdsAreApart = (n w me : ℕ) (ms : List Message) → IsTrue (is_chapter n w me ms) → AllPairs (λ (a b : Message). same_id a b ≡ false) ms

-- a chapter has at most the limit's number of messages for each member
abbrev pub ChapterIsBounded : Type 0
ChapterIsBounded = (n w me limit : ℕ) (ms : List Message) → IsTrue (is_chapter n w me ms) → IsTrue (are_carried limit ms) → length ms ≤ n * limit

-- ---- the order of messages

-- no message happened before itself
abbrev pub NeverBeforeItself : Type 0
NeverBeforeItself = (m : Message) → happened_before m m ≡ false

-- in a chapter, what happened before a message happened before what that happened before
abbrev pub OrderIsTransitive : Type 0
OrderIsTransitive = (n w me : ℕ) (ms : List Message) (a b c : Message) → IsTrue (is_chapter n w me ms)
    → Contains ms a → Contains ms b → Contains ms c
    → IsTrue (happened_before a b) → IsTrue (happened_before b c) → IsTrue (happened_before a c)

-- in a chapter, of two messages at most one happened before the other
abbrev pub OrderIsAsymmetric : Type 0
OrderIsAsymmetric = (n w me : ℕ) (ms : List Message) (a b : Message) → IsTrue (is_chapter n w me ms) → Contains ms a → Contains ms b
    → IsTrue (happened_before a b) → happened_before b a ≡ false

-- in a chapter, what happened before a message stands at an earlier place
abbrev pub OrderGoesForward : Type 0
OrderGoesForward = (n w me : ℕ) (ms : List Message) (i j : ℕ) (a b : Message) → IsTrue (is_chapter n w me ms)
    → slice_get ms i ≡ Some a → slice_get ms j ≡ Some b → IsTrue (happened_before a b) → i < j

-- ---- stability

-- what is stable stays stable
abbrev pub StableStays : Type 0
StableStays = (n w me : ℕ) (ms later : List Message) (m : Message) → m.origin < n → IsTrue (is_chapter n w me (ms ++ later))
    → IsTrue (is_stable (stable_vector n me ms) m) → IsTrue (is_stable (stable_vector n me (ms ++ later)) m)

-- what comes next happened after all that is stable
abbrev pub NextIsAfterStable : Type 0
NextIsAfterStable = (n w me : ℕ) (ms : List Message) (m next : Message) → m.origin < n → IsTrue (is_chapter n w me ms)
    → IsTrue (is_next n w me ms next) → IsTrue (is_stable (stable_vector n me ms) m) → IsTrue (happened_before m next)

-- each member has at most as many unstable operations as the window has, and no-ops as theirs
abbrev pub FewAreUnstable : Type 0
FewAreUnstable = (n w me x : ℕ) (ms : List Message) → IsTrue (is_chapter n w me ms)
    → (unstable_operations n me ms x ≤ w) × (unstable_noops n me ms x ≤ noop_window n w)

-- a log has at most the window's number of entries for each member
abbrev pub LogIsBounded : Type 0
LogIsBounded = (keeps : Update → Bool) (covers : Update → Update → Bool) (n w me : ℕ) (ms : List Message) → IsTrue (is_chapter n w me ms)
    → length (kept_log keeps covers n me ms) ≤ n * w

-- ---- what the unstable messages tell of a message that comes

-- where its sender's timestamps don't fall, a message that can be delivered is closed after the unstable messages alone
-- where it is after all
abbrev pub WindowTellsUnclosed : Type 0
WindowTellsUnclosed = (n w me : ℕ) (ms : List Message) (m : Message) → me < n → IsTrue (is_chapter n w me ms) → IsTrue (fits n m)
    → IsTrue (is_deliverable n (counts n ms) m) → m.origin ≢ me → regress_of n ms m ≡ None
    → unclosed_of n ms m ≡ unclosed_of n (unstable_messages n me ms) m

-- with such a message, of those that were unstable and of itself those are unstable that aren't stable then
abbrev pub UnstableOfOneMore : Type 0
UnstableOfOneMore = (n w me : ℕ) (ms : List Message) (m : Message) → me < n → IsTrue (is_chapter n w me ms) → IsTrue (fits n m)
    → IsTrue (is_deliverable n (counts n ms) m) → regress_of n ms m ≡ None
    → unstable_messages n me (ms ++ m ∷ []) ≡ filter (λ e. not (is_stable (stable_vector n me (ms ++ m ∷ [])) e)) (unstable_messages n me ms ++ m ∷ [])

-- such a message is closed at each member of which it has seen no more than its sender's last message had
abbrev pub SeenBeforeIsClosed : Type 0
SeenBeforeIsClosed = (n w me x : ℕ) (ms : List Message) (m : Message) → x < n → IsTrue (is_chapter n w me ms) → regress_of n ms m ≡ None
    → entry m.tag x ≤ entry (last_tag n ms m.origin) x → unclosed_at n ms m x ≡ None

-- the unstable messages of a member are numbered one after the other, above the stable count
abbrev pub UnstableAreNumbered : Type 0
UnstableAreNumbered = (n w me x : ℕ) (ms : List Message) → x < n → IsTrue (is_chapter n w me ms)
    → map number (unstable_of n me ms x) ≡ range_with_len (stable_count n me ms x + 1) (count_of ms x - stable_count n me ms x)

abbrev pub StableIsCounted : Type 0
StableIsCounted = (n w me x : ℕ) (ms : List Message) → x < n → IsTrue (is_chapter n w me ms) → stable_count n me ms x ≤ count_of ms x

-- so one is found by its number
abbrev pub FoundByNumber : Type 0
FoundByNumber = (n w me x i : ℕ) (ms : List Message) (e : Message) → x < n → IsTrue (is_chapter n w me ms) → slice_get (unstable_of n me ms x) i ≡ Some e
    → tag_of n ms x (stable_count n me ms x + 1 + i) ≡ e.tag

-- before the next message comes, its origin's window has room for it
abbrev pub RoomForNext : Type 0
RoomForNext = (n w me : ℕ) (ms : List Message) (m : Message) → me < n → 1 ≤ w → IsTrue (is_chapter n w me (ms ++ m ∷ []))
    → (IsTrue (carries_operation m.op) → unstable_operations n me ms m.origin < w)
    × (carries_operation m.op ≡ false → unstable_noops n me ms m.origin < noop_window n w)

-- so the unstable messages of its origin have room for it, and it is numbered right after the last of them
abbrev pub NextFollowsUnstable : Type 0
NextFollowsUnstable = (n w me : ℕ) (ms : List Message) (m : Message) → me < n → 1 ≤ w → IsTrue (is_chapter n w me (ms ++ m ∷ []))
    → (length (unstable_of n me ms m.origin) < w + noop_window n w)
    × ((e : Message) → 0 < length (unstable_of n me ms m.origin) → slice_get (unstable_of n me ms m.origin) (length (unstable_of n me ms m.origin) - 1) ≡ Some e → number e + 1 ≡ number m)

-- the log has room while the next message is in it, and nothing was stripped yet
abbrev pub LogHasRoom : Type 0
LogHasRoom = (keeps : Update → Bool) (covers : Update → Update → Bool) (n w me : ℕ) (ms : List Message) (m : Message) → me < n → 1 ≤ w
    → IsTrue (is_chapter n w me (ms ++ m ∷ [])) → length (pruned_log keeps covers n me ms m) ≤ n * w

-- ---- one message more

-- counts: the origin's is raised by one
abbrev pub CountsOfOneMore : Type 0
CountsOfOneMore = (n : ℕ) (ms : List Message) (m : Message)
    → counts n (ms ++ m ∷ []) ≡ slice_set (counts n ms) m.origin (count_of ms m.origin + 1)

-- the last timestamp of a member: the message's where it is the member's
abbrev pub LastOfOneMore : Type 0
LastOfOneMore = (n : ℕ) (ms : List Message) (m : Message) (x : ℕ)
    → last_tag n (ms ++ m ∷ []) x ≡ (if m.origin == x then m.tag else last_tag n ms x)

-- known vectors: the own one's entry of the origin is raised by one, the origin's is the message's timestamp. The
-- stable counts are the least of their entries, as before.
abbrev pub KnownOfOneMore : Type 0
KnownOfOneMore = (n me : ℕ) (ms : List Message) (m : Message) (y : ℕ)
    → known_vector n me (ms ++ m ∷ []) y
    ≡ (if y == me then slice_set (counts n ms) m.origin (count_of ms m.origin + 1) else (if m.origin == y then m.tag else known_vector n me ms y))

-- stable counts: the least of the entries of the known vectors as they are after the message
abbrev pub StableOfOneMore : Type 0
StableOfOneMore = (n me : ℕ) (ms : List Message) (m : Message) (x : ℕ)
    → stable_count n me (ms ++ m ∷ []) x
    ≡ minimum (map (λ y. entry (if y == me then slice_set (counts n ms) m.origin (count_of ms m.origin + 1) else (if m.origin == y then m.tag else known_vector n me ms y)) x) (members n))

-- a message of the chapter is uncovered where it was, and the new one neither happened after it nor covers it; the new
-- one is uncovered
abbrev pub UncoveredOfOneMore : Type 0
UncoveredOfOneMore = (covers : Update → Update → Bool) (n w me : ℕ) (ms : List Message) (m : Message) → IsTrue (is_chapter n w me (ms ++ m ∷ []))
    → ((e : Message) → is_uncovered covers (ms ++ m ∷ []) e ≡ (is_uncovered covers ms e && not (is_covered_by covers e.op m.op && happened_before e m)))
    × (is_uncovered covers (ms ++ m ∷ []) m ≡ true)

-- the log: what the message covers goes, the message comes where it is kept, and then what is stable goes
abbrev pub LogOfOneMore : Type 0
LogOfOneMore = (keeps : Update → Bool) (covers : Update → Update → Bool) (n w me : ℕ) (ms : List Message) (m : Message) → IsTrue (is_chapter n w me (ms ++ m ∷ []))
    → kept_log keeps covers n me (ms ++ m ∷ [])
    ≡ filter (λ e. not (is_stable (stable_vector n me (ms ++ m ∷ [])) e)) (pruned_log keeps covers n me ms m)

-- the outbox: the message comes where it is an own one, and what is stable goes
abbrev pub OutboxOfOneMore : Type 0
OutboxOfOneMore = (n w me : ℕ) (ms : List Message) (m : Message) → me < n → IsTrue (is_chapter n w me (ms ++ m ∷ []))
    → outbox_of n me (ms ++ m ∷ [])
    ≡ filter (λ e. not (is_stable (stable_vector n me (ms ++ m ∷ [])) e)) (outbox_of n me ms ++ (if m.origin == me then m ∷ [] else []))

-- a no-op is due after a message of another member where one was due before or it carries an operation, and not after an
-- own one
abbrev pub DueOfOneMore : Type 0
DueOfOneMore = (me : ℕ) (ms : List Message) (m : Message)
    → is_noop_due me (ms ++ m ∷ []) ≡ (not (m.origin == me) && (is_noop_due me ms || carries_operation m.op))

-- ---- the table of rules

-- an operation covers those of its own object alone
abbrev pub CoversOneObject : Type 0
CoversOneObject = (later earlier : Update) → IsTrue (store_covers later earlier) → IsTrue (same_object later.object earlier.object)

-- only what is logged is covered
abbrev pub CoversKeptAlone : Type 0
CoversKeptAlone = (later earlier : Update) → IsTrue (store_covers later earlier) → IsTrue (store_keeps earlier)

-- what covers an operation covers what that covers
abbrev pub CoversTransitively : Type 0
CoversTransitively = (last later earlier : Update) → IsTrue (store_covers last later) → IsTrue (store_covers later earlier) → IsTrue (store_covers last earlier)
