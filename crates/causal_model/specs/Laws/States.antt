-- What holds of the states that a replica can be in, and of what its calls make of them. Each statement is the contract of
-- a function of laws/states.rt.
use Rattle.std.specs.Prelude.{◌≡◌, ◌⊎◌, ◌↔◌, ℕ, ◌+◌, ◌*◌, ◌<◌, ◌≤◌, false, ◌==◌, List, [], ◌∷◌, ◌++◌, length, filter, IsTrue, All, AllPairs, Contains, Option, Some, None}
use Rattle.op_base.specs.Message.{fits}
use Rattle.op_base.specs.Valid.{is_valid, is_valid_update}
use Rattle.op_base.specs.declared.message.Message.{Message}
use Rattle.op_base.specs.declared.name.ObjectId.{ObjectId}
use Rattle.op_base.specs.declared.operation.Op.{Op}
use Rattle.op_base.specs.declared.operation.Update.{Update}
use Rattle.causal_model.specs.Log.{log_of}
use Rattle.causal_model.specs.Counts.{count_of, is_deliverable, is_carried}
use Rattle.causal_model.specs.History.{epoch_of, events, is_all_stable}
use Rattle.causal_model.specs.Stability.{noop_window}
use Rattle.causal_model.specs.Query.{answer}
use Rattle.causal_model.specs.Settled.{settled_cell, settled_items}
use Rattle.causal_model.specs.Sending.{own_message, HasRoom, local_rule, beat_rule}
use Rattle.causal_model.specs.State.{State, start, counted, with_own}
use Rattle.causal_model.specs.Early.{stands_before, is_again}
use Rattle.causal_model.specs.Receiving.{is_old, is_far, next_early, next_of, crook_after, step_of, state_with, steps, with_early, receive_rule}
use Rattle.causal_model.specs.Journal.{regrouped, state_after, replay, local_notes, beat_notes, receive_notes, IsGroup, AreGroups, notes_of, IsLegal}
use Rattle.causal_model.specs.States.{AreEarly, IsState}
use Rattle.causal_model.specs.declared.note.Note.{Note}

-- ---- the steps of receiving

-- the steps of a state: none where no early message can be delivered, else the next one and then those of the state after it
abbrev pub StepsOfNone : Type 0
StepsOfNone = (w : ℕ) (s : State) → next_of s ≡ None → steps w s ≡ ([], s)

abbrev pub StepsOfOneMore : Type 0
StepsOfOneMore = (w : ℕ) (s : State) (m : Message) → next_of s ≡ Some m
    → steps w s ≡ (step_of m (crook_after w s.history m) ∷ (steps w (state_with w s m)).0, (steps w (state_with w s m)).1)

-- after the steps no early message can be delivered
abbrev pub NoneIsNextAfterSteps : Type 0
NoneIsNextAfterSteps = (w : ℕ) (s : State) → next_of (steps w s).1 ≡ None

-- each step takes at least one message out of the early ones
abbrev pub StepsTakeMessagesOut : Type 0
StepsTakeMessagesOut = (w : ℕ) (s : State) → length (steps w s).0 + length (steps w s).1.early ≤ length s.early

-- the message taken next is that of the lowest member: each other one that can be delivered is of a higher member
abbrev pub NextIsOfTheLowest : Type 0
NextIsOfTheLowest = (n w limit me : ℕ) (counted : List ℕ) (early : List Message) (m : Message) → AreEarly n w limit me counted early
    → next_early n counted early ≡ Some m
    → Contains early m × IsTrue (is_deliverable n counted m) × All (λ e. IsTrue (is_deliverable n counted e) → (e ≡ m) ⊎ (m.origin < e.origin)) early

-- early messages in their one order are determined by which they are
abbrev pub EqualSetsAreEqualLists : Type 0
EqualSetsAreEqualLists = (xs ys : List Message) → AllPairs (λ (a b : Message). IsTrue (stands_before a b)) xs → AllPairs (λ (a b : Message). IsTrue (stands_before a b)) ys
    → ((m : Message) → (Contains xs m ↔ Contains ys m)) → xs ≡ ys

-- no member has more early messages than the two windows
abbrev pub EarlyIsBounded : Type 0
EarlyIsBounded = (n w limit me x : ℕ) (counted : List ℕ) (early : List Message) → AreEarly n w limit me counted early
    → length (filter (λ m. m.origin == x) early) ≤ w + noop_window n w

abbrev pub AllEarlyIsBounded : Type 0
AllEarlyIsBounded = (n w limit me : ℕ) (counted : List ℕ) (early : List Message) → AreEarly n w limit me counted early
    → length early ≤ n * (w + noop_window n w)

-- ---- what calls keep

-- a replica begins in a state
abbrev pub StartIsState : Type 0
StartIsState = (n w limit me : ℕ) → n ≤ 16 → me < n → IsState w limit (start n me)

-- a step keeps it
abbrev pub StepKeepsState : Type 0
StepKeepsState = (w limit : ℕ) (s : State) (m : Message) → IsState w limit s → next_of s ≡ Some m → IsState w limit (state_with w s m)

-- an accepted message keeps it
abbrev pub AcceptKeepsState : Type 0
AcceptKeepsState = (w limit : ℕ) (s : State) (m : Message) → IsState w limit s → IsTrue (fits s.history.present.n m) → IsTrue (is_carried limit m)
    → is_old s.history.present.me (counted s.history) m ≡ false → is_again s.early m ≡ false
    → is_far s.history.present.n w s.history.present.me (counted s.history) m ≡ false → IsState w limit (with_early s m)

-- an own message keeps it, and makes no early message deliverable
abbrev pub OwnKeepsState : Type 0
OwnKeepsState = (w limit : ℕ) (s : State) (o : Op) (m : Message) → IsState w limit s
    → m ≡ own_message s.history.present.n s.history.present.me s.history.present.messages o
    → HasRoom s.history.present.n w s.history.present.me s.history.present.messages o → IsTrue (is_valid o)
    → count_of s.history.present.messages s.history.present.me < limit
    → IsState w limit (with_own s m) × (next_of s ≡ None → next_of (with_own s m) ≡ None)

-- the end of an epoch keeps it
abbrev pub RegroupKeepsState : Type 0
RegroupKeepsState = (w limit n me : ℕ) (s : State) → IsState w limit s → n ≤ 16 → me < n → epoch_of s.history < 65535
    → IsTrue (is_all_stable s.history.present) → IsState w limit (regrouped n me s)

-- ---- journals

-- what a call notes makes of a state the state that it leaves
abbrev pub SendingReplays : Type 0
SendingReplays = (w limit : ℕ) (s : State) (update : Update) → state_after s (local_notes (local_rule w limit update s).0) ≡ (local_rule w limit update s).1

abbrev pub BeatingReplays : Type 0
BeatingReplays = (w limit : ℕ) (s : State) → state_after s (beat_notes (beat_rule w limit s).0) ≡ (beat_rule w limit s).1

abbrev pub ReceivingReplays : Type 0
ReceivingReplays = (w limit : ℕ) (s : State) (m : Message) → IsState w limit s → IsTrue (fits s.history.present.n m) → IsTrue (is_carried limit m)
    → state_after s (receive_notes m (receive_rule w m s).0) ≡ (receive_rule w m s).1

-- a group keeps what a state is, and leaves no early message that can be delivered
abbrev pub GroupKeepsState : Type 0
GroupKeepsState = (w limit : ℕ) (s : State) (group : List Note) → IsState w limit s → next_of s ≡ None → IsGroup w limit s group
    → IsState w limit (state_after s group) × (next_of (state_after s group) ≡ None)

-- groups followed by a group are groups
abbrev pub GroupsGrow : Type 0
GroupsGrow = (w limit : ℕ) (s : State) (groups : List (List Note)) (group : List Note) → AreGroups w limit s groups
    → IsGroup w limit (state_after s (notes_of groups)) group → AreGroups w limit s (groups ++ group ∷ [])

-- a legal list of notes gives a state, in which no early message can be delivered
abbrev pub LegalIsState : Type 0
LegalIsState = (n w limit me : ℕ) (notes : List Note) → n ≤ 16 → me < n → IsLegal n w limit me notes
    → IsState w limit (replay n me notes) × (next_of (replay n me notes) ≡ None)

-- legal notes followed by a group at what they give are legal
abbrev pub LegalGrows : Type 0
LegalGrows = (n w limit me : ℕ) (notes group : List Note) → IsLegal n w limit me notes → IsGroup w limit (replay n me notes) group
    → IsLegal n w limit me (notes ++ group)

-- a call notes nothing at a state, or one group
abbrev pub IsGroupOrNone : ℕ → ℕ → State → List Note → Type 0
IsGroupOrNone w limit s notes = (notes ≡ []) ⊎ IsGroup w limit s notes

-- sending a valid update does so
abbrev pub SendingNotesOneGroup : Type 0
SendingNotesOneGroup = (w limit : ℕ) (s : State) (update : Update) → IsTrue (is_valid_update update)
    → IsGroupOrNone w limit s (local_notes (local_rule w limit update s).0)

-- so does sending a no-op
abbrev pub BeatingNotesOneGroup : Type 0
BeatingNotesOneGroup = (w limit : ℕ) (s : State) → IsGroupOrNone w limit s (beat_notes (beat_rule w limit s).0)

-- so does receiving a message of the store that can be carried there
abbrev pub ReceivingNotesOneGroup : Type 0
ReceivingNotesOneGroup = (w limit : ℕ) (s : State) (m : Message) → IsTrue (fits s.history.present.n m) → IsTrue (is_carried limit m)
    → IsGroupOrNone w limit s (receive_notes m (receive_rule w m s).0)

-- ---- the end of an epoch

-- the end of an epoch changes no event and so no answer, and leaves an empty log
abbrev pub RegroupKeepsEvents : Type 0
RegroupKeepsEvents = (n me : ℕ) (s : State) → (events (regrouped n me s).history ≡ events s.history)
    × ((object : ObjectId) → answer object (events (regrouped n me s).history) ≡ answer object (events s.history))
    × (log_of (regrouped n me s).history ≡ [])

-- where every operation of the epoch is stable, its log was empty already, and each cell and so each settled item stays
abbrev pub RegroupKeepsItems : Type 0
RegroupKeepsItems = (n me : ℕ) (s : State) → IsTrue (is_all_stable s.history.present) → (log_of s.history ≡ [])
    × ((object : ObjectId) (value : Option (List ℕ)) → settled_cell (regrouped n me s).history object value ≡ settled_cell s.history object value)
    × (settled_items (regrouped n me s).history ≡ settled_items s.history)
