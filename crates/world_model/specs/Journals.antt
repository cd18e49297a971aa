-- The plain world that journals give, and which journals can be those of one store.
use Rattle.std.specs.Prelude.{◌≡◌, ℕ, ◌<◌, Bool, true, false, List, [], ◌∷◌, ◌++◌, length, map, All, Contains}
use Rattle.std.specs.List.{slice_index_or}
use Rattle.op_base.specs.declared.message.Message.{Message}
use Rattle.causal_model.specs.Counts.{members}
use Rattle.causal_model.specs.Journal.{replay, IsLegal}
use Rattle.causal_model.specs.Stability.{carries_operation}
use Rattle.causal_model.specs.declared.note.Note.{Note}
use Rattle.causal_model.specs.declared.note.Note.TheVariants.{Sent, Kept, Crook, Regroup}
use Rattle.world_model.specs.World.{PlainWorld}
use Rattle.world_model.specs.Worlds.{own_of}

-- the journal of a member
abbrev pub journal_of : List (List Note) → ℕ → List Note
journal_of journals r = slice_index_or journals r []

-- the plain world that the journals of n members give: their replays, and what these sent
abbrev pub world_of_journals : ℕ → ℕ → ℕ → List (List Note) → PlainWorld
world_of_journals n w limit journals = record {
  w = w;
  limit = limit;
  replicas = map (λ r. replay n r (journal_of journals r)) (members n);
  sent = map (λ r. own_of (replay n r (journal_of journals r))) (members n);
}

-- whether a note ends an epoch; whether it is of a crooked message
abbrev pub ends_epoch : Note → Bool
ends_epoch (Regroup epoch n me) = true
ends_epoch note = false

abbrev pub is_crook : Note → Bool
is_crook (Crook id) = true
is_crook note = false

-- the messages that notes sent, in order
abbrev pub sent_in : List Note → List Message
sent_in [] = []
sent_in (Sent m ∷ notes) = m ∷ sent_in notes
sent_in (note ∷ notes) = sent_in notes

-- journals of n members in one epoch: each is legal, and what it kept stands as sent in the journal of its origin
pub record AreJournals (n w limit : ℕ) (journals : List (List Note)) : Type 0 where
  pub legal : (r : ℕ) → r < n → IsLegal n w limit r (journal_of journals r)
  pub one_epoch : (r : ℕ) → r < n → All (λ note. ends_epoch note ≡ false) (journal_of journals r)
  pub kept : (r : ℕ) (m : Message) → r < n → Contains (journal_of journals r) (Kept m) → Contains (journal_of journals m.origin) (Sent m)

-- ---- journals that grow while no update is sent

-- a note keeps a message that stands as sent in the journal of its origin
abbrev pub KeepsSent : List (List Note) → Note → Type 0
KeepsSent journals (Kept m) = Contains (journal_of journals m.origin) (Sent m)
KeepsSent journals note = Unit {0}

-- whether a note sends an update
abbrev pub sends_update : Note → Bool
sends_update (Sent m) = carries_operation m.op
sends_update note = false

-- A member's journal has more notes behind its former ones: none ends an epoch or sends an update, and what they keep was sent.
-- At which place it was sent isn't told.
pub record HasMore (old new : List (List Note)) (r : ℕ) : Type 0 where
  pub more : List Note
  pub grows : journal_of new r ≡ journal_of old r ++ more
  pub sent : ∥ All (KeepsSent new) more ∥₁
  pub one_epoch : All (λ note. ends_epoch note ≡ false) more
  pub noops : All (λ note. sends_update note ≡ false) more

-- so have all
pub record HaveGrown (old new : List (List Note)) : Type 0 where
  pub of_each : length new ≡ length old
  pub each : (r : ℕ) → HasMore old new r
