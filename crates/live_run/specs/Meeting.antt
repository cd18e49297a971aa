-- Couriers' passes of all mailboxes, and the first ones, to which they are joined.
use Rattle.std.specs.Prelude.{◌≡◌, ◌≢◌, ℕ, ◌+◌, ◌<◌, ◌≤◌, List, [], ◌∷◌, length, All}
use Rattle.std.specs.List.{flat_map, slice_index_or}
use Rattle.causal_model.specs.declared.note.Note.{Note}
use Rattle.mailboxes.specs.Passes.{seen, IsOf, IsOfTheSame}
use Rattle.mailboxes.specs.Seen.{BeginsWith, joined, line}
use Rattle.mailboxes.specs.declared.mailbox.MailPass.{MailPass}
use Rattle.mailboxes.specs.declared.mailbox.Mailbox.{Mailbox}
use Rattle.live_run.specs.Mails.{SentBy}
use Rattle.live_run.specs.Posting.{AreMails}
use Rattle.live_run.specs.declared.letter.Letter.{Letter}

-- The first pass of the mailbox at place x, from which so many were forked, and to which passes of it were joined, each
-- courier's a row: its roll has a line of its own and theirs, and it has seen all that they had.
pub record IsMeeting (forks x : ℕ) (rows : List (List (MailPass Letter))) (first : MailPass Letter) : Type 0 where
  pub number : (seen first).number ≡ 0
  pub forks_are : (seen first).forks ≡ forks
  pub roll : (seen first).roll ≡ line 0 [] ∷ flat_map (λ row. (seen (slice_index_or row x first)).roll) rows
  pub begins : (k : ℕ) (d : List (MailPass Letter)) → k < length rows → BeginsWith (seen first).posted (seen (slice_index_or (slice_index_or rows k d) x first)).posted

-- so many were forked as were joined: it has met all
abbrev pub HasMet : ℕ → List (List (MailPass Letter)) → MailPass Letter → Type 0
HasMet x rows first = IsMeeting (length rows) x rows first

-- so have the first passes of all mailboxes
pub record HaveMet (mailboxes : List (Mailbox Letter)) (rows : List (List (MailPass Letter))) (firsts : List (MailPass Letter)) : Type 0 where
  pub each : (x : ℕ) (e : MailPass Letter) → x < length mailboxes → HasMet x rows (slice_index_or firsts x e)

-- each courier's row posted only what stands as sent in its notes
abbrev pub AreRows : (ℕ → List Note) → List (Mailbox Letter) → List (List (MailPass Letter)) → Type 0
AreRows notes mailboxes rows = (k : ℕ) (d : List (MailPass Letter)) → k < length rows → AreMails (k + 1) (notes k) mailboxes (slice_index_or rows k d)

-- so what a courier has seen posted was sent, where each posted only what its replica had sent
abbrev pub WhatWasMetWasSent : Type 0
WhatWasMetWasSent = (journals : ℕ → List Note) (mailboxes : List (Mailbox Letter)) (x : ℕ) (rows : List (List (MailPass Letter))) (first : MailPass Letter) → x < length mailboxes → HasMet x rows first
    → AreRows journals mailboxes rows
    → (k : ℕ) (d : List (MailPass Letter)) → k < length rows → All (λ p. SentBy journals p.by p.item) (seen (slice_index_or (slice_index_or rows k d) x first)).posted

-- a row of forks can be joined to first passes, each at its place
pub record AreToJoin (mailboxes : List (Mailbox Letter)) (firsts row : List (MailPass Letter)) : Type 0 where
  pub of_each : length firsts ≡ length mailboxes
  pub row_of_each : length row ≡ length mailboxes
  pub of : (x : ℕ) (d : Mailbox Letter) (e : MailPass Letter) → x < length mailboxes → IsOf (slice_index_or mailboxes x d) (slice_index_or firsts x e)
  pub row_of : (x : ℕ) (d : Mailbox Letter) (e : MailPass Letter) → x < length mailboxes → IsOf (slice_index_or mailboxes x d) (slice_index_or row x e)
  pub firsts_are : (x : ℕ) (e : MailPass Letter) → x < length mailboxes → (seen (slice_index_or firsts x e)).number ≡ 0
  pub forks_are : (x : ℕ) (e : MailPass Letter) → x < length mailboxes → (seen (slice_index_or row x e)).number ≢ 0

-- a pass, to which another was joined
pub record HasJoined (old other new : MailPass Letter) : Type 0 where
  pub of : IsOfTheSame old new
  pub seen_is : seen new ≡ joined (seen old) (seen other)
  pub mine : BeginsWith (seen new).posted (seen old).posted
  pub theirs : BeginsWith (seen new).posted (seen other).posted

-- to each of the first i passes that of a row was joined
pub record HaveJoined (i : ℕ) (old row new : List (MailPass Letter)) : Type 0 where
  pub of_each : length new ≡ length old
  pub each : (x : ℕ) (c d e : MailPass Letter) → x < i → HasJoined (slice_index_or old x c) (slice_index_or row x d) (slice_index_or new x e)
  pub others : (x : ℕ) (e : MailPass Letter) → i ≤ x → slice_index_or new x e ≡ slice_index_or old x e
