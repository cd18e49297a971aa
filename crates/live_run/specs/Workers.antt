-- What a worker gives back, and what is known of it.
use Rattle.std.specs.Prelude.{◌≡◌, ℕ, ◌+◌, ◌<◌, ◌≤◌, false, List, [], ◌∷◌, length, All, Contains}
use Rattle.std.specs.List.{slice_index_or}
use Rattle.causal_model.specs.declared.note.Note.{Note}
use Rattle.causal_model.specs.declared.note.Note.TheVariants as note
use Rattle.mailboxes.specs.Passes.{seen, IsOf}
use Rattle.mailboxes.specs.Seen.{numbers}
use Rattle.mailboxes.specs.declared.mailbox.MailPass.{MailPass}
use Rattle.mailboxes.specs.declared.mailbox.Mailbox.{Mailbox}
use Rattle.replica_lock.specs.Turns.{notes_in}
use Rattle.replica_lock.specs.declared.pass.Settings.{Settings}
use Rattle.script_lang.specs.declared.live.LiveCommand.{LiveCommand}
use Rattle.turn_lock.specs.Turns.{LockState}
use Rattle.world_model.specs.Journals.{ends_epoch}
use Rattle.live_run.specs.Limits.{live_limit}
use Rattle.live_run.specs.Mails.{KeptWasPosted}
use Rattle.live_run.specs.Told.{AreTold, PlacesRise, ok_numbers, sent_numbers}
use Rattle.live_run.specs.declared.letter.Letter.{Letter}
use Rattle.live_run.specs.declared.told.ClientDone.{ClientDone}
use Rattle.live_run.specs.declared.told.CourierDone.{CourierDone}

-- whether a note is of a message that was sent
abbrev pub IsSentNote : Note → Type 0
IsSentNote (note.Sent m) = Unit {0}
IsSentNote other = ⊥

-- the lock of a member
abbrev pub settings_of : ℕ → ℕ → ℕ → Settings
settings_of n w r = record { me = r; n = n; w = w; limit = live_limit }

-- it is that of a member of a live run
pub record IsLiveKey (key : Settings) : Type 0 where
  pub few : key.n ≤ 16
  pub member : key.me < key.n
  pub limit : key.limit ≡ live_limit

-- a client at a lock made these commands
pub record IsClientDone (lock : LockState Settings) (commands : List LiveCommand) (done : ClientDone) : Type 0 where
  pub of_lock : done.pass.lock ≡ lock
  pub are_told : AreTold lock.key.n lock.key.w lock.key.me (notes_in done.pass.seen) commands done.told.items
  pub places_rise : PlacesRise done.told.items
  -- its own turns sent the updates that it was told were sent, in their order, and noted nothing else
  pub sent : sent_numbers (notes_in done.pass.own) ≡ ok_numbers done.told.items
  pub only_sent : All IsSentNote (notes_in done.pass.own)

-- a courier's pass of a mailbox: it is a fork of its number, and posted only what stands as sent in these notes
pub record IsMailDone (mailbox : Mailbox Letter) (number : ℕ) (notes : List Note) (pass : MailPass Letter) : Type 0 where
  pub of : IsOf mailbox pass
  pub fork : (seen pass).number ≡ number
  pub one_line : numbers (seen pass).roll ≡ number ∷ []
  pub was_sent : All (λ l. All (λ letter. Contains notes (note.Sent letter.message)) l.items) (seen pass).roll

-- a courier at a lock and at the mailboxes
pub record IsCourierDone (lock : LockState Settings) (mailboxes : List (Mailbox Letter)) (done : CourierDone) : Type 0 where
  pub of_lock : done.pass.lock ≡ lock
  pub of_each : length done.mails.items ≡ length mailboxes
  pub mails : (x : ℕ) (d : Mailbox Letter) (e : MailPass Letter) → x < length mailboxes
      → IsMailDone (slice_index_or mailboxes x d) (lock.key.me + 1) (notes_in done.pass.seen) (slice_index_or done.mails.items x e)
  -- what its own turns kept was posted to its own mailbox, what they sent are no-ops, and none ended the epoch
  pub kept : (e : MailPass Letter) → All (KeptWasPosted (seen (slice_index_or done.mails.items lock.key.me e)).posted) (notes_in done.pass.own)
  pub noops : sent_numbers (notes_in done.pass.own) ≡ []
  pub one_epoch : All (λ note. ends_epoch note ≡ false) (notes_in done.pass.own)
