-- A courier's passes of all mailboxes.
use Rattle.std.specs.Prelude.{◌≡◌, ℕ, ◌<◌, List, length}
use Rattle.std.specs.List.{slice_index_or}
use Rattle.op_base.specs.declared.message.Message.{Message}
use Rattle.causal_model.specs.declared.note.Note.{Note}
use Rattle.mailboxes.specs.Passes.{seen}
use Rattle.mailboxes.specs.Seen.{BeginsWith}
use Rattle.mailboxes.specs.declared.mailbox.MailPass.{MailPass}
use Rattle.mailboxes.specs.declared.mailbox.Mailbox.{Mailbox}
use Rattle.live_run.specs.Mails.{WasPosted}
use Rattle.live_run.specs.Workers.{IsMailDone}
use Rattle.live_run.specs.declared.letter.Letter.{Letter}

-- the passes are forks of a number, of the mailboxes at their places, and posted only what stands as sent in these notes
pub record AreMails (number : ℕ) (notes : List Note) (mailboxes : List (Mailbox Letter)) (mails : List (MailPass Letter)) : Type 0 where
  pub of_each : length mails ≡ length mailboxes
  pub each : (x : ℕ) (d : Mailbox Letter) (e : MailPass Letter) → x < length mailboxes → IsMailDone (slice_index_or mailboxes x d) number notes (slice_index_or mails x e)

-- each pass has seen what it had, and more may have come behind
abbrev pub MailsGrow : (old new : List (MailPass Letter)) → Type 0
MailsGrow old new = (x : ℕ) (e : MailPass Letter) → BeginsWith (seen (slice_index_or new x e)).posted (seen (slice_index_or old x e)).posted

-- a message is that of a letter that was posted to the mailbox at a place
abbrev pub WasPostedAt : ℕ → List (MailPass Letter) → Message → Type 0
WasPostedAt x mails m = (e : MailPass Letter) → WasPosted (seen (slice_index_or mails x e)).posted m
