-- What workers gave back, by kind.
use Rattle.std.specs.Prelude.{◌≡◌, ℕ, ◌+◌, ◌-◌, ◌<◌, false, List, [], ◌∷◌, ◌++◌, length, All}
use Rattle.std.specs.List.{slice_index_or}
use Rattle.mailboxes.specs.Passes.{seen}
use Rattle.mailboxes.specs.declared.mailbox.MailPass.{MailPass}
use Rattle.mailboxes.specs.declared.mailbox.Mailbox.{Mailbox}
use Rattle.replica_lock.specs.Turns.{notes_in}
use Rattle.replica_lock.specs.declared.pass.Settings.{Settings}
use Rattle.turn_lock.specs.Turns.{LockState}
use Rattle.world_model.specs.Journals.{ends_epoch}
use Rattle.live_run.specs.Ended.{IsClientBack}
use Rattle.live_run.specs.Inputs.{commands_in, commands_of, replica_of_client}
use Rattle.live_run.specs.Jobs.{IsClientsDone, IsCouriersDone}
use Rattle.live_run.specs.Joining.{IsBack}
use Rattle.live_run.specs.Mails.{KeptWasPosted}
use Rattle.live_run.specs.Meeting.{HaveMet}
use Rattle.live_run.specs.Posting.{AreMails}
use Rattle.live_run.specs.Told.{sent_numbers}
use Rattle.live_run.specs.declared.input.NumberedLine.{NumberedLine}
use Rattle.live_run.specs.declared.joining.Back.{Back}
use Rattle.live_run.specs.declared.letter.Letter.{Letter}
use Rattle.live_run.specs.declared.returned.Returned.{Returned}
use Rattle.live_run.specs.declared.told.Told.{Told}
use Rattle.live_run.specs.declared.workers.Done.{Done}
use Rattle.live_run.specs.declared.workers.Done.TheVariants as done

-- the results of so many clients, and then of each member's courier
pub record AreDone (nodes : List (LockState Settings)) (mailboxes : List (Mailbox Letter)) (lines : List NumberedLine) (clients : ℕ) (results : List Done) : Type 0 where
  pub all : length results ≡ clients + length nodes
  pub client : (c : ℕ) (d : Done) → c < clients → IsClientsDone nodes lines c (replica_of_client (length nodes) (commands_in lines) c) (slice_index_or results c d)
  pub courier : (r : ℕ) (d : Done) → r < length nodes → IsCouriersDone nodes mailboxes r (slice_index_or results (clients + r) d)

-- one was put behind the others
abbrev pub IsPut : Done → Returned → Returned → Type 0
IsPut (done.Client at back) old new =
    (new.told.items ≡ old.told.items ++ back.told ∷ []) × (new.rows.items ≡ old.rows.items) × (new.backs.items ≡ old.backs.items ++ record { at = at; pass = back.pass } ∷ [])
IsPut (done.Courier at back) old new =
    (new.told.items ≡ old.told.items) × (new.rows.items ≡ old.rows.items ++ back.mails ∷ []) × (new.backs.items ≡ old.backs.items ++ record { at = at; pass = back.pass } ∷ [])
IsPut (done.Stopped pass) old new = ⊥

-- the passes of the courier of member r: those of the mailboxes, and that of the node
pub record HasCarried (mailboxes : List (Mailbox Letter)) (r : ℕ) (row : List (MailPass Letter)) (back : Back) : Type 0 where
  pub at_its : back.at ≡ r
  pub mails : AreMails (r + 1) (notes_in back.pass.seen) mailboxes row
  pub kept : (e : MailPass Letter) → All (KeptWasPosted (seen (slice_index_or row r e)).posted) (notes_in back.pass.own)
  pub noops : sent_numbers (notes_in back.pass.own) ≡ []
  pub one_epoch : All (λ note. ends_epoch note ≡ false) (notes_in back.pass.own)

-- what the first i of so many clients and each member's courier gave back
pub record AreReturned (nodes : List (LockState Settings)) (mailboxes : List (Mailbox Letter)) (lines : List NumberedLine) (w clients i : ℕ) (told : List (List Told)) (rows : List (List (MailPass Letter))) (backs : List Back) : Type 0 where
  pub all : length backs ≡ i
  pub to_each : length told ≡ i - (i - clients)
  pub of_each : length rows ≡ i - clients
  pub backs_of : All (IsBack nodes) backs
  pub client : (c : ℕ) (d : List Told) (e : Back) → c < clients → c < i
      → IsClientBack (length nodes) w (replica_of_client (length nodes) (commands_in lines) c) (commands_of c (commands_in lines)) (slice_index_or told c d) (slice_index_or backs c e)
  pub courier : (r : ℕ) (d : List (MailPass Letter)) (e : Back) → clients + r < i → HasCarried mailboxes r (slice_index_or rows r d) (slice_index_or backs (clients + r) e)

-- what all workers were back with, and couriers' passes were joined to the first ones of the mailboxes
pub record HaveWorked (nodes : List (LockState Settings)) (mailboxes : List (Mailbox Letter)) (lines : List NumberedLine) (w clients : ℕ) (told : List (List Told)) (backs : List Back) (firsts : List (MailPass Letter)) : Type 0 where
  pub rows : List (List (MailPass Letter))
  pub returned : AreReturned nodes mailboxes lines w clients (clients + length nodes) told rows backs
  pub met : HaveMet mailboxes rows firsts
  pub firsts_of_each : length firsts ≡ length mailboxes
