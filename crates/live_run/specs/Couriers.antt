-- What a courier needs before its first turn, and a message before it is posted.
use Rattle.std.specs.Prelude.{◌≡◌, ℕ, ◌+◌, IsTrue, List, [], length, Contains}
use Rattle.op_base.specs.Message.{fits}
use Rattle.op_base.specs.declared.message.Message.{Message}
use Rattle.causal_model.specs.Counts.{is_carried}
use Rattle.causal_model.specs.declared.note.Note.{Note}
use Rattle.causal_model.specs.declared.note.Note.TheVariants as note
use Rattle.mailboxes.specs.declared.mailbox.Mailbox.{Mailbox}
use Rattle.replica_lock.specs.declared.pass.Settings.{Settings}
use Rattle.turn_lock.specs.Turns.{LockState}
use Rattle.live_run.specs.Limits.{live_limit}
use Rattle.live_run.specs.Posting.{AreMails}
use Rattle.live_run.specs.Workers.{IsLiveKey}
use Rattle.live_run.specs.declared.letter.Letter.{Letter}
use Rattle.live_run.specs.declared.told.CourierDone.{CourierDone}

-- these are the numbers of a member of a live run and of its store, whose mailboxes these are
pub record IsCourierOf (key : Settings) (mailboxes : List (Mailbox Letter)) (me n : ℕ) : Type 0 where
  pub live : IsLiveKey key
  pub of_member : me ≡ key.me
  pub of_store : n ≡ key.n
  pub of_each : length mailboxes ≡ key.n

-- passes with which a courier begins: no turn was made and no letter posted by them
pub record IsCourierFresh (lock : LockState Settings) (mailboxes : List (Mailbox Letter)) (done : CourierDone) : Type 0 where
  pub of_lock : done.pass.lock ≡ lock
  pub none : done.pass.own ≡ []
  pub mails : AreMails (lock.key.me + 1) [] mailboxes done.mails.items

-- a message of a store of n members, which these notes sent
pub record IsToPost (n : ℕ) (notes : List Note) (m : Message) : Type 0 where
  pub fit : IsTrue (fits n m)
  pub carried : IsTrue (is_carried live_limit m)
  pub was_sent : Contains notes (note.Sent m)
