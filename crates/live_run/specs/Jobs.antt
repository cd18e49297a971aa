-- Workers at nodes, by place: what each begins with, and what it gives back.
use Rattle.std.specs.Prelude.{◌≡◌, ℕ, ◌<◌, List, [], length}
use Rattle.std.specs.List.{slice_index_or}
use Rattle.mailboxes.specs.declared.mailbox.Mailbox.{Mailbox}
use Rattle.replica_lock.specs.Held.{Held}
use Rattle.replica_lock.specs.declared.pass.Settings.{Settings}
use Rattle.turn_lock.specs.Turns.{LockState}
use Rattle.live_run.specs.Couriers.{IsCourierOf, IsCourierFresh}
use Rattle.live_run.specs.Inputs.{commands_in, commands_of}
use Rattle.live_run.specs.Workers.{IsLiveKey, IsClientDone, IsCourierDone}
use Rattle.live_run.specs.declared.input.NumberedLine.{NumberedLine}
use Rattle.live_run.specs.declared.letter.Letter.{Letter}
use Rattle.live_run.specs.declared.told.CourierDone.{CourierDone}
use Rattle.live_run.specs.declared.workers.Done.{Done}
use Rattle.live_run.specs.declared.workers.Done.TheVariants as done
use Rattle.live_run.specs.declared.workers.Job.{Job}
use Rattle.live_run.specs.declared.workers.Job.TheVariants as job

module _ (nodes : List (LockState Settings)) where
  -- a client's pass is of the node at its place, and made no turn yet
  pub record IsClientsJob (at : ℕ) (pass : Held) : Type 0 where
    pub inside : at < length nodes
    pub of : (d : LockState Settings) → pass.lock ≡ slice_index_or nodes at d
    pub fresh : pass.own ≡ []
    pub live : (d : LockState Settings) → IsLiveKey (slice_index_or nodes at d).key

  -- a client at the node at a place made its commands, or gives its pass back
  abbrev pub IsClientsDone : List NumberedLine → ℕ → ℕ → Done → Type 0
  IsClientsDone lines number at (done.Client place back) = (place ≡ at) × (at < length nodes) × ((d : LockState Settings) → IsClientDone (slice_index_or nodes at d) (commands_of number (commands_in lines)) back)
  IsClientsDone lines number at (done.Stopped pass) = (d : LockState Settings) → pass.lock ≡ slice_index_or nodes at d
  IsClientsDone lines number at other = ⊥

  module _ (mailboxes : List (Mailbox Letter)) where
    -- a courier's passes are of the node at its place and of the mailboxes, and made no turn yet
    pub record IsCouriersJob (n me : ℕ) (passes : CourierDone) : Type 0 where
      pub inside : me < length nodes
      pub of : (d : LockState Settings) → IsCourierOf (slice_index_or nodes me d).key mailboxes me n
      pub fresh : (d : LockState Settings) → IsCourierFresh (slice_index_or nodes me d) mailboxes passes

    -- the courier of the node at a place made its turns, or gives its pass back
    abbrev pub IsCouriersDone : ℕ → Done → Type 0
    IsCouriersDone me (done.Courier place back) = (place ≡ me) × (me < length nodes) × ((d : LockState Settings) → IsCourierDone (slice_index_or nodes me d) mailboxes back)
    IsCouriersDone me (done.Stopped pass) = (d : LockState Settings) → pass.lock ≡ slice_index_or nodes me d
    IsCouriersDone me other = ⊥

    -- a worker's job in a store of n members, and what comes of it
    abbrev pub IsJob : ℕ → Job → Type 0
    IsJob n (job.Client number at pass) = IsClientsJob at pass
    IsJob n (job.Courier me passes) = IsCouriersJob n me passes

    abbrev pub IsDone : List NumberedLine → Job → Done → Type 0
    IsDone lines (job.Client number at pass) result = IsClientsDone lines number at result
    IsDone lines (job.Courier me passes) result = IsCouriersDone me result
