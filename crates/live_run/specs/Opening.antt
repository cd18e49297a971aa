-- What a run begins with: nodes under locks with their openers, mailboxes with their first passes, and a job for each worker.
use Rattle.std.specs.Prelude.{◌≡◌, ℕ, ◌+◌, ◌<◌, ◌≤◌, ◌==◌, List, [], ◌∷◌, length, if◌then◌else◌}
use Rattle.std.specs.List.{slice_index_or}
use Rattle.mailboxes.specs.Passes.{seen, IsOf, IsOfTheSame}
use Rattle.mailboxes.specs.Seen.{first_seen, forked, newcomer}
use Rattle.mailboxes.specs.declared.mailbox.MailPass.{MailPass}
use Rattle.mailboxes.specs.declared.mailbox.Mailbox.{Mailbox}
use Rattle.replica_lock.specs.Held.{Held}
use Rattle.replica_lock.specs.declared.pass.Settings.{Settings}
use Rattle.script_lang.specs.declared.live.LiveCommand.{LiveCommand}
use Rattle.turn_lock.specs.Turns.{LockState}
use Rattle.live_run.specs.Inputs.{replica_of_client}
use Rattle.live_run.specs.Jobs.{IsJob}
use Rattle.live_run.specs.Joining.{NodeOpener}
use Rattle.live_run.specs.declared.letter.Letter.{Letter}
use Rattle.live_run.specs.declared.workers.Job.{Job}
use Rattle.live_run.specs.declared.workers.Job.TheVariants as job

-- ---- nodes

-- the place of the node at which a worker works
abbrev pub job_at : Job → ℕ
job_at (job.Client number at pass) = at
job_at (job.Courier me passes) = me

-- how many of jobs are at the node at place r
abbrev pub jobs_at : ℕ → List Job → ℕ
jobs_at r [] = 0
jobs_at r (j ∷ js) = (if job_at j == r then 1 else 0) + jobs_at r js

-- openers are of the nodes at their places, of each as many passes are out as there are jobs at it, and no turn was made
pub record AreOpened (nodes : List (LockState Settings)) (openers : List NodeOpener) (jobs : List Job) : Type 0 where
  pub of_each : length openers ≡ length nodes
  pub of : (r : ℕ) (d : LockState Settings) (e : NodeOpener) → r < length nodes → (slice_index_or openers r e).lock ≡ slice_index_or nodes r d
  pub out : (r : ℕ) (e : NodeOpener) → r < length nodes → (slice_index_or openers r e).out ≡ jobs_at r jobs
  pub none : (r : ℕ) (e : NodeOpener) → r < length nodes → (slice_index_or openers r e).own ≡ []

-- a pass was just split from the node at a place
pub record IsSplitAt (nodes : List (LockState Settings)) (at : ℕ) (pass : Held) : Type 0 where
  pub of : (d : LockState Settings) → pass.lock ≡ slice_index_or nodes at d
  pub fresh : pass.own ≡ []

-- ---- mailboxes

-- first passes of the mailboxes at their places, from each of which so many were forked, and no item was posted
pub record AreFirsts (k : ℕ) (mailboxes : List (Mailbox Letter)) (firsts : List (MailPass Letter)) : Type 0 where
  pub of_each : length firsts ≡ length mailboxes
  pub of : (x : ℕ) (d : Mailbox Letter) (e : MailPass Letter) → x < length mailboxes → IsOf (slice_index_or mailboxes x d) (slice_index_or firsts x e)
  pub seen_is : (x : ℕ) (e : MailPass Letter) → x < length mailboxes → seen (slice_index_or firsts x e) ≡ record first_seen { forks = k }

-- each of the first i passes was forked once, and these are the forks
pub record AreForked (i : ℕ) (mailboxes : List (Mailbox Letter)) (old new mails : List (MailPass Letter)) : Type 0 where
  pub of_each : length new ≡ length old
  pub made : length mails ≡ i
  pub of : (x : ℕ) (d e : MailPass Letter) → x < i → IsOfTheSame (slice_index_or old x d) (slice_index_or new x e)
  pub counted : (x : ℕ) (d e : MailPass Letter) → x < i → seen (slice_index_or new x e) ≡ forked (seen (slice_index_or old x d))
  pub others : (x : ℕ) (e : MailPass Letter) → i ≤ x → slice_index_or new x e ≡ slice_index_or old x e
  pub forks_of : (x : ℕ) (b : Mailbox Letter) (e : MailPass Letter) → x < i → IsOf (slice_index_or mailboxes x b) (slice_index_or mails x e)
  pub newcomers : (x : ℕ) (d e : MailPass Letter) → x < i → seen (slice_index_or mails x e) ≡ newcomer (seen (slice_index_or old x d))

-- ---- jobs

-- it is the job of the client of a number at a replica; of the courier of a member
abbrev pub IsOfClient : ℕ → ℕ → Job → Type 0
IsOfClient c r (job.Client number at pass) = (number ≡ c) × (at ≡ r)
IsOfClient c r (job.Courier me passes) = ⊥

abbrev pub IsOfCourier : ℕ → Job → Type 0
IsOfCourier r (job.Courier me passes) = me ≡ r
IsOfCourier r (job.Client number at pass) = ⊥

-- the jobs of the first c clients, and then of the first k couriers
pub record AreJobs (nodes : List (LockState Settings)) (mailboxes : List (Mailbox Letter)) (commands : List LiveCommand) (c k : ℕ) (jobs : List Job) : Type 0 where
  pub all : length jobs ≡ c + k
  pub each : (i : ℕ) (d : Job) → i < c + k → IsJob nodes mailboxes (length nodes) (slice_index_or jobs i d)
  pub clients : (i : ℕ) (d : Job) → i < c → IsOfClient i (replica_of_client (length nodes) commands i) (slice_index_or jobs i d)
  pub couriers : (r : ℕ) (d : Job) → r < k → IsOfCourier r (slice_index_or jobs (c + r) d)
