-- The jobs of workers, one after the other.
use Rattle.std.proofs.Common.{◌≡◌, ℕ, ◌+◌, ◌%◌, ◌<◌, ◌≤◌, ◌==◌, List, [], ◌∷◌, ◌++◌, length, get_or, fold, All, inl, inr, refl, sym, ap, subst, ◌∙◌, arith}
use Rattle.std.proofs.lemmas.Bool.{cases_eq, cond-true, cond-false, eq-eqb, ne_eqb}
use Rattle.std.proofs.lemmas.List.{length-append, get_or_push, get_or_append_left}
use Rattle.std.proofs.lemmas.List.Elements.{All-head, All-tail}
use Rattle.mailboxes.specs.declared.mailbox.Mailbox.{Mailbox}
use Rattle.replica_lock.specs.Held.{Held}
use Rattle.replica_lock.specs.declared.pass.Settings.{Settings}
use Rattle.script_lang.specs.Ranges.{LiveLineIsWithin}
use Rattle.script_lang.specs.declared.live.LiveCommand.{LiveCommand}
use Rattle.script_lang.specs.declared.live.LiveCommand.TheVariants.{Client, Do, Ask}
use Rattle.script_lang.specs.declared.line.LineOf.{LineOf}
use Rattle.script_lang.specs.declared.line.LineOf.TheVariants as line
use Rattle.turn_lock.specs.Turns.{LockState}
use Rattle.live_run.specs.Ended.{AreLocks}
use Rattle.live_run.specs.Inputs.{command_in, commands_in, replica_of_client, works_at}
use Rattle.live_run.specs.Jobs.{IsClientsJob, IsCouriersJob, IsJob}
use Rattle.live_run.specs.Opening.{AreJobs, IsOfClient, IsOfCourier, IsSplitAt}
use Rattle.live_run.specs.Posting.{AreMails}
use Rattle.live_run.specs.Workers.{IsLiveKey}
use Rattle.live_run.specs.declared.input.NumberedLine.{NumberedLine}
use Rattle.live_run.specs.declared.letter.Letter.{Letter}
use Rattle.live_run.specs.declared.told.CourierDone.{CourierDone}
use Rattle.live_run.specs.declared.workers.Job.{Job}
use Rattle.live_run.proofs.Places.{each_pushed}

-- ---- where a client works

works_below : (n clients c at : ℕ) (l : LineOf LiveCommand) → LiveLineIsWithin n clients l → at < n → fold (works_at c) at (command_in l) < n
works_below n clients c at (line.Run (Client k r)) within low = elim (cases_eq k c) [
  | inl same ↦ subst (λ x. x < n) (sym (cond-true (k == c) r at (eq-eqb k c same))) within.1
  | inr other ↦ subst (λ x. x < n) (sym (cond-false (k == c) r at (ne_eqb k c other))) low
]
works_below n clients c at (line.Run (Do k update)) within low = low
works_below n clients c at (line.Run (Ask k object)) within low = low
works_below n clients c at line.Skip within low = low
works_below n clients c at (line.Bad code) within low = low
works_below n clients c at line.NoMemory within low = low

fold-append : {A B : Type 0} (f : A → B → A) (a : A) (xs ys : List B) → fold f a (xs ++ ys) ≡ fold f (fold f a xs) ys
fold-append f a [] ys = refl
fold-append f a (x ∷ xs) ys = fold-append f (f a x) xs ys

-- the replica behind one line more
pub works_on : (c at : ℕ) (lines : List NumberedLine) (l : NumberedLine) → fold (works_at c) at (commands_in (l ∷ lines)) ≡ fold (works_at c) (fold (works_at c) at (command_in l.line)) (commands_in lines)
works_on c at lines l = fold-append (works_at c) at (command_in l.line) (commands_in lines)

all_below : (n clients c at : ℕ) (lines : List NumberedLine) → All (λ l. LiveLineIsWithin n clients l.line) lines → at < n → fold (works_at c) at (commands_in lines) < n
all_below n clients c at [] within low = low
all_below n clients c at (l ∷ lines) within low =
    subst (λ x. x < n) (sym (works_on c at lines l))
    (all_below n clients c (fold (works_at c) at (command_in l.line)) lines (All-tail (λ (l : NumberedLine). LiveLineIsWithin n clients l.line) l lines within)
    (works_below n clients c at l.line (All-head (λ (l : NumberedLine). LiveLineIsWithin n clients l.line) l lines within) low))

-- it is a member
pub replica_below : (n clients c : ℕ) (lines : List NumberedLine) → 1 ≤ n → All (λ l. LiveLineIsWithin n clients l.line) lines → replica_of_client n (commands_in lines) c < n
replica_below n clients c lines some within = all_below n clients c (c % n) lines within (omega arith)

-- ---- jobs

module _ (nodes : List (LockState Settings)) (w : ℕ) (locks : AreLocks (length nodes) w nodes) (few : length nodes ≤ 16) where
  live_key : (r : ℕ) (d : LockState Settings) → r < length nodes → IsLiveKey (get_or nodes r d).key
  live_key r d l =
      let key = locks.keys r d l in
      record {
        few = subst (λ k. k ≤ 16) (sym (ap (λ (k : Settings). k.n) key)) few;
        member = subst (λ (p : ℕ × ℕ). p.0 < p.1) (λ i. (sym (ap (λ (k : Settings). k.me) key) i, sym (ap (λ (k : Settings). k.n) key) i)) l;
        limit = ap (λ (k : Settings). k.limit) key;
      }

  pub client_job : (at : ℕ) (pass : Held) → at < length nodes → IsSplitAt nodes at pass → IsClientsJob nodes at pass
  client_job at pass inside split = record { inside = inside; of = split.of; fresh = split.fresh; live = λ d. live_key at d inside }

  pub courier_job : (mailboxes : List (Mailbox Letter)) (me : ℕ) (fresh : CourierDone) → me < length nodes → length mailboxes ≡ length nodes → IsSplitAt nodes me fresh.pass → AreMails (me + 1) [] mailboxes fresh.mails.items
      → IsCouriersJob nodes mailboxes (length nodes) me fresh
  courier_job mailboxes me fresh inside of_each split mails = record {
    inside = inside;
    of = λ d.
        let key = locks.keys me d inside in
        record {
          live = live_key me d inside;
          of_member = sym (ap (λ (k : Settings). k.me) key);
          of_store = sym (ap (λ (k : Settings). k.n) key);
          of_each = of_each ∙ sym (ap (λ (k : Settings). k.n) key);
        };
    fresh = λ d. record {
      of_lock = split.of d;
      none = split.fresh;
      mails = subst (λ k. AreMails (k + 1) [] mailboxes fresh.mails.items) (sym (ap (λ (k : Settings). k.me) (locks.keys me d inside))) mails;
    };
  }

module _ (nodes : List (LockState Settings)) (mailboxes : List (Mailbox Letter)) (commands : List LiveCommand) where
  pub no_jobs : (jobs : List Job) → jobs ≡ [] → AreJobs nodes mailboxes commands 0 0 jobs
  no_jobs jobs none = record {
    all = ap length none;
    each = λ i d l. absurd (omega (arith, l));
    clients = λ i d l. absurd (omega (arith, l));
    couriers = λ r d l. absurd (omega (arith, l));
  }

  one_more : (c k : ℕ) (jobs : List Job) (j : Job) → AreJobs nodes mailboxes commands c k jobs → IsJob nodes mailboxes (length nodes) j → (i : ℕ) (d : Job) → i < c + k + 1 → IsJob nodes mailboxes (length nodes) (get_or (jobs ++ j ∷ []) i d)
  one_more c k jobs j are is i d l =
      each_pushed (λ i j. IsJob nodes mailboxes (length nodes) j) jobs j (λ i d l. are.each i d (omega (arith, l, are.all))) is i d (omega (arith, l, are.all, length-append jobs (j ∷ [])))

  stays : (jobs : List Job) (j d : Job) (i : ℕ) → i < length jobs → get_or jobs i d ≡ get_or (jobs ++ j ∷ []) i d
  stays jobs j d i l = sym (get_or_append_left jobs (j ∷ []) d i l)

  pub client_more : (c : ℕ) (jobs : List Job) (j : Job) → AreJobs nodes mailboxes commands c 0 jobs → IsJob nodes mailboxes (length nodes) j → IsOfClient c (replica_of_client (length nodes) commands c) j
      → AreJobs nodes mailboxes commands (c + 1) 0 (jobs ++ j ∷ [])
  client_more c jobs j are is of = record {
    all = omega (arith, are.all, length-append jobs (j ∷ []));
    each = λ i d l. one_more c 0 jobs j are is i d (omega (arith, l));
    clients = λ i d l. elim (cases_eq i c) [
      | inl same ↦ subst (λ (p : ℕ × Job). IsOfClient p.0 (replica_of_client (length nodes) commands p.0) p.1) (λ x. (sym same x, sym (get_or_push jobs j d i (omega (arith, are.all, same))) x)) of
      | inr other ↦
          let low : i < c = omega (arith, l, other) in
          subst (IsOfClient i (replica_of_client (length nodes) commands i)) (stays jobs j d i (omega (arith, low, are.all))) (are.clients i d low)
    ];
    couriers = λ r d l. absurd (omega (arith, l));
  }

  pub courier_more : (c k : ℕ) (jobs : List Job) (j : Job) → AreJobs nodes mailboxes commands c k jobs → IsJob nodes mailboxes (length nodes) j → IsOfCourier k j → AreJobs nodes mailboxes commands c (k + 1) (jobs ++ j ∷ [])
  courier_more c k jobs j are is of = record {
    all = omega (arith, are.all, length-append jobs (j ∷ []));
    each = λ i d l. one_more c k jobs j are is i d (omega (arith, l));
    clients = λ i d l. subst (IsOfClient i (replica_of_client (length nodes) commands i)) (stays jobs j d i (omega (arith, l, are.all))) (are.clients i d l);
    couriers = λ r d l. elim (cases_eq r k) [
      | inl same ↦ subst (λ (p : ℕ × Job). IsOfCourier p.0 p.1) (λ x. (sym same x, sym (get_or_push jobs j d (c + r) (omega (arith, are.all, same))) x)) of
      | inr other ↦
          let low : r < k = omega (arith, l, other) in
          subst (IsOfCourier r) (stays jobs j d (c + r) (omega (arith, low, are.all))) (are.couriers r d low)
    ];
  }
