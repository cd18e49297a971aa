-- A run of workers, from the opening of its nodes to their closing.
use Rattle.std.proofs.Common.{◌≡◌, ℕ, ◌+◌, ◌-◌, ◌<◌, ◌≤◌, List, [], ◌++◌, length, get_or, All, inl, inr, sym, ap, subst, ◌∙◌, arith}
use Rattle.std.specs.List.{Contains}
use Rattle.std.proofs.lemmas.Bool.{cases_lt}
use Rattle.std.proofs.lemmas.List.{get_or-map, get_or_append_left, length-append}
use Rattle.std.proofs.lemmas.List.Elements.{All-weaker}
use Rattle.causal_model.specs.declared.note.Note.{Note}
use Rattle.causal_model.specs.declared.note.Note.TheVariants as note
use Rattle.mailboxes.specs.Passes.{seen}
use Rattle.mailboxes.specs.declared.mailbox.MailPass.{MailPass}
use Rattle.mailboxes.specs.declared.mailbox.Mailbox.{Mailbox}
use Rattle.mailboxes.specs.declared.seen.Line.{Line}
use Rattle.mailboxes.specs.declared.seen.Posted.{Posted}
use Rattle.replica_lock.specs.Turns.{NotedNode, notes_in}
use Rattle.replica_lock.specs.declared.pass.Settings.{Settings}
use Rattle.turn_lock.specs.Turns.{LockState, StartsWith}
use Rattle.world_model.specs.Journals.{journal_of}
use Rattle.live_run.specs.Ended.{AreBack, AreLocks, AreMembers, HasEnded, HasRun, notes_of_each}
use Rattle.live_run.specs.Inputs.{commands_in, replica_of_client}
use Rattle.live_run.specs.Jobs.{IsClientsDone, IsCouriersDone, IsDone}
use Rattle.live_run.specs.Joining.{NodeOpener, HaveNoted, AreOut}
use Rattle.live_run.specs.Mails.{SentBy}
use Rattle.live_run.specs.Meeting.{AreRows, HaveMet}
use Rattle.live_run.specs.Opening.{AreJobs, AreOpened, IsOfClient, IsOfCourier, job_at}
use Rattle.live_run.specs.Returned.{AreDone, AreReturned}
use Rattle.live_run.specs.declared.input.NumberedLine.{NumberedLine}
use Rattle.live_run.specs.declared.joining.Back.{Back}
use Rattle.live_run.specs.declared.letter.Letter.{Letter}
use Rattle.live_run.specs.declared.told.Told.{Told}
use Rattle.live_run.specs.declared.workers.Done.{Done}
use Rattle.live_run.specs.declared.workers.Job.{Job}
use Rattle.live_run.specs.declared.workers.Job.TheVariants as job
use Rattle.live_run.proofs.Ended.{some_of, workers_have_run}
use Rattle.live_run.proofs.Meetings.{what_was_met_was_sent}
use Rattle.live_run.proofs.Opened.{opened_are_out}

-- what stands in a list stands in a longer one
front_has : (front later notes : List Note) (x : Note) → notes ≡ front ++ later → Contains front x → Contains notes x
front_has front later notes x is (i, inside, at) =
    (i, omega (arith, inside, ap length is, length-append front later), ap (λ l. get_or l i x) is ∙ get_or_append_left front later x i inside ∙ at)

module _ (nodes : List (LockState Settings)) (mailboxes : List (Mailbox Letter)) (lines : List NumberedLine) where
  abbrev n : ℕ
  n = length nodes

  abbrev at_of : ℕ → ℕ
  at_of c = replica_of_client n (commands_in lines) c

  client_done : (j : Job) (c r : ℕ) (result : Done) → IsOfClient c r j → IsDone nodes mailboxes lines j result → IsClientsDone nodes lines c r result
  client_done (job.Client number at pass) c r result (same, there) is = subst (λ (p : ℕ × ℕ). IsClientsDone nodes lines p.0 p.1 result) (λ i. (same i, there i)) is
  client_done (job.Courier me passes) c r result never is = absurd never

  courier_done : (j : Job) (r : ℕ) (result : Done) → IsOfCourier r j → IsDone nodes mailboxes lines j result → IsCouriersDone nodes mailboxes r result
  courier_done (job.Client number at pass) r result never is = absurd never
  courier_done (job.Courier me passes) r result same is = subst (λ k. IsCouriersDone nodes mailboxes k result) same is

  client_at : (j : Job) (c r : ℕ) → IsOfClient c r j → job_at j ≡ r
  client_at (job.Client number at pass) c r is = is.1
  client_at (job.Courier me passes) c r never = absurd never

  courier_at : (j : Job) (r : ℕ) → IsOfCourier r j → job_at j ≡ r
  courier_at (job.Client number at pass) r never = absurd never
  courier_at (job.Courier me passes) r is = is

  module _ (w clients : ℕ) (jobs : List Job) (are_jobs : AreJobs nodes mailboxes (commands_in lines) clients n jobs) where
    pub are_done : (results : List Done) → length results ≡ length jobs → ((i : ℕ) (d : Job) (e : Done) → i < length jobs → IsDone nodes mailboxes lines (get_or jobs i d) (get_or results i e))
        → AreDone nodes mailboxes lines clients results
    are_done results of_each each = record {
      all = of_each ∙ are_jobs.all;
      client = λ c d l.
          let inside : c < length jobs = omega (arith, l, are_jobs.all) in
          let j = some_of jobs c inside in
          client_done (get_or jobs c j) c (at_of c) (get_or results c d) (are_jobs.clients c j l) (each c j d inside);
      courier = λ r d l.
          let inside : clients + r < length jobs = omega (arith, l, are_jobs.all) in
          let j = some_of jobs (clients + r) inside in
          courier_done (get_or jobs (clients + r) j) r (get_or results (clients + r) d) (are_jobs.couriers r j l) (each (clients + r) j d inside);
    }

    module _ (told : List (List Told)) (rows : List (List (MailPass Letter))) (backs : List Back) (are : AreReturned nodes mailboxes lines w clients (clients + n) told rows backs) where
      at_is : (i : ℕ) (d : Back) (e : Job) → i < length jobs → (get_or backs i d).at ≡ job_at (get_or jobs i e)
      at_is i d e l = elim (cases_lt i clients) [
        | inl low ↦ (are.client i [] d low (omega (arith, low))).at_its ∙ sym (client_at (get_or jobs i e) i (at_of i) (are_jobs.clients i e low))
        | inr past ↦
            let r = i - clients in
            let inside : r < n = omega (arith, l, are_jobs.all, past) in
            let same : clients + r ≡ i = omega (arith, past) in
            subst (λ k. (get_or backs k d).at ≡ job_at (get_or jobs k e)) same
            ((are.courier r [] d (omega (arith, inside))).at_its ∙ sym (courier_at (get_or jobs (clients + r) e) r (are_jobs.couriers r e inside)))
      ]

      pub are_out : (openers : List NodeOpener) → AreOpened nodes openers jobs → AreOut nodes openers backs
      are_out openers opened = opened_are_out nodes openers jobs backs opened (omega (arith, are.all, are_jobs.all)) at_is

  module _ (w clients : ℕ) (told : List (List Told)) (rows : List (List (MailPass Letter))) (backs : List Back) (are : AreReturned nodes mailboxes lines w clients (clients + n) told rows backs) where
    rows_of_each : length rows ≡ n
    rows_of_each = omega (arith, are.of_each)

    -- what the courier of a member had seen of its node
    abbrev pub notes_at : Back → ℕ → List Note
    notes_at d r = notes_in (get_or backs (clients + r) d).pass.seen

    pub are_rows : (d : Back) → AreRows (notes_at d) mailboxes rows
    are_rows d k row l = (are.courier k row d (omega (arith, l, rows_of_each))).mails

    module _ (some : 1 ≤ n) (few : n ≤ 16) (locks : AreLocks n w nodes) (at_members : (c : ℕ) → c < clients → at_of c < n)
        (firsts : List (MailPass Letter)) (firsts_are : length firsts ≡ length mailboxes) (boxes_are : length mailboxes ≡ n) (met : HaveMet mailboxes rows firsts)
        (closed : List NotedNode) (noted : HaveNoted nodes backs closed) where
      abbrev At : ℕ → List Note
      At r = journal_of (notes_of_each closed) r

      abbrev any_first : MailPass Letter
      any_first = some_of firsts 0 (omega (arith, some, firsts_are, boxes_are))

      abbrev first_at : ℕ → MailPass Letter
      first_at r = get_or firsts r any_first

      abbrev posted_to : ℕ → List (Posted Letter)
      posted_to r = (seen (get_or (get_or rows r []) r (first_at r))).posted

      are_back : AreBack n w clients (commands_in lines) told posted_to backs
      are_back = record {
        all = are.all;
        to_each = omega (arith, are.to_each);
        client = λ c d l. are.client c [] d l (omega (arith, l));
        courier = λ r d l.
            let it = are.courier r [] d (omega (arith, l)) in
            record { at_its = it.at_its; kept = it.kept (first_at r); noops = it.noops; one_epoch = it.one_epoch };
      }

      -- what a courier had seen of its node is a front of its journal
      seen_of_node : (r : ℕ) (d : Back) → r < n → StartsWith (At r) (notes_at d r)
      seen_of_node r d l =
          let inside : r < length closed = omega (arith, l, noted.of_each) in
          let node = some_of closed r inside in
          let lock = some_of nodes r l in
          let front = (noted.each r lock node l).fronts (clients + r) d (omega (arith, l, are.all)) (are.courier r [] d (omega (arith, l))).at_its in
          (front.0, get_or-map (λ (x : NotedNode). x.journal.notes) closed r node [] inside ∙ front.1)

      rows_of_journals : AreRows At mailboxes rows
      rows_of_journals k row l =
          let here : k < n = omega (arith, l, rows_of_each) in
          let d = some_of backs 0 (omega (arith, are.all, some)) in
          let mails = are_rows d k row l in
          let front = seen_of_node k d here in
          record {
            of_each = mails.of_each;
            each = λ x b e inside.
                let it = mails.each x b e inside in
                record {
                  of = it.of;
                  fork = it.fork;
                  one_line = it.one_line;
                  was_sent = All-weaker (λ (l : Line Letter). All (λ (letter : Letter). Contains (notes_at d k) (note.Sent letter.message)) l.items) (λ (l : Line Letter). All (λ (letter : Letter). Contains (At k) (note.Sent letter.message)) l.items)
                      (λ line. All-weaker (λ (letter : Letter). Contains (notes_at d k) (note.Sent letter.message)) (λ (letter : Letter). Contains (At k) (note.Sent letter.message))
                      (λ letter. front_has (notes_at d k) front.0 (At k) (note.Sent letter.message) front.1) line.items) (seen (get_or (get_or rows k row) x e)).roll it.was_sent;
                };
          }

      was_sent : (r : ℕ) → r < n → All (λ p. SentBy At p.by p.item) (posted_to r)
      was_sent r l = what_was_met_was_sent At mailboxes r rows (first_at r) (omega (arith, l, boxes_are)) (met.each r any_first (omega (arith, l, boxes_are))) rows_of_journals r [] (omega (arith, l, rows_of_each))

      have_run : HasRun n w clients (commands_in lines) told (notes_of_each closed)
      have_run = workers_have_run n w clients (commands_in lines) told posted_to nodes backs closed few at_members locks are_back noted was_sent

      are_members : AreMembers n w closed
      are_members = record {
        of_each = noted.of_each;
        each = λ r f l.
            let lock = some_of nodes r l in
            let key = locks.keys r lock l in
            let is = (noted.each r lock f l).is_node in
            record {
              first = is.first ∙ ap (λ (k : Settings). (k.me, k.n)) key;
              window = is.w ∙ ap (λ (k : Settings). k.w) key;
              limit = is.limit ∙ ap (λ (k : Settings). k.limit) key;
            };
      }

      pub has_ended : HasEnded n w clients (commands_in lines) told closed
      has_ended = record { run = have_run; members = are_members }
