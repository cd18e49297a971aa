-- What each part of a courier's turn keeps.
use Rattle.std.proofs.Common.{◌≡◌, ℕ, ◌+◌, Bool, true, false, if◌then◌else◌, IsTrue, List, [], ◌∷◌, ◌++◌, get_or, map, All, Contains, Result, Ok, Err, inl, inr, refl, sym, ap, ap₂, subst, ◌∙◌, append_assoc, append-nil}
use Rattle.std.specs.Prelude.{IfOk, IfSome, Option}
use Rattle.std.specs.Vec.{with_items}
use Rattle.std.proofs.lemmas.Grind.{flat_map-append}
use Rattle.std.proofs.lemmas.List.{append_cancel_left, with_items_is}
use Rattle.std.proofs.lemmas.List.Elements.{All-nil, All-cons, All-append, All-take, All-weaker, Contains-append_left}
use Rattle.op_base.specs.Message.{fits, number}
use Rattle.op_base.specs.declared.memory.NoMemory.{NoMemory}
use Rattle.op_base.specs.declared.message.Message.{Message}
use Rattle.op_base.specs.declared.operation.Op.TheVariants as op
use Rattle.op_base.specs.declared.outcome.Step.{Step}
use Rattle.op_base.specs.declared.outcome.Step.TheVariants as step
use Rattle.causal_model.specs.Counts.{is_carried}
use Rattle.causal_model.specs.Journal.{step_note, beat_notes, receive_notes}
use Rattle.causal_model.specs.Receiving.{receive_rule, is_accepted}
use Rattle.causal_model.specs.Sending.{beat_rule, is_beat}
use Rattle.causal_model.specs.State.{State}
use Rattle.causal_model.specs.declared.note.Note.{Note}
use Rattle.causal_model.specs.declared.note.Note.TheVariants as note
use Rattle.causal_model.specs.declared.outcome.Beat.{Beat}
use Rattle.causal_model.specs.declared.outcome.Beat.TheVariants as beat
use Rattle.causal_model.specs.declared.outcome.Receive.{Receive}
use Rattle.causal_model.specs.declared.outcome.Receive.TheVariants as receive
use Rattle.mailboxes.specs.Passes.{seen}
use Rattle.mailboxes.specs.Seen.{BeginsWith}
use Rattle.mailboxes.specs.declared.mailbox.MailPass.{MailPass}
use Rattle.mailboxes.specs.declared.mailbox.Mailbox.{Mailbox}
use Rattle.mailboxes.specs.declared.seen.Line.{Line}
use Rattle.mailboxes.specs.declared.seen.Posted.{Posted}
use Rattle.replica_lock.proofs.Ends.{notes_with}
use Rattle.replica_lock.specs.Held.{Held}
use Rattle.replica_lock.specs.Rules.{IsCall, FollowsNotes, CallsBeat, CallsReceive, CallsOutbox}
use Rattle.replica_lock.specs.Shows.{notes_append}
use Rattle.replica_lock.specs.Turns.{NotedTurn, notes_in}
use Rattle.replica_lock.specs.declared.pass.Settings.{Settings}
use Rattle.replica_node.specs.Nodes.{state_by}
use Rattle.replica_node.specs.Rules.{noting}
use Rattle.turn_lock.specs.Turns.{LockState}
use Rattle.world_model.specs.Journals.{ends_epoch}
use Rattle.live_run.specs.Couriers.{IsCourierOf, IsCourierFresh, IsToPost}
use Rattle.live_run.specs.Mails.{KeptWasPosted}
use Rattle.live_run.specs.Posting.{AreMails, MailsGrow, WasPostedAt}
use Rattle.live_run.specs.Told.{carried_number, sent_number, sent_numbers}
use Rattle.live_run.specs.Workers.{IsLiveKey, IsMailDone, IsCourierDone}
use Rattle.live_run.specs.declared.letter.Letter.{Letter}
use Rattle.live_run.specs.declared.told.CourierDone.{CourierDone}
use Rattle.live_run.proofs.OwnNotes.{outbox_was_sent}

-- ---- what a courier's calls note

abbrev InEpoch : Note → Type 0
InEpoch x = ends_epoch x ≡ false

-- what these notes keep was posted to the courier's own mailbox, they send no update, and none ends the epoch
record AreCarried (me : ℕ) (mails : List (MailPass Letter)) (what : List Note) : Type 0 where
  kept : (e : MailPass Letter) → All (KeptWasPosted (seen (get_or mails me e)).posted) what
  noops : sent_numbers what ≡ []
  one_epoch : All InEpoch what

module _ (me : ℕ) (mails : List (MailPass Letter)) where
  abbrev Kept_by : MailPass Letter → Note → Type 0
  Kept_by e = KeptWasPosted (seen (get_or mails me e)).posted

  none_carried : AreCarried me mails []
  none_carried = record { kept = λ e. All-nil (Kept_by e); noops = refl; one_epoch = All-nil InEpoch }

  one_more : (x : Note) (what : List Note) → ((e : MailPass Letter) → Kept_by e x) → sent_number x ≡ [] → InEpoch x → AreCarried me mails what → AreCarried me mails (x ∷ what)
  one_more x what kept noop one rest = record {
    kept = λ e. All-cons (Kept_by e) x what (kept e) (rest.kept e);
    noops = ap₂ (λ a b. a ++ b) noop rest.noops;
    one_epoch = All-cons InEpoch x what one rest.one_epoch;
  }

  steps_carried : (made : List Step) → AreCarried me mails (map step_note made)
  steps_carried [] = none_carried
  steps_carried (step.Took id ∷ made) = one_more (note.Took id) (map step_note made) (λ e. tt) refl refl (steps_carried made)
  steps_carried (step.Crook id cause ∷ made) = one_more (note.Crook id) (map step_note made) (λ e. tt) refl refl (steps_carried made)

  receive_carried : (m : Message) (answer : Receive) → WasPostedAt me mails m → AreCarried me mails (receive_notes m answer)
  receive_carried m receive.Kept was = one_more (note.Kept m) [] was refl refl none_carried
  receive_carried m (receive.Took made) was = one_more (note.Kept m) (map step_note made) was refl refl (steps_carried made)
  receive_carried m receive.Old was = none_carried
  receive_carried m receive.Again was = none_carried
  receive_carried m receive.Far was = none_carried
  receive_carried m receive.NoMemory was = none_carried

  beat_by : (a b c : Bool) (m : Message) → m.op ≡ op.NoOp → AreCarried me mails (beat_notes (if a then beat.Quiet else if b then beat.Held else if c then beat.End else beat.Sent m))
  beat_by true b c m noop = none_carried
  beat_by false true c m noop = none_carried
  beat_by false false true m noop = none_carried
  beat_by false false false m noop = one_more (note.Sent m) [] (λ e. tt) (ap (carried_number (number m)) noop) refl none_carried

  beat_carried : (w limit : ℕ) (s : State) → AreCarried me mails (beat_notes (beat_rule w limit s).0)
  beat_carried w limit s = beat_by _ _ _ _ refl

-- what follows a rule of notes are those of its answer, or none
noted : {A : Type 0} (no_memory : A) (takes_memory : A → Bool) (first : ℕ × ℕ) (notes_of : A → List Note) (rule : State → A × State) (before what : List Note) (answer : A) (P : List Note → Type 0)
    → FollowsNotes no_memory takes_memory (noting first notes_of rule) before (before ++ what) answer → P (notes_of (rule (state_by first before)).0) → P [] → P what
noted no_memory takes_memory first notes_of rule before what answer P follows made none = elim (follows before refl) [
  | inl ruled ↦ subst P (sym (append_cancel_left before what (notes_of (rule (state_by first before)).0) ruled.1)) made
  | inr stopped ↦ subst P (sym (append_cancel_left before what [] (stopped.2 ∙ sym (append-nil before)))) none
]

-- ---- what is kept as lists grow

was_sent_longer : (notes more : List Note) (roll : List (Line Letter)) → All (λ l. All (λ letter. Contains notes (note.Sent letter.message)) l.items) roll
    → All (λ l. All (λ letter. Contains (notes ++ more) (note.Sent letter.message)) l.items) roll
was_sent_longer notes more roll all i d l k e m = Contains-append_left notes more _ (all i d l k e m)

mail_longer : (box : Mailbox Letter) (by : ℕ) (notes more : List Note) (pass : MailPass Letter) → IsMailDone box by notes pass → IsMailDone box by (notes ++ more) pass
mail_longer box by notes more pass is = record { of = is.of; fork = is.fork; one_line = is.one_line; was_sent = was_sent_longer notes more (seen pass).roll is.was_sent }

kept_longer : (old new : List (Posted Letter)) → BeginsWith new old → (x : Note) → KeptWasPosted old x → KeptWasPosted new x
kept_longer old new begins (note.Kept m) was = (was.0, subst (λ l. Contains l was.0) (sym begins.1) (Contains-append_left old begins.0 was.0 was.1), was.2)
kept_longer old new begins (note.Sent m) was = tt
kept_longer old new begins (note.Took id) was = tt
kept_longer old new begins (note.Crook id) was = tt
kept_longer old new begins (note.Regroup epoch n me) was = tt

call_notes : (old new : Held) (place : ℕ) (before : List NotedTurn) (what : List Note) (call : IsCall old new place before what) → notes_in new.seen ≡ notes_in old.seen ++ (notes_in call.begins.0 ++ what)
call_notes old new place before what call =
    call.notes_are ∙ ap (λ l. l ++ what) (ap notes_in call.begins.1 ∙ notes_append old.seen call.begins.0) ∙ append_assoc (notes_in old.seen) (notes_in call.begins.0) what

-- ---- the parts of a turn

module _ (lock : LockState Settings) (boxes : List (Mailbox Letter)) (done : CourierDone) where
  -- before its first turn
  pub begins_done : IsCourierFresh lock boxes done → IsCourierDone lock boxes done
  begins_done fresh =
      let none : notes_in done.pass.own ≡ [] = ap notes_in fresh.none in
      record {
        of_lock = fresh.of_lock;
        of_each = fresh.mails.of_each;
        mails = λ x d e l. mail_longer (get_or boxes x d) (lock.key.me + 1) [] (notes_in done.pass.seen) (get_or done.mails.items x e) (fresh.mails.each x d e l);
        kept = λ e. subst (All (Kept_by lock.key.me done.mails.items e)) (sym none) (All-nil (Kept_by lock.key.me done.mails.items e));
        noops = ap sent_numbers none;
        one_epoch = subst (All InEpoch) (sym none) (All-nil InEpoch);
      }

  module _ (is : IsCourierDone lock boxes done) where
    are_mails : AreMails (lock.key.me + 1) (notes_in done.pass.seen) boxes done.mails.items
    are_mails = record { of_each = is.of_each; each = is.mails }

    mails_done : (after : CourierDone) → after.pass ≡ done.pass → AreMails (lock.key.me + 1) (notes_in done.pass.seen) boxes after.mails.items → MailsGrow done.mails.items after.mails.items
        → IsCourierDone lock boxes after
    mails_done after same are grow = record {
      of_lock = ap (λ (h : Held). h.lock) same ∙ is.of_lock;
      of_each = are.of_each;
      mails = λ x d e l. subst (λ (h : Held). IsMailDone (get_or boxes x d) (lock.key.me + 1) (notes_in h.seen) (get_or after.mails.items x e)) (sym same) (are.each x d e l);
      kept = λ e. subst (λ (h : Held). All (Kept_by lock.key.me after.mails.items e) (notes_in h.own)) (sym same)
          (All-weaker (Kept_by lock.key.me done.mails.items e) (Kept_by lock.key.me after.mails.items e) (kept_longer (seen (get_or done.mails.items lock.key.me e)).posted (seen (get_or after.mails.items lock.key.me e)).posted (grow lock.key.me e))
          (notes_in done.pass.own) (is.kept e));
      noops = ap (λ (h : Held). sent_numbers (notes_in h.own)) same ∙ is.noops;
      one_epoch = subst (λ (h : Held). All InEpoch (notes_in h.own)) (sym same) is.one_epoch;
    }

    -- letters are posted or taken by the passes of a slice
    module _ (slice : List (MailPass Letter)) (whole : slice ≡ done.mails.items) where
      pub slice_are_mails : AreMails (lock.key.me + 1) (notes_in done.pass.seen) boxes slice
      slice_are_mails = subst (AreMails (lock.key.me + 1) (notes_in done.pass.seen) boxes) (sym whole) are_mails

      module _ (new : List (MailPass Letter)) (kept : AreMails (lock.key.me + 1) (notes_in done.pass.seen) boxes slice → AreMails (lock.key.me + 1) (notes_in done.pass.seen) boxes new) where
        pub written_back : (with_items done.mails new).items ≡ new
        written_back = with_items_is done.mails new ((kept slice_are_mails).of_each ∙ sym is.of_each ∙ sym done.mails.ok.0)

        pub slice_done : MailsGrow slice new → IsCourierDone lock boxes (record { pass = done.pass; mails = with_items done.mails new })
        slice_done grow = mails_done (record { pass = done.pass; mails = with_items done.mails new }) refl
            (subst (AreMails (lock.key.me + 1) (notes_in done.pass.seen) boxes) (sym written_back) (kept slice_are_mails))
            (subst (λ (p : List (MailPass Letter) × List (MailPass Letter)). MailsGrow p.0 p.1) (λ i. (whole i, sym written_back i)) grow)

        pub was_posted_back : (x : ℕ) (result : Option Letter) → x ≡ lock.key.me → IfSome result (λ letter. WasPostedAt x new letter.message)
            → IfSome result (λ letter. WasPostedAt lock.key.me (with_items done.mails new).items letter.message)
        was_posted_back x result own was =
            subst (λ (p : ℕ × List (MailPass Letter)). IfSome result (λ letter. WasPostedAt p.0 p.1 letter.message)) (λ i. (own i, sym written_back i)) was

    -- a call is made through the lock
    module _ (new : Held) (place : ℕ) where
      abbrev after : CourierDone
      after = record { pass = new; mails = done.mails }

      call_done : (before : List NotedTurn) (what : List Note) → IsCall done.pass new place before what → AreCarried lock.key.me done.mails.items what → IsCourierDone lock boxes after
      call_done before what call carried =
          let own : notes_in new.own ≡ notes_in done.pass.own ++ what = ap (λ (h : Held). notes_in h.own) call.becomes ∙ notes_with done.pass.own done.pass.number what in
          record {
            of_lock = ap (λ (h : Held). h.lock) call.becomes ∙ is.of_lock;
            of_each = is.of_each;
            mails = λ x d e l. subst (λ notes. IsMailDone (get_or boxes x d) (lock.key.me + 1) notes (get_or done.mails.items x e)) (sym (call_notes done.pass new place before what call))
                (mail_longer (get_or boxes x d) (lock.key.me + 1) (notes_in done.pass.seen) (notes_in call.begins.0 ++ what) (get_or done.mails.items x e) (is.mails x d e l));
            kept = λ e. subst (All (Kept_by lock.key.me done.mails.items e)) (sym own) (All-append (Kept_by lock.key.me done.mails.items e) (notes_in done.pass.own) what (is.kept e) (carried.kept e));
            noops = ap sent_numbers own ∙ flat_map-append sent_number (notes_in done.pass.own) what ∙ ap₂ (λ a b. a ++ b) is.noops carried.noops;
            one_epoch = subst (All InEpoch) (sym own) (All-append InEpoch (notes_in done.pass.own) what is.one_epoch carried.one_epoch);
          }

      abbrev key : Settings
      key = done.pass.lock.key

      abbrev first : ℕ × ℕ
      first = (key.me, key.n)

      abbrev Carried : List Note → Type 0
      Carried what = AreCarried lock.key.me done.mails.items what

      pub beaten : (answer : Beat) → CallsBeat done.pass new place answer → IsCourierDone lock boxes after
      beaten answer (before, what, call, follows) =
          call_done before what call (noted beat.NoMemory is_beat first beat_notes (beat_rule key.w key.limit) (notes_in before) what answer Carried follows (beat_carried lock.key.me done.mails.items key.w key.limit (state_by first (notes_in before))) (none_carried lock.key.me done.mails.items))

      pub received : (m : Message) (answer : Receive) → WasPostedAt lock.key.me done.mails.items m → CallsReceive done.pass new place m answer → IsCourierDone lock boxes after
      received m answer was (before, what, call, follows) =
          call_done before what call (noted receive.NoMemory is_accepted first (receive_notes m) (receive_rule key.w m) (notes_in before) what answer Carried follows (receive_carried lock.key.me done.mails.items m (receive_rule key.w m (state_by first (notes_in before))).0 was) (none_carried lock.key.me done.mails.items))

      pub copied : (most : ℕ) (result : Result (List Message) NoMemory) → CallsOutbox done.pass new place most result → IsCourierDone lock boxes after
      copied most result (before, call, out) = call_done before [] call (none_carried lock.key.me done.mails.items)

      -- the copies are of messages that the replica's notes sent
      pub copies_are_to_post : (me n most : ℕ) (result : Result (List Message) NoMemory) → IsCourierOf lock.key boxes me n → CallsOutbox done.pass new place most result → IfOk result (All (IsToPost n (notes_in new.seen)))
      copies_are_to_post me n most (Err none) of (before, call, out) = tt
      copies_are_to_post me n most (Ok messages) of (before, call, out) =
          let P : Message → Type 0 = λ m. Contains (notes_in before) (note.Sent m) in
          let live : IsLiveKey key = subst (λ (s : LockState Settings). IsLiveKey s.key) (sym is.of_lock) of.live in
          let sent : All P messages = subst (All P) (sym out.are) (All-take P most _ (outbox_was_sent key.n key.w key.limit key.me (notes_in before) live.few live.member call.legal_before)) in
          λ i d l. record {
            fit = subst (λ k. IsTrue (fits k (get_or messages i d))) (ap (λ (s : LockState Settings). s.key.n) is.of_lock ∙ sym of.of_store) (out.fit i d l);
            carried = subst (λ k. IsTrue (is_carried k (get_or messages i d))) live.limit (out.carried i d l);
            was_sent = subst (λ notes. Contains notes (note.Sent (get_or messages i d))) (sym call.notes_are) (Contains-append_left (notes_in before) [] (note.Sent (get_or messages i d)) (sent i d l));
          }
