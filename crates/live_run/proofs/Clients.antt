-- A client's call of `local`, and what it is told.
use Rattle.std.proofs.Common.{◌≡◌, ℕ, ◌<◌, ◌≤◌, Bool, true, false, List, [], ◌∷◌, ◌++◌, length, take, All, if◌then◌else◌, refl, inl, inr, sym, ap, subst, ◌∙◌, arith}
use Rattle.std.proofs.Math.Logic.{∥∥₁_elim}
use Rattle.std.proofs.Props.{props}
use Rattle.std.proofs.lemmas.List.{append-nil, append_assoc, append_cancel_left, length-append}
use Rattle.std.proofs.lemmas.List.Elements.{All-nil, All-cons, All-head, All-append}
use Rattle.op_base.specs.Message.{number}
use Rattle.op_base.specs.declared.message.Message.{Message}
use Rattle.op_base.specs.declared.operation.Op.{Op}
use Rattle.op_base.specs.declared.operation.Op.TheVariants as op
use Rattle.op_base.specs.declared.operation.Update.{Update}
use Rattle.causal_model.specs.Journal.{IsLegal, local_notes}
use Rattle.causal_model.specs.Sending.{local_messages, local_rule}
use Rattle.causal_model.proofs.Lists.ListsOfOneMore.{take-all}
use Rattle.causal_model.proofs.Delivery.Counts.{length-next_tag}
use Rattle.causal_model.proofs.Events.Histories.{IsHistory-from_test}
use Rattle.causal_model.proofs.States.Journals.{legal_is_state}
use Rattle.causal_model.specs.declared.note.Note.{Note}
use Rattle.causal_model.specs.declared.note.Note.TheVariants as note
use Rattle.causal_model.specs.declared.outcome.Local.{Local}
use Rattle.causal_model.specs.declared.outcome.Local.TheVariants as local
use Rattle.replica_node.specs.Nodes.{state_by}
use Rattle.replica_lock.proofs.Ends.{notes_with}
use Rattle.replica_lock.specs.Held.{Held}
use Rattle.replica_lock.specs.Rules.{IsCall, FollowsLocal, CallsLocal}
use Rattle.replica_lock.specs.Shows.{notes_append}
use Rattle.replica_lock.specs.Turns.{NotedTurn, notes_in, turn_with}
use Rattle.replica_lock.specs.declared.pass.Settings.{Settings}
use Rattle.turn_lock.specs.Turns.{LockState}
use Rattle.script_lang.specs.declared.live.LiveCommand.{LiveCommand}
use Rattle.script_lang.specs.declared.live.LiveCommand.TheVariants.{Do}
use Rattle.script_lang.specs.declared.reply.Reply.{Reply}
use Rattle.script_lang.specs.declared.reply.Reply.TheVariants as reply
use Rattle.live_run.specs.Limits.{live_limit}
use Rattle.live_run.specs.Made.{local_told, Made}
use Rattle.live_run.specs.Told.{IsReplyAfter, sent_number, sent_numbers, carried_number, is_ok, ok_number}
use Rattle.live_run.specs.Workers.{IsSentNote, IsLiveKey}

sent_append : (xs ys : List Note) → sent_numbers (xs ++ ys) ≡ sent_numbers xs ++ sent_numbers ys
sent_append [] ys = refl
sent_append (x ∷ xs) ys = ap (λ rest. sent_number x ++ rest) (sent_append xs ys) ∙ sym (append_assoc (sent_number x) (sent_numbers xs) (sent_numbers ys))

-- what an answer sent
sends_it : Local → Bool
sends_it (local.Sent m) = true
sends_it other = false

op_of : Op → Local → Op
op_of other (local.Sent m) = m.op
op_of other answer = other

not_both : true ≡ false → ⊥
not_both e = cc

made_by_rule : (b c : Bool) (made m : Message) → (if b then local.Busy else if c then local.End else local.Sent made) ≡ local.Sent m → made ≡ m
made_by_rule true c made m e = cc
made_by_rule false true made m e = cc
made_by_rule false false made m e = cc

carries_by : (b c : Bool) (m made : Message) (update : Update) → made.op ≡ op.Update update → (if b then local.Busy else if c then local.End else local.Sent made) ≡ local.Sent m → m.op ≡ op.Update update
unfolding sends_it op_of
carries_by true c m made update is e = absurd (not_both (sym (ap sends_it e)))
carries_by false true m made update is e = absurd (not_both (sym (ap sends_it e)))
carries_by false false m made update is e = ap (op_of m.op) (sym e) ∙ is

module _ (old new : Held) (place : ℕ) (before : List NotedTurn) (what : List Note) (is : IsCall old new place before what) where
  whole_place : place ≡ length (notes_in new.seen)
  whole_place = is.place_is ∙ ap length (sym is.notes_are)

  taken : take place (notes_in new.seen) ≡ notes_in before ++ what
  taken = ap (λ p. take p (notes_in new.seen)) whole_place ∙ take-all (notes_in new.seen) ∙ is.notes_are

  own_notes : notes_in new.own ≡ notes_in old.own ++ what
  own_notes = ap (λ (h : Held). notes_in h.own) is.becomes ∙ notes_with old.own old.number what

  no_less : length (notes_in old.seen) ≤ length (notes_in before)
  no_less = omega (arith, length-append (notes_in old.seen) (notes_in is.begins.0), ap length (ap notes_in is.begins.1 ∙ notes_append old.seen is.begins.0))

  -- what a call that noted this makes of a client's pass, where this is the right reply to a command
  made_by : (command : LiveCommand) (r : Reply) → old.lock.key.limit ≡ live_limit
      → IsReplyAfter old.lock.key.n old.lock.key.w old.lock.key.me (notes_in before ++ what) command r
      → sent_numbers what ≡ ok_number r → All IsSentNote what → (is_ok r ≡ true → 0 < length what) → Made old new command (record { place = place; reply = r })
  made_by command r limit says numbers only some = record {
    lock = ap (λ (h : Held). h.lock) is.becomes;
    front = (
      is.begins.0 ++ turn_with old.number what,
      ap (λ (h : Held). h.seen) is.becomes ∙ ap (λ b. b ++ turn_with old.number what) is.begins.1 ∙ append_assoc old.seen is.begins.0 (turn_with old.number what),
    );
    is_told = record {
      within = omega (arith, whole_place);
      whole = subst (λ (x : ℕ × List Note). ∥ IsLegal old.lock.key.n old.lock.key.w x.0 old.lock.key.me x.1 ∥₁) (λ i. (limit i, sym (taken ∙ sym is.notes_are) i)) is.legal;
      is = subst (λ l. IsReplyAfter old.lock.key.n old.lock.key.w old.lock.key.me l command r) (sym taken) says;
    };
    place = whole_place;
    rises = λ ok. let more = some ok in omega (arith, more, no_less, is.place_is, length-append (notes_in before) what);
    sent = ap sent_numbers own_notes ∙ sent_append (notes_in old.own) what ∙ ap (λ l. sent_numbers (notes_in old.own) ++ l) numbers;
    only_sent = λ all. subst (All IsSentNote) (sym own_notes) (All-append IsSentNote (notes_in old.own) what all only);
  }

  -- nothing was noted
  module _ (same : notes_in before ++ what ≡ notes_in before) where
    none : what ≡ []
    none = append_cancel_left (notes_in before) what [] (same ∙ sym (append-nil (notes_in before)))

    made_still : (command : LiveCommand) (r : Reply) → old.lock.key.limit ≡ live_limit → ok_number r ≡ [] → is_ok r ≡ false
        → IsReplyAfter old.lock.key.n old.lock.key.w old.lock.key.me (notes_in before) command r → Made old new command (record { place = place; reply = r })
    made_still command r limit no_number not_ok says =
        made_by command r limit (subst (λ l. IsReplyAfter old.lock.key.n old.lock.key.w old.lock.key.me l command r) (sym same) says)
        (ap sent_numbers none ∙ sym no_number) (subst (All IsSentNote) (sym none) (All-nil IsSentNote)) (λ ok. let no : true ≡ false = sym ok ∙ not_ok in absurd (not_both no))

  -- an update was sent
  module _ (update : Update) (m : Message) (by_rule : (local_rule old.lock.key.w old.lock.key.limit update (state_by (old.lock.key.me, old.lock.key.n) (notes_in before))).0 ≡ local.Sent m)
      (noted : notes_in before ++ what ≡ notes_in before ++ note.Sent m ∷ []) where
    carries : m.op ≡ op.Update update
    carries = carries_by _ _ m _ update refl by_rule

    just : what ≡ note.Sent m ∷ []
    just = append_cancel_left (notes_in before) what (note.Sent m ∷ []) noted

    pub made_sent : (c : ℕ) → old.lock.key.limit ≡ live_limit → Made old new (Do c update) (record { place = place; reply = reply.Sent (number m) })
    made_sent c limit =
        made_by (Do c update) (reply.Sent (number m)) limit (record { earlier = notes_in before; message = m; ends = noted; numbered = refl; carries = carries })
        (ap sent_numbers just ∙ ap (λ o. carried_number (number m) o ++ []) carries) (subst (All IsSentNote) (sym just) (All-cons IsSentNote (note.Sent m) [] tt (All-nil IsSentNote)))
        (λ ok. omega (arith, ap length just))

-- a call that had memory answers as the rule does, and notes what the rule notes
module _ (w limit : ℕ) (first : ℕ × ℕ) (before after : List Note) (update : Update) where
  pub ruled : (answer : Local) → (answer ≡ local.NoMemory → ⊥) → FollowsLocal w limit first before after update answer
      → ((local_rule w limit update (state_by first before)).0 ≡ answer) × (after ≡ before ++ local_notes answer)
  ruled answer some follows = elim (follows before refl) [
    | inl made ↦ (sym made.0, made.1 ∙ ap (λ a. before ++ local_notes a) (sym made.0))
    | inr none ↦ absurd (some none.0)
  ]

-- the call of a client that sends an update
module _ (old new : Held) (place c : ℕ) (update : Update) (lock : LockState Settings) (of : old.lock ≡ lock) (key : IsLiveKey lock.key) where
  limit : old.lock.key.limit ≡ live_limit
  limit = ap (λ (l : LockState Settings). l.key.limit) of ∙ key.limit

  abbrev WasTold : Reply → Type 0
  WasTold r = Made old new (Do c update) (record { place = place; reply = r })

  just_told : (r : Reply) → WasTold r → All WasTold (r ∷ [])
  just_told r made = All-cons WasTold r [] made (All-nil WasTold)

  -- nothing was sent, as the rule at the limit of live runs says
  made_not : (before : List NotedTurn) (what : List Note) (r : Reply) → IsCall old new place before what → ok_number r ≡ [] → is_ok r ≡ false
      → notes_in before ++ what ≡ notes_in before ++ []
      → IsReplyAfter old.lock.key.n old.lock.key.w old.lock.key.me (notes_in before) (Do c update) r → WasTold r
  made_not before what r is no_number not_ok same says =
      made_still old new place before what is (same ∙ append-nil (notes_in before)) (Do c update) r limit no_number not_ok says

  local_made : (answer : Local) → CallsLocal old new place update answer → All WasTold (local_told answer)
  local_made (local.Sent m) (before, what, is, says) =
      let by_rule = ruled _ _ _ _ _ update (local.Sent m) (λ e. cc) says in
      just_told (reply.Sent (number m)) (made_sent old new place before what is update m by_rule.0 by_rule.1 c limit)
  local_made local.Busy (before, what, is, says) =
      let by_rule = ruled _ _ _ _ _ update local.Busy (λ e. cc) says in
      just_told reply.Busy (made_not before what reply.Busy is refl refl by_rule.1
      (subst (λ l. (local_rule old.lock.key.w l update (state_by (old.lock.key.me, old.lock.key.n) (notes_in before))).0 ≡ local.Busy) limit by_rule.0))
  local_made local.End (before, what, is, says) =
      let by_rule = ruled _ _ _ _ _ update local.End (λ e. cc) says in
      just_told reply.End (made_not before what reply.End is refl refl by_rule.1
      (subst (λ l. (local_rule old.lock.key.w l update (state_by (old.lock.key.me, old.lock.key.n) (notes_in before))).0 ≡ local.End) limit by_rule.0))
  local_made local.NoMemory calls = All-nil WasTold

  pub reply_made : (answer : Local) (r : Reply) → CallsLocal old new place update answer → local_told answer ≡ r ∷ [] → WasTold r
  reply_made answer r calls told = All-head WasTold r [] (subst (All WasTold) told (local_made answer calls))

-- an update's message has a number of its origin
has_number : (key : Settings) (before after : List Note) (update : Update) (m : Message) → key.n ≤ 16 → key.me < key.n → ∥ IsLegal key.n key.w key.limit key.me before ∥₁
    → FollowsLocal key.w key.limit (key.me, key.n) before after update (local.Sent m) → m.origin < length m.tag
has_number key before after update m few member legal follows = ∥∥₁_elim legal (search props) (λ is.
    let state = legal_is_state key.n key.w key.limit key.me before few member is in
    let present = (state_by (key.me, key.n) before).history.present in
    let inside = (IsHistory-from_test key.w (state_by (key.me, key.n) before).history state.0.is_history).member in
    subst (λ (m : Message). m.origin < length m.tag) (made_by_rule _ _ _ m (ruled key.w key.limit (key.me, key.n) before after update (local.Sent m) (λ e. cc) follows).0)
    (omega (arith, inside, length-next_tag present.n present.me present.messages)))

pub have_numbers : (old new : Held) (place : ℕ) (update : Update) (lock : LockState Settings) → old.lock ≡ lock → IsLiveKey lock.key → (answer : Local) → CallsLocal old new place update answer
    → All (λ (m : Message). m.origin < length m.tag) (local_messages answer)
have_numbers old new place update lock of key (local.Sent m) (before, what, is, says) =
    let member : IsLiveKey old.lock.key = subst (λ (l : LockState Settings). IsLiveKey l.key) (sym of) key in
    All-cons (λ (m : Message). m.origin < length m.tag) m [] (has_number old.lock.key (notes_in before) _ update m member.few member.member is.legal_before says) (All-nil (λ (m : Message). m.origin < length m.tag))
have_numbers old new place update lock of key local.Busy calls = All-nil (λ (m : Message). m.origin < length m.tag)
have_numbers old new place update lock of key local.End calls = All-nil (λ (m : Message). m.origin < length m.tag)
have_numbers old new place update lock of key local.NoMemory calls = All-nil (λ (m : Message). m.origin < length m.tag)
