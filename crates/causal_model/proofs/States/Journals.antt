-- Journals: what receiving notes replays to the state that it leaves, a group keeps what a state is, groups grow, and what
-- a call notes is one group.
use Rattle.std.proofs.Common.{◌≡◌, ◌≢◌, ℕ, zero, suc, ◌<◌, ◌≤◌, Bool, true, false, not, ◌==◌, IsTrue, List, [], ◌∷◌, ◌++◌, map, fold, length, refl, sym, ap, subst, ◌∙◌, inl, inr, Option, Some, None, if◌then◌else◌, append-nil, arith}
use Rattle.std.proofs.lemmas.Bool.{and_parts, eqb-true, eqb-false, false_from_ne_true}
use Rattle.std.proofs.lemmas.Grind.{flat_map-append}
use Rattle.std.proofs.lemmas.List.Sums.{fold-append}
use Rattle.op_base.specs.Message.{number, fits, id_of}
use Rattle.op_base.specs.Valid.{is_valid, is_valid_update}
use Rattle.op_base.specs.declared.message.Message.{Message}
use Rattle.op_base.specs.declared.operation.Update.{Update}
use Rattle.op_base.specs.declared.operation.Op.{Op}
use Rattle.op_base.specs.declared.operation.Op.TheVariants as op
use Rattle.op_base.specs.declared.outcome.Crook.{Crook}
use Rattle.op_base.specs.declared.outcome.Step.{Step}
use Rattle.causal_model.specs.Chapter.{is_chapter}
use Rattle.causal_model.specs.Counts.{count_of, is_deliverable, is_carried}
use Rattle.causal_model.specs.Stability.{unstable_operations, unstable_noops, noop_window}
use Rattle.causal_model.specs.History.{with_messages}
use Rattle.causal_model.specs.Sending.{own_message, HasRoom, RuleGives, sending, is_noop_due, beating, local_messages, beat_messages, local_rule, beat_rule}
use Rattle.causal_model.specs.Receiving.{crook_after, step_of, messages_with, state_with, steps_within, steps, with_early, next_of, refusal_of, receive_by, receive_rule}
use Rattle.causal_model.specs.State.{State, start, counted, with_own}
use Rattle.causal_model.specs.Early.{has_id, without}
use Rattle.causal_model.specs.Journal.{messages_and, state_noted, state_after, replay, step_note, local_notes, beat_notes, receive_notes, IsGroup, sent, beaten, received, regrouped_as, AreGroups, notes_of, IsLegal}
use Rattle.causal_model.specs.States.{IsState}
use Rattle.causal_model.specs.Laws.States.{IsGroupOrNone}
use Rattle.causal_model.specs.declared.note.Note.{Note}
use Rattle.causal_model.specs.declared.note.Note.TheVariants.{Sent, Kept}
use Rattle.causal_model.specs.declared.outcome.Local.{Local}
use Rattle.causal_model.specs.declared.outcome.Local.TheVariants as local
use Rattle.causal_model.specs.declared.outcome.Beat.{Beat}
use Rattle.causal_model.specs.declared.outcome.Beat.TheVariants as beat
use Rattle.causal_model.specs.declared.outcome.Refusal.{Refusal}
use Rattle.causal_model.proofs.States.Early.{StandsBefore, standing}
use Rattle.causal_model.proofs.Events.Histories.{IsHistory-from_test, IsLimited-from_test}
use Rattle.causal_model.proofs.Delivery.Limits.{counts_are_within}
use Rattle.causal_model.proofs.States.Outcomes.{notes_of_accepted, notes_of_refused, unrefused}
use Rattle.causal_model.proofs.Theory.Risings.{found_alike}
use Rattle.causal_model.proofs.States.States.{start_is_state, step_keeps_state, accept_keeps_state, own_keeps_state, own_makes_none_deliverable, regroup_keeps_state}
use Rattle.causal_model.proofs.States.Steps.{has_own_id, steps_by, none_is_next_after_steps}
use Rattle.causal_model.proofs.Delivery.Windows.{windows_hold}

-- ---- steps

-- no message that stands before another has its id
before_has_other_id : (m y : Message) → StandsBefore y m → has_id (id_of m) y ≡ false
before_has_other_id m y before = false_from_ne_true (has_id (id_of m) y) (λ t.
    let same = and_parts (m.origin == y.origin) (number m == number y) t in
    elim (standing y m before) [
      | inl low ↦ omega (arith, low, eqb-true m.origin y.origin same.0)
      | inr both ↦ omega (arith, both.1, eqb-true (number m) (number y) same.1)
    ])

-- the note of a step makes of a state what the step makes of it
step_replays : (w limit : ℕ) (s : State) (m : Message) → IsState w limit s → next_of s ≡ Some m → state_noted s (step_note (step_of m (crook_after w s.history m))) ≡ state_with w s m
step_replays w limit s m is e = by (crook_after w s.history m) where
  by : (o : Option Crook) → state_noted s (step_note (step_of m o)) ≡ record { history = with_messages s.history (messages_with s.history.present.messages m o); early = without (id_of m) s.early }
  by None =
      let there = found_alike StandsBefore (is_deliverable s.history.present.n (counted s.history)) (has_id (id_of m)) s.early m is.are_early.rise e (has_own_id m) (before_has_other_id m) in
      ap (λ o. record { history = with_messages s.history (messages_and s.history.present.messages o); early = without (id_of m) s.early }) there
  by (Some crook) = refl

-- steps keep a state, and their notes replay to the one after them
record Replays (w limit : ℕ) (s : State) (made : List Step × State) : Type 0 where
  keeps : IsState w limit made.1
  replays : state_after s (map step_note made.0) ≡ made.1

steps_within_replay : (w limit most : ℕ) (s : State) → IsState w limit s → Replays w limit s (steps_within w most s)
steps_within_replay w limit zero s is = record { keeps = is; replays = refl }
steps_within_replay w limit (suc most) s is = by (steps_within_replay w limit most) (next_of s) refl where
  by : ((g : State) → IsState w limit g → Replays w limit g (steps_within w most g)) → (o : Option Message) → next_of s ≡ o → Replays w limit s (steps_by w most s o)
  by later None none = record { keeps = is; replays = refl }
  by later (Some m) next =
      let rest = later (state_with w s m) (step_keeps_state w limit s m is next) in
      record {
        keeps = rest.keeps;
        replays = ap (λ g. state_after g (map step_note (steps_within w most (state_with w s m)).0)) (step_replays w limit s m is next) ∙ rest.replays;
      }

-- ---- receiving

module _ (w limit : ℕ) (s : State) (m : Message) (is : IsState w limit s) (fit : IsTrue (fits s.history.present.n m)) (carried : IsTrue (is_carried limit m)) where
  receives : refusal_of w s m ≡ None → Replays w limit (with_early s m) (steps w (with_early s m))
  receives e =
      let parts = unrefused w s m e in
      steps_within_replay w limit (length (with_early s m).early) (with_early s m) (accept_keeps_state w limit s m is fit carried parts.new parts.apart parts.near)

  pub accepting_replays : refusal_of w s m ≡ None → state_after s (Kept m ∷ map step_note (steps w (with_early s m)).0) ≡ (steps w (with_early s m)).1
  accepting_replays e = (receives e).replays

  accepting_keeps_state : refusal_of w s m ≡ None → IsState w limit (steps w (with_early s m)).1 × (next_of (steps w (with_early s m)).1 ≡ None)
  accepting_keeps_state e = ((receives e).keeps, none_is_next_after_steps w (with_early s m))

  pub receiving_replays : state_after s (receive_notes m (receive_rule w m s).0) ≡ (receive_rule w m s).1
  receiving_replays = by (refusal_of w s m) refl where
    by : (o : Option Refusal) → refusal_of w s m ≡ o → state_after s (receive_notes m (receive_by w m s o).0) ≡ (receive_by w m s o).1
    by (Some r) e = ap (state_after s) (notes_of_refused m r)
    by None e = ap (state_after s) (notes_of_accepted m (steps w (with_early s m)).0) ∙ accepting_replays e

-- ---- sending

-- what lets a message be sent: room in its window, and a number below the limit
pub record IsSent (n w limit me : ℕ) (messages : List Message) (o : Op) (m : Message) : Type 0 where
  pub room : HasRoom n w me messages o
  pub below : count_of messages me ≢ limit
  pub own : m ≡ own_message n me messages o

module _ (n w limit me : ℕ) (messages : List Message) (m : Message) where
  sends_own : (u : Update) → unstable_operations n me messages me ≤ w → sending n w limit me messages u ≡ local.Sent m → IsSent n w limit me messages (op.Update u) m
  sends_own u within e = by (unstable_operations n me messages me == w) (count_of messages me == limit) refl refl e where
    by : (a b : Bool) → (unstable_operations n me messages me == w) ≡ a → (count_of messages me == limit) ≡ b
        → (if a then local.Busy else if b then local.End else local.Sent (own_message n me messages (op.Update u))) ≡ local.Sent m → IsSent n w limit me messages (op.Update u) m
    by true b is_a is_b f = cc
    by false true is_a is_b f = cc
    by false false is_a is_b f = record {
      room = omega (arith, within, eqb-false (unstable_operations n me messages me) w is_a);
      below = eqb-false (count_of messages me) limit is_b;
      own = cc;
    }

  beats_own : unstable_noops n me messages me ≤ noop_window n w → beating n w limit me messages ≡ beat.Sent m → IsSent n w limit me messages op.NoOp m
  beats_own within e = by (is_noop_due me messages) (unstable_noops n me messages me == noop_window n w) (count_of messages me == limit) refl refl e where
    by : (due a b : Bool) → (unstable_noops n me messages me == noop_window n w) ≡ a → (count_of messages me == limit) ≡ b
        → (if not due then beat.Quiet else if a then beat.Held else if b then beat.End else beat.Sent (own_message n me messages op.NoOp)) ≡ beat.Sent m → IsSent n w limit me messages op.NoOp m
    by false a b is_a is_b f = cc
    by true true b is_a is_b f = cc
    by true false true is_a is_b f = cc
    by true false false is_a is_b f = record {
      room = omega (arith, within, eqb-false (unstable_noops n me messages me) (noop_window n w) is_a);
      below = eqb-false (count_of messages me) limit is_b;
      own = cc;
    }

-- so it is of what the rule gives
pub given_is_sent : (n w limit me : ℕ) (messages : List Message) (m : Message) (o : Op) → me < n → IsTrue (is_chapter n w me messages) → RuleGives n w limit me messages m o → IsSent n w limit me messages o m
given_is_sent n w limit me messages m op.NoOp member chapter gives = beats_own n w limit me messages m (windows_hold n w me me messages member chapter).1 gives
given_is_sent n w limit me messages m (op.Update u) member chapter gives = sends_own n w limit me messages m u (windows_hold n w me me messages member chapter).0 gives

sent_keeps_state : (w limit : ℕ) (s : State) (o : Op) (m : Message) → IsState w limit s → next_of s ≡ None → IsTrue (is_valid o)
    → IsSent s.history.present.n w limit s.history.present.me s.history.present.messages o m → IsState w limit (with_own s m) × (next_of (with_own s m) ≡ None)
sent_keeps_state w limit s o m is none valid send =
    let n = s.history.present.n in
    let me = s.history.present.me in
    let messages = s.history.present.messages in
    let was = IsHistory-from_test w s.history is.is_history in
    let below : count_of messages me < limit = omega (arith, send.below, counts_are_within n w me limit me messages was.chapter (IsLimited-from_test limit s.history is.is_limited).present) in
    (subst (λ own. IsState w limit (with_own s own)) (sym send.own) (own_keeps_state w limit s o is send.room valid below), own_makes_none_deliverable w limit s o is m (ap (λ own. own.origin) send.own) none)

-- ---- groups

-- a group keeps what a state is, and leaves no early message that can be delivered
pub group_keeps_state : (w limit : ℕ) (s : State) (group : List Note) → IsState w limit s → next_of s ≡ None → IsGroup w limit s group
    → IsState w limit (state_after s group) × (next_of (state_after s group) ≡ None)
group_keeps_state w limit s _ is none (sent u m valid e) =
    let was = IsHistory-from_test w s.history is.is_history in
    let h = s.history.present in
    sent_keeps_state w limit s (op.Update u) m is none valid (sends_own h.n w limit h.me h.messages m u (windows_hold h.n w h.me h.me h.messages was.member was.chapter).0 e)
group_keeps_state w limit s _ is none (beaten m e) =
    let was = IsHistory-from_test w s.history is.is_history in
    let h = s.history.present in
    sent_keeps_state w limit s op.NoOp m is none refl (beats_own h.n w limit h.me h.messages m (windows_hold h.n w h.me h.me h.messages was.member was.chapter).1 e)
group_keeps_state w limit s _ is none (received m fit carried e) =
    subst (λ g. IsState w limit g × (next_of g ≡ None)) (sym (accepting_replays w limit s m is fit carried e)) (accepting_keeps_state w limit s m is fit carried e)
group_keeps_state w limit s _ is none (regrouped_as n me few member more stable) = (regroup_keeps_state w limit n me s is few member more stable, refl)

pub groups_grow : (w limit : ℕ) (s : State) (groups : List (List Note)) (group : List Note) → AreGroups w limit s groups → IsGroup w limit (state_after s (notes_of groups)) group → AreGroups w limit s (groups ++ group ∷ [])
groups_grow w limit s [] group are next = (next, tt)
groups_grow w limit s (first ∷ groups) group are next =
    (are.0, groups_grow w limit (state_after s first) groups group are.1 (subst (λ g. IsGroup w limit g group) (fold-append state_noted s first (notes_of groups)) next))

-- ---- legal notes

groups_keep_state : (w limit : ℕ) (s : State) (groups : List (List Note)) → IsState w limit s → next_of s ≡ None → AreGroups w limit s groups
    → IsState w limit (state_after s (notes_of groups)) × (next_of (state_after s (notes_of groups)) ≡ None)
groups_keep_state w limit s [] is none are = (is, none)
groups_keep_state w limit s (group ∷ later) is none are =
    let once = group_keeps_state w limit s group is none are.0 in
    subst (λ g. IsState w limit g × (next_of g ≡ None)) (sym (fold-append state_noted s group (notes_of later))) (groups_keep_state w limit (state_after s group) later once.0 once.1 are.1)

pub legal_is_state : (n w limit me : ℕ) (notes : List Note) → n ≤ 16 → me < n → IsLegal n w limit me notes → IsState w limit (replay n me notes) × (next_of (replay n me notes) ≡ None)
legal_is_state n w limit me notes few member legal =
    subst (λ ns. IsState w limit (replay n me ns) × (next_of (replay n me ns) ≡ None)) (sym legal.are_theirs) (groups_keep_state w limit (start n me) legal.groups (start_is_state n w limit me few member) refl legal.are_groups)

pub legal_grows : (n w limit me : ℕ) (notes group : List Note) → IsLegal n w limit me notes → IsGroup w limit (replay n me notes) group → IsLegal n w limit me (notes ++ group)
legal_grows n w limit me notes group legal next = record {
  groups = legal.groups ++ group ∷ [];
  are_groups = groups_grow w limit (start n me) legal.groups group legal.are_groups (subst (λ ns. IsGroup w limit (replay n me ns) group) legal.are_theirs next);
  are_theirs = ap (λ ns. ns ++ group) legal.are_theirs ∙ ap (λ ns. notes_of legal.groups ++ ns) (sym (append-nil group)) ∙ sym (flat_map-append (λ g. g) legal.groups (group ∷ []));
}

-- ---- what calls note

-- what was sent replays to the state with it
sent_replay : (s : State) (messages : List Message) → state_after s (map Sent messages) ≡ fold with_own s messages
sent_replay s [] = refl
sent_replay s (m ∷ messages) = sent_replay (with_own s m) messages

module _ (w limit : ℕ) (s : State) where
  pub sending_replays : (u : Update) → state_after s (local_notes (local_rule w limit u s).0) ≡ (local_rule w limit u s).1
  sending_replays u = sent_replay s (local_messages (local_rule w limit u s).0)

  pub beating_replays : state_after s (beat_notes (beat_rule w limit s).0) ≡ (beat_rule w limit s).1
  beating_replays = sent_replay s (beat_messages (beat_rule w limit s).0)

  pub sending_notes_one_group : (u : Update) → IsTrue (is_valid_update u) → IsGroupOrNone w limit s (local_notes (local_rule w limit u s).0)
  sending_notes_one_group u valid = by (local_rule w limit u s).0 refl where
    by : (answer : Local) → (local_rule w limit u s).0 ≡ answer → IsGroupOrNone w limit s (local_notes answer)
    by (local.Sent m) e = inr (sent u m valid e)
    by local.Busy e = inl refl
    by local.End e = inl refl
    by local.NoMemory e = inl refl

  pub beating_notes_one_group : IsGroupOrNone w limit s (beat_notes (beat_rule w limit s).0)
  beating_notes_one_group = by (beat_rule w limit s).0 refl where
    by : (answer : Beat) → (beat_rule w limit s).0 ≡ answer → IsGroupOrNone w limit s (beat_notes answer)
    by (beat.Sent m) e = inr (beaten m e)
    by beat.Quiet e = inl refl
    by beat.Held e = inl refl
    by beat.End e = inl refl
    by beat.NoMemory e = inl refl

  pub receiving_notes_one_group : (m : Message) → IsTrue (fits s.history.present.n m) → IsTrue (is_carried limit m)
      → IsGroupOrNone w limit s (receive_notes m (receive_rule w m s).0)
  receiving_notes_one_group m fit carried = by (refusal_of w s m) refl where
    by : (o : Option Refusal) → refusal_of w s m ≡ o → IsGroupOrNone w limit s (receive_notes m (receive_by w m s o).0)
    by (Some r) e = inl (notes_of_refused m r)
    by None e = inr (subst (IsGroup w limit s) (sym (notes_of_accepted m (steps w (with_early s m)).0)) (received m fit carried e))
