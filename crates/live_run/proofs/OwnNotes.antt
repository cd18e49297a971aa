-- Each own message of a replica stands as sent among its notes.
use Rattle.std.proofs.Common.{◌≡◌, ℕ, ◌<◌, ◌≤◌, ◌==◌, Bool, true, false, not, cond, if◌then◌else◌, IsTrue, List, [], ◌∷◌, ◌++◌, map, fold, Contains, All, None, refl, arith, sym, ap, subst, ◌∙◌}
use Rattle.std.proofs.Math.Logic.{∥∥₁_elim}
use Rattle.std.proofs.Math.Nat.{ℕ_set}
use mathlib.Core.List.{is_set}
use mathlib.Core.Sum.{⊎_set}
use Rattle.std.specs.List.{filter}
use Rattle.std.proofs.lemmas.List.Elements.{All-nil, All-push, All-filter, Contains-append_right}
use Rattle.std.proofs.lemmas.List.Sums.{fold-append}
use Rattle.op_base.specs.Message.{fits}
use Rattle.op_base.specs.declared.message.Message.{Message}
use Rattle.op_base.specs.declared.outcome.Step.{Step}
use Rattle.op_base.specs.declared.outcome.Step.TheVariants as step
use Rattle.causal_model.specs.Counts.{is_carried}
use Rattle.causal_model.specs.Journal.{state_noted, state_after, replay, step_note, IsGroup, sent, beaten, received, regrouped_as, AreGroups, notes_of, IsLegal}
use Rattle.causal_model.specs.Receiving.{next_of, steps, with_early, refusal_of, receive_by}
use Rattle.causal_model.specs.Stability.{stable_vector, is_stable}
use Rattle.causal_model.specs.State.{State, start}
use Rattle.causal_model.specs.States.{IsState}
use Rattle.causal_model.specs.declared.note.Note.{Note}
use Rattle.causal_model.specs.declared.note.Note.TheVariants.{Sent, Kept, Took, Crook, Regroup}
use Rattle.causal_model.specs.declared.outcome.Beat.TheVariants as beat
use Rattle.causal_model.specs.declared.outcome.Local.TheVariants as local
use Rattle.causal_model.proofs.States.Journals.{accepting_replays, group_keeps_state}
use Rattle.causal_model.proofs.States.States.{start_is_state}
use Rattle.replica_lock.specs.Rules.{outbox_in}
use Rattle.world_model.specs.Worlds.{own_of}
use Rattle.world_model.proofs.Received.{receives}
use Rattle.world_model.proofs.Worlds.{own_of_more}

-- what a note makes of the own messages of the present epoch
abbrev own_noted : List Message → Note → List Message
own_noted own (Sent m) = own ++ m ∷ []
own_noted own (Kept m) = own
own_noted own (Took id) = own
own_noted own (Crook id) = own
own_noted own (Regroup epoch n me) = []

steps_send_nothing : (own : List Message) (made : List Step) → fold own_noted own (map step_note made) ≡ own
steps_send_nothing own [] = refl
steps_send_nothing own (step.Took id ∷ made) = steps_send_nothing own made
steps_send_nothing own (step.Crook id cause ∷ made) = steps_send_nothing own made

origin_of_update : (b c : Bool) (made m : Message) → (if b then local.Busy else if c then local.End else local.Sent made) ≡ local.Sent m → m.origin ≡ made.origin
origin_of_update true c made m e = cc
origin_of_update false true made m e = cc
origin_of_update false false made m e = cc

origin_of_noop : (b c d : Bool) (made m : Message) → (if b then beat.Quiet else if c then beat.Held else if d then beat.End else beat.Sent made) ≡ beat.Sent m → m.origin ≡ made.origin
origin_of_noop true c d made m e = cc
origin_of_noop false true d made m e = cc
origin_of_noop false false true made m e = cc
origin_of_noop false false false made m e = cc

module _ (w limit : ℕ) where
  received_sends_nothing : (s : State) (m : Message) → IsState w limit s → next_of s ≡ None → IsTrue (fits s.history.present.n m) → IsTrue (is_carried limit m) → refusal_of w s m ≡ None
      → own_of (steps w (with_early s m)).1 ≡ own_of s
  received_sends_nothing s m is none fit carried e =
      sym (ap (λ o. own_of (receive_by w m s o).1) e)
      ∙ (receives s.history.present.n w limit s.history.present.me s (record { is_state = is; of_store = refl; of_member = refl; in_epoch = refl; none_is_next = none }) m fit carried).own

  group_sends : (s : State) (group : List Note) → IsState w limit s → next_of s ≡ None → IsGroup w limit s group → own_of (state_after s group) ≡ fold own_noted (own_of s) group
  group_sends s _ is none (sent update m valid e) = own_of_more s m (origin_of_update _ _ _ m e)
  group_sends s _ is none (beaten m e) = own_of_more s m (origin_of_noop _ _ _ _ m e)
  group_sends s _ is none (received m fit carried e) =
      ap own_of (accepting_replays w limit s m is fit carried e) ∙ received_sends_nothing s m is none fit carried e ∙ sym (steps_send_nothing (own_of s) (steps w (with_early s m)).0)
  group_sends s _ is none (regrouped_as n me few member more stable) = refl

  groups_send : (s : State) (groups : List (List Note)) → IsState w limit s → next_of s ≡ None → AreGroups w limit s groups → own_of (state_after s (notes_of groups)) ≡ fold own_noted (own_of s) (notes_of groups)
  groups_send s [] is none are = refl
  groups_send s (group ∷ later) is none are =
      let next = group_keeps_state w limit s group is none are.0 in
      ap own_of (fold-append state_noted s group (notes_of later)) ∙ groups_send (state_after s group) later next.0 next.1 are.1
      ∙ ap (λ own. fold own_noted own (notes_of later)) (group_sends s group is none are.0) ∙ sym (fold-append own_noted (own_of s) group (notes_of later))

legal_sends : (n w limit me : ℕ) (notes : List Note) → n ≤ 16 → me < n → IsLegal n w limit me notes → own_of (replay n me notes) ≡ fold own_noted [] notes
legal_sends n w limit me notes few member legal =
    subst (λ ns. own_of (replay n me ns) ≡ fold own_noted [] ns) (sym legal.are_theirs) (groups_send w limit (start n me) legal.groups (start_is_state n w limit me few member) refl legal.are_groups)

-- what holds of each message that notes sent
each_sent : (P : Message → Type 0) (own : List Message) (notes : List Note) → All P own → ((m : Message) → Contains notes (Sent m) → P m) → All P (fold own_noted own notes)
each_sent P own [] all each = all
each_sent P own (x ∷ notes) all each = each_sent P (own_noted own x) notes (with_note x each) (λ m has. each m (Contains-append_right (x ∷ []) notes (Sent m) has)) where
  with_note : (y : Note) → ((m : Message) → Contains (y ∷ notes) (Sent m) → P m) → All P (own_noted own y)
  with_note (Sent m) here = All-push P own m all (here m (0, omega arith, refl))
  with_note (Kept m) here = all
  with_note (Took id) here = all
  with_note (Crook id) here = all
  with_note (Regroup epoch n me) here = All-nil P

filters_swap : {X : Type 0} (p q : X → Bool) (xs : List X) → filter p (filter q xs) ≡ filter q (filter p xs)
filters_swap {X = X} p q [] = refl
filters_swap {X = X} p q (x ∷ xs) = by (p x) (q x) refl refl (filters_swap p q xs) where
  here : (r : X → Bool) (b : Bool) → r x ≡ b → (ys : List X) → filter r (x ∷ ys) ≡ cond b (x ∷ filter r ys) (filter r ys)
  here r b is ys = ap (λ c. cond c (x ∷ filter r ys) (filter r ys)) is

  by : (a b : Bool) → p x ≡ a → q x ≡ b → filter p (filter q xs) ≡ filter q (filter p xs) → filter p (filter q (x ∷ xs)) ≡ filter q (filter p (x ∷ xs))
  by true true is_p is_q rest = ap (filter p) (here q true is_q xs) ∙ here p true is_p (filter q xs) ∙ ap (λ l. x ∷ l) rest ∙ sym (here q true is_q (filter p xs)) ∙ sym (ap (filter q) (here p true is_p xs))
  by true false is_p is_q rest = ap (filter p) (here q false is_q xs) ∙ rest ∙ sym (here q false is_q (filter p xs)) ∙ sym (ap (filter q) (here p true is_p xs))
  by false true is_p is_q rest = ap (filter p) (here q true is_q xs) ∙ here p false is_p (filter q xs) ∙ rest ∙ sym (ap (filter q) (here p false is_p xs))
  by false false is_p is_q rest = ap (filter p) (here q false is_q xs) ∙ rest ∙ sym (ap (filter q) (here p false is_p xs))

-- the outbox of what legal notes leave has messages that they sent
pub outbox_was_sent : (n w limit me : ℕ) (notes : List Note) → n ≤ 16 → me < n → ∥ IsLegal n w limit me notes ∥₁ → All (λ m. Contains notes (Sent m)) (outbox_in (replay n me notes))
outbox_was_sent n w limit me notes few member legal =
    let s = replay n me notes in
    let P : Message → Type 0 = λ m. Contains notes (Sent m) in
    let own : own_of s ≡ fold own_noted [] notes = ∥∥₁_elim legal (hlevel (is_set, ℕ_set, ⊎_set)) (legal_sends n w limit me notes few member) in
    let all : All P (own_of s) = subst (All P) (sym own) (each_sent P [] notes (All-nil P) (λ m has. has)) in
    let h = s.history.present in
    let steady : Message → Bool = λ m. not (is_stable (stable_vector h.n h.me h.messages) m) in
    subst (All P) (filters_swap steady (λ m. m.origin == h.me) h.messages) (All-filter steady P (own_of s) all)
