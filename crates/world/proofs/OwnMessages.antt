-- The own messages of a replay stand as sent among its notes, in whatever epoch.
use Rattle.std.proofs.Common.{◌≡◌, ◌≢◌, ℕ, All, Contains, get_or, not, List, [], ◌∷◌, ◌++◌, map, refl, sym, subst, ◌∙◌, eq-eqb, Option, Some, None}
use Rattle.std.specs.List.{find}
use Rattle.std.proofs.lemmas.Bool.{or_left, false≢true}
use Rattle.std.proofs.lemmas.List.Elements.{All-contains, All-nil, All-cons, All-push, All-filter, All-head, All-tail, Contains-get_or}
use Rattle.std.proofs.lemmas.List.Sums.{fold-append}
use Rattle.op_base.specs.declared.message.Message.{Message}
use Rattle.op_base.specs.declared.outcome.Step.{Step}
use Rattle.op_base.specs.declared.outcome.Step.TheVariants as step
use Rattle.op_base.specs.declared.tag.MessageId.{MessageId}
use Rattle.causal_model.specs.Early.{has_id}
use Rattle.causal_model.specs.Journal.{messages_and, state_noted, state_after, replay, step_note, IsGroup, sent, beaten, received, regrouped_as, AreGroups, notes_of, IsLegal}
use Rattle.causal_model.specs.Receiving.{steps, with_early}
use Rattle.causal_model.specs.State.{State, start}
use Rattle.causal_model.specs.declared.note.Note.{Note}
use Rattle.causal_model.specs.declared.note.Note.TheVariants.{Sent, Kept, Took, Crook, Regroup}
use Rattle.causal_model.proofs.States.Early.{All-put_early}
use Rattle.causal_model.proofs.Theory.Finds.{found}
use Rattle.causal_model.proofs.States.Outcomes.{unrefused}

-- of a note that sent a message
abbrev Tells : (Message → Type 0) → Note → Type 0
Tells Was (Sent m) = Was m
Tells Was (Kept m) = Unit {0}
Tells Was (Took id) = Unit {0}
Tells Was (Crook id) = Unit {0}
Tells Was (Regroup epoch n me) = Unit {0}

module _ (Was : Message → Type 0) where
  -- each own message was sent, and none is early
  record OwnWere (s : State) : Type 0 where
    sent : All (λ m. m.origin ≡ s.history.present.me → Was m) s.history.present.messages
    early : All (λ m. m.origin ≢ s.history.present.me) s.early

  taken : (id : MessageId) (s : State) → OwnWere s → (o : Option Message) → find (has_id id) s.early ≡ o → All (λ m. m.origin ≡ s.history.present.me → Was m) (messages_and s.history.present.messages o)
  taken id s own None e = own.sent
  taken id s own (Some m) e =
      let other = All-contains (λ y. y.origin ≢ s.history.present.me) s.early m own.early (found (has_id id) s.early m e).0 in
      All-push (λ y. y.origin ≡ s.history.present.me → Was y) s.history.present.messages m own.sent (λ is. absurd (other is))

  step_keeps_own : (s : State) (made : Step) → OwnWere s → OwnWere (state_noted s (step_note made))
  step_keeps_own s (step.Took id) own = record { sent = taken id s own (find (has_id id) s.early) refl; early = All-filter (λ m. not (has_id id m)) (λ m. m.origin ≢ s.history.present.me) s.early own.early }
  step_keeps_own s (step.Crook id cause) own = record { sent = own.sent; early = All-filter (λ m. not (has_id id m)) (λ m. m.origin ≢ s.history.present.me) s.early own.early }

  steps_keep_own : (s : State) (made : List Step) → OwnWere s → OwnWere (state_after s (map step_note made))
  steps_keep_own s [] own = own
  steps_keep_own s (first ∷ made) own = steps_keep_own (state_noted s (step_note first)) made (step_keeps_own s first own)

  sent_keeps_own : (s : State) (m : Message) → Was m → OwnWere s → OwnWere (state_noted s (Sent m))
  sent_keeps_own s m was own = record { sent = All-push (λ y. y.origin ≡ s.history.present.me → Was y) s.history.present.messages m own.sent (λ _. was); early = own.early }

  group_keeps_own : (w limit : ℕ) (s : State) (group : List Note) → All (Tells Was) group → IsGroup w limit s group → OwnWere s → OwnWere (state_after s group)
  group_keeps_own w limit s _ were (sent update m valid e) own = sent_keeps_own s m (All-head (Tells Was) (Sent m) [] were) own
  group_keeps_own w limit s _ were (beaten m e) own = sent_keeps_own s m (All-head (Tells Was) (Sent m) [] were) own
  group_keeps_own w limit s _ were (received m fit carried e) own =
      let me = s.history.present.me in
      let other : m.origin ≢ me = λ is. false≢true (sym (unrefused w s m e).new ∙ or_left _ _ (eq-eqb m.origin me is)) in
      steps_keep_own (state_noted s (Kept m)) (steps w (with_early s m)).0 (record { sent = own.sent; early = All-put_early (λ y. y.origin ≢ me) m s.early other own.early })
  group_keeps_own w limit s _ were (regrouped_as n me few low more stable) own = record { sent = All-nil _; early = All-nil _ }

  groups_keep_own : (w limit : ℕ) (s : State) (groups : List (List Note)) → All (Tells Was) (notes_of groups) → AreGroups w limit s groups → OwnWere s → OwnWere (state_after s (notes_of groups))
  groups_keep_own w limit s [] were are own = own
  groups_keep_own w limit s (group ∷ later) were are own =
      let parts = both group (notes_of later) were in
      subst OwnWere (sym (fold-append state_noted s group (notes_of later)))
      (groups_keep_own w limit (state_after s group) later parts.1 are.1 (group_keeps_own w limit s group parts.0 are.0 own)) where
        both : (a b : List Note) → All (Tells Was) (a ++ b) → All (Tells Was) a × All (Tells Was) b
        both [] b all = (All-nil (Tells Was), all)
        both (x ∷ a) b all =
            let rest = both a b (All-tail (Tells Was) x (a ++ b) all) in
            (All-cons (Tells Was) x a (All-head (Tells Was) x (a ++ b) all) rest.0, rest.1)

-- what stands among notes is told there
stands_so : (notes : List Note) (x : Note) → Contains notes x → Tells (λ m. Contains notes (Sent m)) x
stands_so notes (Sent m) has = has
stands_so notes (Kept m) has = tt
stands_so notes (Took id) has = tt
stands_so notes (Crook id) has = tt
stands_so notes (Regroup epoch n me) has = tt

pub own_were_sent : (n w limit me : ℕ) (notes : List Note) → IsLegal n w limit me notes → All (λ m. m.origin ≡ (replay n me notes).history.present.me → Contains notes (Sent m)) (replay n me notes).history.present.messages
own_were_sent n w limit me notes legal =
    let Was : Message → Type 0 = λ m. Contains notes (Sent m) in
    let were : All (Tells Was) notes = λ i d l. stands_so notes (get_or notes i d) (Contains-get_or notes i d l) in
    let none : OwnWere Was (start n me) = record { sent = All-nil _; early = All-nil _ } in
    let all = groups_keep_own Was w limit (start n me) legal.groups (subst (All (Tells Was)) legal.are_theirs were) legal.are_groups none in
    (subst (λ ns. OwnWere Was (replay n me ns)) (sym legal.are_theirs) all).sent
