-- What a replica of an honest world becomes by messages that were sent: each step delivers, and it has only such messages.
use Rattle.std.proofs.Common.{◌≡◌, ◌≢◌, ℕ, zero, suc, ◌<◌, All, true, false, not, Contains, IsTrue, List, [], ◌∷◌, ◌++◌, length, length-append, refl, sym, ap, subst, ◌∙◌, inl, inr, ◌⊎◌, Option, Some, None, arith}
use Rattle.std.specs.Prelude.{is_none}
use Rattle.std.proofs.lemmas.Bool.{false≢true}
use Rattle.std.proofs.lemmas.List.Elements.{All-contains, All-filter, All-nil, All-cons, All-push}
use Rattle.op_base.specs.Message.{fits, id_of}
use Rattle.op_base.specs.declared.message.Message.{Message}
use Rattle.op_base.specs.declared.outcome.Step.{Step}
use Rattle.causal_model.specs.Chapter.{is_chapter}
use Rattle.causal_model.specs.Counts.{counts, is_deliverable, is_carried}
use Rattle.causal_model.specs.Crook.{crook_of}
use Rattle.causal_model.specs.Receiving.{next_of, is_old, crook_after, messages_with, state_with, step_of, steps_within, steps, with_early, refusal_of, steps_of, receive_by, receive_rule}
use Rattle.causal_model.specs.Sending.{RuleGives, KeepsRule}
use Rattle.causal_model.specs.State.{State, counted}
use Rattle.causal_model.specs.Early.{has_id}
use Rattle.causal_model.specs.States.{IsState}
use Rattle.causal_model.specs.declared.outcome.Refusal.{Refusal}
use Rattle.causal_model.proofs.Delivery.Crooks.{none-from_IsStraight}
use Rattle.causal_model.proofs.States.Early.{IsDeliverable-from_test, IsNew-from_test, All-put_early}
use Rattle.causal_model.proofs.Theory.Finds.{found}
use Rattle.causal_model.proofs.Events.Histories.{IsHistory-from_test}
use Rattle.causal_model.proofs.States.Outcomes.{IsUnrefused, unrefused, steps_of_accepted, steps_of_refused}
use Rattle.causal_model.proofs.States.States.{accept_keeps_state, step_keeps_state}
use Rattle.causal_model.proofs.States.Steps.{steps_by, none_is_next_after_steps}
use Rattle.world_model.specs.Honest.{IsSentMessage, IsHonest}
use Rattle.world_model.specs.Settling.{is_delivery}
use Rattle.world_model.specs.World.{PlainWorld, size_of, replica_of}
use Rattle.honest_worlds.proofs.SentMessages.{sent_is_next}

-- ---- the rule, with one message more

-- where a list with one more is cut at an item, that is the last, or the list itself is cut there
cut : (h before later : List Message) (m e : Message) → h ++ m ∷ [] ≡ before ++ e ∷ later → ((h ≡ before) × (m ≡ e)) ⊎ ((rest : List Message) × (h ≡ before ++ e ∷ rest))
cut [] [] later m e f = inl (refl, cc)
cut [] (b ∷ before) later m e f = absurd (omega (arith, ap length f, length-append before (e ∷ later)))
cut (x ∷ h) [] later m e f = let same : x ≡ e = cc in inr (h, ap (λ z. z ∷ h) same)
cut (x ∷ h) (b ∷ before) later m e f =
    let same : x ≡ b = cc in
    let tails : h ++ m ∷ [] ≡ before ++ e ∷ later = cc in
    elim (cut h before later m e tails) [
      | inl both ↦ inl ((λ i. same i ∷ both.0 i), both.1)
      | inr more ↦ inr (more.0, (λ i. same i ∷ more.1 i))
    ]

pub keeps_rule-push : (n w limit me : ℕ) (h : List Message) (m : Message) → KeepsRule n w limit me h → (m.origin ≡ me → RuleGives n w limit me h m m.op) → KeepsRule n w limit me (h ++ m ∷ [])
keeps_rule-push n w limit me h m keeps gives before later e f own = elim (cut h before later m e f) [
  | inl both ↦ subst (λ g. RuleGives n w limit me g e e.op) both.0 (subst (λ y. RuleGives n w limit me h y y.op) both.1 (gives (ap (λ y. y.origin) both.1 ∙ own)))
  | inr more ↦ keeps before more.0 e more.1 own
]

-- ---- a replica that has sent messages alone

pub record HasOnlySent (world : PlainWorld) (r : ℕ) (s : State) : Type 0 where
  pub is_state : IsState world.w world.limit s
  pub of_store : s.history.present.n ≡ size_of world
  pub of_member : s.history.present.me ≡ r
  pub past : s.history.past ≡ (replica_of world r).history.past
  pub rule : KeepsRule (size_of world) world.w world.limit r s.history.present.messages
  pub delivered : All (IsSentMessage world) s.history.present.messages
  pub early : All (IsSentMessage world) s.early

pub replica_has_only_sent : (world : PlainWorld) (r : ℕ) → IsHonest world → r < size_of world → HasOnlySent world r (replica_of world r)
replica_has_only_sent world r honest l =
    let replica = honest.is_world.replicas r l in
    record { is_state = replica.is_state; of_store = replica.of_store; of_member = replica.of_member; past = refl; rule = honest.by_rule r l; delivered = honest.delivered r l; early = honest.early r l }

is_none_of : {X : Type 0} (o : Option X) → is_none o ≡ true → o ≡ None
is_none_of None t = refl
is_none_of (Some x) t = absurd (false≢true t)

module _ (world : PlainWorld) (honest : IsHonest world) (r : ℕ) (l : r < size_of world) where
  pub chapter_of_state : (s : State) → HasOnlySent world r s → IsTrue (is_chapter (size_of world) world.w r s.history.present.messages)
  chapter_of_state s fed =
      subst (λ me. IsTrue (is_chapter (size_of world) world.w me s.history.present.messages)) fed.of_member
      (subst (λ k. IsTrue (is_chapter k world.w s.history.present.me s.history.present.messages)) fed.of_store (IsHistory-from_test world.w s.history fed.is_state.is_history).chapter)

  -- a message of another member that was sent and can be delivered is not crooked
  pub is_not_crooked : (s : State) (m : Message) → HasOnlySent world r s → IsSentMessage world m → m.origin ≢ r → is_deliverable s.history.present.n (counted s.history) m ≡ true → crook_after world.w s.history m ≡ None
  is_not_crooked s m fed sent ne can =
      let messages = s.history.present.messages in
      let here = IsDeliverable-from_test (size_of world) (counts (size_of world) messages) m (subst (λ k. is_deliverable k (counts k messages) m ≡ true) fed.of_store can) in
      let next = sent_is_next world honest r messages m l (chapter_of_state s fed) fed.delivered sent ne here in
      let straight = is_none_of (crook_of (size_of world) world.w r messages m) (none-from_IsStraight (size_of world) world.w r messages m next.straight) in
      subst (λ me. crook_of s.history.present.n world.w me messages m ≡ None) (sym fed.of_member) (subst (λ k. crook_of k world.w r messages m ≡ None) (sym fed.of_store) straight)

  -- the early message that is next
  pub record IsTaken (s : State) (m : Message) : Type 0 where
    pub there : Contains s.early m
    pub other : m.origin ≢ r
    pub straight : crook_after world.w s.history m ≡ None

  pub taken : (s : State) (m : Message) → HasOnlySent world r s → next_of s ≡ Some m → IsTaken s m
  taken s m fed next =
      let found_there = found (is_deliverable s.history.present.n (counted s.history)) s.early m next in
      let new = IsNew-from_test s.history.present.me (counted s.history) m (All-contains (λ y. is_old s.history.present.me (counted s.history) y ≡ false) s.early m fed.is_state.are_early.new found_there.0) in
      let ne : m.origin ≢ r = λ e. new.other (e ∙ sym fed.of_member) in
      record { there = found_there.0; other = ne; straight = is_not_crooked s m fed (All-contains (IsSentMessage world) s.early m fed.early found_there.0) ne found_there.1 }

  step_has_only_sent : (s : State) (m : Message) → HasOnlySent world r s → next_of s ≡ Some m → HasOnlySent world r (state_with world.w s m)
  step_has_only_sent s m fed next =
      let t = taken s m fed next in
      let messages = s.history.present.messages in
      let more : messages_with messages m (crook_after world.w s.history m) ≡ messages ++ m ∷ [] = ap (messages_with messages m) t.straight in
      record {
        is_state = step_keeps_state world.w world.limit s m fed.is_state next;
        of_store = fed.of_store;
        of_member = fed.of_member;
        past = fed.past;
        rule = subst (KeepsRule (size_of world) world.w world.limit r) (sym more) (keeps_rule-push (size_of world) world.w world.limit r messages m fed.rule (λ e. absurd (t.other e)));
        delivered = subst (All (IsSentMessage world)) (sym more) (All-push (IsSentMessage world) messages m fed.delivered (All-contains (IsSentMessage world) s.early m fed.early t.there));
        early = All-filter (λ e. not (has_id (id_of m) e)) (IsSentMessage world) s.early fed.early;
      }

  -- what steps make of it
  pub record IsMoved (s : State) (made : List Step) (after : State) : Type 0 where
    pub fed : HasOnlySent world r after
    pub deliver : All (λ step. is_delivery step ≡ true) made
    pub still : made ≡ [] → after.history.present.messages ≡ s.history.present.messages

  steps_move : (most : ℕ) (s : State) → HasOnlySent world r s → IsMoved s (steps_within world.w most s).0 (steps_within world.w most s).1
  steps_move zero s fed = record { fed = fed; deliver = All-nil (λ step. is_delivery step ≡ true); still = λ _. refl }
  steps_move (suc most) s fed = by (steps_move most) (next_of s) refl where
    by : ((g : State) → HasOnlySent world r g → IsMoved g (steps_within world.w most g).0 (steps_within world.w most g).1) → (o : Option Message) → next_of s ≡ o → IsMoved s (steps_by world.w most s o).0 (steps_by world.w most s o).1
    by later None none = record { fed = fed; deliver = All-nil (λ step. is_delivery step ≡ true); still = λ _. refl }
    by later (Some m) next =
        let rest = later (state_with world.w s m) (step_has_only_sent s m fed next) in
        let others = (steps_within world.w most (state_with world.w s m)).0 in
        record {
          fed = rest.fed;
          deliver = All-cons (λ step. is_delivery step ≡ true) (step_of m (crook_after world.w s.history m)) others (ap (λ o. is_delivery (step_of m o)) (taken s m fed next).straight) rest.deliver;
          still = λ none. cc;
        }

  -- ---- receiving a message that was sent

  pub accept_has_only_sent : (s : State) (m : Message) → HasOnlySent world r s → IsSentMessage world m → IsTrue (fits (size_of world) m) → IsTrue (is_carried world.limit m)
      → IsUnrefused world.w s m → HasOnlySent world r (with_early s m)
  accept_has_only_sent s m fed sent fit carried parts = record {
    is_state = accept_keeps_state world.w world.limit s m fed.is_state (subst (λ k. IsTrue (fits k m)) (sym fed.of_store) fit) carried parts.new parts.apart parts.near;
    of_store = fed.of_store;
    of_member = fed.of_member;
    past = fed.past;
    rule = fed.rule;
    delivered = fed.delivered;
    early = All-put_early (IsSentMessage world) m s.early sent fed.early;
  }

  -- after receiving: none is next, each step delivered, and where none was made the messages are as before
  pub record IsReceived (s : State) (made : List Step) (after : State) : Type 0 where
    pub fed : HasOnlySent world r after
    pub none : next_of after ≡ None
    pub deliver : All (λ step. is_delivery step ≡ true) made
    pub still : made ≡ [] → after.history.present.messages ≡ s.history.present.messages

  pub receives_sent : (s : State) (m : Message) → HasOnlySent world r s → next_of s ≡ None → IsSentMessage world m → IsTrue (fits (size_of world) m) → IsTrue (is_carried world.limit m)
      → IsReceived s (steps_of (receive_rule world.w m s).0) (receive_rule world.w m s).1
  receives_sent s m fed none sent fit carried = by (refusal_of world.w s m) refl where
    by : (o : Option Refusal) → refusal_of world.w s m ≡ o → IsReceived s (steps_of (receive_by world.w m s o).0) (receive_by world.w m s o).1
    by (Some why) e = subst (λ made. IsReceived s made s) (sym (steps_of_refused why)) (record { fed = fed; none = none; deliver = All-nil (λ step. is_delivery step ≡ true); still = λ _. refl })
    by None e =
        let g = with_early s m in
        let moved = steps_move (length g.early) g (accept_has_only_sent s m fed sent fit carried (unrefused world.w s m e)) in
        subst (λ made. IsReceived s made (steps world.w g).1) (sym (steps_of_accepted (steps world.w g).0)) (record { fed = moved.fed; none = none_is_next_after_steps world.w g; deliver = moved.deliver; still = moved.still })
