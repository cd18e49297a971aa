-- Journals of one epoch, whose kept messages stand as sent in the journals of their origins, give an honest world; and none of
-- them has a note of a crooked message.
use Rattle.std.proofs.Common.{◌≡◌, ◌≢◌, ℕ, zero, suc, ◌+◌, ◌<◌, ◌≤◌, All, true, false, not, ◌==◌, Contains, IsTrue, List, [], ◌∷◌, ◌++◌, length, map, get_or, refl, sym, ap, subst, ◌∙◌, inl, inr, Option, Some, None, unwrap_or, append_assoc, append-nil, arith, length-append}
use Rattle.std.specs.Prelude.{slice_get}
use Rattle.std.specs.List.{filter}
use Rattle.std.proofs.lemmas.Bool.{cases_eq, eq-eqb, false≢true}
use Rattle.std.proofs.lemmas.List.Elements.{All-contains, All-nil, All-cons, All-push, All-append, All-head, All-tail, All-filter, All-weaker, Contains-append_left, Contains-append_right, Contains-append_cases, Contains-get_or}
use Rattle.std.proofs.lemmas.List.FromFn.{length-map-range_with_len, get_or-map-range_with_len}
use Rattle.std.proofs.lemmas.List.Sums.{fold-append}
use Rattle.op_base.specs.Message.{fits, id_of, number}
use Rattle.op_base.specs.declared.message.Message.{Message}
use Rattle.op_base.specs.declared.outcome.Crook.{Crook as Cause}
use Rattle.op_base.specs.declared.outcome.Step.{Step}
use Rattle.causal_model.specs.Counts.{is_deliverable, is_carried}
use Rattle.causal_model.specs.History.{epoch_of}
use Rattle.causal_model.specs.Journal.{state_noted, state_after, replay, step_note, IsGroup, sent, beaten, received, regrouped_as, AreGroups, notes_of, IsLegal}
use Rattle.causal_model.specs.State.{with_own, State, start, counted}
use Rattle.causal_model.specs.Receiving.{next_of, is_old, crook_after, messages_with, state_with, steps_within, steps, with_early, refusal_of, steps_of, receive_by, receive_rule}
use Rattle.causal_model.specs.Early.{has_id}
use Rattle.causal_model.specs.Sending.{KeepsRule}
use Rattle.causal_model.specs.States.{IsState}
use Rattle.causal_model.specs.declared.note.Note.{Note}
use Rattle.causal_model.specs.declared.note.Note.TheVariants.{Sent, Kept, Took, Crook, Regroup}
use Rattle.causal_model.proofs.States.Early.{All-put_early, IsNew-from_test, fits_member}
use Rattle.causal_model.proofs.Theory.Finds.{found}
use Rattle.causal_model.proofs.States.Journals.{accepting_replays}
use Rattle.causal_model.proofs.States.Outcomes.{unrefused, steps_of_accepted}
use Rattle.causal_model.proofs.States.States.{start_is_state, step_keeps_state, accept_keeps_state}
use Rattle.causal_model.proofs.States.Steps.{steps_by}
use Rattle.world_model.specs.Honest.{IsSentMessage, IsHonest}
use Rattle.world_model.specs.Journals.{journal_of, world_of_journals, ends_epoch, is_crook, AreJournals, sent_in}
use Rattle.honest_worlds.specs.Laws.{JournalsAreHonest, JournalsHaveNoCrook, SentNotesAreOwn, SentAreNumbered, OthersWereKept, LegalKeepsRule}
use Rattle.world_model.specs.Settling.{is_delivery}
use Rattle.world_model.specs.World.{PlainWorld, size_of, epoch_in, replica_of, sent_by}
use Rattle.world_model.specs.Worlds.{IsReplica, own_of, IsWorld}
use Rattle.world_model.proofs.Received.{receives}
use Rattle.world_model.proofs.Sends.{IsGiven, update_is_given, noop_is_given, sent_is_replica}
use Rattle.world_model.proofs.Messages.{AreNumbered, own_are_numbered}
use Rattle.world_model.proofs.Sent.{messages_fit, is_replicas_chapter}
use Rattle.honest_worlds.proofs.OnlySent.{keeps_rule-push, HasOnlySent, receives_sent}
use Rattle.honest_worlds.proofs.Epochs.{none_is_over, no_past}
use Rattle.causal_model.proofs.Theory.Members.{member_of_filter}
use Rattle.world_model.proofs.Worlds.{own_of_more}
use Rattle.op_base.specs.declared.outcome.Step.TheVariants as step

-- ---- what notes sent

pub sent_in-append : (a b : List Note) → sent_in (a ++ b) ≡ sent_in a ++ sent_in b
sent_in-append [] b = refl
sent_in-append (Sent m ∷ a) b = ap (λ ms. m ∷ ms) (sent_in-append a b)
sent_in-append (Kept m ∷ a) b = sent_in-append a b
sent_in-append (Took id ∷ a) b = sent_in-append a b
sent_in-append (Crook id ∷ a) b = sent_in-append a b
sent_in-append (Regroup epoch n me ∷ a) b = sent_in-append a b

pub sent_in-steps : (made : List Step) → sent_in (map step_note made) ≡ []
sent_in-steps [] = refl
sent_in-steps (step.Took id ∷ made) = sent_in-steps made
sent_in-steps (step.Crook id cause ∷ made) = sent_in-steps made

-- the message of a note that sends is among them, and each of them has such a note
pub sent_is_in : (notes : List Note) (m : Message) → Contains notes (Sent m) → Contains (sent_in notes) m
sent_is_in notes m has = from notes has.0 has.1 has.2 where
  from : (ns : List Note) (i : ℕ) → i < length ns → get_or ns i (Sent m) ≡ Sent m → Contains (sent_in ns) m
  from [] i l e = absurd (omega (arith, l))
  from (Sent x ∷ ns) zero l e = let same : x ≡ m = cc in (zero, omega arith, same)
  from (Kept x ∷ ns) zero l e = cc
  from (Took id ∷ ns) zero l e = cc
  from (Crook id ∷ ns) zero l e = cc
  from (Regroup epoch n me ∷ ns) zero l e = cc
  from (Sent x ∷ ns) (suc i) l e = let rest = from ns i (omega (arith, l)) e in (suc rest.0, omega (arith, rest.1), rest.2)
  from (Kept x ∷ ns) (suc i) l e = from ns i (omega (arith, l)) e
  from (Took id ∷ ns) (suc i) l e = from ns i (omega (arith, l)) e
  from (Crook id ∷ ns) (suc i) l e = from ns i (omega (arith, l)) e
  from (Regroup epoch n me ∷ ns) (suc i) l e = from ns i (omega (arith, l)) e

pub sent_stands : (notes : List Note) (m : Message) → Contains (sent_in notes) m → Contains notes (Sent m)
sent_stands [] m has = absurd (omega (arith, has.1))
sent_stands (Sent x ∷ notes) m has = elim (Contains-append_cases (x ∷ []) (sent_in notes) m has) [
  | inl here ↦ subst (λ y. Contains (Sent x ∷ notes) (Sent y)) (All-contains (λ y. x ≡ y) (x ∷ []) m (All-cons (λ y. x ≡ y) x [] refl (All-nil (λ y. x ≡ y))) here) (zero, omega arith, refl)
  | inr later ↦ Contains-append_right (Sent x ∷ []) notes (Sent m) (sent_stands notes m later)
]
sent_stands (Kept x ∷ notes) m has = Contains-append_right (Kept x ∷ []) notes (Sent m) (sent_stands notes m has)
sent_stands (Took id ∷ notes) m has = Contains-append_right (Took id ∷ []) notes (Sent m) (sent_stands notes m has)
sent_stands (Crook id ∷ notes) m has = Contains-append_right (Crook id ∷ []) notes (Sent m) (sent_stands notes m has)
sent_stands (Regroup epoch n me ∷ notes) m has = Contains-append_right (Regroup epoch n me ∷ []) notes (Sent m) (sent_stands notes m has)

-- ---- what steps deliver was early

module _ (n w limit me : ℕ) (Is Waits : Message → Type 0) (delivers : (m : Message) → Waits m → Is m) where
  record Has (s : State) : Type 0 where
    is_state : IsState w limit s
    of_member : s.history.present.me ≡ me
    rule : KeepsRule n w limit me s.history.present.messages
    messages : All Is s.history.present.messages
    early : All Waits s.early

  step_has : (s : State) (m : Message) → Has s → next_of s ≡ Some m → Has (state_with w s m)
  step_has s m has next =
      let there = found (is_deliverable s.history.present.n (counted s.history)) s.early m next in
      let new = IsNew-from_test s.history.present.me (counted s.history) m (All-contains (λ y. is_old s.history.present.me (counted s.history) y ≡ false) s.early m has.is_state.are_early.new there.0) in
      let ms = s.history.present.messages in
      let more : (o : Option Cause) → KeepsRule n w limit me (messages_with ms m o) × All Is (messages_with ms m o) = λ o. either ms m o has.rule has.messages (λ e. new.other (e ∙ sym has.of_member)) (delivers m (All-contains Waits s.early m has.early there.0)) in
      record {
        is_state = step_keeps_state w limit s m has.is_state next;
        of_member = has.of_member;
        rule = (more (crook_after w s.history m)).0;
        messages = (more (crook_after w s.history m)).1;
        early = All-filter (λ e. not (has_id (id_of m) e)) Waits s.early has.early;
      } where
        either : (ms : List Message) (m : Message) (o : Option Cause) → KeepsRule n w limit me ms → All Is ms → m.origin ≢ me → Is m → KeepsRule n w limit me (messages_with ms m o) × All Is (messages_with ms m o)
        either ms m None rule all ne is = (keeps_rule-push n w limit me ms m rule (λ e. absurd (ne e)), All-push Is ms m all is)
        either ms m (Some cause) rule all ne is = (rule, all)

  steps_have : (most : ℕ) (s : State) → Has s → Has (steps_within w most s).1
  steps_have zero s has = has
  steps_have (suc most) s has = by (steps_have most) (next_of s) refl where
    by : ((g : State) → Has g → Has (steps_within w most g).1) → (o : Option Message) → next_of s ≡ o → Has (steps_by w most s o).1
    by later None none = has
    by later (Some m) next = later (state_with w s m) (step_has s m has next)

-- what holds of a whole holds of both parts
pub halves : {X : Type 0} (P : X → Type 0) (a b : List X) → All P (a ++ b) → All P a × All P b
halves P [] b all = (All-nil P, all)
halves P (x ∷ a) b all =
    let rest = halves P a b (All-tail P x (a ++ b) all) in
    (All-cons P x a (All-head P x (a ++ b) all) rest.0, rest.1)

-- ---- what groups leave

-- a state that notes of one epoch left
pub record IsReplayed (n w limit me : ℕ) (notes : List Note) (s : State) : Type 0 where
  pub replica : IsReplica n w limit 0 me s
  pub rule : KeepsRule n w limit me s.history.present.messages
  pub own : own_of s ≡ sent_in notes
  pub others : All (λ m. m.origin ≢ me → Contains notes (Kept m)) s.history.present.messages
  pub early : All (λ m. Contains notes (Kept m)) s.early

module _ (n w limit me : ℕ) where
  -- an own message
  own_is_replayed : (notes : List Note) (s : State) (m : Message) → IsReplayed n w limit me notes s → IsReplica n w limit 0 me (with_own s m) → IsGiven n w limit me s.history.present.messages m
      → IsReplayed n w limit me (notes ++ Sent m ∷ []) (with_own s m)
  own_is_replayed notes s m told replica given =
      let ms = s.history.present.messages in
      let still : (e : Message) → Contains notes (Kept e) → Contains (notes ++ Sent m ∷ []) (Kept e) = λ e has. Contains-append_left notes (Sent m ∷ []) (Kept e) has in
      record {
        replica = replica;
        rule = keeps_rule-push n w limit me ms m told.rule (λ _. given.by_rule);
        own = own_of_more s m (given.own ∙ sym told.replica.of_member) ∙ ap (λ xs. xs ++ m ∷ []) told.own ∙ sym (sent_in-append notes (Sent m ∷ []));
        others = All-push (λ e. e.origin ≢ me → Contains (notes ++ Sent m ∷ []) (Kept e)) ms m (All-weaker (λ e. e.origin ≢ me → Contains notes (Kept e)) (λ e. e.origin ≢ me → Contains (notes ++ Sent m ∷ []) (Kept e)) (λ e had ne. still e (had ne)) ms told.others) (λ ne. absurd (ne given.own));
        early = All-weaker (λ e. Contains notes (Kept e)) (λ e. Contains (notes ++ Sent m ∷ []) (Kept e)) still s.early told.early;
      }

  -- a message that isn't refused, and the steps that it makes
  received_is_replayed : (notes : List Note) (s : State) (m : Message) → IsReplayed n w limit me notes s → IsTrue (fits n m) → IsTrue (is_carried limit m) → refusal_of w s m ≡ None
      → IsReplayed n w limit me (notes ++ Kept m ∷ map step_note (steps w (with_early s m)).0) (steps w (with_early s m)).1
  received_is_replayed notes s m told fit carried e =
      let g = with_early s m in
      let made = (steps w g).0 in
      let more = notes ++ Kept m ∷ map step_note made in
      let parts = unrefused w s m e in
      let later = receives n w limit me s told.replica m fit carried in
      let left : (receive_rule w m s).1 ≡ (steps w g).1 = ap (λ o. (receive_by w m s o).1) e in
      let still : (x : Message) → Contains notes (Kept x) → Contains more (Kept x) = λ x has. Contains-append_left notes (Kept m ∷ map step_note made) (Kept x) has in
      let here : Contains more (Kept m) = Contains-append_right notes (Kept m ∷ map step_note made) (Kept m) (zero, omega arith, refl) in
      let has = steps_have n w limit me (λ x. x.origin ≢ me → Contains more (Kept x)) (λ x. Contains more (Kept x)) (λ x kept _. kept) (length g.early) g (record {
        is_state = accept_keeps_state w limit s m told.replica.is_state (subst (λ k. IsTrue (fits k m)) (sym told.replica.of_store) fit) carried parts.new parts.apart parts.near;
        of_member = told.replica.of_member;
        rule = told.rule;
        messages = All-weaker (λ x. x.origin ≢ me → Contains notes (Kept x)) (λ x. x.origin ≢ me → Contains more (Kept x)) (λ x had ne. still x (had ne)) s.history.present.messages told.others;
        early = All-put_early (λ x. Contains more (Kept x)) m s.early here (All-weaker (λ x. Contains notes (Kept x)) (λ x. Contains more (Kept x)) still s.early told.early);
      }) in
      record {
        replica = subst (IsReplica n w limit 0 me) left later.is_replica;
        rule = has.rule;
        own = ap own_of (sym left) ∙ later.own ∙ told.own ∙ sym (append-nil (sent_in notes)) ∙ ap (λ ms. sent_in notes ++ ms) (sym (sent_in-steps made)) ∙ sym (sent_in-append notes (Kept m ∷ map step_note made));
        others = has.messages;
        early = has.early;
      }

  group_is_replayed : (notes : List Note) (s : State) (group : List Note) → IsReplayed n w limit me notes s → All (λ note. ends_epoch note ≡ false) group → IsGroup w limit s group → IsReplayed n w limit me (notes ++ group) (state_after s group)
  group_is_replayed notes s _ told one (sent update m valid e) =
      own_is_replayed notes s m told (sent_is_replica n w limit me s m told.replica (sent update m valid e)) (update_is_given n w limit me s m told.replica update e)
  group_is_replayed notes s _ told one (beaten m e) =
      own_is_replayed notes s m told (sent_is_replica n w limit me s m told.replica (beaten m e)) (noop_is_given n w limit me s m told.replica e)
  group_is_replayed notes s _ told one (received m fit carried e) =
      let replica = told.replica in
      subst (IsReplayed n w limit me (notes ++ Kept m ∷ map step_note (steps w (with_early s m)).0)) (sym (accepting_replays w limit s m replica.is_state fit carried e))
      (received_is_replayed notes s m told (subst (λ k. IsTrue (fits k m)) replica.of_store fit) carried e)
  group_is_replayed notes s _ told one (regrouped_as m member few low more stable) = absurd (false≢true (sym (All-head (λ note. ends_epoch note ≡ false) _ [] one)))

  -- what each group does, from the state that it meets; P is of groups there
  groups_are_replayed : (notes : List Note) (s : State) (groups : List (List Note)) → IsReplayed n w limit me notes s → All (λ note. ends_epoch note ≡ false) (notes_of groups) → AreGroups w limit s groups
      → IsReplayed n w limit me (notes ++ notes_of groups) (state_after s (notes_of groups))
  groups_are_replayed notes s [] told one are = subst (λ ns. IsReplayed n w limit me ns s) (sym (append-nil notes)) told
  groups_are_replayed notes s (group ∷ later) told one are =
      let parts = halves (λ note. ends_epoch note ≡ false) group (notes_of later) one in
      let next = group_is_replayed notes s group told parts.0 are.0 in
      let rest = groups_are_replayed (notes ++ group) (state_after s group) later next parts.1 are.1 in
      subst (λ ns. IsReplayed n w limit me ns (state_after s (group ++ notes_of later))) (append_assoc notes group (notes_of later)) (subst (IsReplayed n w limit me ((notes ++ group) ++ notes_of later)) (sym (fold-append state_noted s group (notes_of later))) rest)

  start_is_replayed : n ≤ 16 → me < n → IsReplayed n w limit me [] (start n me)
  start_is_replayed few member = record {
    replica = record { is_state = start_is_state n w limit me few member; of_store = refl; of_member = refl; in_epoch = refl; none_is_next = refl };
    rule = λ before later m e _. absurd (omega (arith, ap length e, length-append before (m ∷ later)));
    own = refl;
    others = All-nil (λ m. m.origin ≢ me → Contains [] (Kept m));
    early = All-nil (λ m. Contains [] (Kept m));
  }

  pub legal_is_replayed : (notes : List Note) → n ≤ 16 → me < n → IsLegal n w limit me notes → All (λ note. ends_epoch note ≡ false) notes → IsReplayed n w limit me notes (replay n me notes)
  legal_is_replayed notes few member legal one =
      subst (λ ns. IsReplayed n w limit me ns (replay n me ns)) (sym legal.are_theirs) (groups_are_replayed [] (start n me) legal.groups (start_is_replayed few member) (subst (All (λ note. ends_epoch note ≡ false)) legal.are_theirs one) legal.are_groups)

pub sent_notes_are_own : SentNotesAreOwn
sent_notes_are_own n w limit me notes few member legal one = (legal_is_replayed n w limit me notes few member legal one).own

-- a message at a place of numbered ones has the number of the place
numbered_at : (first i : ℕ) (ms : List Message) (m : Message) → AreNumbered first ms → slice_get ms i ≡ Some m → number m ≡ first + i
numbered_at first i [] m are is = cc
numbered_at first zero (x ∷ ms) m are is = let same : x ≡ m = ap (λ o. unwrap_or o x) is in omega (arith, ap number (sym same) ∙ are.0)
numbered_at first (suc i) (x ∷ ms) m are is = let later = numbered_at (first + 1) i ms m are.1 is in omega (arith, later)

pub sent_are_numbered : SentAreNumbered
sent_are_numbered n w limit me notes i m few member legal one is =
    let told = legal_is_replayed n w limit me notes few member legal one in
    let s = replay n me notes in
    let numbered = own_are_numbered n w me me s.history.present.messages (is_replicas_chapter n w limit me s told.replica) in
    let own : filter (λ m. m.origin == me) s.history.present.messages ≡ sent_in notes = ap (λ k. filter (λ m. m.origin == k) s.history.present.messages) (sym told.replica.of_member) ∙ told.own in
    omega (arith, numbered_at 1 i (sent_in notes) m (subst (AreNumbered 1) own numbered) is)

pub others_were_kept : OthersWereKept
others_were_kept n w limit me notes few member legal one = let told = legal_is_replayed n w limit me notes few member legal one in (told.others, told.early)

pub legal_keeps_rule : LegalKeepsRule
legal_keeps_rule n w limit me notes few member legal one = (legal_is_replayed n w limit me notes few member legal one).rule

-- ---- the world of journals
module _ (n w limit : ℕ) (journals : List (List Note)) (some : 1 ≤ n) (few : n ≤ 16) (wide : 1 ≤ w) (most : limit ≤ 1000000) (are : AreJournals n w limit journals) where
  abbrev world : PlainWorld
  world = world_of_journals n w limit journals

  abbrev state : ℕ → State
  state r = replay n r (journal_of journals r)

  size : size_of world ≡ n
  size = length-map-range_with_len (λ r. replay n r (journal_of journals r)) 0 n

  replica : (r : ℕ) → r < n → replica_of world r ≡ state r
  replica r l = get_or-map-range_with_len (λ r. replay n r (journal_of journals r)) 0 n r r (start 0 0) l (omega arith)

  sent_here : (r : ℕ) → r < n → sent_by world r ≡ own_of (state r)
  sent_here r l = get_or-map-range_with_len (λ r. own_of (replay n r (journal_of journals r))) 0 n r r [] l (omega arith)

  told : (r : ℕ) → r < n → IsReplayed n w limit r (journal_of journals r) (state r)
  told r l = legal_is_replayed n w limit r (journal_of journals r) few l (are.legal r l) (are.one_epoch r l)

  -- what a journal sent was sent, and what one kept too
  sent_was_sent : (r : ℕ) (m : Message) → r < n → m.origin ≡ r → Contains (sent_in (journal_of journals r)) m → IsSentMessage world m
  sent_was_sent r m l own has = subst (λ k. Contains (sent_by world k) m) (sym own) (subst (λ ms. Contains ms m) (sym (sent_here r l ∙ (told r l).own)) has)

  kept_was_sent : (r : ℕ) (m : Message) → r < n → m.origin < n → Contains (journal_of journals r) (Kept m) → IsSentMessage world m
  kept_was_sent r m l k has = sent_was_sent m.origin m k refl (sent_is_in (journal_of journals m.origin) m (are.kept r m l has))

  -- the state that a front of a journal left has sent messages alone
  front_was_sent : (r : ℕ) (front rest : List Note) (s : State) → r < n → journal_of journals r ≡ front ++ rest → IsReplayed n w limit r front s → All (IsSentMessage world) s.history.present.messages × All (IsSentMessage world) s.early
  front_was_sent r front rest s l whole is =
      let inside : (note : Note) → Contains front note → Contains (journal_of journals r) note = λ note has. subst (λ ns. Contains ns note) (sym whole) (Contains-append_left front rest note has) in
      let fit = messages_fit n w limit r s is.replica in
      let early_fit = is.replica.is_state.are_early.fit in (
        λ i d low.
            let m = get_or s.history.present.messages i d in
            elim (cases_eq m.origin r) [
              | inl own ↦
                  let there : Contains (own_of s) m = member_of_filter (λ e. e.origin == s.history.present.me) s.history.present.messages m (Contains-get_or s.history.present.messages i d low) (eq-eqb m.origin s.history.present.me (own ∙ sym is.replica.of_member)) in
                  let in_front : Contains (sent_in front) m = subst (λ ms. Contains ms m) is.own there in
                  sent_was_sent r m l own (subst (λ ms. Contains ms m) (sym (ap sent_in whole ∙ sent_in-append front rest)) (Contains-append_left (sent_in front) (sent_in rest) m in_front))
              | inr ne ↦ kept_was_sent r m l (fits_member n m (fit i d low)) (inside (Kept m) (is.others i d low ne))
            ],
        λ i d low.
            let m = get_or s.early i d in
            kept_was_sent r m l (fits_member n m (subst (λ k. IsTrue (fits k m)) is.replica.of_store (early_fit i d low))) (inside (Kept m) (is.early i d low)),
      )

  first : epoch_in world ≡ 0
  first = ap (λ s. epoch_of s.history) (replica 0 some) ∙ (told 0 some).replica.in_epoch

  world_is : IsWorld world
  world_is = record {
    some = omega (arith, some, size);
    few = omega (arith, few, size);
    wide = wide;
    most = most;
    of_each = length-map-range_with_len (λ r. own_of (replay n r (journal_of journals r))) 0 n ∙ sym size;
    replicas = λ r l. let k : r < n = omega (arith, l, size) in subst (λ u. IsReplica u w limit (epoch_in world) r (replica_of world r)) (sym size) (subst (λ epoch. IsReplica n w limit epoch r (replica_of world r)) (sym first) (subst (IsReplica n w limit 0 r) (sym (replica r k)) (told r k).replica));
    sent = λ r l. let k : r < n = omega (arith, l, size) in sent_here r k ∙ sym (ap own_of (replica r k));
  }

  pub world_is_honest : IsHonest world
  world_is_honest = record {
    is_world = world_is;
    by_rule = λ r l. let k : r < n = omega (arith, l, size) in subst (λ u. KeepsRule u w limit r (replica_of world r).history.present.messages) (sym size) (subst (λ s. KeepsRule n w limit r s.history.present.messages) (sym (replica r k)) (told r k).rule);
    delivered = λ r l. let k : r < n = omega (arith, l, size) in subst (λ s. All (IsSentMessage world) s.history.present.messages) (sym (replica r k)) (front_was_sent r (journal_of journals r) [] (state r) k (sym (append-nil (journal_of journals r))) (told r k)).0;
    early = λ r l. let k : r < n = omega (arith, l, size) in subst (λ s. All (IsSentMessage world) s.early) (sym (replica r k)) (front_was_sent r (journal_of journals r) [] (state r) k (sym (append-nil (journal_of journals r))) (told r k)).1;
    one_past = no_past world world_is first;
  }

  -- ---- no note of a crooked message

  steps_are_straight : (made : List Step) → All (λ step. is_delivery step ≡ true) made → All (λ note. is_crook note ≡ false) (map step_note made)
  steps_are_straight [] all = All-nil (λ note. is_crook note ≡ false)
  steps_are_straight (step.Took id ∷ made) all = All-cons (λ note. is_crook note ≡ false) (Took id) (map step_note made) refl (steps_are_straight made (All-tail (λ step. is_delivery step ≡ true) (step.Took id) made all))
  steps_are_straight (step.Crook id cause ∷ made) all = absurd (false≢true (All-head (λ step. is_delivery step ≡ true) (step.Crook id cause) made all))

  group_is_straight : (r : ℕ) (front rest : List Note) (s : State) (group : List Note) → r < n → journal_of journals r ≡ front ++ (group ++ rest) → IsReplayed n w limit r front s → IsGroup w limit s group → All (λ note. is_crook note ≡ false) group
  group_is_straight r front rest s _ l whole is (sent update m valid e) = All-cons (λ note. is_crook note ≡ false) (Sent m) [] refl (All-nil (λ note. is_crook note ≡ false))
  group_is_straight r front rest s _ l whole is (beaten m e) = All-cons (λ note. is_crook note ≡ false) (Sent m) [] refl (All-nil (λ note. is_crook note ≡ false))
  group_is_straight r front rest s _ l whole is (regrouped_as m member a b c stable) = All-cons (λ note. is_crook note ≡ false) _ [] refl (All-nil (λ note. is_crook note ≡ false))
  group_is_straight r front rest s _ l whole is (received m fit carried e) =
      let made = (steps w (with_early s m)).0 in
      let here : r < size_of world = omega (arith, l, size) in
      let sents = front_was_sent r front (Kept m ∷ map step_note made ++ rest) s l whole is in
      let fit_n : IsTrue (fits n m) = subst (λ k. IsTrue (fits k m)) is.replica.of_store fit in
      let there : Contains (journal_of journals r) (Kept m) = subst (λ ns. Contains ns (Kept m)) (sym whole) (Contains-append_right front (Kept m ∷ map step_note made ++ rest) (Kept m) (zero, omega arith, refl)) in
      let was_sent = kept_was_sent r m l (fits_member n m fit_n) there in
      let fed : HasOnlySent world r s = record {
        is_state = is.replica.is_state;
        of_store = is.replica.of_store ∙ sym size;
        of_member = is.replica.of_member;
        past = none_is_over s.history is.replica.in_epoch ∙ sym (none_is_over (replica_of world r).history ((world_is.replicas r here).in_epoch ∙ first));
        rule = subst (λ u. KeepsRule u w limit r s.history.present.messages) (sym size) is.rule;
        delivered = sents.0;
        early = sents.1;
      } in
      let got = receives_sent world world_is_honest r here s m fed is.replica.none_is_next was_sent (subst (λ u. IsTrue (fits u m)) (sym size) fit_n) carried in
      All-cons (λ note. is_crook note ≡ false) (Kept m) (map step_note made) refl (steps_are_straight made (subst (All (λ step. is_delivery step ≡ true)) (ap (λ o. steps_of (receive_by w m s o).0) e ∙ steps_of_accepted made) got.deliver))

  groups_are_straight : (r : ℕ) (front : List Note) (s : State) (groups : List (List Note)) → r < n → journal_of journals r ≡ front ++ notes_of groups → IsReplayed n w limit r front s → All (λ note. ends_epoch note ≡ false) (notes_of groups) → AreGroups w limit s groups
      → All (λ note. is_crook note ≡ false) (notes_of groups)
  groups_are_straight r front s [] l whole is one groups = All-nil (λ note. is_crook note ≡ false)
  groups_are_straight r front s (group ∷ later) l whole is one groups =
      let parts = halves (λ note. ends_epoch note ≡ false) group (notes_of later) one in
      All-append (λ note. is_crook note ≡ false) group (notes_of later) (group_is_straight r front (notes_of later) s group l whole is groups.0)
      (groups_are_straight r (front ++ group) (state_after s group) later l (whole ∙ sym (append_assoc front group (notes_of later))) (group_is_replayed n w limit r front s group is parts.0 groups.0) parts.1 groups.1)

  pub none_is_crook : (r : ℕ) → r < n → All (λ note. is_crook note ≡ false) (journal_of journals r)
  none_is_crook r l =
      let legal = are.legal r l in
      subst (All (λ note. is_crook note ≡ false)) (sym legal.are_theirs)
      (groups_are_straight r [] (start n r) legal.groups l legal.are_theirs (start_is_replayed n w limit r few l) (subst (All (λ note. ends_epoch note ≡ false)) legal.are_theirs (are.one_epoch r l)) legal.are_groups)

pub journals_are_honest : JournalsAreHonest
journals_are_honest n w limit journals some few wide most are = world_is_honest n w limit journals some few wide most are

pub journals_have_no_crook : JournalsHaveNoCrook
journals_have_no_crook n w limit r journals some few wide most are l = none_is_crook n w limit journals some few wide most are r l
