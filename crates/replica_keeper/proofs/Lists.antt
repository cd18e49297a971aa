-- What a stop leaves of a call, whatever the rules give for it, and what its journal is then.
use Rattle.std.proofs.Common.{◌≡◌, ◌⊎◌, inl, inr, ℕ, ◌-◌, ◌≤◌, Bool, true, false, nat_le, IsTrue, List, [], ◌∷◌, ◌++◌, map, length, None, Result, Ok, refl, sym, ap, subst, ◌∙◌, arith, length-append, length-take, if◌then◌else◌}
use Rattle.std.proofs.lemmas.Bool.{lt-leb}
use Rattle.std.proofs.lemmas.List.{take-append-le}
use Rattle.op_base.specs.declared.message.Message.{Message}
use Rattle.op_base.specs.declared.operation.Update.{Update}
use Rattle.causal_model.specs.Follows.{Follows}
use Rattle.causal_model.specs.Journal.{replay, step_note, local_notes, beat_notes, receive_notes}
use Rattle.causal_model.specs.Receiving.{steps, with_early, refusal_of, receive_by, receive_rule}
use Rattle.causal_model.specs.Sending.{local_rule, beat_rule, is_sent}
use Rattle.causal_model.specs.State.{State}
use Rattle.causal_model.specs.declared.note.Note.{Note}
use Rattle.causal_model.specs.declared.note.Note.TheVariants.{Sent, Kept}
use Rattle.causal_model.specs.declared.outcome.Local.{Local}
use Rattle.causal_model.specs.declared.outcome.Local.TheVariants as local
use Rattle.causal_model.specs.declared.outcome.Beat.{Beat}
use Rattle.causal_model.proofs.States.Outcomes.{notes_of_accepted}
use Rattle.replica_core.specs.Rules.{StandsFor, local_of}
use Rattle.replica_node.specs.Nodes.{state_by}
use Rattle.replica_node.specs.Rules.{noting}
use Rattle.store_io.specs.Keeping.{Leaves}
use Rattle.world_model.specs.Records.{record_of, records_of, Settings, kept_prefix}
use Rattle.world_model.specs.Stops.{within_bytes}
use Rattle.replica_keeper.specs.Keeping.{groups_of, with_group, IsFrontOf, Keeps}
use Rattle.replica_keeper.specs.Open.{NotedNode, settings_by}
use Rattle.replica_keeper.specs.Calls.{local_list, beat_list, receive_list}
use Rattle.replica_keeper.proofs.Readings.{length-record}
use Rattle.replica_keeper.proofs.Kept.{left_front}

-- ---- a longer list

within_more : (n b : ℕ) (groups : List (List Note)) (group : List Note) → b ≤ length (records_of n groups) → within_bytes n b (groups ++ group ∷ []) ≡ within_bytes n b groups
within_more n b [] group le = let e : nat_le (length (record_of n group)) b ≡ false = lt-leb (length (record_of n group)) b (omega (arith, le, length-record n 0 0 group)) in rw e refl
within_more n b (first ∷ groups) group le = by (nat_le (length (record_of n first)) b) refl (λ less. within_more n (b - length (record_of n first)) groups group less) where
  by : (t : Bool) → nat_le (length (record_of n first)) b ≡ t → (b - length (record_of n first) ≤ length (records_of n groups) → within_bytes n (b - length (record_of n first)) (groups ++ group ∷ []) ≡ within_bytes n (b - length (record_of n first)) groups)
      → (if t then first ∷ within_bytes n (b - length (record_of n first)) (groups ++ group ∷ []) else []) ≡ (if t then first ∷ within_bytes n (b - length (record_of n first)) groups else [])
  by true e later = ap (λ gs. first ∷ gs) (later (omega (arith, le, length-append (record_of n first) (records_of n groups))))
  by false e later = refl

front_more : (of : Settings) (groups : List (List Note)) (group : List Note) (synced : ℕ) (left : List ℕ) → synced ≤ length (records_of of.n groups) → IsFrontOf of groups synced left → IsFrontOf of (groups ++ group ∷ []) synced left
front_more of groups group synced left le is =
    let count = length (kept_prefix of left) in
    let few : count ≤ length groups = omega (arith, ap length is.front, length-take count groups) in
    record {
      front = is.front ∙ sym (take-append-le count groups (group ∷ []) few);
      has = subst (λ gs. length gs ≤ count) (sym (within_more of.n synced groups group le)) is.has;
      faultless = is.faultless;
    }

front_of_list : (of : Settings) (groups : List (List Note)) (noted : List Note) (synced : ℕ) (left : List ℕ) → synced ≤ length (records_of of.n groups) → IsFrontOf of groups synced left → IsFrontOf of (with_group groups noted) synced left
front_of_list of groups [] synced left le is = is
front_of_list of groups (note ∷ notes) synced left le is = front_more of groups (note ∷ notes) synced left le is

-- a stop before a call's record is begun leaves a front of its list
pub left_list : (of : Settings) (notes noted : List Note) (held : List ℕ) (synced : ℕ) (left : List ℕ) → Keeps of notes held synced → Leaves held synced left → IsFrontOf of (with_group (groups_of notes) noted) synced left
left_list of notes noted held synced left k l =
    let size : length held ≡ length (records_of of.n (groups_of notes)) = ap length k.records in
    front_of_list of (groups_of notes) noted synced left (omega (arith, size, k.within)) (left_front of held (groups_of notes) synced left k.faultless k.groups l)

-- ---- what is answered

-- an answer is the rule's, and its notes were put
pub noted : {A : Type 0} (no_memory : A) (takes_memory : A → Bool) (notes_of : A → List Note) (rule : State → A × State) (first : ℕ × ℕ) (before after : List Note) (answer : A) → answer ≡ (rule (state_by first before)).0 → after ≡ before ++ notes_of answer
    → Follows (λ (there ns : List Note). there ≡ ns) no_memory takes_memory (noting first notes_of rule) before answer after
noted no_memory takes_memory notes_of rule first before after answer is put = λ ns same. inl
    (subst (λ ns. (answer ≡ (rule (state_by first ns)).0) × (after ≡ ns ++ notes_of (rule (state_by first ns)).0)) same (is, put ∙ ap (λ a. before ++ notes_of a) is))

module _ (node : NotedNode) (first : node.first ≡ (node.inner.me, node.inner.n)) where
  abbrev notes : List Note
  notes = node.journal.notes

  abbrev groups : List (List Note)
  groups = groups_of node.journal.notes

  same_state : state_by node.first notes ≡ replay node.inner.n node.inner.me notes
  same_state = ap (λ f. state_by f notes) first

  -- ---- updates

  abbrev pub Drafted : Update → Result Message Local → Type 0
  Drafted update result = Follows StandsFor local.NoMemory is_sent (λ s. ((local_rule node.inner.w node.inner.limit update s).0, s)) node.inner (local_of result) node.inner

  pub local_sends : (update : Update) (m : Message) → Drafted update (Ok m) → (local_rule node.inner.w node.inner.limit update (state_by node.first notes)).0 ≡ local.Sent m
  local_sends update m told = by (told (state_by node.first notes) node.stands) where
    by : ((local.Sent m ≡ (local_rule node.inner.w node.inner.limit update (state_by node.first notes)).0) × StandsFor node.inner (state_by node.first notes))
        ⊎ ((local.Sent m ≡ local.NoMemory) × IsTrue (is_sent (local_rule node.inner.w node.inner.limit update (state_by node.first notes)).0) × StandsFor node.inner (state_by node.first notes))
        → (local_rule node.inner.w node.inner.limit update (state_by node.first notes)).0 ≡ local.Sent m
    by (inl is) = sym is.0
    by (inr lacks) = let e = lacks.0 in cc

  abbrev by_local : Update → Local → List (List Note)
  by_local update answer = with_group groups (local_notes answer)

  local_list_by : (update : Update) → local_list (settings_by node) notes update ≡ by_local update (local_rule node.inner.w node.inner.limit update (state_by node.first notes)).0
  local_list_by update = ap (λ s. by_local update (local_rule node.inner.w node.inner.limit update s).0) (sym same_state)

  pub local_list_sent : (update : Update) (m : Message) → Drafted update (Ok m) → local_list (settings_by node) notes update ≡ groups ++ (Sent m ∷ []) ∷ []
  local_list_sent update m told = local_list_by update ∙ ap (by_local update) (local_sends update m told)

  -- ---- no-ops

  pub beat_list_by : (answer : Beat) → ((s : State) → StandsFor node.inner s → answer ≡ (beat_rule node.inner.w node.inner.limit s).0) → beat_list (settings_by node) notes ≡ with_group groups (beat_notes answer)
  beat_list_by answer told = ap (λ s. with_group groups (beat_notes (beat_rule node.inner.w node.inner.limit s).0)) (sym same_state) ∙ ap (λ a. with_group groups (beat_notes a)) (sym (told (state_by node.first notes) node.stands))

  -- ---- messages of others

  pub receive_list_by : (m : Message) → receive_list (settings_by node) notes m ≡ with_group groups (receive_notes m (receive_by node.inner.w m (state_by node.first notes) (refusal_of node.inner.w (state_by node.first notes) m)).0)
  receive_list_by m = ap (λ s. with_group groups (receive_notes m (receive_rule node.inner.w m s).0)) (sym same_state)

  pub receive_list_accepted : (m : Message) → refusal_of node.inner.w (state_by node.first notes) m ≡ None
      → receive_list (settings_by node) notes m ≡ groups ++ (Kept m ∷ map step_note (steps node.inner.w (with_early (state_by node.first notes) m)).0) ∷ []
  receive_list_accepted m unrefused =
      receive_list_by m
      ∙ ap (λ o. with_group groups (receive_notes m (receive_by node.inner.w m (state_by node.first notes) o).0)) unrefused
      ∙ ap (with_group groups) (notes_of_accepted m (steps node.inner.w (with_early (state_by node.first notes) m)).0)
