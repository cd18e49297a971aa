-- Plain keep worlds: each is the honest world that the notes kept give, after each stop too.
use Rattle.std.proofs.Common.{◌≡◌, ◌≢◌, ℕ, ◌+◌, ◌-◌, ◌<◌, Bool, true, false, nat_le, All, Contains, IsTrue, List, [], ◌∷◌, ◌++◌, length, map, take, drop, set, get_or, refl, sym, ap, subst, ◌∙◌, inl, inr, if◌then◌else◌, Option, Some, None, append_assoc, append-nil, arith, length-append, length-set, get_or-set_same, get_or-set_other}
use Rattle.std.proofs.Math.ListN.{get_or-map}
use Rattle.std.proofs.Math.Seq.{drop-length}
use Rattle.std.proofs.lemmas.Bool.{cases_eq, false≢true}
use Rattle.std.proofs.lemmas.Grind.{flat_map-append}
use Rattle.std.proofs.lemmas.List.{ext_get_or, set-get_or, take-append-drop, drop-append-le, drop_all, flat_map_more}
use Rattle.std.proofs.lemmas.List.Elements.{All-nil, All-cons, All-head, All-tail, All-push, All-append, All-map, All-contains, Contains-append_left, Contains-append_cases}
use Rattle.std.proofs.lemmas.List.FromFn.{length-map-range_with_len, get_or-map-range_with_len}
use Rattle.std.proofs.lemmas.List.Sums.{fold-append}
use Rattle.op_base.specs.Message.{fits}
use Rattle.op_base.specs.declared.message.Message.{Message}
use Rattle.op_base.specs.declared.outcome.Step.{Step}
use Rattle.op_base.specs.declared.outcome.Step.TheVariants as step
use Rattle.causal_model.specs.Counts.{members}
use Rattle.causal_model.specs.History.{epoch_of}
use Rattle.causal_model.specs.Journal.{state_noted, state_after, replay, step_note, local_notes, beat_notes, receive_notes, IsGroup, sent, beaten, received, regrouped_as, AreGroups, notes_of}
use Rattle.causal_model.specs.Laws.States.{IsGroupOrNone}
use Rattle.causal_model.specs.Receiving.{steps, with_early, steps_of, is_accepted, receive_rule}
use Rattle.causal_model.specs.Sending.{local_messages, beat_messages}
use Rattle.causal_model.specs.State.{State, start, with_own}
use Rattle.causal_model.specs.declared.note.Note.{Note}
use Rattle.causal_model.specs.declared.note.Note.TheVariants.{Sent, Kept}
use Rattle.causal_model.specs.declared.outcome.Beat.{Beat}
use Rattle.causal_model.specs.declared.outcome.Beat.TheVariants as beat
use Rattle.causal_model.specs.declared.outcome.Local.{Local}
use Rattle.causal_model.specs.declared.outcome.Local.TheVariants as local
use Rattle.causal_model.specs.declared.outcome.Receive.{Receive}
use Rattle.causal_model.proofs.States.Journals.{groups_grow, receiving_notes_one_group, receiving_replays}
use Rattle.world_model.specs.Honest.{IsSentMessage, IsHonest}
use Rattle.world_model.specs.Journals.{journal_of, world_of_journals, ends_epoch, sent_in, KeepsSent}
use Rattle.world_model.specs.Records.{record_of}
use Rattle.world_model.specs.Stops.{KeptGroups, none_kept, is_send, with_notes, within_bytes, groups_left, PlainKeep, kept_by, keep_noted, keep_give_of}
use Rattle.world_model.specs.World.{PlainWorld, size_of, opening, replica_of, sent_by, epoch_in, with_sent, with_all_sent, local_at, beat_at, sent_message}
use Rattle.world_model.specs.Worlds.{IsWorld, KeepsWorld, IsReplica, own_of}
use Rattle.world_model.proofs.Commands.{sending_keeps_world, beating_keeps_world, offering_keeps_world}
use Rattle.world_model.proofs.Sent.{sent_message_is_sent}
use Rattle.world_model.proofs.Worlds.{opening_is_world, opening_has_size, replica_here, replica_there, state_changes}
use Rattle.honest_worlds.specs.Stops.{notes_kept, AreSynced, IsKeep, KeepsKeep, KeptIsHonest, OpeningIsKept, LocalIsKept, BeatIsKept, GiveIsKept, StopIsKept}
use Rattle.honest_worlds.proofs.ClosedJournals.{sent_in-append, sent_in-steps, sent_is_in, sent_stands, halves, legal_is_replayed, sent_notes_are_own, journals_are_honest}
use Rattle.honest_worlds.proofs.Commands.{sent_message_was_sent}

-- the world that the notes kept give is honest
pub kept_is_honest : KeptIsHonest
kept_is_honest keep is = subst IsHonest (sym is.world) (journals_are_honest (size_of keep.world) keep.world.w keep.world.limit (notes_kept keep) is.some is.few is.wide is.most is.journals)

-- ---- fronts of groups

-- the notes of one group more
notes_of_more : (groups : List (List Note)) (group : List Note) → notes_of (groups ++ group ∷ []) ≡ notes_of groups ++ group
notes_of_more groups group = sym (flat_map_more (λ g. g) [] groups group)

module _ (w limit : ℕ) where
  -- a front of groups are groups, and so are the others from where it leaves
  groups_split : (s : State) (a b : List (List Note)) → AreGroups w limit s (a ++ b) → AreGroups w limit s a × AreGroups w limit (state_after s (notes_of a)) b
  groups_split s [] b are = (tt, are)
  groups_split s (group ∷ a) b are =
      let rest = groups_split (state_after s group) a b are.1 in
      ((are.0, rest.0), subst (λ g. AreGroups w limit g b) (sym (fold-append state_noted s group (notes_of a))) rest.1)

  -- a group that isn't one that sends has sent nothing
  group_sends_none : (s : State) (group : List Note) → IsGroup w limit s group → is_send group ≡ false → sent_in group ≡ []
  group_sends_none s _ (sent update m valid e) quiet = absurd (false≢true (sym quiet))
  group_sends_none s _ (beaten m e) quiet = absurd (false≢true (sym quiet))
  group_sends_none s _ (received m fit carried e) quiet = sent_in-steps (steps w (with_early s m)).0
  group_sends_none s _ (regrouped_as n me few member more stable) quiet = refl

  -- nor have more of them
  groups_send_none : (s : State) (groups : List (List Note)) → AreGroups w limit s groups → All (λ group. is_send group ≡ false) groups → sent_in (notes_of groups) ≡ []
  groups_send_none s [] are unsent = refl
  groups_send_none s (group ∷ later) are unsent =
      sent_in-append group (notes_of later)
      ∙ ap (λ ms. ms ++ sent_in (notes_of later)) (group_sends_none s group are.0 (All-head (λ g. is_send g ≡ false) group later unsent))
      ∙ groups_send_none (state_after s group) later are.1 (All-tail (λ g. is_send g ≡ false) group later unsent)

-- what a number of bytes has room for is a front
within_is_front : (n b : ℕ) (groups : List (List Note)) → (rest : List (List Note)) × (groups ≡ within_bytes n b groups ++ rest)
within_is_front n b [] = ([], refl)
within_is_front n b (group ∷ groups) = by (nat_le (length (record_of n group)) b) (within_is_front n (b - length (record_of n group)) groups) where
  by : (room : Bool) → (rest : List (List Note)) × (groups ≡ within_bytes n (b - length (record_of n group)) groups ++ rest)
      → (rest : List (List Note)) × (group ∷ groups ≡ (if room then group ∷ within_bytes n (b - length (record_of n group)) groups else []) ++ rest)
  by true later = (later.0, ap (λ gs. group ∷ gs) later.1)
  by false later = (group ∷ groups, refl)

-- what a stop leaves is a front, and no group behind it sends
record IsFront (k : KeptGroups) (front : List (List Note)) : Type 0 where
  rest : List (List Note)
  whole : k.groups ≡ front ++ rest
  unsent : All (λ group. is_send group ≡ false) rest

left_is_front : (n b : ℕ) (k : KeptGroups) → AreSynced k → IsFront k (groups_left n b k)
left_is_front n b k are =
    let behind = drop k.synced k.groups in
    let parts = within_is_front n b behind in
    record {
      rest = parts.0;
      whole = sym (take-append-drop k.synced k.groups) ∙ ap (λ gs. take k.synced k.groups ++ gs) parts.1 ∙ sym (append_assoc (take k.synced k.groups) (within_bytes n b behind) parts.0);
      unsent = (halves (λ group. is_send group ≡ false) (within_bytes n b behind) parts.0 (subst (All (λ group. is_send group ≡ false)) parts.1 are.unsent)).1;
    }

-- ---- what is kept of one replica

-- the notes kept of a member's replica
abbrev notes_by : List KeptGroups → ℕ → List Note
notes_by kept q = notes_of (get_or kept q none_kept).groups

-- the journals of what is kept are its notes
journal_is : (kept : List KeptGroups) (q : ℕ) → journal_of (map (λ k. notes_of k.groups) kept) q ≡ notes_by kept q
journal_is kept q = get_or-map (λ k. notes_of k.groups) kept q none_kept

-- what can be kept of member q of n beside what is kept of all, where its replica is in a state
record IsKept (n w limit : ℕ) (kept : List KeptGroups) (q : ℕ) (k : KeptGroups) (s : State) : Type 0 where
  groups : AreGroups w limit (start n q) k.groups
  synced : AreSynced k
  one_epoch : All (λ note. ends_epoch note ≡ false) (notes_of k.groups)
  was_sent : (m : Message) → Contains (notes_of k.groups) (Kept m) → Contains (notes_by kept m.origin) (Sent m)
  replayed : s ≡ replay n q (notes_of k.groups)

-- what is kept of the others may be more that was sent
kept_beside : (n w limit : ℕ) (old new : List KeptGroups) (q : ℕ) (k : KeptGroups) (s : State) → ((x : ℕ) (m : Message) → Contains (notes_by old x) (Sent m) → Contains (notes_by new x) (Sent m))
    → IsKept n w limit old q k s → IsKept n w limit new q k s
kept_beside n w limit old new q k s still told = record {
  groups = told.groups;
  synced = told.synced;
  one_epoch = told.one_epoch;
  was_sent = λ m has. still m.origin m (told.was_sent m has);
  replayed = told.replayed;
}

-- one group more: one that sends has all synced, and another none
one_more_is_synced : (k : KeptGroups) (group : List Note) (sends : Bool) → AreSynced k → is_send group ≡ sends → AreSynced (record { groups = k.groups ++ group ∷ []; synced = if sends then length k.groups + 1 else k.synced })
one_more_is_synced k group true are e =
    let long = length-append k.groups (group ∷ []) in
    record {
      within = omega (arith, long);
      unsent = subst (All (λ g. is_send g ≡ false)) (sym (drop_all (length k.groups + 1) (k.groups ++ group ∷ []) (omega (arith, long)))) (All-nil (λ g. is_send g ≡ false));
    }
one_more_is_synced k group false are e = record {
  within = omega (arith, are.within, length-append k.groups (group ∷ []));
  unsent = subst (All (λ g. is_send g ≡ false)) (sym (drop-append-le k.synced k.groups (group ∷ []) are.within)) (All-push (λ g. is_send g ≡ false) (drop k.synced k.groups) group are.unsent e);
}

-- what a call noted leaves what was sent
noted_has_sent : (k : KeptGroups) (notes : List Note) (m : Message) → Contains (notes_of k.groups) (Sent m) → Contains (notes_of (with_notes k notes).groups) (Sent m)
noted_has_sent k [] m has = has
noted_has_sent k (note ∷ notes) m has = subst (λ ns. Contains ns (Sent m)) (sym (notes_of_more k.groups (note ∷ notes))) (Contains-append_left (notes_of k.groups) (note ∷ notes) (Sent m) has)

-- what a call noted by the rules is kept as well
noted_is_kept : (n w limit r : ℕ) (kept : List KeptGroups) (k : KeptGroups) (s : State) (notes : List Note) → IsKept n w limit kept r k s → IsGroupOrNone w limit s notes
    → All (λ note. ends_epoch note ≡ false) notes → All (KeepsSent (map (λ k. notes_of k.groups) kept)) notes → IsKept n w limit kept r (with_notes k notes) (state_after s notes)
noted_is_kept n w limit r kept k s [] told group one keeps = told
noted_is_kept n w limit r kept k s (note ∷ notes) told (inl none) one keeps = absurd (omega (arith, ap length none))
noted_is_kept n w limit r kept k s (note ∷ notes) told (inr is) one keeps =
    let group = note ∷ notes in
    let whole = notes_of_more k.groups group in
    record {
      groups = groups_grow w limit (start n r) k.groups group told.groups (subst (λ g. IsGroup w limit g group) told.replayed is);
      synced = one_more_is_synced k group (is_send group) told.synced refl;
      one_epoch = subst (All (λ x. ends_epoch x ≡ false)) (sym whole) (All-append (λ x. ends_epoch x ≡ false) (notes_of k.groups) group told.one_epoch one);
      was_sent = λ m has. elim (Contains-append_cases (notes_of k.groups) group (Kept m) (subst (λ ns. Contains ns (Kept m)) whole has)) [
        | inl before ↦ told.was_sent m before
        | inr now ↦ subst (λ ns. Contains ns (Sent m)) (journal_is kept m.origin) (All-contains (KeepsSent (map (λ k. notes_of k.groups) kept)) group (Kept m) keeps now)
      ];
      replayed = ap (λ g. state_after g group) told.replayed ∙ sym (fold-append state_noted (start n r) (notes_of k.groups) group) ∙ ap (replay n r) (sym whole);
    }

-- ---- keep worlds

-- each replica of a keep world is kept
each_is_kept : (keep : PlainKeep) (q : ℕ) → IsKeep keep → q < size_of keep.world → IsKept (size_of keep.world) keep.world.w keep.world.limit keep.kept q (kept_by keep q) (replica_of keep.world q)
each_is_kept keep q is l =
    let n = size_of keep.world in
    let journals = notes_kept keep in
    record {
      groups = is.groups q l;
      synced = is.synced q l;
      one_epoch = subst (All (λ note. ends_epoch note ≡ false)) (journal_is keep.kept q) (is.journals.one_epoch q l);
      was_sent = λ m has. subst (λ ns. Contains ns (Sent m)) (journal_is keep.kept m.origin) (is.journals.kept q m l (subst (λ ns. Contains ns (Kept m)) (sym (journal_is keep.kept q)) has));
      replayed =
          ap (λ world. replica_of world q) is.world
          ∙ get_or-map-range_with_len (λ x. replay n x (journal_of journals x)) 0 n q q (start 0 0) l (omega arith)
          ∙ ap (replay n q) (journal_is keep.kept q);
    }

-- a world whose replicas are the replays of journals is the one that the journals give
world_is_of_journals : (world : PlainWorld) (journals : List (List Note)) → IsWorld world → ((q : ℕ) → q < size_of world → replica_of world q ≡ replay (size_of world) q (journal_of journals q))
    → world ≡ world_of_journals (size_of world) world.w world.limit journals
world_is_of_journals world journals is each =
    let n = size_of world in
    let state : ℕ → State = λ q. replay n q (journal_of journals q) in
    let own : ℕ → List Message = λ q. own_of (replay n q (journal_of journals q)) in
    let states : List State = map state (members n) in
    let owns : List (List Message) = map own (members n) in
    let low : (q : ℕ) → q < length world.sent → q < n = λ q l. omega (arith, l, is.of_each) in
    let replicas : world.replicas ≡ states = ext_get_or (start 0 0) world.replicas states (sym (length-map-range_with_len state 0 n)) (λ q l. each q l ∙ sym (get_or-map-range_with_len state 0 n q q (start 0 0) l (omega arith))) in
    let sents : world.sent ≡ owns = ext_get_or [] world.sent owns (is.of_each ∙ sym (length-map-range_with_len own 0 n)) (λ q l. is.sent q (low q l) ∙ ap own_of (each q (low q l)) ∙ sym (get_or-map-range_with_len own 0 n q q [] (low q l) (omega arith))) in
    ap (λ rs. record { w = world.w; limit = world.limit; replicas = rs; sent = world.sent }) replicas ∙ ap (λ ss. record { w = world.w; limit = world.limit; replicas = states; sent = ss }) sents

-- a world is a keep world where each of its replicas is kept
keep_of_each : (world : PlainWorld) (kept : List KeptGroups) → IsWorld world → length kept ≡ size_of world
    → ((q : ℕ) → q < size_of world → IsKept (size_of world) world.w world.limit kept q (get_or kept q none_kept) (replica_of world q)) → IsKeep (record { world = world; kept = kept })
keep_of_each world kept is of_each each = record {
  some = is.some;
  few = is.few;
  wide = is.wide;
  most = is.most;
  of_each = of_each;
  groups = λ q l. (each q l).groups;
  synced = λ q l. (each q l).synced;
  journals = record {
    legal = λ q l. record { groups = (get_or kept q none_kept).groups; are_groups = (each q l).groups; are_theirs = journal_is kept q };
    one_epoch = λ q l. subst (All (λ note. ends_epoch note ≡ false)) (sym (journal_is kept q)) (each q l).one_epoch;
    kept = λ q m l has. subst (λ ns. Contains ns (Sent m)) (sym (journal_is kept m.origin)) ((each q l).was_sent m (subst (λ ns. Contains ns (Kept m)) (journal_is kept q) has));
  };
  world = world_is_of_journals world (map (λ k. notes_of k.groups) kept) is (λ q l. (each q l).replayed ∙ ap (replay (size_of world) q) (sym (journal_is kept q)));
}

pub opening_is_kept : OpeningIsKept
opening_is_kept n w limit some few wide most =
    let world = opening n w limit in
    let kept = map (λ (me : ℕ). none_kept) (members n) in
    let size = opening_has_size n w limit in
    let none : (q : ℕ) → get_or kept q none_kept ≡ none_kept = λ q. get_or-map (λ me. none_kept) (members n) q 0 in
    let first : (q : ℕ) → q < size_of world → replica_of world q ≡ start n q = λ q l. get_or-map-range_with_len (λ me. start n me) 0 n q q (start 0 0) (omega (arith, l, size)) (omega arith) in
    let empty : (q : ℕ) → IsKept n w limit kept q none_kept (start n q) = λ q. record {
      groups = tt;
      synced = record { within = omega arith; unsent = All-nil (λ group. is_send group ≡ false) };
      one_epoch = All-nil (λ note. ends_epoch note ≡ false);
      was_sent = λ m has. absurd (omega (arith, has.1));
      replayed = refl;
    } in
    let each : (q : ℕ) → q < size_of world → IsKept n w limit kept q (get_or kept q none_kept) (replica_of world q) = λ q l. subst (λ k. IsKept n w limit kept q k (replica_of world q)) (sym (none q)) (subst (IsKept n w limit kept q none_kept) (sym (first q l)) (empty q)) in
    keep_of_each world kept (opening_is_world n w limit some few wide most) (length-map-range_with_len (λ me. none_kept) 0 n ∙ sym size)
    (λ q l. subst (λ u. IsKept u w limit kept q (get_or kept q none_kept) (replica_of world q)) (sym size) (each q l))

-- ---- one replica of a keep world changes

module _ (keep : PlainKeep) (r : ℕ) (is : IsKeep keep) (l : r < size_of keep.world) where
  -- it comes to a state that what is kept of it gives, and what it sent stays
  changed_keep : (k : KeptGroups) (s : State) (sents : List (List Message)) → IsKept (size_of keep.world) keep.world.w keep.world.limit keep.kept r k s
      → ((m : Message) → Contains (notes_by keep.kept r) (Sent m) → Contains (notes_of k.groups) (Sent m))
      → IsWorld (record { w = keep.world.w; limit = keep.world.limit; replicas = set keep.world.replicas r s; sent = sents })
      → KeepsKeep keep (record { world = record { w = keep.world.w; limit = keep.world.limit; replicas = set keep.world.replicas r s; sent = sents }; kept = set keep.kept r k })
  changed_keep k s sents told stays is_world =
      let n = size_of keep.world in
      let w = keep.world.w in
      let limit = keep.world.limit in
      let after : PlainWorld = record { w = w; limit = limit; replicas = set keep.world.replicas r s; sent = sents } in
      let kept = set keep.kept r k in
      let size : size_of after ≡ n = length-set keep.world.replicas r s in
      let here : get_or kept r none_kept ≡ k = get_or-set_same keep.kept r k none_kept (omega (arith, l, is.of_each)) in
      let there : (q : ℕ) → q ≢ r → get_or kept q none_kept ≡ kept_by keep q = λ q ne. get_or-set_other keep.kept r q k none_kept ne in
      let still : (q : ℕ) (m : Message) → Contains (notes_by keep.kept q) (Sent m) → Contains (notes_by kept q) (Sent m) = λ q m has. elim (cases_eq q r) [
        | inl e ↦ subst (λ y. Contains (notes_by kept y) (Sent m)) (sym e) (subst (λ (x : KeptGroups). Contains (notes_of x.groups) (Sent m)) (sym here) (stays m (subst (λ y. Contains (notes_by keep.kept y) (Sent m)) e has)))
        | inr ne ↦ subst (λ (x : KeptGroups). Contains (notes_of x.groups) (Sent m)) (sym (there q ne)) has
      ] in
      let each : (q : ℕ) → q < n → IsKept n w limit kept q (get_or kept q none_kept) (replica_of after q) = λ q low. kept_beside n w limit keep.kept kept q (get_or kept q none_kept) (replica_of after q) still (elim (cases_eq q r) [
        | inl e ↦ subst (λ y. IsKept n w limit keep.kept y (get_or kept y none_kept) (replica_of after y)) (sym e) (subst (λ x. IsKept n w limit keep.kept r x (replica_of after r)) (sym here) (subst (IsKept n w limit keep.kept r k) (sym (replica_here keep.world r l s)) told))
        | inr ne ↦ subst (λ x. IsKept n w limit keep.kept q x (replica_of after q)) (sym (there q ne)) (subst (IsKept n w limit keep.kept q (kept_by keep q)) (sym (replica_there keep.world r l s q ne)) (each_is_kept keep q is low))
      ]) in
      record {
        is_keep = keep_of_each after kept is_world (length-set keep.kept r k ∙ is.of_each ∙ sym size) (λ q low. subst (λ u. IsKept u w limit kept q (get_or kept q none_kept) (replica_of after q)) (sym size) (each q (omega (arith, low, size))));
        size = size;
        w = refl;
        limit = refl;
      }

  -- a call notes something
  noted_keep : (notes : List Note) (s : State) (sents : List (List Message)) → IsGroupOrNone keep.world.w keep.world.limit (replica_of keep.world r) notes
      → All (λ note. ends_epoch note ≡ false) notes → All (KeepsSent (notes_kept keep)) notes → state_after (replica_of keep.world r) notes ≡ s
      → IsWorld (record { w = keep.world.w; limit = keep.world.limit; replicas = set keep.world.replicas r s; sent = sents })
      → KeepsKeep keep (keep_noted r notes (record { w = keep.world.w; limit = keep.world.limit; replicas = set keep.world.replicas r s; sent = sents }) keep)
  noted_keep notes s sents group one keeps after =
      let n = size_of keep.world in
      let k = kept_by keep r in
      let told = noted_is_kept n keep.world.w keep.world.limit r keep.kept k (replica_of keep.world r) notes (each_is_kept keep r is l) group one keeps in
      changed_keep (with_notes k notes) s sents (subst (IsKept n keep.world.w keep.world.limit keep.kept r (with_notes k notes)) after told) (noted_has_sent k notes)

  -- or nothing
  none_noted : KeepsKeep keep (keep_noted r [] keep.world keep)
  none_noted = subst (λ kept. KeepsKeep keep (record { world = keep.world; kept = kept })) (sym (set-get_or keep.kept r none_kept)) (record { is_keep = is; size = refl; w = refl; limit = refl })

  -- a call sends a message
  sent_keep : (m : Message) → IsGroup keep.world.w keep.world.limit (replica_of keep.world r) (Sent m ∷ []) → KeepsWorld keep.world (with_sent keep.world r m) → KeepsKeep keep (keep_noted r (Sent m ∷ []) (with_sent keep.world r m) keep)
  sent_keep m group kept =
      noted_keep (Sent m ∷ []) (with_own (replica_of keep.world r) m) (set keep.world.sent r (sent_by keep.world r ++ m ∷ [])) (inr group)
      (All-cons (λ note. ends_epoch note ≡ false) (Sent m) [] refl (All-nil (λ note. ends_epoch note ≡ false)))
      (All-cons (KeepsSent (notes_kept keep)) (Sent m) [] tt (All-nil (KeepsSent (notes_kept keep)))) refl kept.is_world

pub local_is_kept : LocalIsKept
local_is_kept keep r update is l valid = by (local_at r update keep.world).0 refl (sending_keeps_world keep.world r update (kept_is_honest keep is).is_world l valid) where
  by : (answer : Local) → (local_at r update keep.world).0 ≡ answer → KeepsWorld keep.world (with_all_sent r keep.world (local_messages answer))
      → KeepsKeep keep (keep_noted r (local_notes answer) (with_all_sent r keep.world (local_messages answer)) keep)
  by (local.Sent m) e kept = sent_keep keep r is l m (sent update m valid e) kept
  by local.Busy e kept = none_noted keep r is l
  by local.End e kept = none_noted keep r is l
  by local.NoMemory e kept = none_noted keep r is l

pub beat_is_kept : BeatIsKept
beat_is_kept keep r is l = by (beat_at r keep.world).0 refl (beating_keeps_world keep.world r (kept_is_honest keep is).is_world l) where
  by : (answer : Beat) → (beat_at r keep.world).0 ≡ answer → KeepsWorld keep.world (with_all_sent r keep.world (beat_messages answer))
      → KeepsKeep keep (keep_noted r (beat_notes answer) (with_all_sent r keep.world (beat_messages answer)) keep)
  by (beat.Sent m) e kept = sent_keep keep r is l m (beaten m e) kept
  by beat.Quiet e kept = none_noted keep r is l
  by beat.Held e kept = none_noted keep r is l
  by beat.End e kept = none_noted keep r is l
  by beat.NoMemory e kept = none_noted keep r is l

-- ---- a message is given

-- what a member sent stands in its notes
sent_is_kept : (keep : PlainKeep) (m : Message) → IsKeep keep → m.origin < size_of keep.world → IsSentMessage keep.world m → Contains (journal_of (notes_kept keep) m.origin) (Sent m)
sent_is_kept keep m is l has =
    let q = m.origin in
    let told = each_is_kept keep q is l in
    let notes = notes_by keep.kept q in
    let notes_are_own = sent_notes_are_own (size_of keep.world) keep.world.w keep.world.limit q notes is.few l (record { groups = (kept_by keep q).groups; are_groups = told.groups; are_theirs = refl }) told.one_epoch in
    let own : sent_by keep.world q ≡ sent_in notes = (kept_is_honest keep is).is_world.sent q l ∙ ap own_of told.replayed ∙ notes_are_own in
    subst (λ ns. Contains ns (Sent m)) (sym (journal_is keep.kept q)) (sent_stands notes m (subst (λ ms. Contains ms m) own has))

-- what holds of the message and of steps holds of what receiving notes
received_notes_have : (P : Note → Type 0) (m : Message) (answer : Receive) → P (Kept m) → ((made : Step) → P (step_note made)) → All P (receive_notes m answer)
received_notes_have P m answer kept each = by (is_accepted answer) where
  by : (accepted : Bool) → All P (if accepted then Kept m ∷ map step_note (steps_of answer) else [])
  by true = All-cons P (Kept m) (map step_note (steps_of answer)) kept (All-map P step_note (steps_of answer) (λ i d low. each (get_or (steps_of answer) i d)))
  by false = All-nil P

-- the note of a step ends no epoch, and keeps nothing
step_ends_none : (made : Step) → ends_epoch (step_note made) ≡ false
step_ends_none (step.Took id) = refl
step_ends_none (step.Crook id cause) = refl

step_keeps_sent : (journals : List (List Note)) (made : Step) → KeepsSent journals (step_note made)
step_keeps_sent journals (step.Took id) = tt
step_keeps_sent journals (step.Crook id cause) = tt

pub give_is_kept : GiveIsKept
give_is_kept keep r k seq is l member = by (sent_message keep.world k seq) refl where
  by : (found : Option Message) → sent_message keep.world k seq ≡ found → KeepsKeep keep (keep_give_of r keep found).1
  by None e = record { is_keep = is; size = refl; w = refl; limit = refl }
  by (Some m) e =
      let world = keep.world in
      let honest = kept_is_honest keep is in
      let replica = honest.is_world.replicas r l in
      let s = replica_of world r in
      let got = receive_rule world.w m s in
      let parts = sent_message_is_sent world k seq m honest.is_world member e in
      let fit : IsTrue (fits s.history.present.n m) = subst (λ u. IsTrue (fits u m)) (sym replica.of_store) parts.1 in
      let there = sent_is_kept keep m is (omega (arith, parts.0, member)) (sent_message_was_sent world k seq m honest e) in
      noted_keep keep r is l (receive_notes m got.0) got.1 world.sent
      (receiving_notes_one_group world.w world.limit s m fit parts.2)
      (received_notes_have (λ note. ends_epoch note ≡ false) m got.0 refl step_ends_none)
      (received_notes_have (KeepsSent (notes_kept keep)) m got.0 there (step_keeps_sent (notes_kept keep)))
      (receiving_replays world.w world.limit s m replica.is_state fit parts.2)
      (offering_keeps_world world r m honest.is_world l parts.1 parts.2).is_world

-- ---- a stop

pub stop_is_kept : StopIsKept
stop_is_kept keep r b is l =
    let n = size_of keep.world in
    let w = keep.world.w in
    let limit = keep.world.limit in
    let k = kept_by keep r in
    let left = groups_left n b k in
    let told = each_is_kept keep r is l in
    let world = (kept_is_honest keep is).is_world in
    let front = left_is_front n b k told.synced in
    let groups = groups_split w limit (start n r) left front.rest (subst (AreGroups w limit (start n r)) front.whole told.groups) in
    let whole : notes_of k.groups ≡ notes_of left ++ notes_of front.rest = ap notes_of front.whole ∙ flat_map-append (λ g. g) left front.rest in
    let one = (halves (λ note. ends_epoch note ≡ false) (notes_of left) (notes_of front.rest) (subst (All (λ note. ends_epoch note ≡ false)) whole told.one_epoch)).0 in
    -- no message that was sent is lost
    let none : sent_in (notes_of front.rest) ≡ [] = groups_send_none w limit (state_after (start n r) (notes_of left)) front.rest groups.1 front.unsent in
    let same : sent_in (notes_of k.groups) ≡ sent_in (notes_of left) = ap sent_in whole ∙ sent_in-append (notes_of left) (notes_of front.rest) ∙ ap (λ ms. sent_in (notes_of left) ++ ms) none ∙ append-nil (sent_in (notes_of left)) in
    -- the replica before and after
    let s = replay n r (notes_of left) in
    let before = legal_is_replayed n w limit r (notes_of k.groups) is.few l (record { groups = k.groups; are_groups = told.groups; are_theirs = refl }) told.one_epoch in
    let after = legal_is_replayed n w limit r (notes_of left) is.few l (record { groups = left; are_groups = groups.0; are_theirs = refl }) one in
    let epoch : 0 ≡ epoch_in keep.world = sym before.replica.in_epoch ∙ ap (λ g. epoch_of g.history) (sym told.replayed) ∙ (world.replicas r l).in_epoch in
    let own : own_of s ≡ own_of (replica_of keep.world r) = after.own ∙ sym same ∙ sym before.own ∙ ap own_of (sym told.replayed) in
    changed_keep keep r is l (record { groups = left; synced = length left }) s keep.world.sent
    (record {
      groups = groups.0;
      synced = record { within = omega arith; unsent = subst (All (λ g. is_send g ≡ false)) (sym (drop-length left)) (All-nil (λ g. is_send g ≡ false)) };
      one_epoch = one;
      was_sent = λ m has. told.was_sent m (subst (λ ns. Contains ns (Kept m)) (sym whole) (Contains-append_left (notes_of left) (notes_of front.rest) (Kept m) has));
      replayed = refl;
    })
    (λ m has. sent_stands (notes_of left) m (subst (λ ms. Contains ms m) same (sent_is_in (notes_of k.groups) m has)))
    (state_changes keep.world r s world l (subst (λ x. IsReplica n w limit x r s) epoch after.replica) own).is_world
