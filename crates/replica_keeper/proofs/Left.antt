-- What a stop leaves of records, exactly, and of what was sent.
use Rattle.std.proofs.Common.{◌≡◌, ⊎_elim, ℕ, zero, suc, ◌+◌, ◌-◌, ◌<◌, ◌≤◌, Bool, true, false, nat_le, List, [], ◌∷◌, ◌++◌, length, get_or, take, drop, All, Contains, Option, Some, None, refl, sym, ap, subst, ◌∙◌, arith, zero-add, append-nil, length-append, length-take, take-append-drop, if◌then◌else◌, true≢false}
use Rattle.std.proofs.lemmas.Bool.{le-leb, lt-leb, leb-true, leb-false}
use Rattle.std.proofs.lemmas.Grind.{flat_map-append}
use Rattle.std.proofs.lemmas.List.Elements.{All-nil, All-cons, All-head, All-tail, Contains-append_left, Contains-append_cases}
use Rattle.op_base.specs.declared.message.Message.{Message}
use Rattle.causal_model.specs.Journal.{state_after, notes_of}
use Rattle.causal_model.specs.State.{State, start}
use Rattle.causal_model.specs.declared.note.Note.{Note}
use Rattle.causal_model.specs.declared.note.Note.TheVariants.{Sent, Kept, Took, Crook, Regroup}
use Rattle.world_model.specs.Journals.{sent_in}
use Rattle.honest_worlds.proofs.ClosedJournals.{sent_in-append}
use Rattle.world_model.specs.Records.{content_of, record_of, records_of, Front, torn, misfit, whole, front_of, group_told, Reading, read_told, read_front, reading_within, kept_prefix}
use Rattle.world_model.specs.Stops.{is_send, within_bytes}
use Rattle.replica_keeper.specs.Keeping.{Cut, cut_at, cut_of, groups_of, sent_by, sent_len}
use Rattle.replica_keeper.specs.Laws.{FrontsAreRead, StaysSent, WhatWasSentStays}
use Rattle.replica_keeper.proofs.Fronts.{le_or_lt, Says, says, whole_front, whole_torn, whole_take, whole_more, torn_take}
use Rattle.replica_keeper.proofs.Readings.{enough, told_content, length-record}

-- ---- what lies within bytes

-- a group whose record lies within them, and what lies within the bytes behind it
within_one : (n : ℕ) (group : List Note) (groups front : List (List Note)) (c len : ℕ) → length (record_of n group) ≡ len → len ≤ c → front ≡ within_bytes n (c - len) groups → group ∷ front ≡ within_bytes n c (group ∷ groups)
within_one n group groups front c len size le is =
    let e : nat_le (length (record_of n group)) c ≡ true = le-leb (length (record_of n group)) c (omega (arith, size, le)) in
    rw e (ap (λ gs. group ∷ gs) (is ∙ ap (λ l. within_bytes n (c - l) groups) (sym size)))

-- a group whose record doesn't
within_none : (n : ℕ) (group : List Note) (groups : List (List Note)) (c : ℕ) → c < length (record_of n group) → [] ≡ within_bytes n c (group ∷ groups)
within_none n group groups c less = let e : nat_le (length (record_of n group)) c ≡ false = lt-leb (length (record_of n group)) c less in rw e refl

-- a group before a front of groups, or none
front_when : (group : List Note) (groups front : List (List Note)) (t : Bool) → groups ≡ front ++ drop (length front) groups → group ∷ groups ≡ (if t then group ∷ front else []) ++ drop (length (if t then group ∷ front else [])) (group ∷ groups)
front_when group groups front true is = ap (λ gs. group ∷ gs) is
front_when group groups front false is = refl

-- what lies within bytes is a front of the groups
within_front : (n b : ℕ) (groups : List (List Note)) → groups ≡ within_bytes n b groups ++ drop (length (within_bytes n b groups)) groups
within_front n b [] = refl
within_front n b (group ∷ groups) = front_when group groups (within_bytes n (b - length (record_of n group)) groups) (nat_le (length (record_of n group)) b) (within_front n (b - length (record_of n group)) groups)

-- what lies within the bytes of the first j groups and b more bytes
pub within_synced : (n j b : ℕ) (groups : List (List Note)) → within_bytes n (length (records_of n (take j groups)) + b) groups ≡ take j groups ++ within_bytes n b (drop j groups)
within_synced n zero b groups = ap (λ c. within_bytes n c groups) (zero-add b)
within_synced n (suc j) b [] = refl
within_synced n (suc j) b (group ∷ groups) =
    let first : ℕ = length (record_of n group) in
    let rest : ℕ = length (records_of n (take j groups)) in
    let all : ℕ = length (records_of n (group ∷ take j groups)) + b in
    let size = length-append (record_of n group) (records_of n (take j groups)) in
    let left : rest + b ≡ all - first = omega (arith, size) in
    sym (within_one n group groups (take j groups ++ within_bytes n b (drop j groups)) all first refl (omega (arith, size)) (sym (within_synced n j b groups) ∙ ap (λ c. within_bytes n c groups) left))

-- ---- a front of records

module _ (n w limit : ℕ) where
  -- what later bytes are read as, from each state on
  abbrev Later : Type 0
  Later = State → List ℕ → Reading

  -- each front of what is read later is read as the groups whose records lie within it
  abbrev Exact : Later → Type 0
  Exact later = (k : ℕ) (next : State) (rest : List ℕ) → (later next (take k rest)).groups ≡ within_bytes n k (later next rest).groups

  -- the record of a group that a content tells has that content
  length-told : (s : State) (content : List ℕ) (group : List Note) → group_told n w limit s content ≡ Some group → length (record_of n group) ≡ length content + 4
  length-told s content group e = let c : length (content_of n group) ≡ length content = ap length (told_content n w limit s content group e) in omega (arith, c, length-record n w limit group)

  -- a record that lies within a front
  told_within : (later : Later) (k : ℕ) (s : State) (content rest : List ℕ) → Exact later → length content + 4 ≤ k → (o : Option (List Note)) → group_told n w limit s content ≡ o
      → (read_told s (length content + 4) (λ next. later next (take (k - (length content + 4)) rest)) o).groups ≡ within_bytes n k (read_told s (length content + 4) (λ next. later next rest) o).groups
  told_within later k s content rest ih long None e = refl
  told_within later k s content rest ih long (Some group) e =
      let next = state_after s group in
      within_one n group (later next rest).groups (later next (take (k - (length content + 4)) rest)).groups k (length content + 4) (length-told s content group e) long (ih (k - (length content + 4)) next rest)

  -- a record that is cut
  told_cut : (later : Later) (k : ℕ) (s : State) (content rest : List ℕ) → k < length content + 4 → (o : Option (List Note)) → group_told n w limit s content ≡ o → [] ≡ within_bytes n k (read_told s (length content + 4) (λ next. later next rest) o).groups
  told_cut later k s content rest less None e = refl
  told_cut later k s content rest less (Some group) e = within_none n group (later (state_after s group) rest).groups k (omega (arith, less, length-told s content group e))

  -- where a length that no record has is in front, no record is in front of a front of the bytes
  misfit_within : (later : Later) (k : ℕ) (s : State) (bytes : List ℕ) → front_of bytes ≡ misfit → (f : Front) → Says (take k bytes) f → (read_front n w limit s later f).groups ≡ []
  misfit_within later k s bytes e torn so = refl
  misfit_within later k s bytes e misfit so = refl
  misfit_within later k s bytes e (whole content rest) so =
      let all : front_of (take k bytes ++ drop k bytes) ≡ whole content (rest ++ drop k bytes) = whole_front (take k bytes ++ drop k bytes) content (rest ++ drop k bytes) (whole_more (take k bytes) content rest (drop k bytes) so) in
      let same : front_of (take k bytes ++ drop k bytes) ≡ front_of bytes = ap front_of (take-append-drop k bytes) in
      cc

  -- the same, by what is in front of the bytes
  front_within : (later : Later) (k : ℕ) (s : State) (bytes : List ℕ) → Exact later → (f : Front) → front_of bytes ≡ f → Says bytes f → (read_front n w limit s later (front_of (take k bytes))).groups ≡ within_bytes n k (read_front n w limit s later f).groups
  front_within later k s bytes ih torn e so = ap (λ f. (read_front n w limit s later f).groups) (torn_take bytes k so)
  front_within later k s bytes ih misfit e so = misfit_within later k s bytes e (front_of (take k bytes)) (says (take k bytes))
  front_within later k s bytes ih (whole content rest) e so =
      ⊎_elim
      (λ long. ap (λ f. (read_front n w limit s later f).groups) (whole_front (take k bytes) content (take (k - (length content + 4)) rest) (whole_take bytes content rest k so long)) ∙ told_within later k s content rest ih long (group_told n w limit s content) refl)
      (λ less. ap (λ f. (read_front n w limit s later f).groups) (whole_torn bytes content rest k so less) ∙ told_cut later k s content rest less (group_told n w limit s content) refl)
      (le_or_lt (length content + 4) k)

  -- a front of bytes is read from a state on as the groups whose records lie within it
  reading_front : (most k : ℕ) (s : State) (bytes : List ℕ) → (reading_within most n w limit s (take k bytes)).groups ≡ within_bytes n k (reading_within most n w limit s bytes).groups
  reading_front zero k s bytes = refl
  reading_front (suc most) k s bytes = front_within (λ next rest. reading_within most n w limit next rest) k s bytes (reading_front most) (front_of bytes) refl (says bytes)

-- a front of any bytes is read as the groups whose records lie within it
pub prefix_front : FrontsAreRead
prefix_front of bytes c =
    let same = enough of.n of.w of.limit (length (take c bytes)) (length bytes) (start of.n of.me) (take c bytes) (omega arith) (omega (arith, length-take c bytes)) in
    ap (λ (r : Reading). r.groups) same ∙ reading_front of.n of.w of.limit (length bytes) c (start of.n of.me) bytes

-- ---- what notes sent

-- notes that sent nothing have no message that was sent
lacks_sent : (notes : List Note) (m : Message) → sent_in notes ≡ [] → Contains notes (Sent m) → ⊥
lacks_sent notes m none has = from notes has.0 none has.1 has.2 where
  from : (ns : List Note) (i : ℕ) → sent_in ns ≡ [] → i < length ns → get_or ns i (Sent m) ≡ Sent m → ⊥
  from [] i none l e = absurd (omega (arith, l))
  from (Sent x ∷ ns) i none l e = cc
  from (Kept x ∷ ns) zero none l e = cc
  from (Took id ∷ ns) zero none l e = cc
  from (Crook id ∷ ns) zero none l e = cc
  from (Regroup epoch n me ∷ ns) zero none l e = cc
  from (Kept x ∷ ns) (suc i) none l e = from ns i none (omega (arith, l)) e
  from (Took id ∷ ns) (suc i) none l e = from ns i none (omega (arith, l)) e
  from (Crook id ∷ ns) (suc i) none l e = from ns i none (omega (arith, l)) e
  from (Regroup epoch n me ∷ ns) (suc i) none l e = from ns i none (omega (arith, l)) e

-- ---- which groups send

-- a group sends only with its first note
abbrev Leads : List Note → Type 0
Leads group = is_send group ≡ false → sent_in group ≡ []

-- what stands before the first group sends nothing, and each group only with its first note
abbrev LeadAll : Cut → Type 0
LeadAll cut = (sent_in cut.before ≡ []) × All Leads cut.groups

-- a note more before them
at_leads : (note : Note) (later : Cut) → LeadAll later → LeadAll (cut_at note later)
at_leads (Sent m) later h = (refl, All-cons Leads (Sent m ∷ later.before) later.groups (λ e. absurd (true≢false e)) h.1)
at_leads (Kept m) later h = (refl, All-cons Leads (Kept m ∷ later.before) later.groups (λ e. h.0) h.1)
at_leads (Took id) later h = h
at_leads (Crook id) later h = h
at_leads (Regroup epoch n me) later h = (refl, All-cons Leads (Regroup epoch n me ∷ later.before) later.groups (λ e. h.0) h.1)

-- notes are cut into such groups
cut_leads : (notes : List Note) → LeadAll (cut_of notes)
cut_leads [] = (refl, All-nil Leads)
cut_leads (note ∷ notes) = at_leads note (cut_of notes) (cut_leads notes)

-- where the records up to the last group that sends have no bytes, the first doesn't send, nor does a later one
none_by : (len later : ℕ) (send : Bool) → 1 ≤ len → sent_by len send later ≤ 0 → (send ≡ false) × (later ≤ 0)
none_by len zero true some le = absurd (omega (arith, some, le))
none_by len zero false some le = (refl, omega arith)
none_by len (suc later) send some le = absurd (omega (arith, le))

-- so nothing was sent
none_sent : (n : ℕ) (groups : List (List Note)) → All Leads groups → sent_len n groups ≤ 0 → sent_in (notes_of groups) ≡ []
none_sent n [] leads le = refl
none_sent n (group ∷ groups) leads le =
    let none = none_by (length (record_of n group)) (sent_len n groups) (is_send group) (omega (arith, length-record n 0 0 group)) le in
    sent_in-append group (notes_of groups) ∙ ap (λ ms. ms ++ sent_in (notes_of groups)) (All-head Leads group groups leads none.0) ∙ none_sent n groups (All-tail Leads group groups leads) none.1

-- what is sent behind a group lies within the bytes behind its record
later_within : (len later rest : ℕ) (send : Bool) → sent_by len send later ≤ len + rest → later ≤ rest
later_within len zero rest send le = omega arith
later_within len (suc later) rest send le = omega (arith, le)

-- what is sent before a record's end isn't sent by it, nor behind it
none_before : (len later : ℕ) (send : Bool) → sent_by len send later < len → sent_by len send later ≤ 0
none_before len zero true less = absurd (omega (arith, less))
none_before len zero false less = omega arith
none_before len (suc later) send less = absurd (omega (arith, less))

-- no group sends behind those that lie within bytes, where the last that does lies within them
none_behind : (n c : ℕ) (groups : List (List Note)) → All Leads groups → sent_len n groups ≤ c → sent_in (notes_of (drop (length (within_bytes n c groups)) groups)) ≡ []
none_behind n c [] leads le = refl
none_behind n c (group ∷ groups) leads le = by (nat_le len c) refl (none_behind n (c - len) groups (All-tail Leads group groups leads)) where
  len : ℕ
  len = length (record_of n group)

  by : (t : Bool) → nat_le len c ≡ t → (sent_len n groups ≤ c - len → sent_in (notes_of (drop (length (within_bytes n (c - len) groups)) groups)) ≡ [])
      → sent_in (notes_of (drop (length (if t then group ∷ within_bytes n (c - len) groups else [])) (group ∷ groups))) ≡ []
  by true e later =
      let fits : len ≤ c = leb-true len c e in
      later (later_within len (sent_len n groups) (c - len) (is_send group) (omega (arith, le, fits)))
  by false e later =
      let past : c < len = leb-false len c e in
      none_sent n (group ∷ groups) leads (none_before len (sent_len n groups) (is_send group) (omega (arith, le, past)))

-- ---- a stop keeps what was sent

-- a front is left, and nothing was sent behind it
front_stays : (notes left behind : List Note) → notes ≡ left ++ behind → sent_in behind ≡ [] → StaysSent notes left
front_stays notes left behind is none = record {
  sent = sym (ap sent_in is ∙ sent_in-append left behind ∙ ap (λ ms. sent_in left ++ ms) none ∙ append-nil (sent_in left));
  there = λ m has. ⊎_elim (λ l. l) (λ r. absurd (lacks_sent behind m none r)) (Contains-append_cases left behind (Sent m) (subst (λ ns. Contains ns (Sent m)) is has));
  only = λ note has. subst (λ ns. Contains ns note) (sym is) (Contains-append_left left behind note has);
}

-- what lies within bytes has all that was sent, where the last record that sends does
pub sent_stay : (n c : ℕ) (notes : List Note) → notes_of (groups_of notes) ≡ notes → sent_len n (groups_of notes) ≤ c → StaysSent notes (notes_of (within_bytes n c (groups_of notes)))
sent_stay n c notes cut le =
    let groups : List (List Note) = groups_of notes in
    let left : List (List Note) = within_bytes n c groups in
    let behind : List (List Note) = drop (length left) groups in
    let is : notes ≡ notes_of left ++ notes_of behind = sym cut ∙ ap notes_of (within_front n c groups) ∙ flat_map-append (λ g. g) left behind in
    front_stays notes (notes_of left) (notes_of behind) is (none_behind n c groups (cut_leads notes).1 le)

pub what_was_sent_stays : WhatWasSentStays
what_was_sent_stays of notes held left synced keeps leaves =
    let read : kept_prefix of left ≡ within_bytes of.n leaves.count (groups_of notes) = ap (kept_prefix of) leaves.front ∙ prefix_front of held leaves.count ∙ ap (within_bytes of.n leaves.count) keeps.groups in
    subst (λ groups. StaysSent notes (notes_of groups)) (sym read) (sent_stay of.n leaves.count notes keeps.cut (omega (arith, keeps.sent, leaves.durable)))
