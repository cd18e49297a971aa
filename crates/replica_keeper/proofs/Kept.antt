-- What is kept, with a group more, and what a stop leaves of it.
use Rattle.std.proofs.Common.{◌≡◌, ℕ, zero, suc, ◌+◌, ◌≤◌, Bool, true, false, List, [], ◌∷◌, ◌++◌, map, length, take, drop, None, refl, sym, ap, subst, ◌∙◌, arith, append-nil, length-append, length-take}
use Rattle.std.proofs.lemmas.List.{take-append-drop}
use Rattle.std.proofs.lemmas.Grind.{flat_map-append}
use Rattle.op_base.specs.declared.message.Message.{Message}
use Rattle.op_base.specs.declared.outcome.Step.{Step}
use Rattle.op_base.specs.declared.outcome.Step.TheVariants as step
use Rattle.causal_model.specs.Journal.{state_after, replay, notes_of, step_note}
use Rattle.causal_model.specs.State.{start}
use Rattle.causal_model.specs.declared.note.Note.{Note}
use Rattle.causal_model.specs.declared.note.Note.TheVariants.{Sent, Kept, Took, Crook, Regroup}
use Rattle.store_io.specs.Keeping.{Leaves}
use Rattle.world_model.specs.Records.{record_of, records_of, Reading, reading_within, Settings, kept_reading, kept_prefix, fault_by}
use Rattle.world_model.specs.Stops.{is_send, within_bytes}
use Rattle.replica_keeper.specs.Keeping.{Cut, cut_at, cut_of, groups_of, sent_by, sent_len, IsFrontOf, Keeps}
use Rattle.replica_keeper.proofs.Readings.{enough, IsFrontReading, front_read, joined, joins, IsTold, one_read, length-record}

-- ---- groups

-- notes are one group
abbrev pub Opens : List Note → Type 0
Opens group = cut_of group ≡ record { before = []; groups = group ∷ [] }

steps_cut : (steps : List Step) → cut_of (map step_note steps) ≡ record { before = map step_note steps; groups = [] }
steps_cut [] = refl
steps_cut (step.Took id ∷ steps) = ap (cut_at (Took id)) (steps_cut steps)
steps_cut (step.Crook id cause ∷ steps) = ap (cut_at (Crook id)) (steps_cut steps)

pub kept_opens : (m : Message) (steps : List Step) → Opens (Kept m ∷ map step_note steps)
kept_opens m steps = ap (cut_at (Kept m)) (steps_cut steps)

cut_behind : (note : Note) (front later : Cut) (groups : List (List Note)) → later ≡ record { before = front.before; groups = front.groups ++ groups } → cut_at note later ≡ record { before = (cut_at note front).before; groups = (cut_at note front).groups ++ groups }
cut_behind (Sent m) front later groups e = ap (cut_at (Sent m)) e
cut_behind (Kept m) front later groups e = ap (cut_at (Kept m)) e
cut_behind (Took id) front later groups e = ap (cut_at (Took id)) e
cut_behind (Crook id) front later groups e = ap (cut_at (Crook id)) e
cut_behind (Regroup epoch n me) front later groups e = ap (cut_at (Regroup epoch n me)) e

cut_append : (notes group : List Note) → Opens group → cut_of (notes ++ group) ≡ record { before = (cut_of notes).before; groups = (cut_of notes).groups ++ group ∷ [] }
cut_append [] group opens = opens
cut_append (note ∷ notes) group opens = cut_behind note (cut_of notes) (cut_of (notes ++ group)) (group ∷ []) (cut_append notes group opens)

pub groups_more : (notes group : List Note) → Opens group → groups_of (notes ++ group) ≡ groups_of notes ++ group ∷ []
groups_more notes group opens = ap (λ (c : Cut). c.groups) (cut_append notes group opens)

pub notes_more : (groups : List (List Note)) (group : List Note) → notes_of (groups ++ group ∷ []) ≡ notes_of groups ++ group
notes_more groups group = flat_map-append (λ g. g) groups (group ∷ []) ∙ ap (λ g. notes_of groups ++ g) (append-nil group)

pub records_more : (n : ℕ) (groups : List (List Note)) (group : List Note) → records_of n (groups ++ group ∷ []) ≡ records_of n groups ++ record_of n group
records_more n groups group = flat_map-append (record_of n) groups (group ∷ []) ∙ ap (λ r. records_of n groups ++ r) (append-nil (record_of n group))

-- ---- what is sent

sent_within : (len later rest : ℕ) (send : Bool) → later ≤ rest → sent_by len send later ≤ len + rest
sent_within len zero rest true le = omega arith
sent_within len zero rest false le = omega arith
sent_within len (suc later) rest send le = omega (arith, le)

pub sent_len-le : (n : ℕ) (groups : List (List Note)) → sent_len n groups ≤ length (records_of n groups)
sent_len-le n [] = omega arith
sent_len-le n (group ∷ groups) =
    let all = length-append (record_of n group) (records_of n groups) in
    let le = sent_within (length (record_of n group)) (sent_len n groups) (length (records_of n groups)) (is_send group) (sent_len-le n groups) in
    omega (arith, all, le)

pub sent_len-more : (n : ℕ) (groups : List (List Note)) (group : List Note) → is_send group ≡ false → sent_len n (groups ++ group ∷ []) ≡ sent_len n groups
sent_len-more n [] group other = ap (λ send. sent_by (length (record_of n group)) send 0) other
sent_len-more n (first ∷ groups) group other = ap (sent_by (length (record_of n first)) (is_send first)) (sent_len-more n groups group other)

-- ---- what is left

reading_is : (reading : Reading) (groups : List (List Note)) (len : ℕ) → reading.groups ≡ groups → reading.len ≡ len → reading.faulty ≡ false → reading ≡ record { groups = groups; len = len; faulty = false }
reading_is reading groups len g l f = ap (λ groups. record { groups = groups; len = reading.len; faulty = reading.faulty }) g ∙ ap (λ len. record { groups = groups; len = len; faulty = reading.faulty }) l ∙ ap (λ faulty. record { groups = groups; len = len; faulty = faulty }) f

-- what bytes are read as, with as many records as more bytes have
kept_within : (of : Settings) (most : ℕ) (bytes : List ℕ) → length bytes ≤ most → reading_within most of.n of.w of.limit (start of.n of.me) bytes ≡ kept_reading of bytes
kept_within of most bytes le = enough of.n of.w of.limit most (length bytes) (start of.n of.me) bytes le (omega arith)

fault_none : (reading : Reading) → reading.faulty ≡ false → fault_by reading ≡ None
fault_none reading f = rw f refl

front_left : (of : Settings) (groups : List (List Note)) (synced count : ℕ) (all front : Reading) → IsFrontReading of.n of.w of.limit all front count → all.groups ≡ groups → synced ≤ count
    → (front.groups ≡ take (length front.groups) groups) × (length (within_bytes of.n synced groups) ≤ length front.groups)
front_left of groups synced count all front so is le = (subst (λ g. front.groups ≡ take (length front.groups) g) is so.groups, subst (λ g. length (within_bytes of.n synced g) ≤ length front.groups) is (so.has synced le))

-- a stop leaves a front of bytes that are read without a fault: they are read as a front of the groups
pub left_front : (of : Settings) (bytes : List ℕ) (groups : List (List Note)) (synced : ℕ) (left : List ℕ) → (kept_reading of bytes).faulty ≡ false → kept_prefix of bytes ≡ groups → Leaves bytes synced left → IsFrontOf of groups synced left
left_front of bytes groups synced left f is l =
    let so = front_read of.n of.w of.limit (length bytes) l.count (start of.n of.me) bytes f in
    let e : reading_within (length bytes) of.n of.w of.limit (start of.n of.me) (take l.count bytes) ≡ kept_reading of left =
    kept_within of (length bytes) (take l.count bytes) (omega (arith, length-take l.count bytes)) ∙ ap (kept_reading of) (sym l.front) in
    let so' = subst (λ front. IsFrontReading of.n of.w of.limit (kept_reading of bytes) front l.count) e so in
    let both = front_left of groups synced l.count (kept_reading of bytes) (kept_reading of left) so' is l.durable in
    record { front = both.0; has = both.1; faultless = fault_none (kept_reading of left) so'.faultless }

-- ---- a group more

-- what bytes are read as, behind whole records of these notes
joined_kept : (of : Settings) (notes : List Note) (held : List ℕ) (synced : ℕ) (more : List ℕ) (most : ℕ) → Keeps of notes held synced → length (held ++ more) ≤ most
    → reading_within most of.n of.w of.limit (start of.n of.me) (held ++ more)
    ≡ joined of.n of.w of.limit (record { groups = groups_of notes; len = length held; faulty = false }) (reading_within most of.n of.w of.limit (replay of.n of.me notes) more)
joined_kept of notes held synced more most k le =
    let s = start of.n of.me in
    let whole_read = reading_within most of.n of.w of.limit s held in
    let same : whole_read ≡ kept_reading of held = kept_within of most held (omega (arith, le, length-append held more)) in
    let is : whole_read ≡ record { groups = groups_of notes; len = length held; faulty = false } = same ∙ reading_is (kept_reading of held) (groups_of notes) (length held) k.groups k.len k.faultless in
    let state : state_after s (notes_of whole_read.groups) ≡ replay of.n of.me notes = ap (λ r. state_after s (notes_of r)) (ap (λ (r : Reading). r.groups) is) ∙ ap (state_after s) k.cut in
    joins of.n of.w of.limit most s held more (ap (λ (r : Reading). r.faulty) is) (ap (λ (r : Reading). r.len) is) le
    ∙ ap (λ r. joined of.n of.w of.limit r (reading_within most of.n of.w of.limit (state_after s (notes_of whole_read.groups)) more)) is
    ∙ ap (λ next. joined of.n of.w of.limit (record { groups = groups_of notes; len = length held; faulty = false }) (reading_within most of.n of.w of.limit next more)) state

-- what a call at these settings noted behind notes
abbrev pub IsNoted : Settings → List Note → List Note → Type 0
IsNoted of notes group = IsTold of.n of.w of.limit (replay of.n of.me notes) group

more_read : (of : Settings) (notes group : List Note) (held : List ℕ) (synced : ℕ) → Keeps of notes held synced → IsNoted of notes group
    → kept_reading of (held ++ record_of of.n group) ≡ record { groups = groups_of notes ++ group ∷ []; len = length (held ++ record_of of.n group); faulty = false }
more_read of notes group held synced k told =
    let bytes = held ++ record_of of.n group in
    let size = length-append held (record_of of.n group) in
    joined_kept of notes held synced (record_of of.n group) (length bytes) k (omega arith)
    ∙ ap (joined of.n of.w of.limit (record { groups = groups_of notes; len = length held; faulty = false })) (one_read of.n of.w of.limit (length bytes) (replay of.n of.me notes) group told (omega (arith, size, length-record of.n of.w of.limit group)))
    ∙ ap (λ len. record { groups = groups_of notes ++ group ∷ []; len = len; faulty = false }) (sym size)

-- a stop while the record of a group comes behind what is held
pub left_more : (of : Settings) (notes group : List Note) (held : List ℕ) (synced : ℕ) (left : List ℕ) → Keeps of notes held synced → IsNoted of notes group → Leaves (held ++ record_of of.n group) synced left
    → IsFrontOf of (groups_of notes ++ group ∷ []) synced left
left_more of notes group held synced left k told l =
    let e = more_read of notes group held synced k told in
    left_front of (held ++ record_of of.n group) (groups_of notes ++ group ∷ []) synced left (ap (λ (r : Reading). r.faulty) e) (ap (λ (r : Reading). r.groups) e) l

-- the group is kept once its record is behind what was held
pub keeps_more : (of : Settings) (notes group : List Note) (held : List ℕ) (synced new : ℕ) → Keeps of notes held synced → IsNoted of notes group → Opens group
    → sent_len of.n (groups_of notes ++ group ∷ []) ≤ new → new ≤ length (held ++ record_of of.n group) → Keeps of (notes ++ group) (held ++ record_of of.n group) new
keeps_more of notes group held synced new k told opens sent within =
    let e = more_read of notes group held synced k told in
    let groups = groups_more notes group opens in
    record {
      cut = ap notes_of groups ∙ notes_more (groups_of notes) group ∙ ap (λ notes. notes ++ group) k.cut;
      records = ap (λ h. h ++ record_of of.n group) k.records ∙ sym (records_more of.n (groups_of notes) group) ∙ ap (records_of of.n) (sym groups);
      groups = ap (λ (r : Reading). r.groups) e ∙ sym groups;
      len = ap (λ (r : Reading). r.len) e;
      faultless = ap (λ (r : Reading). r.faulty) e;
      sent = subst (λ groups. sent_len of.n groups ≤ new) (sym groups) sent;
      within = within;
    }

-- ---- reading on

pub rest_read : (of : Settings) (notes : List Note) (bytes : List ℕ) (at : ℕ) (synced : ℕ) → Keeps of notes (take at bytes) synced
    → kept_reading of bytes ≡ joined of.n of.w of.limit (record { groups = groups_of notes; len = length (take at bytes); faulty = false }) (reading_within (length bytes) of.n of.w of.limit (replay of.n of.me notes) (drop at bytes))
rest_read of notes bytes at synced k =
    let whole_is = take-append-drop at bytes in
    ap (λ b. reading_within (length bytes) of.n of.w of.limit (start of.n of.me) b) (sym whole_is)
    ∙ joined_kept of notes (take at bytes) synced (drop at bytes) (length bytes) k (omega (arith, ap length whole_is))
