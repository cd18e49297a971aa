-- What bytes of records are read as: a front of them, and with a record more.
use Rattle.std.proofs.Common.{◌≡◌, ⊎_elim, ℕ, zero, suc, ◌+◌, ◌-◌, ◌<◌, ◌≤◌, Bool, true, false, nat_le, List, [], ◌∷◌, ◌++◌, length, take, Option, Some, None, refl, sym, ap, subst, ◌∙◌, arith, append-nil, zero-add, add_assoc, length-append, if◌then◌else◌, unwrap_or, true≢false}
use Rattle.std.specs.Int.{w32, to_be_bytes}
use Rattle.std.proofs.lemmas.Grind.{fold-append}
use Rattle.std.proofs.lemmas.List.{nil_from_length}
use Rattle.std.proofs.lemmas.Option.{none-some}
use Rattle.std.proofs.lemmas.Bool.{lt-leb, leb-true}
use Rattle.op_base.specs.Name.{same_text}
use Rattle.std.specs.Cmp.Lexicographic.{same_text as texts_same}
use Rattle.causal_model.specs.Journal.{state_noted, state_after, notes_of}
use Rattle.causal_model.specs.State.{State}
use Rattle.causal_model.specs.declared.note.Note.{Note}
use Rattle.world_model.specs.Records.{content_of, record_with, record_of, Front, torn, misfit, whole, front_of, group_told, notes_told, Reading, read_none, read_group, read_told, read_front, reading_within}
use Rattle.world_model.specs.Stops.{within_bytes}
use Rattle.replica_keeper.proofs.Fronts.{le_or_lt, IsWhole, Says, says, whole_front, whole_torn, whole_take, whole_more, record_whole, torn_take}

length-whole : (bytes content rest : List ℕ) → IsWhole bytes content rest → length bytes ≡ length content + 4 + length rest
length-whole bytes content rest w =
    let e : length bytes ≡ length (w.field ++ (content ++ rest)) = ap length w.is in
    omega (arith, e, w.four, length-append w.field (content ++ rest), length-append content rest)

module _ (n w limit : ℕ) where
  -- nothing is read as nothing
  pub reads_none : (most : ℕ) (s : State) → reading_within most n w limit s [] ≡ read_none
  reads_none zero s = refl
  reads_none (suc most) s = refl

  -- ---- enough records

  told_alike : (s : State) (len : ℕ) (f g : State → Reading) (o : Option (List Note)) → ((next : State) → f next ≡ g next) → read_told s len f o ≡ read_told s len g o
  told_alike s len f g None same = refl
  told_alike s len f g (Some group) same = ap (λ later. read_group group len later) (same (state_after s group))

  -- as many records as there are bytes are enough
  pub enough : (a b : ℕ) (s : State) (bytes : List ℕ) → length bytes ≤ a → length bytes ≤ b → reading_within a n w limit s bytes ≡ reading_within b n w limit s bytes
  enough zero b s [] less more = sym (reads_none b s)
  enough zero b s (x ∷ bytes) less more = absurd (omega (arith, less))
  enough (suc a) zero s [] less more = refl
  enough (suc a) zero s (x ∷ bytes) less more = absurd (omega (arith, more))
  enough (suc a) (suc b) s bytes less more = by (front_of bytes) (says bytes) (enough a b) where
    by : (f : Front) → Says bytes f → ((next : State) (rest : List ℕ) → length rest ≤ a → length rest ≤ b → reading_within a n w limit next rest ≡ reading_within b n w limit next rest)
        → read_front n w limit s (λ next rest. reading_within a n w limit next rest) f ≡ read_front n w limit s (λ next rest. reading_within b n w limit next rest) f
    by torn so later = refl
    by misfit so later = refl
    by (whole content rest) so later =
        let size = length-whole bytes content rest so in
        told_alike s (length content + 4) (λ next. reading_within a n w limit next rest) (λ next. reading_within b n w limit next rest) (group_told n w limit s content)
        (λ next. later next rest (omega (arith, size, less)) (omega (arith, size, more)))

  -- ---- what a group's record is

  told_if : (content : List ℕ) (notes group : List Note) (same : Bool) → same_text (content_of n notes) content ≡ same → (if same then Some notes else None) ≡ Some group → content_of n group ≡ content
  told_if content notes group true is e = ap (λ o. content_of n (unwrap_or o notes)) (sym e) ∙ texts_same (content_of n notes) content (sym is)
  told_if content notes group false is e = absurd (none-some group e)

  pub told_content : (s : State) (content : List ℕ) (group : List Note) → group_told n w limit s content ≡ Some group → content_of n group ≡ content
  told_content s content group e = told_if content (notes_told n w limit s content) group (same_text (content_of n (notes_told n w limit s content)) content) refl e

  length-told : (s : State) (content : List ℕ) (group : List Note) → group_told n w limit s content ≡ Some group → length (record_of n group) ≡ length content + 4
  length-told s content group e = let c : length (content_of n group) ≡ length content = ap length (told_content s content group e) in omega (arith, c, length-append (to_be_bytes w32 (length (content_of n group))) (content_of n group))

  -- ---- a front of bytes

  -- what a front of bytes is read as, beside what all of them are
  pub record IsFrontReading (all front : Reading) (k : ℕ) : Type 0 where
    pub groups : front.groups ≡ take (length front.groups) all.groups
    pub has : (b : ℕ) → b ≤ k → length (within_bytes n b all.groups) ≤ length front.groups
    pub faultless : front.faulty ≡ false

  no_front : (all : Reading) (k : ℕ) → ((b : ℕ) → b ≤ k → within_bytes n b all.groups ≡ []) → IsFrontReading all read_none k
  no_front all k none = record { groups = refl; has = λ b le. omega (arith, ap length (none b le)); faultless = refl }

  too_long : (group : List Note) (groups : List (List Note)) (b : ℕ) → b < length (record_of n group) → within_bytes n b (group ∷ groups) ≡ []
  too_long group groups b less = let e : nat_le (length (record_of n group)) b ≡ false = lt-leb (length (record_of n group)) b less in rw e refl

  has_more : (group : List Note) (groups front : List (List Note)) (b k : ℕ) → ((c : ℕ) → c ≤ k → length (within_bytes n c groups) ≤ length front) → b ≤ length (record_of n group) + k → (t : Bool)
      → nat_le (length (record_of n group)) b ≡ t → length (if t then group ∷ within_bytes n (b - length (record_of n group)) groups else []) ≤ length (group ∷ front)
  has_more group groups front b k has le true e =
      let le' : length (record_of n group) ≤ b = leb-true (length (record_of n group)) b e in
      let rest = has (b - length (record_of n group)) (omega (arith, le, le')) in
      omega (arith, rest)
  has_more group groups front b k has le false e = omega arith

  one_front : (group : List Note) (len k : ℕ) (all front : Reading) → length (record_of n group) ≡ len → len ≤ k → IsFrontReading all front (k - len) → IsFrontReading (read_group group len all) (read_group group len front) k
  one_front group len k all front size le so = record {
    groups = ap (λ groups. group ∷ groups) so.groups;
    has = λ b less. has_more group all.groups front.groups b (k - len) so.has (omega (arith, size, le, less)) (nat_le (length (record_of n group)) b) refl;
    faultless = so.faultless;
  }

  abbrev Later : Type 0
  Later = State → List ℕ → Reading

  abbrev Fronts : Later → Type 0
  Fronts later = (k : ℕ) (next : State) (rest : List ℕ) → (later next rest).faulty ≡ false → IsFrontReading (later next rest) (later next (take k rest)) k

  front_told : (later : Later) (k : ℕ) (s : State) (content rest : List ℕ) → Fronts later → length content + 4 ≤ k → (o : Option (List Note)) → group_told n w limit s content ≡ o
      → (read_told s (length content + 4) (λ next. later next rest) o).faulty ≡ false
      → IsFrontReading (read_told s (length content + 4) (λ next. later next rest) o) (read_told s (length content + 4) (λ next. later next (take (k - (length content + 4)) rest)) o) k
  front_told later k s content rest ih long None e f = absurd (true≢false f)
  front_told later k s content rest ih long (Some group) e f =
      one_front group (length content + 4) k (later (state_after s group) rest) (later (state_after s group) (take (k - (length content + 4)) rest)) (length-told s content group e) long (ih (k - (length content + 4)) (state_after s group) rest f)

  torn_told : (later : Later) (k : ℕ) (s : State) (content rest : List ℕ) → k < length content + 4 → (o : Option (List Note)) → group_told n w limit s content ≡ o
      → (read_told s (length content + 4) (λ next. later next rest) o).faulty ≡ false → IsFrontReading (read_told s (length content + 4) (λ next. later next rest) o) read_none k
  torn_told later k s content rest less None e f = absurd (true≢false f)
  torn_told later k s content rest less (Some group) e f =
      no_front _ k (λ b le. too_long group (later (state_after s group) rest).groups b (omega (arith, le, less, length-told s content group e)))

  front_by_front : (later : Later) (k : ℕ) (s : State) (bytes : List ℕ) → Fronts later → (f : Front) → Says bytes f → (read_front n w limit s later f).faulty ≡ false
      → IsFrontReading (read_front n w limit s later f) (read_front n w limit s later (front_of (take k bytes))) k
  front_by_front later k s bytes ih torn so f = subst (λ front. IsFrontReading read_none (read_front n w limit s later front) k) (sym (torn_take bytes k so)) (no_front read_none k (λ b le. refl))
  front_by_front later k s bytes ih misfit so f = absurd (true≢false f)
  front_by_front later k s bytes ih (whole content rest) so f =
      ⊎_elim
      (λ long. subst (λ front. IsFrontReading (read_front n w limit s later (whole content rest)) (read_front n w limit s later front) k) (sym (whole_front (take k bytes) content (take (k - (length content + 4)) rest) (whole_take bytes content rest k so long))) (front_told later k s content rest ih long (group_told n w limit s content) refl f))
      (λ less. subst (λ front. IsFrontReading (read_front n w limit s later (whole content rest)) (read_front n w limit s later front) k) (sym (whole_torn bytes content rest k so less)) (torn_told later k s content rest less (group_told n w limit s content) refl f))
      (le_or_lt (length content + 4) k)

  pub front_read : (most k : ℕ) (s : State) (bytes : List ℕ) → (reading_within most n w limit s bytes).faulty ≡ false → IsFrontReading (reading_within most n w limit s bytes) (reading_within most n w limit s (take k bytes)) k
  front_read zero k s bytes faultless = no_front read_none k (λ b le. refl)
  front_read (suc most) k s bytes faultless = front_by_front (λ next rest. reading_within most n w limit next rest) k s bytes (front_read most) (front_of bytes) (says bytes) faultless

  -- ---- one after the other

  -- what is read of bytes that were whole records, and of those behind them
  abbrev pub joined : Reading → Reading → Reading
  joined front behind = record { groups = front.groups ++ behind.groups; len = front.len + behind.len; faulty = behind.faulty }

  abbrev Joins : ℕ → Type 0
  Joins most = (s : State) (bytes more : List ℕ) → (reading_within most n w limit s bytes).faulty ≡ false → (reading_within most n w limit s bytes).len ≡ length bytes → length (bytes ++ more) ≤ most
      → reading_within most n w limit s (bytes ++ more) ≡ joined (reading_within most n w limit s bytes) (reading_within most n w limit (state_after s (notes_of (reading_within most n w limit s bytes).groups)) more)

  joined_none : (reading : Reading) → reading ≡ joined read_none reading
  joined_none reading = ap (λ len. record { groups = reading.groups; len = len; faulty = reading.faulty }) (sym (zero-add reading.len))

  joins_told : (most : ℕ) (s : State) (bytes more content rest : List ℕ) → Joins most → IsWhole bytes content rest → (o : Option (List Note)) → group_told n w limit s content ≡ o
      → (read_told s (length content + 4) (λ next. reading_within most n w limit next rest) o).faulty ≡ false → (read_told s (length content + 4) (λ next. reading_within most n w limit next rest) o).len ≡ length bytes
      → length (bytes ++ more) ≤ suc most
      → read_told s (length content + 4) (λ next. reading_within most n w limit next (rest ++ more)) o
      ≡ joined (read_told s (length content + 4) (λ next. reading_within most n w limit next rest) o)
      (reading_within (suc most) n w limit (state_after s (notes_of (read_told s (length content + 4) (λ next. reading_within most n w limit next rest) o).groups)) more)
  joins_told most s bytes more content rest ih is_whole None e f l few = absurd (true≢false f)
  joins_told most s bytes more content rest ih is_whole (Some first) e f l few =
      let later = reading_within most n w limit (state_after s first) rest in
      let last = state_after (state_after s first) (notes_of later.groups) in
      let size = length-whole bytes content rest is_whole in
      let both = length-append bytes more in
      let behind = length-append rest more in
      let same_state : last ≡ state_after s (first ++ notes_of later.groups) = sym (fold-append state_noted s first (notes_of later.groups)) in
      let same_fuel : reading_within most n w limit last more ≡ reading_within (suc most) n w limit last more = enough most (suc most) last more (omega (arith, few, size, both)) (omega (arith, few, both)) in
      let same = same_fuel ∙ ap (λ next. reading_within (suc most) n w limit next more) same_state in
      ap (λ r. read_group first (length content + 4) r) (ih (state_after s first) rest more f (omega (arith, l, size)) (omega (arith, few, size, both, behind)))
      ∙ ap (λ r. read_group first (length content + 4) (joined later r)) same
      ∙ ap (λ len. record { groups = first ∷ (later.groups ++ (reading_within (suc most) n w limit (state_after s (first ++ notes_of later.groups)) more).groups); len = len; faulty = (reading_within (suc most) n w limit (state_after s (first ++ notes_of later.groups)) more).faulty })
      (sym (add_assoc (length content + 4) later.len (reading_within (suc most) n w limit (state_after s (first ++ notes_of later.groups)) more).len))

  joins_by : (most : ℕ) (s : State) (bytes more : List ℕ) → Joins most → (f : Front) → front_of bytes ≡ f → Says bytes f → (read_front n w limit s (λ next rest. reading_within most n w limit next rest) f).faulty ≡ false
      → (read_front n w limit s (λ next rest. reading_within most n w limit next rest) f).len ≡ length bytes → length (bytes ++ more) ≤ suc most
      → reading_within (suc most) n w limit s (bytes ++ more)
      ≡ joined (read_front n w limit s (λ next rest. reading_within most n w limit next rest) f)
      (reading_within (suc most) n w limit (state_after s (notes_of (read_front n w limit s (λ next rest. reading_within most n w limit next rest) f).groups)) more)
  joins_by most s bytes more ih torn e so f l few = ap (λ b. reading_within (suc most) n w limit s (b ++ more)) (nil_from_length bytes (sym l)) ∙ joined_none (reading_within (suc most) n w limit s more)
  joins_by most s bytes more ih misfit e so f l few = absurd (true≢false f)
  joins_by most s bytes more ih (whole content rest) e so f l few =
      ap (λ front. read_front n w limit s (λ next rest. reading_within most n w limit next rest) front) (whole_front (bytes ++ more) content (rest ++ more) (whole_more bytes content rest more so))
      ∙ joins_told most s bytes more content rest ih so (group_told n w limit s content) refl f l few

  pub joins : (most : ℕ) → Joins most
  joins zero s bytes more f l few =
      let none : bytes ≡ [] = nil_from_length bytes (sym l) in
      joined_none read_none
  joins (suc most) s bytes more f l few = joins_by most s bytes more (joins most) (front_of bytes) refl (says bytes) f l few

  -- ---- one record

  -- one call gives a group at a state, and its record can be kept
  pub record IsTold (s : State) (group : List Note) : Type 0 where
    pub told : group_told n w limit s (content_of n group) ≡ Some group
    pub some : 1 ≤ length (content_of n group)
    pub few : length (content_of n group) ≤ 8192

  pub length-record : (group : List Note) → length (record_of n group) ≡ length (content_of n group) + 4
  length-record group = omega (arith, length-append (to_be_bytes w32 (length (content_of n group))) (content_of n group))

  pub one_read : (most : ℕ) (s : State) (group : List Note) → IsTold s group → 1 ≤ most → reading_within most n w limit s (record_of n group) ≡ record { groups = group ∷ []; len = length (record_of n group); faulty = false }
  one_read zero s group told some = absurd (omega (arith, some))
  one_read (suc most) s group told some =
      let front : front_of (record_of n group) ≡ whole (content_of n group) [] =
      ap front_of (sym (append-nil (record_of n group))) ∙ whole_front (record_with (content_of n group) ++ []) (content_of n group) [] (record_whole (content_of n group) [] told.some told.few) in
      ap (λ f. read_front n w limit s (λ next rest. reading_within most n w limit next rest) f) front
      ∙ ap (λ o. read_told s (length (content_of n group) + 4) (λ next. reading_within most n w limit next []) o) told.told
      ∙ ap (λ later. read_group group (length (content_of n group) + 4) later) (reads_none most (state_after s group))
      ∙ ap (λ len. record { groups = group ∷ []; len = len; faulty = false }) (omega (arith, length-record group))
