-- How values are listed: of those that are ahead, always the least is taken.
use Rattle.std.proofs.Common.{◌≡◌, ℕ, zero, suc, ◌+◌, ◌-◌, ◌<◌, Bool, true, false, ◌&&◌, ◌||◌, All, List, [], ◌∷◌, ◌++◌, length, take, drop, get_or, refl, sym, ap, subst, ◌∙◌, if◌then◌else◌, inl, inr, arith}
use Rattle.std.specs.List.{list_any}
use Rattle.std.specs.Cmp.Lexicographic.{bytes_decides, texts_ties}
use Rattle.std.specs.Ordering.{is_eq, ordering_reverse}
use Rattle.std.specs.declared.cmp.Ordering.TheVariants.{Less, Equal, Greater}
use Rattle.std.proofs.lemmas.Bool.{and_parts, and_left, both_ways, false_from_ne_true, or_cases, or_right, cond-true, cond-false}
use Rattle.std.proofs.lemmas.Cmp.{tied_itself}
use Rattle.std.proofs.lemmas.List.{drop_more, take_all, length-drop}
use Rattle.std.proofs.lemmas.List.Elements.{All-push, All-contains, All-cons, All-weaker}
use Rattle.std.proofs.lemmas.List.Kept.{AllPairs-cons}
use Rattle.std.proofs.lemmas.List.Quantifiers.{all_pairs_push}
use Rattle.op_base.specs.Name.{same_text}
use Rattle.op_base.specs.Order.{text_cmp}
use Rattle.op_base.specs.declared.name.Kind.{Kind}
use Rattle.op_base.specs.declared.name.Kind.TheVariants.{AwSet, RwSet, EwFlag, DwFlag, MvReg, Counter, RCounter}
use Rattle.op_base.specs.declared.name.Kind.TheVariants as kinds
use Rattle.causal_model.specs.Parts.{is_in}
use Rattle.causal_model.proofs.Theory.Elements.{item_from_list_any}
use Rattle.causal_model.proofs.Theory.Members.{pairs_head, pairs_tail}
use Rattle.part_queries.specs.Finds.{puts_in, takes_out, or_put, or_taken, with_mark, AreRising, AreListed, AreNone, IsBehind}
use Rattle.part_queries.specs.Headed.{founds}
use Rattle.part_queries.specs.declared.found.Found.{Found}
use Rattle.part_queries.specs.declared.heads.Headed.{Headed}
use Rattle.part_queries.specs.declared.marks.Marks.{Marks}
use Rattle.part_queries.proofs.Finds.{list_any_push, or_none, texts_total}

-- ---- what is ahead

-- no value is behind itself
pub not_less_itself : (v : List ℕ) → text_cmp v v ≡ Less → ⊥
not_less_itself v less = apart (sym less ∙ tied_itself texts_total v) where
  apart : Less ≡ Equal → ⊥
  apart e = cc

pub not_behind_itself : (value : List ℕ) (passes : List ℕ → Bool) → IsBehind value passes → passes value ≡ false
not_behind_itself value passes behind = false_from_ne_true (passes value) (λ t. not_less_itself value (behind value t))

-- what is behind a value is another
pub behind_apart : (value v : List ℕ) → text_cmp value v ≡ Less → same_text value v ≡ false
behind_apart value v less = false_from_ne_true (same_text value v) (λ t. not_less_itself value (ap (text_cmp value) ((bytes_decides value v).0 t) ∙ less))

-- what nothing puts in is out
pub is_in_none : (kind : Kind) (taken : Bool) → is_in kind false taken ≡ false
is_in_none AwSet taken = refl
is_in_none RwSet taken = refl
is_in_none EwFlag taken = refl
is_in_none DwFlag taken = refl
is_in_none MvReg taken = refl
is_in_none Counter taken = refl
is_in_none RCounter taken = refl
is_in_none kinds.List taken = refl

pub in_is_put : (kind : Kind) (put taken : Bool) → is_in kind put taken ≡ true → put ≡ true
in_is_put kind true taken t = refl
in_is_put kind false taken t = absurd (both_ways (is_in kind false taken) (is_in_none kind taken) t)

-- ---- the least of what is ahead

module _ (kind : Kind) (put taken put_left taken_left whole : List ℕ → Bool) (values : List (List ℕ)) (x : List ℕ) (so_far : AreListed kind put taken whole values)
    (others : (v : List ℕ) → same_text x v ≡ false → (put_left v ≡ put v) × (taken_left v ≡ taken v)) (behind : IsBehind x put_left) where
  gone : (v : List ℕ) → same_text x v ≡ true → is_in kind (put_left v) (taken_left v) ≡ false
  gone v same = ap (λ b. is_in kind b (taken_left v)) (subst (λ u. put_left u ≡ false) ((bytes_decides x v).0 same) (not_behind_itself x put_left behind)) ∙ is_in_none kind (taken_left v)

  stays : (v : List ℕ) → same_text x v ≡ false → is_in kind (put_left v) (taken_left v) ≡ is_in kind (put v) (taken v)
  stays v apart = λ i. is_in kind ((others v apart).0 i) ((others v apart).1 i)

  left_ahead : (v : List ℕ) → put_left v ≡ true → All (λ value. text_cmp value v ≡ Less) values
  left_ahead v t = so_far.put_ahead v (sym (others v (behind_apart x v (behind v t))).0 ∙ t)

  listed_in : is_in kind (put x) (taken x) ≡ true → AreListed kind put_left taken_left whole (values ++ x ∷ [])
  listed_in here = record {
    rise = all_pairs_push (λ (a b : List ℕ). text_cmp a b ≡ Less) values x so_far.rise (so_far.put_ahead x (in_is_put kind (put x) (taken x) here));
    put_ahead = λ v t. All-push (λ value. text_cmp value v ≡ Less) values x (left_ahead v t) (behind v t);
    exact = λ v. ap (λ b. b || is_in kind (put_left v) (taken_left v)) (list_any_push (λ value. same_text value v) values x) ∙ by v (same_text x v) refl;
  } where
    by : (v : List ℕ) (b : Bool) → same_text x v ≡ b → ((list_any (λ value. same_text value v) values || b) || is_in kind (put_left v) (taken_left v)) ≡ whole v
    by v true same =
        ap (λ b. b || is_in kind (put_left v) (taken_left v)) (or_right (list_any (λ value. same_text value v) values) true refl)
        ∙ sym (or_right (list_any (λ value. same_text value v) values) (is_in kind (put v) (taken v)) (subst (λ u. is_in kind (put u) (taken u) ≡ true) ((bytes_decides x v).0 same) here)) ∙ so_far.exact v
    by v false apart = (λ i. or_none (list_any (λ value. same_text value v) values) i || stays v apart i) ∙ so_far.exact v

  listed_out : is_in kind (put x) (taken x) ≡ false → AreListed kind put_left taken_left whole values
  listed_out here = record {
    rise = so_far.rise;
    put_ahead = left_ahead;
    exact = λ v. ap (λ b. list_any (λ value. same_text value v) values || b) (by v (same_text x v) refl) ∙ so_far.exact v;
  } where
    by : (v : List ℕ) (b : Bool) → same_text x v ≡ b → is_in kind (put_left v) (taken_left v) ≡ is_in kind (put v) (taken v)
    by v true same = gone v same ∙ sym (subst (λ u. is_in kind (put u) (taken u) ≡ false) ((bytes_decides x v).0 same) here)
    by v false apart = stays v apart

  pub listed_more : (new : List (List ℕ)) (marked out : Bool) → marked ≡ put x → out ≡ taken x → new ≡ (if is_in kind marked out then values ++ x ∷ [] else values)
      → AreListed kind put_left taken_left whole new
  listed_more new marked out is is' made = by (is_in kind marked out) refl where
    same : is_in kind marked out ≡ is_in kind (put x) (taken x)
    same = λ i. is_in kind (is i) (is' i)

    by : (b : Bool) → is_in kind marked out ≡ b → AreListed kind put_left taken_left whole new
    by true t = subst (AreListed kind put_left taken_left whole) (sym (made ∙ cond-true (is_in kind marked out) (values ++ x ∷ []) values t)) (listed_in (sym same ∙ t))
    by false t = subst (AreListed kind put_left taken_left whole) (sym (made ∙ cond-false (is_in kind marked out) (values ++ x ∷ []) values t)) (listed_out (sym same ∙ t))

-- ---- the first of finds that rise

-- what finds say of values behind one
finds_behind : (value : List ℕ) (finds : List Found) → All (λ (f : Found). text_cmp value f.value.now ≡ Less) finds → (mark : Found → Bool) → IsBehind value (λ v. list_any (λ (f : Found). same_text f.value.now v && mark f) finds)
finds_behind value finds behind mark v t =
    let one = item_from_list_any (λ (f : Found). same_text f.value.now v && mark f) finds t in
    ap (text_cmp value) (sym ((bytes_decides one.0.value.now v).0 (and_parts (same_text one.0.value.now v) (mark one.0) one.1.1).0)) ∙ All-contains (λ (f : Found). text_cmp value f.value.now ≡ Less) finds one.0 behind one.1.0

either_behind : (value : List ℕ) (p q : List ℕ → Bool) → IsBehind value p → IsBehind value q → IsBehind value (λ v. p v || q v)
either_behind value p q first second v t = elim (or_cases (p v) (q v) t) [ inl t' ↦ first v t' | inr t' ↦ second v t' ]

module _ (kind : Kind) (on off whole : List ℕ → Bool) (found : Found) (rest : List Found) (values : List (List ℕ)) (rising : AreRising (found ∷ rest))
    (on_behind : IsBehind found.value.now on) (off_behind : IsBehind found.value.now off) where
  later : All (λ (f : Found). text_cmp found.value.now f.value.now ≡ Less) rest
  later = pairs_head (λ (a b : Found). text_cmp a.value.now b.value.now ≡ Less) found rest rising

  -- a mark of the first is its own
  own_mark : (passes : List ℕ → Bool) → IsBehind found.value.now passes → (mark : Found → Bool)
      → mark found ≡ (passes found.value.now || list_any (λ (f : Found). same_text f.value.now found.value.now && mark f) (found ∷ rest))
  own_mark passes behind mark =
      sym (or_none (mark found)) ∙ (λ i. (sym ((bytes_decides found.value.now found.value.now).1 refl) i && mark found) || sym (not_behind_itself found.value.now _ (finds_behind found.value.now rest later mark)) i)
      ∙ ap (λ b. b || list_any (λ (f : Found). same_text f.value.now found.value.now && mark f) (found ∷ rest)) (sym (not_behind_itself found.value.now passes behind))

  -- of other values it says nothing
  other : (passes : List ℕ → Bool) (mark : Found → Bool) (v : List ℕ) → same_text found.value.now v ≡ false
      → (passes v || list_any (λ (f : Found). same_text f.value.now v && mark f) rest) ≡ (passes v || list_any (λ (f : Found). same_text f.value.now v && mark f) (found ∷ rest))
  other passes mark v apart = ap (λ b. passes v || (b || list_any (λ (f : Found). same_text f.value.now v && mark f) rest)) (sym (and_left (same_text found.value.now v) (mark found) apart))

  pub listed_first : (new : List (List ℕ)) → AreListed kind (or_put on (found ∷ rest)) (or_taken off (found ∷ rest)) whole values
      → new ≡ (if is_in kind found.marks.put found.marks.taken then values ++ found.value.now ∷ [] else values) → AreListed kind (or_put on rest) (or_taken off rest) whole new
  listed_first new so_far made =
      listed_more kind (or_put on (found ∷ rest)) (or_taken off (found ∷ rest)) (or_put on rest) (or_taken off rest) whole values found.value.now so_far
      (λ v apart. (other on (λ f. f.marks.put) v apart, other off (λ f. f.marks.taken) v apart))
      (either_behind found.value.now on (λ v. list_any (puts_in v) rest) on_behind (finds_behind found.value.now rest later (λ f. f.marks.put)))
      new found.marks.put found.marks.taken (own_mark on on_behind (λ f. f.marks.put)) (own_mark off off_behind (λ f. f.marks.taken)) made

-- ---- a mark beside finds

-- a marked value beside finds is one find more
swap_first : (a b c : Bool) → ((a || b) || c) ≡ (b || (a || c))
swap_first true true c = refl
swap_first true false c = refl
swap_first false b c = refl

pub put_as_find : (found : Found) (on : List ℕ → Bool) (rest : List Found) → or_put (with_mark found.value.now found.marks.put on) rest ≡ or_put on (found ∷ rest)
put_as_find found on rest = λ i v. swap_first (puts_in v found) (on v) (list_any (puts_in v) rest) i

pub taken_as_find : (found : Found) (off : List ℕ → Bool) (rest : List Found) → or_taken (with_mark found.value.now found.marks.taken off) rest ≡ or_taken off (found ∷ rest)
taken_as_find found off rest = λ i v. swap_first (takes_out v found) (off v) (list_any (takes_out v) rest) i

-- a find of the marked value gives it its marks
join_marks : (s m p o r : Bool) → (((s && m) || o) || ((s && p) || r)) ≡ (((s && (m || p)) || o) || r)
join_marks true true p o r = refl
join_marks true false true true r = refl
join_marks true false true false r = refl
join_marks true false false o r = refl
join_marks false m p o r = refl

pub put_joined : (found : Found) (value : List ℕ) → found.value.now ≡ value → (mark : Bool) (on : List ℕ → Bool) (rest : List Found)
    → or_put (with_mark value mark on) (found ∷ rest) ≡ or_put (with_mark value (mark || found.marks.put) on) rest
put_joined found value same mark on rest = λ i v.
    (ap (λ u. with_mark value mark on v || ((same_text u v && found.marks.put) || list_any (puts_in v) rest)) same ∙ join_marks (same_text value v) mark found.marks.put (on v) (list_any (puts_in v) rest)) i

pub taken_joined : (found : Found) (value : List ℕ) → found.value.now ≡ value → (mark : Bool) (off : List ℕ → Bool) (rest : List Found)
    → or_taken (with_mark value mark off) (found ∷ rest) ≡ or_taken (with_mark value (mark || found.marks.taken) off) rest
taken_joined found value same mark off rest = λ i v.
    (ap (λ u. with_mark value mark off v || ((same_text u v && found.marks.taken) || list_any (takes_out v) rest)) same ∙ join_marks (same_text value v) mark found.marks.taken (off v) (list_any (takes_out v) rest)) i

-- a marked value is behind each lesser one
mark_behind : (u value : List ℕ) → text_cmp u value ≡ Less → (mark : Bool) (on : List ℕ → Bool) → IsBehind value on → IsBehind u (with_mark value mark on)
mark_behind u value less mark on behind v t = elim (or_cases (same_text value v && mark) (on v) t) [
  | inl here ↦ ap (text_cmp u) (sym ((bytes_decides value v).0 (and_parts (same_text value v) mark here).0)) ∙ less
  | inr later ↦ texts_total.trans u value v less (behind v later)
]

-- what is ahead: a value with its marks, finds, and what else passes
abbrev pub AreListedBut : Kind → List ℕ → Marks → (List ℕ → Bool) → (List ℕ → Bool) → List Found → (List ℕ → Bool) → List (List ℕ) → Type 0
AreListedBut kind value marks on off finds whole values = AreListed kind (or_put (with_mark value marks.put on) finds) (or_taken (with_mark value marks.taken off) finds) whole values

module _ (kind : Kind) (value : List ℕ) (on off whole : List ℕ → Bool) (on_behind : IsBehind value on) (off_behind : IsBehind value off) where
  -- a find before the value
  pub listed_before : (marks : Marks) (found : Found) (rest : List Found) (values new : List (List ℕ)) → AreRising (found ∷ rest) → text_cmp found.value.now value ≡ Less
      → new ≡ (if is_in kind found.marks.put found.marks.taken then values ++ found.value.now ∷ [] else values)
      → AreListedBut kind value marks on off (found ∷ rest) whole values → AreListedBut kind value marks on off rest whole new
  listed_before marks found rest values new rising less made so_far =
      listed_first kind (with_mark value marks.put on) (with_mark value marks.taken off) whole found rest values rising
      (mark_behind found.value.now value less marks.put on on_behind) (mark_behind found.value.now value less marks.taken off off_behind) new so_far made

  -- a find of the value
  pub listed_same : (marks : Marks) (found : Found) (rest : List Found) (values : List (List ℕ)) → text_cmp found.value.now value ≡ Equal
      → AreListedBut kind value marks on off (found ∷ rest) whole values → AreListedBut kind value (record { put = marks.put || found.marks.put; taken = marks.taken || found.marks.taken }) on off rest whole values
  listed_same marks found rest values tied so_far =
      let same : found.value.now ≡ value = (bytes_decides found.value.now value).0 (texts_ties found.value.now value ∙ ap is_eq tied) in
      subst (λ put. AreListed kind put (or_taken (with_mark value (marks.taken || found.marks.taken) off) rest) whole values) (put_joined found value same marks.put on rest)
      (subst (λ taken. AreListed kind (or_put (with_mark value marks.put on) (found ∷ rest)) taken whole values) (taken_joined found value same marks.taken off rest) so_far)

-- the value itself, before all that is left
pub listed_own : (kind : Kind) (own : Found) (on off whole : List ℕ → Bool) → IsBehind own.value.now on → IsBehind own.value.now off → (left : List Found) (values new : List (List ℕ))
    → AreRising (own ∷ left) → new ≡ (if is_in kind own.marks.put own.marks.taken then values ++ own.value.now ∷ [] else values)
    → AreListedBut kind own.value.now own.marks on off left whole values → AreListed kind (or_put on left) (or_taken off left) whole new
listed_own kind own on off whole on_behind off_behind left values new rising made so_far =
    listed_first kind on off whole own left values rising on_behind off_behind new
    (subst (λ put. AreListed kind put (or_taken off (own ∷ left)) whole values) (put_as_find own on left) (subst (λ taken. AreListed kind (or_put (with_mark own.value.now own.marks.put on) left) taken whole values) (taken_as_find own off left) so_far)) made

-- ---- finds that rise, from a place on

pub finds_from : {X : Type 0} (finds : List X) (i : ℕ) (find : X) → i < length finds → find ≡ get_or finds i find → drop i finds ≡ find ∷ drop (i + 1) finds
finds_from finds i find within is = drop_more finds i find within ∙ ap (λ f. f ∷ drop (i + 1) finds) (sym is)

pub rising_later : (found : Found) (rest finds : List Found) → finds ≡ found ∷ rest → AreRising finds → AreRising rest
rising_later found rest finds e rising = pairs_tail (λ (a b : Found). text_cmp a.value.now b.value.now ≡ Less) found rest (subst AreRising e rising)

-- a find before the first of them, or before none
pub rising_own_before : (own found : Found) (rest : List Found) → text_cmp found.value.now own.value.now ≡ Greater → AreRising (found ∷ rest) → AreRising (own ∷ found ∷ rest)
rising_own_before own found rest greater rising =
    let less : text_cmp own.value.now found.value.now ≡ Less = texts_total.antisymm own.value.now found.value.now ∙ ap ordering_reverse greater in
    AllPairs-cons (λ (a b : Found). text_cmp a.value.now b.value.now ≡ Less) own (found ∷ rest)
    (All-cons (λ (f : Found). text_cmp own.value.now f.value.now ≡ Less) found rest less
    (All-weaker (λ (f : Found). text_cmp found.value.now f.value.now ≡ Less) (λ (f : Found). text_cmp own.value.now f.value.now ≡ Less)
    (λ f later. texts_total.trans own.value.now found.value.now f.value.now less later) rest (pairs_head (λ (a b : Found). text_cmp a.value.now b.value.now ≡ Less) found rest rising)))
    rising

pub rising_alone : (own : Found) → AreRising (own ∷ [])
rising_alone own = AllPairs-cons (λ (a b : Found). text_cmp a.value.now b.value.now ≡ Less) own [] (λ k d l. absurd (omega (arith, l))) (λ i j d lt within. absurd (omega (arith, within)))

-- what a slice from a place on has
pub slice_from : {X : Type 0} (xs : List X) (n : ℕ) → take (length xs - n) (drop n xs) ≡ drop n xs
slice_from xs n = take_all (length xs - n) (drop n xs) (omega (arith, length-drop n xs))

-- all is listed at the end, where nothing is ahead
pub listed_all : (kind : Kind) (put taken whole : List ℕ → Bool) (values : List (List ℕ)) → AreNone put → AreListed kind put taken whole values → (v : List ℕ) → list_any (λ value. same_text value v) values ≡ whole v
listed_all kind put taken whole values none so_far v =
    sym (ap (λ b. list_any (λ value. same_text value v) values || b) (ap (λ b. is_in kind b (taken v)) (none v) ∙ is_in_none kind (taken v)) ∙ or_none (list_any (λ value. same_text value v) values)) ∙ so_far.exact v

pub rising_from : (finds : List Headed) (n : ℕ) → AreRising (founds finds) → AreRising (founds (drop n finds))
rising_from finds zero rising = rising
rising_from [] (suc n) rising = rising
rising_from (f ∷ finds) (suc n) rising = rising_from finds n (rising_later f.found (founds finds) (founds (f ∷ finds)) refl rising)
