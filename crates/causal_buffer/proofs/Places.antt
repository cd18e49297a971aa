-- The places of a member's queue: what is found by a number stands at its place, and what edits of places make of the messages.
use Rattle.std.proofs.Common.{◌≡◌, ◌≢◌, ℕ, zero, suc, ◌+◌, ◌-◌, ◌<◌, ◌≤◌, Bool, true, false, not, cond, ◌&&◌, ◌==◌, nat_lt, All, List, [], ◌∷◌, ◌++◌, length, get_or, set, take, drop, replicate, min, refl, sym, ap, subst, ◌∙◌, inl, inr, Option, Some, None, arith}
use Rattle.std.specs.List.{find, filter}
use Rattle.std.specs.Option.{is_some, option_to_list}
use Rattle.std.proofs.lemmas.Bool.{and_from, and_right, or_right, or_from, cond-true, cond-false, cases_eq, cases_lt, eq-eqb, ne_eqb, lt-ltb, le-ltb, not_from_true, false≢true}
use Rattle.std.proofs.lemmas.List.{get_or_default, get_or_past, get_or_append_left, get_or-append_right, get_or-replicate, get_or-take, get_or-drop, get_or-set_same, get_or-set_other, set_past, length-append, length-replicate, length-take, take_all}
use Rattle.std.proofs.lemmas.List.Concat.{flat_map-append}
use Rattle.std.proofs.lemmas.List.Elements.{All-nil, All-cons}
use Rattle.std.proofs.Math.Nat.{min-le_left}
use Rattle.op_base.specs.Message.{number, id_of}
use Rattle.op_base.specs.declared.message.Message.{Message}
use Rattle.op_base.specs.declared.tag.MessageId.{MessageId}
use Rattle.causal_model.specs.Early.{stands_before, put_early, has_id, without}
use Rattle.causal_model.proofs.Theory.Finds.{none_found}
use Rattle.causal_buffer.specs.Queue.{standing, ArePlaces}
use Rattle.causal_buffer.proofs.Parts.{all_stay, All-flat, All-part, IsPartFor, put_flat, FailElsewhere, find_flat, without_flat, none_flat}

-- ---- an id, and the order of one member's messages

pub has : (id : MessageId) (m : Message) → m.origin ≡ id.origin → number m ≡ id.seq → has_id id m ≡ true
has id m o s = and_from (id.origin == m.origin) (id.seq == number m) (eq-eqb id.origin m.origin (sym o)) (eq-eqb id.seq (number m) (sym s))

pub has_not : (id : MessageId) (m : Message) → number m ≢ id.seq → has_id id m ≡ false
has_not id m ne = and_right (id.origin == m.origin) (id.seq == number m) (ne_eqb id.seq (number m) (λ e. ne (sym e)))

stands_by_number : (a b : Message) → a.origin ≡ b.origin → number a < number b → stands_before a b ≡ true
stands_by_number a b e l = or_right (nat_lt a.origin b.origin) ((a.origin == b.origin) && nat_lt (number a) (number b)) (and_from (a.origin == b.origin) (nat_lt (number a) (number b)) (eq-eqb a.origin b.origin e) (lt-ltb (number a) (number b) l))

stands_after : (a b : Message) → a.origin ≡ b.origin → number b ≤ number a → stands_before a b ≡ false
stands_after a b e le = or_from (nat_lt a.origin b.origin) ((a.origin == b.origin) && nat_lt (number a) (number b)) (le-ltb a.origin b.origin (omega (arith, e))) (and_right (a.origin == b.origin) (nat_lt (number a) (number b)) (le-ltb (number a) (number b) le))

pub length-put_early : (m : Message) (q : List Message) → length (put_early m q) ≡ length q + 1
length-put_early m [] = omega arith
length-put_early m (e ∷ q) =
    let rest = length-put_early m q in
    elim (stands_before m e) as (λ b. length (cond b (m ∷ e ∷ q) (e ∷ put_early m q)) ≡ length (e ∷ q) + 1) [ true ↦ omega arith | false ↦ omega (arith, rest) ]

-- ---- what a look at a place tells

pub below_from : (a b : ℕ) → ¬ (b ≤ a) → a < b
below_from a b not_above = elim (cases_lt a b) [ inl l ↦ l | inr high ↦ absurd (not_above high) ]

-- ---- one place

pub all_at : (P : Message → Type 0) (o : Option Message) → ((m : Message) → o ≡ Some m → P m) → All P (option_to_list o)
all_at P None each = All-nil P
all_at P (Some m) each = All-cons P m [] (each m refl) (All-nil P)

found_one : (p : Message → Bool) (o : Option Message) → ((m : Message) → o ≡ Some m → p m ≡ true) → find p (option_to_list o) ≡ o
found_one p None passes = refl
found_one p (Some m) passes = cond-true (p m) (Some m) None (passes m refl)

none_left : (p : Message → Bool) (o : Option Message) → ((m : Message) → o ≡ Some m → p m ≡ true) → [] ≡ filter (λ m. not (p m)) (option_to_list o)
none_left p None passes = refl
none_left p (Some m) passes = sym (cond-false (not (p m)) (m ∷ []) [] (not_from_true (p m) (passes m refl)))

-- ---- all places

-- what holds of the messages holds of each that stands at a place
pub at_each : (P : Message → Type 0) (ps : List (Option Message)) (k : ℕ) (m : Message) → All P (standing ps) → get_or ps k None ≡ Some m → P m
at_each P ps k m each e = elim (cases_lt k (length ps)) [
  | inl l ↦ let here : All P (m ∷ []) = subst (λ o. All P (option_to_list o)) e (All-part option_to_list P ps k None l each) in here 0 m (omega arith)
  | inr past ↦ let none = get_or_past ps k None past in absurd (cc)
]

-- there are at most as many messages as places
pub standing_few : (ps : List (Option Message)) → length (standing ps) ≤ length ps
standing_few [] = omega arith
standing_few (None ∷ ps) = omega (arith, standing_few ps)
standing_few (Some m ∷ ps) = omega (arith, standing_few ps)

-- and one fewer where one is taken out
pub length-taken : (ps : List (Option Message)) (k : ℕ) (m : Message) → get_or ps k None ≡ Some m → length (standing (set ps k None)) + 1 ≡ length (standing ps)
length-taken [] k m e = cc
length-taken (None ∷ ps) zero m e = cc
length-taken (Some x ∷ ps) zero m e = omega arith
length-taken (None ∷ ps) (suc k) m e = length-taken ps k m e
length-taken (Some x ∷ ps) (suc k) m e = omega (arith, length-taken ps k m e)

-- where all places are empty, there is no message
none_stand : (ps : List (Option Message)) → ((k : ℕ) (m : Message) → get_or ps k None ≡ Some m → ⊥) → standing ps ≡ []
none_stand [] none = refl
none_stand (None ∷ ps) none = none_stand ps (λ k m e. none (suc k) m e)
none_stand (Some m ∷ ps) none = absurd (none 0 m refl)

-- empty places at the back or in front can go
pub standing-take : (n : ℕ) (ps : List (Option Message)) → ((k : ℕ) (m : Message) → n ≤ k → get_or ps k None ≡ Some m → ⊥) → standing (take n ps) ≡ standing ps
standing-take zero ps none = sym (none_stand ps (λ k m e. none k m (omega arith) e))
standing-take (suc n) [] none = refl
standing-take (suc n) (p ∷ ps) none = ap (λ l. option_to_list p ++ l) (standing-take n ps (λ k m le e. none (suc k) m (omega (arith, le)) e))

pub standing-drop : (n : ℕ) (ps : List (Option Message)) → ((k : ℕ) (m : Message) → k < n → get_or ps k None ≡ Some m → ⊥) → standing (drop n ps) ≡ standing ps
standing-drop zero ps none = refl
standing-drop (suc n) [] none = refl
standing-drop (suc n) (None ∷ ps) none = standing-drop n ps (λ k m l e. none (suc k) m (omega (arith, l)) e)
standing-drop (suc n) (Some m ∷ ps) none = absurd (none 0 m (omega arith) refl)

-- so many empty places
abbrev pub nones : ℕ → List (Option Message)
nones n = replicate n None

pub length-nones : (n : ℕ) → length (nones n) ≡ n
length-nones n = length-replicate n None

get_or-nones : (n k : ℕ) → get_or (nones n) k None ≡ None
get_or-nones n k = elim (cases_lt k n) [ inl l ↦ get_or-replicate n k None None l | inr past ↦ get_or_past (nones n) k None (omega (arith, past, length-nones n)) ]

-- empty places more
pub at_longer : (n : ℕ) (ps : List (Option Message)) (k : ℕ) → get_or (ps ++ nones n) k None ≡ get_or ps k None
at_longer n ps k = elim (cases_lt k (length ps)) [
  | inl l ↦ get_or_append_left ps (nones n) None k l
  | inr past ↦ get_or-append_right ps (nones n) (length ps) k None refl past ∙ get_or-nones n (k - length ps) ∙ sym (get_or_past ps k None past)
]

nones_stand : (n : ℕ) → standing (nones n) ≡ []
nones_stand n = none_stand (nones n) (λ k m e. let none = get_or-nones n k in cc)

pub standing-longer : (n : ℕ) (ps : List (Option Message)) → standing (ps ++ nones n) ≡ standing ps
standing-longer n [] = nones_stand n
standing-longer n (p ∷ ps) = ap (λ l. option_to_list p ++ l) (standing-longer n ps)

-- where none come before, all stay that there is room for
pub none_before : (count room : ℕ) (ps : List (Option Message)) → count ≡ 0 → length ps ≤ room → ps ≡ nones (min count room) ++ take (room - count) ps
none_before count room ps e few =
    let none : min count room ≡ 0 = omega (arith, e, min-le_left count room) in
    sym (take_all (room - count) ps (omega (arith, e, few))) ∙ ap (λ n. nones n ++ take (room - count) ps) (sym none)

-- ---- places from a number on

module _ (member first : ℕ) (ps : List (Option Message)) (are : ArePlaces member first ps) where
  -- a test that only messages of one number pass, where that has a place
  module _ (p : Message → Bool) (seq : ℕ) (off : (m : Message) → number m ≢ seq → p m ≡ false) where
    fail_elsewhere : (k : ℕ) → seq ≡ first + k → FailElsewhere option_to_list p k ps
    fail_elsewhere k e y d l ne = all_at (λ m. p m ≡ false) (get_or ps y d) (λ m is. off m (λ same. ne (omega (arith, same, e, are.numbered y m (get_or_default ps y None d l ∙ is)))))

    pub find_place : (k : ℕ) → seq ≡ first + k → find p (standing ps) ≡ find p (option_to_list (get_or ps k None))
    find_place k e = elim (cases_lt k (length ps)) [
      | inl l ↦ find_flat option_to_list p ps k None l (fail_elsewhere k e)
      | inr past ↦
          none_flat option_to_list p ps (λ y d l. none_found p (option_to_list (get_or ps y d)) (fail_elsewhere k e y d l (λ same. omega (arith, same, past, l))))
          ∙ sym (ap (λ o. find p (option_to_list o)) (get_or_past ps k None past))
    ]

    -- and where it is below all places
    pub none_below : seq < first → All (λ m. p m ≡ false) (standing ps)
    none_below low = All-flat option_to_list (λ m. p m ≡ false) ps (λ y d l.
        all_at (λ m. p m ≡ false) (get_or ps y d) (λ m is. off m (λ same. omega (arith, same, low, are.numbered y m (get_or_default ps y None d l ∙ is)))))

  -- what stands at the place of an id
  module _ (id : MessageId) (of : id.origin ≡ member) where
    has_id_at : (k : ℕ) → id.seq ≡ first + k → (m : Message) → get_or ps k None ≡ Some m → has_id id m ≡ true
    has_id_at k e m is = has id m (are.own k m is ∙ sym of) (are.numbered k m is ∙ sym e)

    pub found_at : (k : ℕ) → id.seq ≡ first + k → find (has_id id) (standing ps) ≡ get_or ps k None
    found_at k e = find_place (has_id id) id.seq (has_not id) k e ∙ found_one (has_id id) (get_or ps k None) (has_id_at k e)

    -- and it is the only one of its number
    pub only_of_number : (m : Message) → find (has_id id) (standing ps) ≡ Some m → All (λ y. number y ≡ id.seq → y ≡ m) (standing ps)
    only_of_number m is = All-flat option_to_list (λ y. number y ≡ id.seq → y ≡ m) ps (λ k d l. all_at (λ y. number y ≡ id.seq → y ≡ m) (get_or ps k d) (λ y at e.
        let here = get_or_default ps k None d l ∙ at in
        let same : Some y ≡ Some m = sym here ∙ sym (found_at k (sym e ∙ are.numbered k y here)) ∙ is in
        cc))

    pub none_has_id : id.seq < first → All (λ m. has_id id m ≡ false) (standing ps)
    none_has_id low = none_below (has_id id) id.seq (has_not id) low

    -- where it is found, its place is there
    module _ (some : is_some (find (has_id id) (standing ps)) ≡ true) where
      pub place_is_above : first ≤ id.seq
      place_is_above = elim (cases_lt id.seq first) [ inl low ↦ absurd (false≢true (sym (ap is_some (none_found (has_id id) (standing ps) (none_has_id low))) ∙ some)) | inr high ↦ high ]

      pub found_at_place : find (has_id id) (standing ps) ≡ get_or ps (id.seq - first) None
      found_at_place = found_at (id.seq - first) (omega (arith, place_is_above))

      pub place_is_there : id.seq - first < length ps
      place_is_there = elim (cases_lt (id.seq - first) (length ps)) [ inl l ↦ l | inr past ↦ absurd (false≢true (sym (ap is_some (found_at_place ∙ get_or_past ps (id.seq - first) None past)) ∙ some)) ]

    pub without_at : (k : ℕ) → id.seq ≡ first + k → standing (set ps k None) ≡ without id (standing ps)
    without_at k e = elim (cases_lt k (length ps)) [
      | inl l ↦ without_flat option_to_list (has_id id) ps k None None l (fail_elsewhere (has_id id) id.seq (has_not id) k e) (none_left (has_id id) (get_or ps k None) (has_id_at k e))
      | inr past ↦ ap standing (set_past ps k None past) ∙ sym (all_stay (has_id id) (standing ps) (All-flat option_to_list (λ m. has_id id m ≡ false) ps (λ y d l.
          fail_elsewhere (has_id id) id.seq (has_not id) k e y d l (λ same. omega (arith, same, past, l)))))
    ]

    -- of the messages only the one of an id passes a test that no other passes
    pub find_of_id : (p : Message → Bool) → ((m : Message) → number m ≢ id.seq → p m ≡ false) → find p (standing ps) ≡ find p (option_to_list (find (has_id id) (standing ps)))
    find_of_id p off = elim (cases_lt id.seq first) [
      | inl low ↦ none_found p (standing ps) (none_below p id.seq off low) ∙ sym (ap (λ o. find p (option_to_list o)) (none_found (has_id id) (standing ps) (none_has_id low)))
      | inr high ↦
          let e : id.seq ≡ first + (id.seq - first) = omega arith in
          find_place p id.seq off (id.seq - first) e ∙ sym (ap (λ o. find p (option_to_list o)) (found_at (id.seq - first) e))
    ]

  -- a place that gets what belongs there
  pub places_set : (k : ℕ) (o : Option Message) → ((m : Message) → o ≡ Some m → (m.origin ≡ member) × (number m ≡ first + k)) → ArePlaces member first (set ps k o)
  places_set k o belongs = record { own = λ y m e. (at y m e).0; numbered = λ y m e. (at y m e).1 } where
    at : (y : ℕ) (m : Message) → get_or (set ps k o) y None ≡ Some m → (m.origin ≡ member) × (number m ≡ first + y)
    at y m e = elim (cases_eq y k) [
      | inr ne ↦ let is = sym (get_or-set_other ps k y o None ne) ∙ e in (are.own y m is, are.numbered y m is)
      | inl same ↦ elim (cases_lt k (length ps)) [
        | inl l ↦
            let is = belongs m (sym (get_or-set_same ps k o None l) ∙ ap (λ j. get_or (set ps k o) j None) (sym same) ∙ e) in
            (is.0, omega (arith, same, is.1))
        | inr past ↦ let is = ap (λ l. get_or l y None) (sym (set_past ps k o past)) ∙ e in (are.own y m is, are.numbered y m is)
      ]
    ]

  pub put_at : (k : ℕ) (m : Message) → m.origin ≡ member → number m ≡ first + k → k < length ps → get_or ps k None ≡ None → standing (set ps k (Some m)) ≡ put_early m (standing ps)
  put_at k m own numbered l none = put_flat option_to_list m ps k (Some m) None l part (ap (λ o. put_early m (option_to_list o)) (sym none)) where
    part : IsPartFor option_to_list m k ps
    part = record {
      lower = λ y d below. all_at (λ e. stands_before m e ≡ false) (get_or ps y d) (λ e is.
          let at = get_or_default ps y None d (omega (arith, below, l)) ∙ is in
          stands_after m e (own ∙ sym (are.own y e at)) (omega (arith, below, numbered, are.numbered y e at)));
      higher = λ y d above i. all_at (λ e. stands_before m e ≡ true) (get_or ps y d) (λ e is.
          let at = get_or_default ps y None d i ∙ is in
          stands_by_number m e (own ∙ sym (are.own y e at)) (omega (arith, above, numbered, are.numbered y e at)));
    }

-- ---- a new message that is put at its place

-- the places from another number on, in a row with so much room
abbrev pub begun : ℕ → ℕ → ℕ → List (Option Message) → List (Option Message)
begun first begin room ps = nones (min (first - begin) room) ++ take (room - (first - begin)) (drop (begin - first) ps)

module _ (member first begin room : ℕ) (ps : List (Option Message)) (are : ArePlaces member first ps) where
  at_begun : (y : ℕ) (m : Message) → get_or (begun first begin room ps) y None ≡ Some m → (z : ℕ) × (get_or ps z None ≡ Some m) × (first + z ≡ begin + y)
  at_begun y m e =
      let front = nones (min (first - begin) room) in
      let left = room - (first - begin) in
      let gone = begin - first in
      let back = take left (drop gone ps) in
      let count = length-nones (min (first - begin) room) in
      elim (cases_lt y (length front)) [
        | inl l ↦ let none = get_or_append_left front back None y l ∙ get_or-nones (min (first - begin) room) y in absurd (cc)
        | inr behind ↦
            let k = y - length front in
            let is = sym (get_or-append_right front back (length front) y None refl behind) ∙ e in
            elim (cases_lt k left) [
              | inl l ↦ (gone + k, sym (get_or-drop gone ps k None) ∙ sym (get_or-take left (drop gone ps) k None l) ∙ is, omega (arith, l, behind, count))
              | inr past ↦ let none = get_or_past back k None (omega (arith, past, length-take left (drop gone ps))) in absurd (cc)
            ]
      ]

  pub places_begun : ArePlaces member begin (begun first begin room ps)
  places_begun = record {
    own = λ y m e. let at = at_begun y m e in are.own at.0 m at.1;
    numbered = λ y m e. let at = at_begun y m e in are.numbered at.0 m at.1 ∙ at.2;
  }

  -- all messages stand there, where their numbers are from `begin` on and within the room
  pub standing_begun : All (λ m. (begin ≤ number m) × (number m < begin + room)) (standing ps) → standing (begun first begin room ps) ≡ standing ps
  standing_begun within =
      let gone = begin - first in
      let left = room - (first - begin) in
      let near : (k : ℕ) (m : Message) → get_or ps k None ≡ Some m → (begin ≤ number m) × (number m < begin + room) = λ k m e. at_each (λ z. (begin ≤ number z) × (number z < begin + room)) ps k m within e in
      flat_map-append option_to_list (nones (min (first - begin) room)) (take left (drop gone ps))
      ∙ ap (λ l. l ++ standing (take left (drop gone ps))) (nones_stand (min (first - begin) room))
      ∙ standing-take left (drop gone ps) (λ k m le e. let is = sym (get_or-drop gone ps k None) ∙ e in omega (arith, near (gone + k) m is, are.numbered (gone + k) m is, le))
      ∙ standing-drop gone ps (λ k m l e. omega (arith, near k m e, are.numbered k m e, l))

module _ (member first : ℕ) (ps qs : List (Option Message)) (m : Message) (place : ℕ) (are : ArePlaces member first ps) (own : m.origin ≡ member) (numbered : number m ≡ first + place)
    (longer : qs ≡ ps ++ nones (place + 1 - length ps)) where
  are_longer : ArePlaces member first qs
  are_longer =
      let same : (k : ℕ) → get_or qs k None ≡ get_or ps k None = λ k. ap (λ l. get_or l k None) longer ∙ at_longer (place + 1 - length ps) ps k in
      record { own = λ k e is. are.own k e (sym (same k) ∙ is); numbered = λ k e is. are.numbered k e (sym (same k) ∙ is) }

  pub are_put : ArePlaces member first (set qs place (Some m))
  are_put = places_set member first qs are_longer place (Some m) (λ e is. (ap (λ (z : Message). z.origin) (is_some_of is) ∙ own, ap number (is_some_of is) ∙ numbered)) where
    is_some_of : {e : Message} → Some m ≡ Some e → e ≡ m
    is_some_of is = cc

  module _ (fresh : find (has_id (id_of m)) (standing ps) ≡ None) where
    same : standing qs ≡ standing ps
    same = ap standing longer ∙ standing-longer (place + 1 - length ps) ps

    -- its place is there, and empty
    pub inside : place < length qs
    inside = omega (arith, ap length longer, length-append ps (nones (place + 1 - length ps)), length-nones (place + 1 - length ps))

    pub is_empty : get_or qs place None ≡ None
    is_empty = sym (found_at member first qs are_longer (id_of m) own place numbered) ∙ ap (find (has_id (id_of m))) same ∙ fresh

    pub standing_put : standing (set qs place (Some m)) ≡ put_early m (standing ps)
    standing_put = put_at member first qs are_longer place m own numbered inside is_empty ∙ ap (put_early m) same
