-- The fields of lists: parts of a row, where an element stands, and what stays listed where a field changes.
use Rattle.std.proofs.Common.{◌≡◌, ℕ, zero, suc, ◌<◌, Bool, true, false, not, cond, ◌&&◌, ◌||◌, eqb, All, AllPairs, List, [], ◌∷◌, ◌++◌, length, Option, Some, refl, sym, ap, subst, ◌∙◌, ◌⊎◌, inl, inr, arith, rules}
use Rattle.std.specs.HashMap.{HashMap, get}
use Rattle.std.specs.List.{list_any}
use mathlib.Core.HLevel.{⊥_prop}
use Rattle.std.specs.Cmp.Lexicographic.{bytes_decides}
use Rattle.std.proofs.Math.Logic.{∥∥₁_elim, ∥∥₁_map}
use Rattle.std.proofs.lemmas.Bool.{and_parts, and_from, both_ways, cases_eq, and_left, false_from_ne_true, eqb-true, eq-eqb}
use Rattle.std.proofs.lemmas.List.{map-append}
use Rattle.std.proofs.lemmas.List.Elements.{All-nil, All-cons, All-head, All-tail, All-map, All-weaker}
use Rattle.std.proofs.lemmas.List.Folds.{list_any_none}
use Rattle.std.proofs.lemmas.List.Kept.{AllPairs-cons}
use Rattle.op_base.specs.Name.{same_text}
use Rattle.op_base.specs.Object.{kind_place, same_object}
use Rattle.op_base.specs.contracts.name.ObjectIdPartialEq.TheImpl.{ghosts}
use Rattle.op_base.specs.declared.name.ObjectId.{ObjectId}
use Rattle.op_base.specs.declared.tag.ElementId.{ElementId}
use Rattle.causal_model.specs.Elements.{same_element}
use Rattle.causal_model.specs.KeptElements.{KeptElement}
use Rattle.causal_model.proofs.Theory.Elements.{list_any-map}
use Rattle.causal_model.proofs.Lists.KeptOfOneMore.{one_element, element_itself}
use Rattle.causal_model.proofs.Theory.Members.{pairs_head, pairs_tail}
use Rattle.list_type.specs.Chained.{Chained, Stands, row_at}
use Rattle.list_type.specs.ListFields.{element_in, elements_in, elements_of_row, AreListed, StandsIn}
use Rattle.list_type.specs.declared.lists.Content.{Content}
use Rattle.list_type.specs.declared.tree.Node.{Node}

-- ---- objects as keys

-- an object is one with itself
pub object_itself : (object : ObjectId) → same_object object object ≡ true
object_itself object = and_from (eqb (kind_place object.kind) (kind_place object.kind)) (same_text object.key object.key) (eq-eqb (kind_place object.kind) (kind_place object.kind) refl) ((bytes_decides object.key object.key).1 refl)

-- what a map compares objects by tells whether they are one
eq_is_same : ghosts.eq ≡ same_object
eq_is_same = λ i a b. same a b i where
  same : (a b : ObjectId) → ghosts.eq a b ≡ same_object a b
  same a b = search rules

module _ {R : Type 0} where
  -- so maps that have the same at each key, as maps compare keys, have the same at each object
  pub same_at_each : (rows new_rows : HashMap ObjectId ℕ R) → ((q : ObjectId) → get ghosts.eq new_rows q ≡ get ghosts.eq rows q) → (object : ObjectId) → get same_object new_rows object ≡ get same_object rows object
  same_at_each rows new_rows same = subst (λ eq. (q : ObjectId) → get eq new_rows q ≡ get eq rows q) eq_is_same same

  -- and one that was changed at a key was changed at the object
  pub noted_at_each : (rows new_rows : HashMap ObjectId ℕ R) (object : ObjectId) (w : Option ℕ) → ((q : ObjectId) → get ghosts.eq new_rows q ≡ cond (ghosts.eq object q) w (get ghosts.eq rows q))
      → (q : ObjectId) → get same_object new_rows q ≡ cond (same_object object q) w (get same_object rows q)
  noted_at_each rows new_rows object w noted = subst (λ eq. (q : ObjectId) → get eq new_rows q ≡ cond (eq object q) w (get eq rows q)) eq_is_same noted

-- ---- parts of a list

module _ {X : Type 0} where
  -- what holds of each part of a list holds of each of it
  pub All-from_parts : (P : X → Type 0) (xs : List X) → ((before : List X) (x : X) (after : List X) → xs ≡ before ++ x ∷ after → P x) → All P xs
  All-from_parts P [] each = All-nil P
  All-from_parts P (x ∷ xs) each =
      All-cons P x xs (each [] x xs refl) (All-from_parts P xs (λ before y after is. each (x ∷ before) y after (ap (λ ys. x ∷ ys) is)))

  -- one more in a list
  All-with : (P : X → Type 0) (xs : List X) (y : X) (ys : List X) → All P (xs ++ ys) → P y → All P (xs ++ y ∷ ys)
  All-with P [] y ys each here = All-cons P y ys here each
  All-with P (x ∷ xs) y ys each here = All-cons P x (xs ++ y ∷ ys) (All-head P x (xs ++ ys) each) (All-with P xs y ys (All-tail P x (xs ++ ys) each) here)

  -- it stands with each as those behind one stand with it
  pub AllPairs-with : (R : X → X → Type 0) (xs : List X) (y : X) (ys : List X) → AllPairs R (xs ++ ys) → All (λ x. R x y) xs → All (R y) ys → AllPairs R (xs ++ y ∷ ys)
  AllPairs-with R [] y ys pairs ahead behind = AllPairs-cons R y ys behind pairs
  AllPairs-with R (x ∷ xs) y ys pairs ahead behind =
      AllPairs-cons R x (xs ++ y ∷ ys) (All-with (R x) xs y ys (pairs_head R x (xs ++ ys) pairs) (All-head (λ z. R z y) x xs ahead))
      (AllPairs-with R xs y ys (pairs_tail R x (xs ++ ys) pairs) (All-tail (λ z. R z y) x xs ahead) behind)

  -- what holds of a list holds of those at its front, and of those behind
  pub All-front : (P : X → Type 0) (xs ys : List X) → All P (xs ++ ys) → All P xs
  All-front P [] ys each = All-nil P
  All-front P (x ∷ xs) ys each = All-cons P x xs (All-head P x (xs ++ ys) each) (All-front P xs ys (All-tail P x (xs ++ ys) each))

  pub All-behind : (P : X → Type 0) (xs ys : List X) → All P (xs ++ ys) → All P ys
  All-behind P [] ys each = each
  All-behind P (x ∷ xs) ys each = All-behind P xs ys (All-tail P x (xs ++ ys) each)

  -- those ahead of one stand with it, and it with those behind
  pub pairs_ahead : (R : X → X → Type 0) (xs : List X) (y : X) (ys : List X) → AllPairs R (xs ++ y ∷ ys) → All (λ x. R x y) xs
  pairs_ahead R [] y ys pairs = All-nil (λ x. R x y)
  pairs_ahead R (x ∷ xs) y ys pairs =
      All-cons (λ z. R z y) x xs (All-head (R x) y ys (All-behind (R x) xs (y ∷ ys) (pairs_head R x (xs ++ y ∷ ys) pairs))) (pairs_ahead R xs y ys (pairs_tail R x (xs ++ y ∷ ys) pairs))

  pub pairs_behind : (R : X → X → Type 0) (xs : List X) (y : X) (ys : List X) → AllPairs R (xs ++ y ∷ ys) → All (R y) ys
  pairs_behind R [] y ys pairs = pairs_head R y ys pairs
  pairs_behind R (x ∷ xs) y ys pairs = pairs_behind R xs y ys (pairs_tail R x (xs ++ y ∷ ys) pairs)

  -- where none of the others passes, one does where this does
  pub any_around : (p : X → Bool) (xs : List X) (y : X) (ys : List X) → All (λ x. p x ≡ false) xs → All (λ x. p x ≡ false) ys → list_any p (xs ++ y ∷ ys) ≡ p y
  any_around p [] y ys ahead behind = ap (λ b. p y || b) (list_any_none p ys behind) ∙ or_none (p y) where
    or_none : (b : Bool) → (b || false) ≡ b
    or_none true = refl
    or_none false = refl
  any_around p (x ∷ xs) y ys ahead behind =
      ap (λ b. b || list_any p (xs ++ y ∷ ys)) (All-head (λ z. p z ≡ false) x xs ahead) ∙ any_around p xs y ys (All-tail (λ z. p z ≡ false) x xs ahead) behind

  -- one of a list that passes, with what is before it and behind
  pub record PassesIn (p : X → Bool) (xs : List X) : Type 0 where
    pub before : List X
    pub it : X
    pub after : List X
    pub here : xs ≡ before ++ it ∷ after
    pub passes : p it ≡ true

  -- none of a list passes
  pub record NonePassesIn (p : X → Bool) (xs : List X) : Type 0 where
    pub fails : (before : List X) (x : X) (after : List X) → xs ≡ before ++ x ∷ after → p x ≡ false

  -- one passes, or none does
  pub one_passes : (p : X → Bool) (xs : List X) → PassesIn p xs ⊎ NonePassesIn p xs
  one_passes p [] = inr (record { fails = λ before x after is. by before x after is }) where
    by : (before : List X) (x : X) (after : List X) → [] ≡ before ++ x ∷ after → p x ≡ false
    by [] x after is = cc
    by (y ∷ before) x after is = cc
  one_passes p (x ∷ xs) = by (p x) refl (one_passes p xs) where
    by : (b : Bool) → p x ≡ b → PassesIn p xs ⊎ NonePassesIn p xs → PassesIn p (x ∷ xs) ⊎ NonePassesIn p (x ∷ xs)
    by true is rest = inl (record { before = []; it = x; after = xs; here = refl; passes = is })
    by false is (inl one) = inl (record { before = x ∷ one.before; it = one.it; after = one.after; here = ap (λ ys. x ∷ ys) one.here; passes = one.passes })
    by false is (inr none) = inr (record { fails = at }) where
      at : (before : List X) (y : X) (after : List X) → x ∷ xs ≡ before ++ y ∷ after → p y ≡ false
      at [] y after e = let same : x ≡ y = cc in subst (λ z. p z ≡ false) same is
      at (z ∷ before) y after e = none.fails before y after (cc)

-- ---- where an element stands

-- an element of an id stands in a slot
pub record HeldAs (rows : List (List (ℕ × Node Content))) (slot : ℕ) (id : ElementId) : Type 0 where
  pub row : ℕ
  pub before : List (ℕ × Node Content)
  pub node : Node Content
  pub after : List (ℕ × Node Content)
  pub stands : Stands rows row before slot node after
  pub of_id : node.value.id ≡ id

module _ (rows : List (List (ℕ × Node Content))) (slot : ℕ) (id : ElementId) where
  -- whether it is this one
  is_it : ℕ × Node Content → Bool
  is_it x = eqb x.0 slot && same_element x.1.value.id id

  -- one that passes in a row stands there
  is_here : (row : ℕ) → row < length rows → PassesIn is_it (row_at rows row) → HeldAs rows slot id
  unfolding is_it
  is_here row within one =
      let both = and_parts (eqb one.it.0 slot) (same_element one.it.1.value.id id) one.passes in
      record {
        row = row;
        before = one.before;
        node = one.it.1;
        after = one.after;
        stands = record { within = within; here = one.here ∙ ap (λ k. one.before ++ (k, one.it.1) ∷ one.after) (eqb-true one.it.0 slot both.0) };
        of_id = one_element one.it.1.value.id id both.1;
      }

  -- and where it stands one passes
  isnt_here : (held : HeldAs rows slot id) → NonePassesIn is_it (row_at rows held.row) → ⊥
  unfolding is_it
  isnt_here held none =
      both_ways (is_it (slot, held.node)) (none.fails held.before (slot, held.node) held.after held.stands.here)
      (and_from (eqb slot slot) (same_element held.node.value.id id) (eq-eqb slot slot refl) (subst (λ other. same_element held.node.value.id other ≡ true) held.of_id (element_itself held.node.value.id)))

  -- the rows below one are gone over
  sought : (n : ℕ) → ((row : ℕ) → row < n → row < length rows) → HeldAs rows slot id ⊎ ((held : HeldAs rows slot id) → held.row < n → ⊥)
  sought zero within = inr (λ held l. omega arith)
  sought (suc n) within = by (one_passes is_it (row_at rows n)) (sought n (λ row l. within row (omega (arith, l)))) where
    by : PassesIn is_it (row_at rows n) ⊎ NonePassesIn is_it (row_at rows n) → HeldAs rows slot id ⊎ ((held : HeldAs rows slot id) → held.row < n → ⊥) → HeldAs rows slot id ⊎ ((held : HeldAs rows slot id) → held.row < suc n → ⊥)
    by (inl one) rest = inl (is_here n (within n (omega arith)) one)
    by (inr none) (inl held) = inl held
    by (inr none) (inr not_below) = inr (λ held l. elim (cases_eq held.row n) [
      | inl same ↦ isnt_here held (subst (λ row. NonePassesIn is_it (row_at rows row)) (sym same) none)
      | inr differs ↦ not_below held (omega arith)
    ])

  -- so one that is known to stand there is found
  pub found_there : ∥ HeldAs rows slot id ∥₁ → HeldAs rows slot id
  found_there known = by (sought (length rows) (λ row l. l)) where
    by : HeldAs rows slot id ⊎ ((held : HeldAs rows slot id) → held.row < length rows → ⊥) → HeldAs rows slot id
    by (inl held) = held
    by (inr none) = absurd (∥∥₁_elim known ⊥_prop (λ held. none held held.stands.within))

-- ---- what stays listed

module _ {R : Type 0} where
  -- the elements of each list
  abbrev pub kept_in : HashMap ObjectId ℕ R → Chained (Node Content) → ObjectId → List KeptElement
  kept_in rows chains object = elements_of_row chains.rows (get same_object rows object)

  -- the elements are the same, where the rows and their lists are
  pub stay_shown : (rows new_rows : HashMap ObjectId ℕ R) (chains new_chains : Chained (Node Content))
      → ((object : ObjectId) → get same_object new_rows object ≡ get same_object rows object) → new_chains.rows ≡ chains.rows → kept_in new_rows new_chains ≡ kept_in rows chains
  stay_shown rows new_rows chains new_chains same is = λ i object. elements_of_row (is i) (same object i)

  -- the elements of a list in which one stands: those ahead, it, and those behind
  pub kept_around : (rows : HashMap ObjectId ℕ R) (chains : Chained (Node Content)) (object : ObjectId) (slot : ℕ) (id : ElementId) (stands : StandsIn rows chains object slot id)
      → kept_in rows chains object ≡ elements_in stands.before ++ element_in stands.node ∷ elements_in stands.after
  kept_around rows chains object slot id s =
      ap (elements_of_row chains.rows) s.of_object ∙ ap elements_in s.stands.here ∙ map-append (λ x. element_in x.1) s.before ((slot, s.node) ∷ s.after)

  -- what holds of each of them holds of it
  pub each_there : (rows : HashMap ObjectId ℕ R) (chains : Chained (Node Content)) (object : ObjectId) (slot : ℕ) (id : ElementId) (stands : StandsIn rows chains object slot id)
      → (P : KeptElement → Type 0) → All P (kept_in rows chains object) → P (element_in stands.node)
  each_there rows chains object slot id s P each =
      All-head P (element_in s.node) (elements_in s.after)
      (All-behind P (elements_in s.before) (element_in s.node ∷ elements_in s.after) (subst (All P) (kept_around rows chains object slot id s) each))

  -- an element stands where it stood, where the rows and their lists are the same
  pub stays_there : (rows new_rows : HashMap ObjectId ℕ R) (chains new_chains : Chained (Node Content)) (object : ObjectId) (slot : ℕ) (id : ElementId)
      → get same_object new_rows object ≡ get same_object rows object → new_chains.rows ≡ chains.rows → StandsIn rows chains object slot id → StandsIn new_rows new_chains object slot id
  stays_there rows new_rows chains new_chains object slot id same is stands = record {
    row = stands.row;
    before = stands.before;
    node = stands.node;
    after = stands.after;
    of_object = same ∙ stands.of_object;
    stands = subst (λ lists. Stands lists stands.row stands.before slot stands.node stands.after) (sym is) stands.stands;
    of_id = stands.of_id;
  }

module _ {R S : Type 0} where
  -- all stays listed where the maps have the same at each key, and the rows are the same
  pub stay_listed : (rows new_rows : HashMap ObjectId ℕ R) (slots new_slots : HashMap ElementId ℕ S) (chains new_chains : Chained (Node Content))
      → ((object : ObjectId) → get same_object new_rows object ≡ get same_object rows object) → ((id : ElementId) → get same_element new_slots id ≡ get same_element slots id) → new_chains.rows ≡ chains.rows
      → AreListed rows slots chains → AreListed new_rows new_slots new_chains
  stay_listed rows new_rows slots new_slots chains new_chains same same_slots is are = record {
    within = λ object row at. subst (λ lists. row < length lists) (sym is) (are.within object row (sym (same object) ∙ at));
    apart = λ a b row at_a at_b. are.apart a b row (sym (same a) ∙ at_a) (sym (same b) ∙ at_b);
    named = λ row l. ∥∥₁_map (are.named row (subst (λ lists. row < length lists) is l)) (λ x. (x.0, x.1, same x.0 ∙ x.2));
    found = λ row before slot node after stands. same_slots node.value.id ∙ are.found row before slot node after (subst (λ lists. Stands lists row before slot node after) is stands);
    held = λ id slot at. ∥∥₁_map (are.held id slot (sym (same_slots id) ∙ at)) (λ x. (x.0, stays_there rows new_rows chains new_chains x.0 slot id (same x.0) is x.1));
    once = λ row. subst (λ lists. AllPairs (λ (a b : ℕ × Node Content). same_element a.1.value.id b.1.value.id ≡ false) (row_at lists row)) (sym is) (are.once row);
  }

  module _ (rows : HashMap ObjectId ℕ R) (slots : HashMap ElementId ℕ S) (chains : Chained (Node Content)) (are : AreListed rows slots chains) where
    -- where an element's slot is known, it stands there
    pub held_as : (id : ElementId) (slot : ℕ) → get same_element slots id ≡ Some slot → HeldAs chains.rows slot id
    held_as id slot at = found_there chains.rows slot id (∥∥₁_map (are.held id slot at) (λ x. record {
      row = x.1.row;
      before = x.1.before;
      node = x.1.node;
      after = x.1.after;
      stands = x.1.stands;
      of_id = x.1.of_id;
    }))

    -- a list has no element of an id whose slot isn't one of its row's
    pub none_in : (object : ObjectId) (row : ℕ) (id : ElementId) → get same_object rows object ≡ Some row
        → ((before : List (ℕ × Node Content)) (slot : ℕ) (node : Node Content) (after : List (ℕ × Node Content)) → Stands chains.rows row before slot node after → get same_element slots id ≡ Some slot → ⊥)
        → All (λ e. same_element e.id id ≡ false) (kept_in rows chains object)
    none_in object row id at elsewhere =
        subst (λ found. All (λ e. same_element e.id id ≡ false) (elements_of_row chains.rows found)) (sym at)
        (All-map (λ e. same_element e.id id ≡ false) (λ x. element_in x.1) (row_at chains.rows row) (All-from_parts (λ x. same_element x.1.value.id id ≡ false) (row_at chains.rows row) (λ before x after here.
        false_from_ne_true (same_element x.1.value.id id) (λ same.
        let stands : Stands chains.rows row before x.0 x.1 after = record { within = are.within object row at; here = here } in
        elsewhere before x.0 x.1 after stands (subst (λ other. get same_element slots other ≡ Some x.0) (one_element x.1.value.id id same) (are.found row before x.0 x.1 after stands))))))

    -- no other of its list has the id of an element that stands in a slot
    pub record IsAlone (object : ObjectId) (slot : ℕ) (id : ElementId) (stands : StandsIn rows chains object slot id) : Type 0 where
      pub ahead : All (λ x. same_element x.1.value.id id ≡ false) stands.before
      pub behind : All (λ x. same_element x.1.value.id id ≡ false) stands.after

    -- so it stands alone
    pub is_alone : (object : ObjectId) (slot : ℕ) (id : ElementId) (stands : StandsIn rows chains object slot id) → IsAlone object slot id stands
    is_alone object slot id s =
        let Apart = λ (a b : ℕ × Node Content). same_element a.1.value.id b.1.value.id ≡ false in
        let pairs = subst (AllPairs Apart) s.stands.here (are.once s.row) in
        record {
          ahead = subst (λ other. All (λ x. same_element x.1.value.id other ≡ false) s.before) s.of_id (pairs_ahead Apart s.before (slot, s.node) s.after pairs);
          behind = All-weaker (λ x. same_element s.node.value.id x.1.value.id ≡ false) (λ x. same_element x.1.value.id id ≡ false)
              (λ x apart. false_from_ne_true (same_element x.1.value.id id) (λ same.
              let is : x.1.value.id ≡ s.node.value.id = one_element x.1.value.id id same ∙ sym s.of_id in
              both_ways (same_element s.node.value.id x.1.value.id) apart (subst (λ other. same_element s.node.value.id other ≡ true) (sym is) (element_itself s.node.value.id))))
              s.after (pairs_behind Apart s.before (slot, s.node) s.after pairs);
        }

    -- so a list has an element of its id that isn't gone exactly where it isn't gone itself
    pub there_unless_gone : (object : ObjectId) (slot : ℕ) (id : ElementId) (stands : StandsIn rows chains object slot id)
        → list_any (λ e. same_element e.id id && not e.gone) (kept_in rows chains object) ≡ not stands.node.gone
    there_unless_gone object slot id s =
        let alone = is_alone object slot id s in
        let passes : ℕ × Node Content → Bool = λ x. same_element x.1.value.id id && not x.1.gone in
        let fails : (x : ℕ × Node Content) → same_element x.1.value.id id ≡ false → passes x ≡ false = λ x other. and_left (same_element x.1.value.id id) (not x.1.gone) other in
        let itself : same_element s.node.value.id id ≡ true = subst (λ other. same_element s.node.value.id other ≡ true) s.of_id (element_itself s.node.value.id) in
        ap (λ found. list_any (λ e. same_element e.id id && not e.gone) (elements_of_row chains.rows found)) s.of_object
        ∙ list_any-map (λ e. same_element e.id id && not e.gone) (λ x. element_in x.1) (row_at chains.rows s.row)
        ∙ ap (list_any passes) s.stands.here
        ∙ any_around passes s.before (slot, s.node) s.after
        (All-weaker (λ x. same_element x.1.value.id id ≡ false) (λ x. passes x ≡ false) fails s.before alone.ahead)
        (All-weaker (λ x. same_element x.1.value.id id ≡ false) (λ x. passes x ≡ false) fails s.after alone.behind)
        ∙ ap (λ b. b && not s.node.gone) itself
