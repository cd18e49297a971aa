-- Elements leave a list: what is kept of a row, and that each list still has a row of its own.
use Rattle.std.proofs.Common.{◌≡◌, ◌≢◌, ℕ, suc, ◌-◌, ◌<◌, Bool, true, false, ◌&&◌, cond, List, [], ◌∷◌, ◌++◌, map, length, get_or, set, Option, Some, None, refl, sym, ap, subst, ◌∙◌, inl, inr, arith}
use Rattle.std.specs.HashMap.{HashMap, get}
use Rattle.std.specs.List.{AllPairs, remove}
use Rattle.std.proofs.Math.ListN.{get_or-map}
use Rattle.std.proofs.Math.Logic.{∥∥₁_map}
use Rattle.std.proofs.lemmas.Bool.{cases_eq, both_ways}
use Rattle.std.proofs.lemmas.List.{length-map, length-set, length-append, get_or-set_same, get_or-set_other}
use Rattle.std.proofs.lemmas.List.Edits.{remove-append_right}
use Rattle.std.proofs.lemmas.List.Quantifiers.{all_pairs_remove}
use Rattle.op_base.specs.declared.name.ObjectId.{ObjectId}
use Rattle.op_base.specs.declared.tag.ElementId.{ElementId}
use Rattle.causal_model.specs.Elements.{same_element}
use Rattle.causal_model.specs.ListSteps.{keep, pruned}
use Rattle.causal_model.proofs.Lists.KeptOfOneMore.{one_element, element_itself}
use Rattle.list_type.specs.Chained.{Chained, last_or, row_at, Stands, IsHeld}
use Rattle.list_type.specs.Depths.{put_before}
use Rattle.list_type.specs.ListFields.{element_in, elements_in, StandsIn, AreListed}
use Rattle.list_type.specs.Nodes.{node_depth, node_gone, node_leaves, nodes_kept, gone_node}
use Rattle.list_type.specs.Taking.{gone_where, nodes_gone_where}
use Rattle.list_type.specs.declared.lists.Content.{Content}
use Rattle.list_type.specs.declared.tree.Node.{Node}
use Rattle.list_type.proofs.Depths.{no_longer}

-- ---- lists with an element more or less

module _ {X : Type 0} where
  -- what stands in a list stands in it with one more
  put_back : (before after xs ys : List X) (x y : X) → before ++ after ≡ xs ++ y ∷ ys → (xs' : List X) × (ys' : List X) × (before ++ x ∷ after ≡ xs' ++ y ∷ ys')
  put_back [] after xs ys x y is = (x ∷ xs, ys, ap (λ l. x ∷ l) is)
  put_back (w ∷ before) after [] ys x y is =
      let head : w ≡ y = cc in
      ([], before ++ x ∷ after, ap (λ v. v ∷ before ++ x ∷ after) head)
  put_back (w ∷ before) after (v ∷ xs) ys x y is =
      let head : w ≡ v = cc in
      let tail : before ++ after ≡ xs ++ y ∷ ys = cc in
      let rest = put_back before after xs ys x y tail in
      (v ∷ rest.0, rest.1, λ i. head i ∷ rest.2 i)

  -- another stands in it without one
  take_away : (before after xs ys : List X) (x y : X) → before ++ x ∷ after ≡ xs ++ y ∷ ys → x ≢ y → (xs' : List X) × (ys' : List X) × (before ++ after ≡ xs' ++ y ∷ ys')
  take_away [] after [] ys x y is other = absurd (other (cc))
  take_away [] after (v ∷ xs) ys x y is other = (xs, ys, cc)
  take_away (w ∷ before) after [] ys x y is other =
      let head : w ≡ y = cc in
      ([], before ++ after, ap (λ v. v ∷ before ++ after) head)
  take_away (w ∷ before) after (v ∷ xs) ys x y is other =
      let head : w ≡ v = cc in
      let tail : before ++ x ∷ after ≡ xs ++ y ∷ ys = cc in
      let rest = take_away before after xs ys x y tail other in
      (v ∷ rest.0, rest.1, λ i. head i ∷ rest.2 i)

  -- what holds of each two of a list does without one
  pairs_without : (R : X → X → Type 0) (before after : List X) (x : X) → AllPairs R (before ++ x ∷ after) → AllPairs R (before ++ after)
  pairs_without R before after x pairs =
      let first : length before - length before ≡ 0 = omega arith in
      subst (AllPairs R) (remove-append_right before (x ∷ after) (length before) (length before) refl (omega arith) ∙ ap (λ n. before ++ remove (x ∷ after) n) first)
      (all_pairs_remove R (before ++ x ∷ after) (length before) (omega (arith, length-append before (x ∷ after))) pairs)

-- ---- slots and ids

-- a slot and its node's id
abbrev key_of : ℕ × Node Content → ℕ × ElementId
key_of x = (x.0, x.1.value.id)

abbrev pub keys : List (ℕ × Node Content) → List (ℕ × ElementId)
keys xs = map key_of xs

-- a slot stands in a list, with a node of this id
record IsIn (xs : List (ℕ × Node Content)) (slot : ℕ) (id : ElementId) : Type 0 where
  before : List (ℕ × Node Content)
  node : Node Content
  after : List (ℕ × Node Content)
  is : xs ≡ before ++ (slot, node) ∷ after
  of_id : node.value.id ≡ id

-- it stands in each list with the same slots and ids
found_in : (xs before : List (ℕ × Node Content)) (slot : ℕ) (node : Node Content) (after : List (ℕ × Node Content)) → keys xs ≡ keys (before ++ (slot, node) ∷ after) → IsIn xs slot node.value.id
found_in [] [] slot node after same = cc
found_in [] (b ∷ before) slot node after same = cc
found_in (x ∷ xs) [] slot node after same =
    let head : key_of x ≡ (slot, node.value.id) = cc in
    record { before = []; node = x.1; after = xs; is = λ i. ((head i).0, x.1) ∷ xs; of_id = λ i. (head i).1 }
found_in (x ∷ xs) (b ∷ before) slot node after same =
    let tail : keys xs ≡ keys (before ++ (slot, node) ∷ after) = cc in
    let rest = found_in xs before slot node after tail in
    record { before = x ∷ rest.before; node = rest.node; after = rest.after; is = λ i. x ∷ rest.is i; of_id = rest.of_id }

id_same : (xs ys : List (ℕ × Node Content)) → keys ys ≡ keys xs → (n : ℕ) (d : ℕ × Node Content) → (get_or ys n d).1.value.id ≡ (get_or xs n d).1.value.id
id_same xs ys same n d =
    sym (ap (λ k. k.1) (get_or-map key_of ys n d)) ∙ ap (λ ks. (get_or ks n (key_of d)).1) same ∙ ap (λ k. k.1) (get_or-map key_of xs n d)

module _ {R S : Type 0} (rows : HashMap ObjectId ℕ R) (slots : HashMap ElementId ℕ S) (old new : Chained (Node Content)) (are : AreListed rows slots old) where
  -- where each row has the slots and ids that it had
  listed_by_keys : length new.rows ≡ length old.rows → ((row : ℕ) → keys (row_at new.rows row) ≡ keys (row_at old.rows row)) → AreListed rows slots new
  listed_by_keys many same = record {
    within = λ object row is. omega (arith, are.within object row is, many);
    apart = are.apart;
    named = λ row l. are.named row (omega (arith, l, many));
    found = λ row before slot node after stands.
        let there = found_in (row_at old.rows row) before slot node after (sym (same row) ∙ ap keys stands.here) in
        ap (get same_element slots) (sym there.of_id)
        ∙ are.found row there.before slot there.node there.after (record { within = omega (arith, stands.within, many); here = there.is });
    held = λ id slot is. ∥∥₁_map (are.held id slot is) (λ (w : (object : ObjectId) × StandsIn rows old object slot id).
        let s = w.1 in
        let there = found_in (row_at new.rows s.row) s.before slot s.node s.after (same s.row ∙ ap keys s.stands.here) in
        let new_one : StandsIn rows new w.0 slot id = record {
          row = s.row;
          before = there.before;
          node = there.node;
          after = there.after;
          of_object = s.of_object;
          stands = record { within = omega (arith, s.stands.within, many); here = there.is };
          of_id = there.of_id ∙ s.of_id;
        } in
        (w.0, new_one));
    once = λ row i j d lt l.
        let xs = row_at old.rows row in
        let ys = row_at new.rows row in
        let long : length ys ≡ length xs = sym (length-map ys key_of) ∙ ap length (same row) ∙ length-map xs key_of in
        (λ k. same_element (id_same xs ys (same row) i d k) (id_same xs ys (same row) j d k)) ∙ are.once row i j d lt (omega (arith, l, long));
  }

  -- where one row has others with these
  pub listed_where_same : (row : ℕ) (ys : List (ℕ × Node Content)) → row < length old.rows → new.rows ≡ set old.rows row ys → keys ys ≡ keys (row_at old.rows row) → AreListed rows slots new
  listed_where_same row ys within is same = listed_by_keys (ap length is ∙ length-set old.rows row ys) (λ r. elim (cases_eq r row) [
    | inl here ↦
        ap (λ k. keys (row_at new.rows k)) here
        ∙ ap (λ rs. keys (row_at rs row)) is
        ∙ ap keys (get_or-set_same old.rows row ys [] within)
        ∙ same
        ∙ ap (λ k. keys (row_at old.rows k)) (sym here)
    | inr other ↦ ap (λ rs. keys (row_at rs r)) is ∙ ap keys (get_or-set_other old.rows row r ys [] other)
  ])

-- a node is taken out of a row, and its id is forgotten
module _ {R S : Type 0} (rows : HashMap ObjectId ℕ R) (slots fewer : HashMap ElementId ℕ S) (old new : Chained (Node Content)) (are : AreListed rows slots old)
    (row slot : ℕ) (before : List (ℕ × Node Content)) (node : Node Content) (after : List (ℕ × Node Content)) (stands : Stands old.rows row before slot node after)
    (rows_are : new.rows ≡ set old.rows row (before ++ after)) (out : IsHeld new.rows slot → ⊥)
    (forgotten : (other : ElementId) → get same_element fewer other ≡ cond (same_element node.value.id other) None (get same_element slots other)) where
  many : length new.rows ≡ length old.rows
  many = ap length rows_are ∙ length-set old.rows row (before ++ after)

  inside : row < length new.rows
  inside = omega (arith, stands.within, many)

  row_now : row_at new.rows row ≡ before ++ after
  row_now = ap (λ rs. row_at rs row) rows_are ∙ get_or-set_same old.rows row (before ++ after) [] stands.within

  row_stays : (r : ℕ) → r ≢ row → row_at new.rows r ≡ row_at old.rows r
  row_stays r other = ap (λ rs. row_at rs r) rows_are ∙ get_or-set_other old.rows row r (before ++ after) [] other

  -- what stands somewhere did so before
  stood : (r : ℕ) (b : List (ℕ × Node Content)) (s : ℕ) (n : Node Content) (a : List (ℕ × Node Content)) → Stands new.rows r b s n a → get same_element slots n.value.id ≡ Some s
  stood r b s n a at = elim (cases_eq r row) [
    | inl here ↦
        let was = put_back before after b a (slot, node) (s, n) (sym row_now ∙ ap (λ k. row_at new.rows k) (sym here) ∙ at.here) in
        are.found row was.0 s n was.1 (record { within = stands.within; here = stands.here ∙ was.2 })
    | inr other ↦ are.found r b s n a (record { within = omega (arith, at.within, many); here = sym (row_stays r other) ∙ at.here })
  ]

  still_found : (r : ℕ) (b : List (ℕ × Node Content)) (s : ℕ) (n : Node Content) (a : List (ℕ × Node Content)) → Stands new.rows r b s n a → get same_element fewer n.value.id ≡ Some s
  still_found r b s n a at = forgotten n.value.id ∙ by (same_element node.value.id n.value.id) refl where
    by : (same : Bool) → same_element node.value.id n.value.id ≡ same → cond same None (get same_element slots n.value.id) ≡ Some s
    by true t =
        let one = one_element node.value.id n.value.id t in
        let both : Some s ≡ Some slot = sym (stood r b s n a at) ∙ ap (get same_element slots) (sym one) ∙ are.found row before slot node after stands in
        let here : s ≡ slot = cc in
        absurd (out (r, b, n, a, subst (λ k. Stands new.rows r b k n a) here at))
    by false t = stood r b s n a at

  still_held : (id : ElementId) (s : ℕ) → get same_element fewer id ≡ Some s → ∥ ((object : ObjectId) × StandsIn rows new object s id) ∥₁
  still_held id s is = by (same_element node.value.id id) refl (sym (forgotten id) ∙ is) where
    by : (same : Bool) → same_element node.value.id id ≡ same → cond same None (get same_element slots id) ≡ Some s → ∥ ((object : ObjectId) × StandsIn rows new object s id) ∥₁
    by true t had = cc
    by false t had = ∥∥₁_map (are.held id s had) (λ (w : (object : ObjectId) × StandsIn rows old object s id). (w.0, moved w.0 w.1)) where
      moved : (object : ObjectId) → StandsIn rows old object s id → StandsIn rows new object s id
      moved object at = elim (cases_eq at.row row) [
        | inl here ↦
            let apart : (slot, node) ≢ (s, at.node) = λ same. both_ways (same_element node.value.id id) t (subst (λ k. same_element node.value.id k ≡ true) (ap (λ x. x.1.value.id) same ∙ at.of_id) (element_itself node.value.id)) in
            let now : (xs' : List (ℕ × Node Content)) × (ys' : List (ℕ × Node Content)) × (before ++ after ≡ xs' ++ (s, at.node) ∷ ys') =
            take_away before after at.before at.after (slot, node) (s, at.node) (sym stands.here ∙ ap (λ k. row_at old.rows k) (sym here) ∙ at.stands.here) apart in
            let here_now : row_at new.rows row ≡ now.0 ++ (s, at.node) ∷ now.1 = row_now ∙ now.2 in
            record {
              row = row;
              before = now.0;
              node = at.node;
              after = now.1;
              of_object = at.of_object ∙ ap Some here;
              stands = record { within = inside; here = here_now };
              of_id = at.of_id;
            }
        | inr other ↦ record {
          row = at.row;
          before = at.before;
          node = at.node;
          after = at.after;
          of_object = at.of_object;
          stands = record { within = omega (arith, at.stands.within, many); here = row_stays at.row other ∙ at.stands.here };
          of_id = at.of_id;
        }
      ]

  abbrev Apart : ℕ × Node Content → ℕ × Node Content → Type 0
  Apart a b = same_element a.1.value.id b.1.value.id ≡ false

  pub listed_without : AreListed rows fewer new
  listed_without = record {
    within = λ object r is. omega (arith, are.within object r is, many);
    apart = are.apart;
    named = λ r l. are.named r (omega (arith, l, many));
    found = still_found;
    held = still_held;
    once = λ r. elim (cases_eq r row) [
      | inl here ↦
          subst (AllPairs Apart) (sym (ap (λ k. row_at new.rows k) here ∙ row_now))
          (pairs_without Apart before after (slot, node) (subst (AllPairs Apart) stands.here (are.once row)))
      | inr other ↦ subst (AllPairs Apart) (sym (row_stays r other)) (are.once r)
    ];
  }

-- ---- what is kept

-- the elements of what is kept of a row are what is kept of its elements
keep_is : (x : ℕ × Node Content) (rest : List (ℕ × Node Content)) → elements_in (put_before node_depth node_gone (node_leaves x rest) x rest) ≡ keep (element_in x.1) (elements_in rest)
keep_is x [] = by x.1.gone where
  by : (b : Bool) → elements_in (put_before node_depth node_gone (b && true) x []) ≡ cond b [] (element_in x.1 ∷ [])
  by true = refl
  by false = refl
keep_is x (y ∷ rest) = by (node_leaves x (y ∷ rest)) where
  by : (b : Bool) → elements_in (put_before node_depth node_gone b x (y ∷ rest)) ≡ cond b (elements_in (y ∷ rest)) (element_in x.1 ∷ elements_in (y ∷ rest))
  by true = refl
  by false = refl

pub elements_kept : (xs : List (ℕ × Node Content)) → elements_in (nodes_kept xs) ≡ pruned (elements_in xs)
elements_kept [] = refl
elements_kept (x ∷ xs) = keep_is x (nodes_kept xs) ∙ ap (keep (element_in x.1)) (elements_kept xs)

-- a row of which as many are kept is kept whole
whole_if_as_long : (xs : List (ℕ × Node Content)) → length (nodes_kept xs) ≡ length xs → nodes_kept xs ≡ xs
whole_if_as_long [] long = refl
whole_if_as_long (x ∷ xs) long = by (node_leaves x (nodes_kept xs)) long (whole_if_as_long xs) where
  by : (b : Bool) → length (put_before node_depth node_gone b x (nodes_kept xs)) ≡ suc (length xs) → (length (nodes_kept xs) ≡ length xs → nodes_kept xs ≡ xs) → put_before node_depth node_gone b x (nodes_kept xs) ≡ x ∷ xs
  by true as_long whole = absurd (omega (arith, as_long, no_longer node_depth node_gone xs))
  by false as_long whole = ap (λ l. x ∷ l) (whole (omega (arith, as_long)))

-- so is one whose elements are
pub nodes_whole : (xs : List (ℕ × Node Content)) → pruned (elements_in xs) ≡ elements_in xs → nodes_kept xs ≡ xs
nodes_whole xs is =
    let count = λ (ys : List (ℕ × Node Content)). length-map ys (λ (y : ℕ × Node Content). element_in y.1) in
    whole_if_as_long xs (sym (count (nodes_kept xs)) ∙ ap length (elements_kept xs ∙ is) ∙ count xs)

-- ---- nodes are marked

pub keys_with_gone : (before : List (ℕ × Node Content)) (slot : ℕ) (node : Node Content) (after : List (ℕ × Node Content)) → keys (before ++ (slot, gone_node node) ∷ after) ≡ keys (before ++ (slot, node) ∷ after)
keys_with_gone [] slot node after = refl
keys_with_gone (b ∷ before) slot node after = ap (λ l. key_of b ∷ l) (keys_with_gone before slot node after)

module _ (passes : ElementId → Bool) where
  pub elements_gone : (xs : List (ℕ × Node Content)) → elements_in (nodes_gone_where passes xs) ≡ map (gone_where passes) (elements_in xs)
  elements_gone [] = refl
  elements_gone (x ∷ xs) = ap (λ l. gone_where passes (element_in x.1) ∷ l) (elements_gone xs)

  pub last_gone : (xs : List (ℕ × Node Content)) (other : Option ℕ) → last_or (nodes_gone_where passes xs) other ≡ last_or xs other
  last_gone [] other = refl
  last_gone (x ∷ xs) other = last_gone xs (Some x.0)
