-- Deletions that are linked, group by group.
use Rattle.std.proofs.Common.{◌≡◌, ℕ, suc, zero, ◌+◌, ◌<◌, ◌≤◌, Bool, true, false, ◌||◌, ◌==◌, List, [], ◌∷◌, Option, Some, None, drop, min, length, get_or, refl, sym, ap, subst, ◌∙◌, inl, inr, below_more, eq-eqb, get_or-set_same, get_or-set_other, arith}
use Rattle.std.specs.Prelude.{slice_get, slice_index}
use Rattle.std.specs.List.{list_any}
use Rattle.std.proofs.Math.ListN.{set}
use Rattle.std.proofs.lemmas.Bool.{both_ways, cases_eq, cases_order, eqb-true, ne_eqb, and_left, false_from_ne_true}
use Rattle.std.proofs.lemmas.List.{drop_all}
use Rattle.std.proofs.lemmas.Option.{same_Some}
use Rattle.op_base.specs.declared.message.Entry.{Entry}
use Rattle.op_base.specs.declared.operation.Act.{Act}
use Rattle.op_base.specs.declared.operation.Act.TheVariants as acts
use Rattle.op_base.specs.declared.tag.ElementId.{ElementId}
use Rattle.causal_model.specs.Elements.{same_element}
use Rattle.causal_model.specs.ListSteps.{had_seen}
use Rattle.causal_model.specs.Log.{message_of}
use Rattle.causal_model.proofs.Lists.KeptOfOneMore.{one_element}
use Rattle.list_type.specs.Deletions.{group_of, is_in, is_group, is_of, IsLast, AreLinked}
use Rattle.list_type.specs.Removals.{deletes_by, is_deletion}
use Rattle.list_type.specs.declared.deletions.Deletions.{Deletions}

-- no entry is ahead of the first
pub none_first : (entries : List Entry) (g link : ℕ) → link ≡ 0 → IsLast entries 0 g link
none_first entries g link none = record {
  within = omega arith;
  of_group = λ k is. absurd (omega arith);
  none_behind = λ k from upto. absurd (omega arith);
}

-- so none is told of ahead of any entries
pub begins : (deletions : Deletions) (entries : List Entry) → AreLinked deletions [] 0 → AreLinked deletions entries 0
begins deletions entries linked = record {
  last = λ g few. let none = (linked.last g few).within in none_first entries g (slice_index deletions.last g) (omega (arith, none));
  ahead = λ k g upto own. absurd (omega arith);
}

-- ---- one entry more

module _ (entries : List Entry) (k : ℕ) where
  -- the last of a group stays so where the entry is of another
  last_stays : (g link : ℕ) → is_of g (slice_get entries k) ≡ false → IsLast entries k g link → IsLast entries (k + 1) g link
  last_stays g link other last = record {
    within = omega (arith, last.within);
    of_group = last.of_group;
    none_behind = λ j from upto. below_more (λ i. link ≤ i → is_of g (slice_get entries i) ≡ false) k (λ i below start. last.none_behind i start below) (λ start. other) j upto from;
  }

  -- it is the last of its own
  last_now : (g : ℕ) → is_of g (slice_get entries k) ≡ true → IsLast entries (k + 1) g (k + 1)
  last_now g own = record {
    within = omega arith;
    of_group = λ j same. let here : k ≡ j = omega arith in subst (λ i. is_of g (slice_get entries i) ≡ true) here own;
    none_behind = λ j from upto. absurd (omega arith);
  }

module _ (old : Deletions) (entries : List Entry) (k : ℕ) (item : Entry) (at : slice_get entries k ≡ Some item)
    (group : Option ℕ) (is : (g : ℕ) → is_in g item.update.act ≡ is_group group g) (linked : AreLinked old entries k) where
  of_item : (g : ℕ) → is_of g (slice_get entries k) ≡ is_group group g
  of_item g = ap (is_of g) at ∙ is g

  -- the entry is of no group
  pub none_more : group ≡ None → AreLinked old entries (k + 1)
  none_more none =
      let of_none : (g : ℕ) → is_of g (slice_get entries k) ≡ false = λ g. of_item g ∙ ap (λ o. is_group o g) none in
      record {
        last = λ g few. last_stays entries k g (slice_index old.last g) (of_none g) (linked.last g few);
        ahead = λ j g upto own. below_more (λ i. is_of g (slice_get entries i) ≡ true → IsLast entries i g (slice_index old.ahead i)) k
            (λ i below. linked.ahead i g below) (λ here. absurd (both_ways (is_of g (slice_get entries k)) (of_none g) here)) j upto own;
      }

  -- it is of one, whose last it is now
  module _ (new : Deletions) (one : ℕ) (some : group ≡ Some one) (within : one < 1024) (last_is : new.last ≡ set old.last one (k + 1)) (ahead_is : new.ahead ≡ set old.ahead k (get_or old.last one 0))
      (last_long : length old.last ≡ 1024) (ahead_long : length old.ahead ≡ 1024) (few : k < 1024) where
    of_one : (g : ℕ) → is_of g (slice_get entries k) ≡ (one == g)
    of_one g = of_item g ∙ ap (λ o. is_group o g) some

    last_of : (g : ℕ) → g < 1024 → IsLast entries (k + 1) g (slice_index new.last g)
    last_of g small = elim (cases_eq one g) [
      | inl same ↦
          let own : is_of g (slice_get entries k) ≡ true = of_one g ∙ eq-eqb one g same in
          let now : slice_index new.last g ≡ k + 1 = ap (λ xs. slice_index xs g) last_is ∙ ap (slice_index (set old.last one (k + 1))) (sym same) ∙ get_or-set_same old.last one (k + 1) 0 (omega arith) in
          subst (IsLast entries (k + 1) g) (sym now) (last_now entries k g own)
      | inr differs ↦
          let other : is_of g (slice_get entries k) ≡ false = of_one g ∙ ne_eqb one g differs in
          let now : slice_index new.last g ≡ slice_index old.last g = ap (λ xs. slice_index xs g) last_is ∙ get_or-set_other old.last one g (k + 1) 0 (λ same. differs (sym same)) in
          subst (IsLast entries (k + 1) g) (sym now) (last_stays entries k g (slice_index old.last g) other (linked.last g small))
    ]

    ahead_of : (j g : ℕ) → j < k + 1 → is_of g (slice_get entries j) ≡ true → IsLast entries j g (slice_index new.ahead j)
    ahead_of j g upto own = elim (cases_eq j k) [
      | inl same ↦
          let here : is_of g (slice_get entries k) ≡ true = subst (λ i. is_of g (slice_get entries i) ≡ true) same own in
          let of_g : one ≡ g = eqb-true one g (sym (of_one g) ∙ here) in
          let now : slice_index new.ahead j ≡ slice_index old.last g = ap (slice_index new.ahead) same ∙ ap (λ xs. slice_index xs k) ahead_is ∙ get_or-set_same old.ahead k (get_or old.last one 0) 0 (omega arith) ∙ ap (slice_index old.last) of_g in
          subst (IsLast entries j g) (sym now) (subst (λ i. IsLast entries i g (slice_index old.last g)) (sym same) (linked.last g (omega (arith, of_g))))
      | inr differs ↦
          let now : slice_index new.ahead j ≡ slice_index old.ahead j = ap (λ xs. slice_index xs j) ahead_is ∙ get_or-set_other old.ahead k j (get_or old.last one 0) 0 differs in
          subst (IsLast entries j g) (sym now) (linked.ahead j g (omega arith) own)
    ]

    pub one_more : AreLinked new entries (k + 1)
    one_more = record { last = last_of; ahead = ahead_of }

-- ---- a walk over the links

-- a link of an id's group, behind which none of the first n entries deletes the id
pub record NoneBehind (entries : List Entry) (n epoch : ℕ) (id : ElementId) (link : ℕ) : Type 0 where
  pub within : link ≤ n
  pub of_group : (k : ℕ) → link ≡ k + 1 → is_of (group_of id) (slice_get entries k) ≡ true
  pub none : (k : ℕ) (e : Entry) → link ≤ k → k < n → slice_get entries k ≡ Some e → deletes_by epoch e id ≡ false

-- an act of another group isn't an id's deletion
not_its : (id : ElementId) (act : Act) → is_in (group_of id) act ≡ false → is_deletion id act ≡ false
not_its id (acts.Add v) other = refl
not_its id (acts.Rmv v) other = refl
not_its id acts.Clear other = refl
not_its id acts.Enable other = refl
not_its id acts.Disable other = refl
not_its id (acts.Write v) other = refl
not_its id (acts.Inc n) other = refl
not_its id (acts.Dec n) other = refl
not_its id (acts.Ins v place) other = refl
not_its id (acts.Del named) other =
    false_from_ne_true (same_element named id) (λ same. both_ways (group_of named == group_of id) other (eq-eqb (group_of named) (group_of id) (ap group_of (one_element named id same))))

-- items that fail ahead of the others tell nothing
none_ahead : {X : Type 0} (p : X → Bool) (n : ℕ) (xs : List X) → ((k : ℕ) (x : X) → k < n → slice_get xs k ≡ Some x → p x ≡ false) → list_any p xs ≡ list_any p (drop n xs)
none_ahead p zero xs fail = refl
none_ahead p (suc n) [] fail = refl
none_ahead p (suc n) (x ∷ xs) fail = ap (λ b. b || list_any p xs) (fail 0 x (omega arith) refl) ∙ none_ahead p n xs (λ k y below at. fail (suc k) y (omega arith) at)

module _ (entries : List Entry) (n epoch : ℕ) (id : ElementId) where
  misses : (k : ℕ) (e : Entry) → is_of (group_of id) (slice_get entries k) ≡ false → slice_get entries k ≡ Some e → deletes_by epoch e id ≡ false
  misses k e other at = and_left (is_deletion id e.update.act) (had_seen epoch (message_of e) id) (not_its id e.update.act (ap (is_of (group_of id)) (sym at) ∙ other))

  -- from the last of its group on
  pub walk_begins : (link : ℕ) → IsLast entries n (group_of id) link → NoneBehind entries n epoch id link
  walk_begins link last = record {
    within = last.within;
    of_group = last.of_group;
    none = λ k e from upto at. misses k e (last.none_behind k from upto) at;
  }

  -- one link further
  pub walk_goes_on : (link next k : ℕ) (e : Entry) → link ≡ k + 1 → slice_get entries k ≡ Some e → deletes_by epoch e id ≡ false → NoneBehind entries n epoch id link
      → IsLast entries k (group_of id) next → NoneBehind entries n epoch id next
  walk_goes_on link next k e is at passed walked last = record {
    within = omega (arith, last.within, walked.within, is);
    of_group = last.of_group;
    none = λ j f from upto at_j. elim (cases_order j k) [
      | inl same ↦ ap (λ x. deletes_by epoch x id) (same_Some f e (sym at_j ∙ ap (slice_get entries) same ∙ at)) ∙ passed
      | inr differs ↦ elim differs [
        | inl below ↦ misses j f (last.none_behind j from below) at_j
        | inr above ↦ walked.none j f (omega (arith, is, above)) upto at_j
      ]
    ];
  }

  -- no link is left
  pub walk_ends : (link : ℕ) → link ≤ 0 → NoneBehind entries n epoch id link → list_any (λ e. deletes_by epoch e id) entries ≡ list_any (λ e. deletes_by epoch e id) (drop n entries)
  walk_ends link none walked = none_ahead (λ (e : Entry). deletes_by epoch e id) n entries (λ k e below at. walked.none k e (omega (arith, none)) below at)

-- nothing is linked to an id's group
pub none_linked : (deletions : Deletions) (entries : List Entry) (epoch : ℕ) (id : ElementId) → AreLinked deletions entries (min (length entries) 1024)
    → slice_index deletions.last (group_of id) ≤ 0 → length entries ≤ 1024 → list_any (λ e. deletes_by epoch e id) entries ≡ false
none_linked deletions entries epoch id linked none few =
    let n = min (length entries) 1024 in
    let link = slice_index deletions.last (group_of id) in
    walk_ends entries n epoch id link none (walk_begins entries n epoch id link (linked.last (group_of id) (omega arith)))
    ∙ ap (list_any (λ (e : Entry). deletes_by epoch e id)) (drop_all n entries (omega arith))
