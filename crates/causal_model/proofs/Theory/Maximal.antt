-- Maximal items of a list, by an order of it; and with them what wins over what it is concurrent with.
use Rattle.std.proofs.Common.{◌≡◌, ℕ, ◌+◌, ◌<◌, Bool, true, false, not, ◌&&◌, ◌||◌, Contains, AllPairs, IsTrue, List, length, get_or, zero, suc, refl, sym, ap, subst, ◌∙◌, inl, inr, ◌⊎◌, arith}
use Rattle.std.specs.List.{list_any, list_all}
use Rattle.std.proofs.lemmas.Bool.{cases_Bool, and_parts, and_from, or_parts, or_from, or_left, or_right, or_cases, both_ways, not_from_false, not-true}
use Rattle.std.proofs.lemmas.List.{get_or_default}
use Rattle.std.proofs.lemmas.List.Elements.{All-contains, Contains-get_or}
use Rattle.std.proofs.lemmas.List.Folds.{Any-from_list_any}
use Rattle.std.proofs.lemmas.List.Sums.{AllPass-from_list_all, list_all-from_AllPass}
use Rattle.op_base.specs.declared.name.ObjectId.{ObjectId}
use Rattle.causal_model.specs.Acts.{is_clear}
use Rattle.causal_model.specs.History.{History, Event, events, is_before, is_history, is_act_on}
use Rattle.causal_model.specs.Laws.Events.{IsMaximal}
use Rattle.causal_model.specs.Order.{is_followed}
use Rattle.causal_model.specs.Query.{is_live}
use Rattle.causal_model.proofs.Theory.Elements.{same_tests, no_item, item_from_list_any, list_any-from_item, list_any-from_none, list_any_agree, list_any-or, list_any-same, before_is_earlier}
use Rattle.causal_model.proofs.Events.Events.{event_never_before_itself, events_are_transitive, later_are_not_before}

-- that an order is one of the items of a list, and goes forward in it
pub record IsOrder (X : Type 0) (before : X → X → Bool) (xs : List X) : Type 0 where
  pub irreflexive : (x : X) → before x x ≡ false
  pub forward : AllPairs (λ a b. before b a ≡ false) xs
  pub transitive : (a b c : X) → Contains xs a → Contains xs b → Contains xs c → before a b ≡ true → before b c ≡ true → before a c ≡ true

-- an item that passes, and that none that passes is after
abbrev pub IsTop : {X : Type 0} → (X → X → Bool) → (X → Bool) → List X → X → Type 0
IsTop before passes xs top = Contains xs top × (passes top ≡ true) × (is_followed before passes xs top ≡ false)

module _ {X : Type 0} (before : X → X → Bool) (xs : List X) (o : IsOrder X before xs) where
  -- of the items from a place on, one that passes has a maximal one that is it or after it
  top_from : (passes : X → Bool) (fuel i : ℕ) (x : X) → length xs < fuel + i → i < length xs → get_or xs i x ≡ x → passes x ≡ true → (top : X) × (IsTop before passes xs top × ((x ≡ top) ⊎ (before x top ≡ true)))
  top_from passes zero i x enough l at t = absurd (omega (arith, enough, l))
  top_from passes (suc fuel) i x enough l at t = elim (cases_Bool (is_followed before passes xs x)) [
    | inr none ↦ (x, (((i, l, at), t, none), inl refl))
    | inl some ↦
        let next = Any-from_list_any (λ later. passes later && before x later) xs some in
        let both = and_parts (passes next.1) (before x next.1) next.4 in
        let place = before_is_earlier before xs o.irreflexive o.forward i next.0 x next.1 l at (get_or_default xs next.0 x next.1 next.2 ∙ next.3) both.1 in
        let top = top_from passes fuel next.0 next.1 (omega (arith, enough, place)) next.2 next.3 both.0 in (
          top.0,
          (
            top.1.0,
            inr (elim top.1.1 [
              | inl e ↦ subst (λ y. before x y ≡ true) e both.1
              | inr after ↦ o.transitive x next.1 top.0 (i, l, at) (next.0, next.2, next.3) top.1.0.0 both.1 after
            ]),
          ),
        )
  ]

  pub some_is_top : (passes : X → Bool) (x : X) → Contains xs x → passes x ≡ true → (top : X) × (IsTop before passes xs top × ((x ≡ top) ⊎ (before x top ≡ true)))
  some_is_top passes x has t = top_from passes (length xs + 1) has.0 x (omega arith) has.1 has.2 t

  -- what is after nothing that passes has nothing after it that is after something before it
  pub none_after_later : (passes : X → Bool) (a b : X) → Contains xs a → Contains xs b → (a ≡ b) ⊎ (before a b ≡ true) → is_followed before passes xs a ≡ false → is_followed before passes xs b ≡ false
  none_after_later passes a b has_a has_b (inl e) none = subst (λ x. is_followed before passes xs x ≡ false) e none
  none_after_later passes a b has_a has_b (inr ab) none = list_any-from_none (λ later. passes later && before b later) xs (λ c has_c both.
      let parts = and_parts (passes c) (before b c) both in
      both_ways _ (no_item (λ later. passes later && before a later) xs c none has_c) (and_from _ _ parts.0 (o.transitive a b c has_a has_b has_c ab parts.1)))

  -- ---- what puts in wins: some that puts in has none after it that takes out, exactly where one has none after it that does either

  module _ (puts takes : X → Bool) (covers : X → X → Bool) (covered : (a b : X) → puts a ≡ true → covers a b ≡ (puts b || takes b)) where
    after_put : (e : X) → puts e ≡ true → is_followed before (covers e) xs e ≡ (is_followed before puts xs e || is_followed before takes xs e)
    after_put e t = list_any_agree _ _ (λ later. ap (λ b. b && before e later) (covered e later t)) xs ∙ list_any-or puts takes (before e) xs

    pub put_wins : list_any (λ e. puts e && not (is_followed before takes xs e)) xs ≡ list_any (λ e. puts e && not (is_followed before (covers e) xs e)) xs
    put_wins = list_any-same (λ e. puts e && not (is_followed before takes xs e)) (λ e. puts e && not (is_followed before (covers e) xs e)) xs (λ e has both.
        let parts = and_parts (puts e) (not (is_followed before takes xs e)) both in
        let found = some_is_top puts e has parts.0 in
        let top = found.1.0 in
        let none = none_after_later takes e found.0 has top.0 found.1.1 (not-true _ parts.1) in
        list_any-from_item _ xs found.0 top.0 (and_from _ _ top.1 (not_from_false _ (after_put found.0 top.1 ∙ or_from _ _ top.2 none)))) (λ e has both.
        let parts = and_parts (puts e) (not (is_followed before (covers e) xs e)) both in
        let none = or_parts _ _ (sym (after_put e parts.0) ∙ not-true _ parts.1) in
        list_any-from_item _ xs e has (and_from _ _ parts.0 (not_from_false _ none.1)))

  -- ---- what takes out wins: a live one puts in and each live one that takes out has one after it that puts in, exactly
  -- where an uncovered one puts in and none takes out

  module _ (puts takes clears : X → Bool) (covers : X → X → Bool) (covered : (a b : X) → (puts a || takes a) ≡ true → covers a b ≡ (clears b || (puts b || takes b))) where
    abbrev live : X → Bool
    live x = not (is_followed before clears xs x)

    abbrev uncovered : X → Bool
    uncovered x = not (is_followed before (covers x) xs x)

    -- where it takes out and is live, one after it puts in
    abbrev is_put_back : X → Bool
    is_put_back x = not (takes x && live x) || is_followed before puts xs x

    after_either : (x : X) → (puts x || takes x) ≡ true → is_followed before (covers x) xs x ≡ (is_followed before clears xs x || (is_followed before puts xs x || is_followed before takes xs x))
    after_either x t = list_any_agree _ _ (λ later. ap (λ b. b && before x later) (covered x later t)) xs ∙ list_any-or clears (λ b. puts b || takes b) (before x) xs ∙ ap (λ b. is_followed before clears xs x || b) (list_any-or puts takes (before x) xs)

    -- of a live one that puts in or takes out a maximal such one is it or after it, and that is uncovered
    top_is_uncovered : (x : X) → Contains xs x → (puts x || takes x) ≡ true → live x ≡ true → (top : X) × (Contains xs top × ((puts top || takes top) ≡ true) × (live top ≡ true) × (is_followed before puts xs top ≡ false) × (uncovered top ≡ true) × ((x ≡ top) ⊎ (before x top ≡ true)))
    top_is_uncovered x has either l =
        let found = some_is_top (λ y. puts y || takes y) x has either in
        let top = found.1.0 in
        let none = none_after_later clears x found.0 has top.0 found.1.1 (not-true _ l) in
        let last = sym (list_any-or puts takes (before found.0) xs) ∙ top.2 in
        (found.0, (top.0, top.1, not_from_false _ none, (or_parts _ _ last).0, not_from_false _ (after_either found.0 top.1 ∙ or_from _ _ none last), found.1.1))

    uncovered_has : (x : X) → (puts x || takes x) ≡ true → uncovered x ≡ true → (live x ≡ true) × (is_followed before puts xs x ≡ false)
    uncovered_has x either t =
        let none = or_parts _ _ (sym (after_either x either) ∙ not-true _ t) in
        (not_from_false _ none.0, (or_parts _ _ none.1).0)

    put_after : list_all is_put_back xs ≡ true → (x : X) → Contains xs x → takes x ≡ true → live x ≡ true → is_followed before puts xs x ≡ true
    put_after all x has t l = elim (or_cases (not (takes x && live x)) _ (All-contains (λ y. is_put_back y ≡ true) xs x (AllPass-from_list_all is_put_back xs all) has)) [
      | inl fails ↦ absurd (both_ways _ (not-true _ fails) (and_from _ _ t l))
      | inr put ↦ put
    ]

    take_wins_forth : (list_any (λ x. puts x && live x) xs && list_all is_put_back xs) ≡ true → (list_any (λ x. puts x && uncovered x) xs && not (list_any (λ x. takes x && uncovered x) xs)) ≡ true
    take_wins_forth t =
        let both = and_parts (list_any (λ x. puts x && live x) xs) (list_all is_put_back xs) t in
        let some = item_from_list_any (λ x. puts x && live x) xs both.0 in
        let parts = and_parts (puts some.0) (live some.0) some.1.1 in
        let top = top_is_uncovered some.0 some.1.0 (or_left _ _ parts.0) parts.1 in
        let put : puts top.0 ≡ true = elim (or_cases (puts top.0) (takes top.0) top.1.1) [
          | inl put ↦ put
          | inr taken ↦ absurd (both_ways (is_followed before puts xs top.0) top.1.3 (put_after both.1 top.0 top.1.0 taken top.1.2))
        ] in
        and_from _ _ (list_any-from_item (λ x. puts x && uncovered x) xs top.0 top.1.0 (and_from (puts top.0) (uncovered top.0) put top.1.4))
        (not_from_false _ (list_any-from_none (λ x. takes x && uncovered x) xs (λ x has left.
        let parts = and_parts (takes x) (uncovered x) left in
        let none = uncovered_has x (or_right _ _ parts.0) parts.1 in
        both_ways (is_followed before puts xs x) none.1 (put_after both.1 x has parts.0 none.0))))

    put_back : list_any (λ x. takes x && uncovered x) xs ≡ false → (x : X) → Contains xs x → is_put_back x ≡ true
    put_back none x has = elim (cases_Bool (takes x && live x)) [
      | inr fails ↦ or_left (not (takes x && live x)) (is_followed before puts xs x) (not_from_false (takes x && live x) fails)
      | inl both ↦
          let parts = and_parts (takes x) (live x) both in
          let top = top_is_uncovered x has (or_right _ _ parts.0) parts.1 in
          let left : takes top.0 ≡ true → ⊥ = λ taken. both_ways (takes top.0 && uncovered top.0) (no_item (λ y. takes y && uncovered y) xs top.0 none top.1.0) (and_from _ _ taken top.1.4) in
          or_right (not (takes x && live x)) (is_followed before puts xs x) (elim (or_cases (puts top.0) (takes top.0) top.1.1) [
            | inr taken ↦ absurd (left taken)
            | inl put ↦ elim top.1.5 [ inl e ↦ absurd (left (subst (λ y. takes y ≡ true) e parts.0)) | inr after ↦ list_any-from_item (λ y. puts y && before x y) xs top.0 top.1.0 (and_from _ _ put after) ]
          ])
    ]

    take_wins_back : (list_any (λ x. puts x && uncovered x) xs && not (list_any (λ x. takes x && uncovered x) xs)) ≡ true → (list_any (λ x. puts x && live x) xs && list_all is_put_back xs) ≡ true
    take_wins_back t =
        let both = and_parts (list_any (λ x. puts x && uncovered x) xs) _ t in
        let some = item_from_list_any (λ x. puts x && uncovered x) xs both.0 in
        let parts = and_parts (puts some.0) (uncovered some.0) some.1.1 in
        and_from _ _ (list_any-from_item (λ x. puts x && live x) xs some.0 some.1.0 (and_from (puts some.0) (live some.0) parts.0 (uncovered_has some.0 (or_left _ _ parts.0) parts.1).0))
        (list_all-from_AllPass _ xs (λ k d l. put_back (not-true _ both.1) (get_or xs k d) (Contains-get_or xs k d l)))

    pub take_wins : (list_any (λ x. puts x && live x) xs && list_all is_put_back xs) ≡ (list_any (λ x. puts x && uncovered x) xs && not (list_any (λ x. takes x && uncovered x) xs))
    take_wins = same_tests _ _ take_wins_forth take_wins_back

-- ---- events

pub events_are_in_order : (w : ℕ) (h : History) → IsTrue (is_history w h) → IsOrder Event is_before (events h)
events_are_in_order w h t = record {
  irreflexive = event_never_before_itself;
  forward = later_are_not_before w h t;
  transitive = λ a b c. events_are_transitive w h a b c t;
}

pub some_is_maximal : (w : ℕ) (h : History) (passes : Event → Bool) (e : Event) → IsTrue (is_history w h) → Contains (events h) e → IsTrue (passes e)
    → (top : Event) × (IsMaximal passes (events h) top × ((e ≡ top) ⊎ IsTrue (is_before e top)))
some_is_maximal w h passes e t = some_is_top is_before (events h) (events_are_in_order w h t) passes e

-- what happened after a live event is live: a clear after it is after the live event too
pub live_goes_up : (w : ℕ) (h : History) (object : ObjectId) (a b : Event) → IsTrue (is_history w h) → Contains (events h) a → Contains (events h) b
    → IsTrue (is_live object (events h) a) → IsTrue (is_before a b) → IsTrue (is_live object (events h) b)
live_goes_up w h object a b t has_a has_b live ab = not_from_false _ (none_after_later is_before (events h) (events_are_in_order w h t) (is_act_on object is_clear) a b has_a has_b (inr ab) (not-true _ live))
