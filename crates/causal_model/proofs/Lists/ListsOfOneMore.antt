-- The elements of a list when a message has come, and what is kept of them: as the steps on the kept ones say.
use Rattle.std.proofs.Common.{◌≡◌, ℕ, Bool, true, false, not, ◌||◌, All, AllPairs, Contains, IsTrue, List, [], ◌∷◌, ◌++◌, length, map, refl, sym, ap, subst, ◌∙◌, inl, inr}
use Rattle.std.specs.Prelude.{fold, take}
use Rattle.std.specs.List.{list_any}
use Rattle.std.proofs.lemmas.Bool.{and_parts, or_left}
use Rattle.std.proofs.lemmas.List.Elements.{All-contains, All-filter, All-nil, All-cons, Contains-push, filter_passes}
use Rattle.std.proofs.lemmas.List.Kept.{AllPairs-filter}
use Rattle.op_base.specs.declared.message.Message.{Message}
use Rattle.op_base.specs.declared.name.ObjectId.{ObjectId}
use Rattle.causal_model.specs.Elements.{Element, element_of, path_below, path_of, put_element, put_event, elements_of}
use Rattle.causal_model.specs.History.{History, events, with_message, is_before, is_history}
use Rattle.causal_model.specs.KeptElements.{begins_with}
use Rattle.causal_model.specs.Laws.Events.{present_event}
use Rattle.causal_model.specs.ListSteps.{takes, marked, pruned, kept_without}
use Rattle.causal_model.proofs.Theory.Elements.{item_from_list_any, list_any-from_item, same_tests}
use Rattle.causal_model.proofs.Events.Events.{events_of_one_more, event_never_before_itself, later_are_not_before}
use Rattle.causal_model.proofs.Events.Histories.{history_before}
use Rattle.causal_model.proofs.Lists.KeptLists.{ClosedBehind, seen, holds, keeps, kept_in, keeps_itself, kept_closed, pruned_is_kept, kept_of_kept}
use Rattle.causal_model.proofs.Lists.ListHistories.{goes_forward}
use Rattle.causal_model.proofs.Theory.Members.{member_of_filter, member_from_filter, pairs_head, pairs_tail, one_rising_list}
use Rattle.causal_model.proofs.Lists.PathOrder.{Before, never_both}
use Rattle.causal_model.proofs.Lists.Paths.{GoForward, elements_of_one_more}
use Rattle.causal_model.proofs.Lists.SameLists.{Ahead, put_sorted, put_there, put_keeps, put_cases}

-- what holds of each and the last of a list holds of each before it
pub of_last : {X : Type 0} (R : X → X → Type 0) (xs : List X) (x : X) → AllPairs R (xs ++ x ∷ []) → All (λ y. R y x) xs
of_last R [] x pairs = All-nil (λ y. R y x)
of_last R (y ∷ ys) x pairs = All-cons (λ z. R z x) y ys (All-contains (R y) (ys ++ x ∷ []) x (pairs_head R y (ys ++ x ∷ []) pairs) (Contains-push ys x)) (of_last R ys x (pairs_tail R y (ys ++ x ∷ []) pairs))

-- ---- the elements

pub list_of_one_more : (w : ℕ) (h : History) (m : Message) (object : ObjectId) → IsTrue (is_history w (with_message h m))
    → elements_of object (events (with_message h m)) ≡ put_event (present_event h m) (path_below (path_of object (events h)) object (events h) (present_event h m)) (elements_of object (events h))
list_of_one_more w h m object t =
    let x = present_event h m in
    let whole = events_of_one_more h m in
    let last : All (λ e. is_before x e ≡ false) (events h) = of_last (λ a b. is_before b a ≡ false) (events h) x (subst (AllPairs (λ a b. is_before b a ≡ false)) whole (later_are_not_before w (with_message h m) t)) in
    ap (elements_of object) whole
    ∙ elements_of_one_more object (events h) x (subst GoForward whole (goes_forward w (with_message h m) t object)) (λ e there. All-contains (λ e. is_before x e ≡ false) (events h) e last there) (goes_forward w h (history_before w h m t) object) (event_never_before_itself x)

-- ---- what is kept when entries take elements out, one after the other

pub map-map : {X Y Z : Type 0} (f : X → Y) (g : Y → Z) (xs : List X) → map g (map f xs) ≡ map (λ x. g (f x)) xs
map-map f g [] = refl
map-map f g (x ∷ xs) = ap (λ l. g (f x) ∷ l) (map-map f g xs)

pub take-all : {X : Type 0} (xs : List X) → take (length xs) xs ≡ xs
take-all [] = refl
take-all (x ∷ xs) = ap (λ l. x ∷ l) (take-all xs)

module _ (object : ObjectId) (epoch : ℕ) (l : List Element) (sorted : AllPairs Ahead l) (early : All (λ e. Before [] e.path) l) (closed : ClosedBehind [] l) where
  -- an element is gone once one of these messages takes it out
  abbrev pub gone_by : (Element → Bool) → List Message → Element → Bool
  gone_by g ds e = fold (λ b d. b || takes object epoch d (element_of e.event)) (g e) ds

  abbrev pub more_by : (Element → Bool) → Message → Element → Bool
  more_by g d e = g e || takes object epoch d (element_of e.event)

  pub without_one : (g : Element → Bool) (d : Message) → kept_without object epoch d (map (seen g) (kept_in g l)) ≡ map (seen (more_by g d)) (kept_in (more_by g d) l)
  without_one g d =
      ap pruned (map-map (seen g) (marked object epoch d) (kept_in g l))
      ∙ pruned_is_kept (more_by g d) [] (kept_in g l) (AllPairs-filter Ahead (keeps g l) l sorted) (All-filter (keeps g l) (λ e. Before [] e.path) l early) (kept_closed g [] l closed)
      ∙ ap (map (seen (more_by g d))) (kept_of_kept g (more_by g d) l (λ e was. or_left _ _ was))

  pub without_all : (ds : List Message) (g : Element → Bool) → fold (λ kept d. kept_without object epoch d kept) (map (seen g) (kept_in g l)) ds ≡ map (seen (gone_by g ds)) (kept_in (gone_by g ds) l)
  without_all [] g = refl
  without_all (d ∷ ds) g = ap (λ kept. fold (λ kept d. kept_without object epoch d kept) kept ds) (without_one g d) ∙ without_all ds (more_by g d)

pub fold_or : {X : Type 0} (f : X → Bool) (b : Bool) (xs : List X) → fold (λ b x. b || f x) b xs ≡ (b || list_any f xs)
fold_or f true [] = refl
fold_or f false [] = refl
fold_or f b (x ∷ xs) = fold_or f (b || f x) xs ∙ grouped b (f x) (list_any f xs) where
  grouped : (a b c : Bool) → ((a || b) || c) ≡ (a || (b || c))
  grouped true b c = refl
  grouped false b c = refl

-- ---- what is kept with one element more

module _ (g : Element → Bool) (x : Element) (l : List Element) (sorted : AllPairs Ahead l) (apart : All (λ e. e.path ≡ x.path → ⊥) l) (fresh : g x ≡ false)
    (above : (z : Element) → Contains l z → begins_with z.path x.path ≡ true → keeps g l z ≡ true) where
  keeps_old : (z : Element) → Contains l z → keeps g (put_element x l) z ≡ keeps g l z
  keeps_old z there = same_tests (keeps g (put_element x l) z) (keeps g l z)
      (λ t.
      let found = item_from_list_any (holds g z) (put_element x l) t in
      elim (put_cases found.0 x l found.1.0) [
        | inl new ↦ above z there (and_parts (begins_with z.path x.path) (not (g x)) (ap (holds g z) new ∙ found.1.1)).0
        | inr old ↦ list_any-from_item (holds g z) l found.0 old found.1.1
      ])
      (λ t. let found = item_from_list_any (holds g z) l t in list_any-from_item (holds g z) (put_element x l) found.0 (put_keeps found.0 x l found.1.0) found.1.1)

  keeps_new : keeps g (put_element x l) x ≡ true
  keeps_new = keeps_itself g (put_element x l) x (put_there x l) (ap not fresh)

  pub kept_with_one : kept_in g (put_element x l) ≡ put_element x (kept_in g l)
  kept_with_one = one_rising_list Ahead (λ a b. never_both a.path b.path) (kept_in g (put_element x l)) (put_element x (kept_in g l))
      (AllPairs-filter Ahead (keeps g (put_element x l)) (put_element x l) (put_sorted x l sorted apart))
      (put_sorted x (kept_in g l) (AllPairs-filter Ahead (keeps g l) l sorted) (All-filter (keeps g l) (λ e. e.path ≡ x.path → ⊥) l apart))
      (λ v. (λ t. forth v t, λ t. back v t)) where
        forth : (v : Element) → Contains (kept_in g (put_element x l)) v → Contains (put_element x (kept_in g l)) v
        forth v t =
            let passes = All-contains (λ e. keeps g (put_element x l) e ≡ true) (kept_in g (put_element x l)) v (filter_passes (keeps g (put_element x l)) (put_element x l)) t in
            elim (put_cases v x l (member_from_filter (keeps g (put_element x l)) (put_element x l) v t)) [
              | inl new ↦ subst (Contains (put_element x (kept_in g l))) new (put_there x (kept_in g l))
              | inr old ↦ put_keeps v x (kept_in g l) (member_of_filter (keeps g l) l v old (sym (keeps_old v old) ∙ passes))
            ]

        back : (v : Element) → Contains (put_element x (kept_in g l)) v → Contains (kept_in g (put_element x l)) v
        back v t = elim (put_cases v x (kept_in g l) t) [
          | inl new ↦ subst (Contains (kept_in g (put_element x l))) new (member_of_filter (keeps g (put_element x l)) (put_element x l) x (put_there x l) keeps_new)
          | inr old ↦
              let there = member_from_filter (keeps g l) l v old in
              member_of_filter (keeps g (put_element x l)) (put_element x l) v (put_keeps v x l there) (keeps_old v there ∙ All-contains (λ e. keeps g l e ≡ true) (kept_in g l) v (filter_passes (keeps g l) l) old)
        ]
