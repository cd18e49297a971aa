-- What is asked of a list, from its kept elements and the log; and the kept elements moved by one entry more.
use Rattle.std.proofs.Common.{◌≡◌, ℕ, zero, suc, Bool, true, false, not, ◌&&◌, ◌||◌, List, [], ◌∷◌, length, map, get_or, refl, sym, ap, ◌∙◌, cond}
use Rattle.std.specs.Prelude.{Some, fold, take, slice_get, Option, None}
use Rattle.std.specs.List.{filter, list_any}
use Rattle.std.proofs.lemmas.Bool.{and_parts, and_from, and_left, false≢true}
use Rattle.std.proofs.lemmas.List.{length-map}
use Rattle.std.proofs.lemmas.List.Elements.{Contains-get_or, filter_agree}
use Rattle.std.proofs.lemmas.Option.{same_Some, none-some}
use Rattle.op_base.specs.declared.name.ObjectId.{ObjectId}
use Rattle.op_base.specs.declared.name.Kind.TheVariants as kinds
use Rattle.causal_model.specs.Elements.{Element, element_of, is_deleted, elements_of, same_element, takes_out}
use Rattle.causal_model.specs.History.{History, events, epoch_of}
use Rattle.causal_model.specs.KeptElements.{KeptElement, is_gone, kept_elements, tombs_of}
use Rattle.causal_model.specs.Laws.Lists.{KeptMovesByEntry, OwnEntriesTell, ValuesFromKept, IdsFromKept, TombsFromKept}
use Rattle.causal_model.specs.Order.{happened_before}
use Rattle.causal_model.specs.Parts.{is_on}
use Rattle.causal_model.specs.Acts.{acts_on}
use Rattle.op_base.specs.Object.{same_object}
use Rattle.op_base.specs.declared.message.Message.{Message}
use Rattle.op_base.specs.declared.operation.Op.{Op}
use Rattle.op_base.specs.declared.operation.Op.TheVariants as op
use Rattle.op_base.specs.declared.tag.ElementId.{ElementId}
use Rattle.causal_model.specs.ListSteps.{had_seen, is_open, takes, kept_without, kept_with, is_shown}
use Rattle.causal_model.specs.Log.{log_of, stripped_of}
use Rattle.causal_model.proofs.Theory.Elements.{same_tests, list_any-filter, list_any_agree}
use Rattle.causal_model.proofs.Lists.GoneElements.{deleted_is}
use Rattle.causal_model.proofs.Lists.KeptLists.{filter_same, seen, keeps, kept_in, keeps_itself}
use Rattle.causal_model.proofs.Theory.Lists.{filter-filter}
use Rattle.causal_model.proofs.Lists.ListsOfOneMore.{map-map}

filter-map : {X Y : Type 0} (p : Y → Bool) (f : X → Y) (xs : List X) → filter p (map f xs) ≡ map f (filter (λ x. p (f x)) xs)
filter-map p f [] = refl
filter-map p f (x ∷ xs) = by (p (f x)) (filter-map p f xs) where
  by : (b : Bool) → filter p (map f xs) ≡ map f (filter (λ x. p (f x)) xs) → cond b (f x ∷ filter p (map f xs)) (filter p (map f xs)) ≡ map f (cond b (x ∷ filter (λ x. p (f x)) xs) (filter (λ x. p (f x)) xs))
  by true rest = ap (λ l. f x ∷ l) rest
  by false rest = rest

neither : (a b : Bool) → (not a && not b) ≡ not (a || b)
neither true b = refl
neither false b = refl

twice : (b : Bool) → not (not b) ≡ b
twice true = refl
twice false = refl

module _ (h : History) (object : ObjectId) (is_list : object.kind ≡ kinds.List) where
  abbrev gone : Element → Bool
  gone e = is_gone h object e.event

  abbrev all : List Element
  all = elements_of object (events h)

  abbrev shows : Element → Bool
  shows e = is_shown object (epoch_of h) (log_of h) (seen gone e)

  shows_is : (e : Element) → shows e ≡ not (is_deleted object (events h) e.event)
  shows_is e = neither (gone e) (list_any (λ d. takes object (epoch_of h) d (element_of e.event)) (log_of h)) ∙ ap not (sym (deleted_is h object is_list e.event))

  -- what is shown is kept
  shown_is_kept : filter shows (kept_in gone all) ≡ filter shows all
  shown_is_kept = filter-filter (keeps gone all) shows all ∙ filter_same (λ e. keeps gone all e && shows e) shows all (λ k d within.
      let e = get_or all k d in
      same_tests (keeps gone all e && shows e) (shows e) (λ t. (and_parts (keeps gone all e) (shows e) t).1) (λ t. and_from _ _ (keeps_itself gone all e (Contains-get_or all k d within) (and_parts (not (gone e)) _ t).0) t))

  shown_from_kept : filter (is_shown object (epoch_of h) (log_of h)) (kept_elements h object) ≡ map (seen gone) (filter (λ e. not (is_deleted object (events h) e.event)) all)
  shown_from_kept = filter-map (is_shown object (epoch_of h) (log_of h)) (seen gone) (kept_in gone all) ∙ ap (map (seen gone)) (shown_is_kept ∙ filter_agree shows (λ e. not (is_deleted object (events h) e.event)) shows_is all)

  tombs_from_kept : tombs_of h object ≡ length (filter (λ e. not (is_shown object (epoch_of h) (log_of h) e)) (kept_elements h object))
  tombs_from_kept = sym (
      ap length (filter-map (λ e. not (is_shown object (epoch_of h) (log_of h) e)) (seen gone) (kept_in gone all))
      ∙ length-map (filter (λ e. not (shows e)) (kept_in gone all)) (seen gone)
      ∙ ap length (filter_agree (λ e. not (shows e)) (λ e. is_deleted object (events h) e.event) (λ e. ap not (shows_is e) ∙ twice (is_deleted object (events h) e.event)) (kept_in gone all)))

pub values_from_kept : ValuesFromKept
values_from_kept w h object t is_list =
    sym (ap (map (λ e. e.value)) (shown_from_kept h object is_list) ∙ map-map (seen (λ e. is_gone h object e.event)) (λ (e : KeptElement). e.value) (filter (λ e. not (is_deleted object (events h) e.event)) (elements_of object (events h))))

pub ids_from_kept : IdsFromKept
ids_from_kept w h object t is_list =
    sym (ap (map (λ e. e.id)) (shown_from_kept h object is_list) ∙ map-map (seen (λ e. is_gone h object e.event)) (λ (e : KeptElement). e.id) (filter (λ e. not (is_deleted object (events h) e.event)) (elements_of object (events h))))

pub tombs_are_from_kept : TombsFromKept
tombs_are_from_kept w h object t is_list = tombs_from_kept h object is_list

-- ---- an object's own entries

own_takes : (object : ObjectId) (epoch : ℕ) (id : ElementId) (d : Message) (rest : Bool) → (is_on object d && (takes object epoch d id && rest)) ≡ (takes object epoch d id && rest)
own_takes object epoch id d rest = by (acts_on object (λ act. true) d.op) refl where
  none : (o : Op) → acts_on object (λ act. true) o ≡ false → acts_on object (takes_out id) o ≡ false
  none op.NoOp t = refl
  none (op.Update u) t = of (same_object u.object object) t where
    of : (b : Bool) → (b && true) ≡ false → (b && takes_out id u.act) ≡ false
    of true t = absurd (false≢true (sym t))
    of false t = refl

  by : (b : Bool) → acts_on object (λ act. true) d.op ≡ b → (b && (takes object epoch d id && rest)) ≡ (takes object epoch d id && rest)
  by true is = refl
  by false is = sym (and_left _ _ (and_left _ _ (none d.op is)))

own_entries : (object : ObjectId) (epoch : ℕ) (id : ElementId) (log : List Message) (rest : Message → Bool) → list_any (λ d. takes object epoch d id && rest d) (filter (is_on object) log) ≡ list_any (λ d. takes object epoch d id && rest d) log
own_entries object epoch id log rest =
    list_any-filter (is_on object) (λ d. takes object epoch d id && rest d) log
    ∙ list_any_agree (λ d. is_on object d && (takes object epoch d id && rest d)) (λ d. takes object epoch d id && rest d) (λ d. own_takes object epoch id d (rest d)) log

pub own_entries_tell : OwnEntriesTell
own_entries_tell object epoch log m kept = (place_told, shown_told) where
  place_told : (place : Option ElementId) → is_open object epoch (filter (is_on object) log) m kept place ≡ is_open object epoch log m kept place
  place_told None = refl
  place_told (Some id) = ap (λ b. list_any (λ e. same_element e.id id && not e.gone) kept && had_seen epoch m id && not b) (own_entries object epoch id log (λ d. happened_before d m))

  bare : (b : Bool) → (b && true) ≡ b
  bare true = refl
  bare false = refl

  alone : (id : ElementId) (l : List Message) → list_any (λ d. takes object epoch d id) l ≡ list_any (λ d. takes object epoch d id && true) l
  alone id l = list_any_agree (λ d. takes object epoch d id) (λ d. takes object epoch d id && true) (λ d. sym (bare (takes object epoch d id))) l

  shown_told : (e : KeptElement) → is_shown object epoch (filter (is_on object) log) e ≡ is_shown object epoch log e
  shown_told e = ap (λ b. not e.gone && not b) (alone e.id (filter (is_on object) log) ∙ own_entries object epoch e.id log (λ d. true) ∙ sym (alone e.id log))

-- ---- one entry more

fold_more : {A B : Type 0} (f : B → A → B) (b : B) (xs : List A) (k : ℕ) (x : A) → slice_get xs k ≡ Some x → fold f b (take (suc k) xs) ≡ f (fold f b (take k xs)) x
fold_more f b [] k x h = absurd (none-some x h)
fold_more f b (y ∷ ys) zero x h = ap (f b) (same_Some y x h)
fold_more f b (y ∷ ys) (suc k) x h = fold_more f (f b y) ys k x h

pub kept_moves_by_entry : KeptMovesByEntry
kept_moves_by_entry h m object k d is =
    fold_more (λ kept d. kept_without object (epoch_of h) d kept) (kept_with object (epoch_of h) (log_of h) m (kept_elements h object)) (stripped_of h m) k d is
