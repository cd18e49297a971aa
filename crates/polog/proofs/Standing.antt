-- What the calls of a log keep of the messages that it stands for.
use Rattle.std.proofs.Common.{◌≡◌, ℕ, ◌+◌, ◌*◌, ◌<◌, ◌≤◌, Bool, true, false, not, ◌&&◌, cond, List, [], ◌∷◌, ◌++◌, map, length, drop, drop-cons, get_or, slice_get, suc, find, Option, Some, None, IsTrue, length-append, refl, sym, ap, subst, ◌∙◌, arith}
use Rattle.std.specs.List.{filter}
use Rattle.std.proofs.lemmas.Bool.{cond-true}
use Rattle.std.proofs.lemmas.List.{length-drop}
use Rattle.std.proofs.lemmas.List.Elements.{filter_agree}
use Rattle.std.proofs.lemmas.Option.{slice_get_read}
use mathlib.Core.Bool.{and-true}
use Rattle.op_base.specs.declared.message.Entry.{Entry}
use Rattle.op_base.specs.declared.message.Message.{Message}
use Rattle.op_base.specs.declared.name.ObjectId.{ObjectId}
use Rattle.op_base.specs.declared.operation.Update.{Update}
use Rattle.causal_model.specs.Log.{stripped_log, is_kept, is_covered_by, message_of, kept_log}
use Rattle.causal_model.specs.Chapter.{is_chapter}
use Rattle.causal_model.specs.Order.{happened_before}
use Rattle.causal_model.specs.Parts.{is_on}
use Rattle.causal_model.specs.Stability.{stable_vector, is_stable}
use Rattle.causal_model.proofs.Delivery.Logs.{kept_log-push}
use Rattle.causal_model.proofs.Delivery.Rooms.{log_has_room}
use Rattle.polog.specs.Value.{Log, with_entries, with_entry, with_stripped, without_stable, without_first, stays, is_of, is_stable_entry}
use Rattle.polog.proofs.Firsts.{others-left, all-left}
use Rattle.polog.specs.Standing.{IsLogOf, IsPruned, IsLogged, IsStripped, IsStripping, HandsOut, KeepsStripping}

map-join : {A B : Type 0} (f : A → B) (xs ys : List A) → map f (xs ++ ys) ≡ map f xs ++ map f ys
map-join f [] ys = refl
map-join f (x ∷ xs) ys = ap (λ zs. f x ∷ zs) (map-join f xs ys)

-- the messages of the entries that pass are the messages that pass
map-filter : {A B : Type 0} (f : A → B) (p : B → Bool) (xs : List A) → map f (filter (λ x. p (f x)) xs) ≡ filter p (map f xs)
map-filter f p [] = refl
map-filter f p (x ∷ xs) = elim (p (f x)) as (λ b. map f (cond b (x ∷ filter (λ y. p (f y)) xs) (filter (λ y. p (f y)) xs)) ≡ cond b (f x ∷ filter p (map f xs)) (filter p (map f xs))) [
  | true ↦ ap (λ zs. f x ∷ zs) (map-filter f p xs)
  | false ↦ map-filter f p xs
]

length-map : {A B : Type 0} (f : A → B) (xs : List A) → length (map f xs) ≡ length xs
length-map f [] = refl
length-map f (x ∷ xs) = let rest = length-map f xs in omega (arith, rest)

drop-none : {A : Type 0} (xs : List A) → drop 0 xs ≡ xs
drop-none [] = refl
drop-none (x ∷ xs) = refl

-- what is left begins with the next
next-of-rest : {A : Type 0} (k : ℕ) (xs : List A) (x : A) (rest : List A) → drop k xs ≡ x ∷ rest → (slice_get xs k ≡ Some x) × (k + 1 ≤ length xs) × (drop (k + 1) xs ≡ rest)
next-of-rest k xs x rest begins =
    let inside : k < length xs = omega (arith, length-drop k xs, ap length begins) in
    let both : x ∷ rest ≡ get_or xs k x ∷ drop (suc k) xs = sym begins ∙ drop-cons xs k x inside in
    let first : x ≡ get_or xs k x = cc in
    let others : drop (suc k) xs ≡ rest = cc in
    let next : k + 1 ≡ suc k = omega arith in
    (slice_get_read xs (length xs) k x refl inside first, omega (arith, inside), ap (λ j. drop j xs) next ∙ others)

module _ (keeps : Update → Bool) (covers : Update → Update → Bool) (n me : ℕ) (ms : List Message) where
  pub pruned-is : (m : Message) (log : Log) → IsLogOf keeps covers n me ms log → IsPruned keeps covers n me ms m (with_entries log (filter (stays covers m) log.entries))
  pruned-is m log stands = record {
    of_store = stands.of_store;
    holds = map-filter message_of (λ e. not (is_covered_by covers e.op m.op && happened_before e m)) log.entries
        ∙ ap (filter (λ e. not (is_covered_by covers e.op m.op && happened_before e m))) stands.holds;
    few = stands.few;
    handed_out = stands.handed_out;
  }

  pub logged-is : (m : Message) (log : Log) (e : Entry) → message_of e ≡ m → IsTrue (is_kept keeps m.op) → IsPruned keeps covers n me ms m log → IsLogged keeps covers n me ms m (with_entry log e)
  logged-is m log e same kept stands =
      let few = stands.few in
      record {
        of_store = stands.of_store;
        holds = map-join message_of log.entries (e ∷ []) ∙ (λ i. stands.holds i ++ same i ∷ [])
            ∙ ap (λ xs. filter (λ x. not (is_covered_by covers x.op m.op && happened_before x m)) (kept_log keeps covers n me ms) ++ xs) (sym (cond-true (is_kept keeps m.op) (m ∷ []) [] kept));
        few = omega (arith, few);
        handed_out = stands.handed_out;
      }

  pub stripping-is : (w : ℕ) (m : Message) (log : Log) (stable : List ℕ) → IsTrue (is_chapter n w me (ms ++ m ∷ [])) → stable ≡ stable_vector n me (ms ++ m ∷ [])
      → IsLogged keeps covers n me ms m log → IsStripping keeps covers n me ms m stable log
  stripping-is w m log stable chapter now stands =
      record {
        of_store = stands.of_store;
        holds = (λ i. filter (λ e. not (is_stable (now i) e)) (stands.holds i)) ∙ sym (kept_log-push keeps covers n w me ms m chapter);
        few = stands.few;
        handed_out = stands.handed_out;
      }

  pub stripped-is : (w : ℕ) (m : Message) (log : Log) (stable : List ℕ) → IsTrue (is_chapter n w me (ms ++ m ∷ [])) → stable ≡ stable_vector n me (ms ++ m ∷ [])
      → IsLogged keeps covers n me ms m log → IsStripped keeps covers n me ms m 0 (without_stable log stable)
  stripped-is w m log stable chapter now stands =
      record {
        of_store = stands.of_store;
        holds = map-filter message_of (λ e. not (is_stable stable e)) log.entries ∙ (stripping-is w m log stable chapter now stands).holds;
        few = stands.few;
        within = omega arith;
        waiting = map-filter message_of (is_stable stable) log.entries ∙ (λ i. filter (is_stable (now i)) (stands.holds i)) ∙ sym (drop-none (stripped_log keeps covers n me ms m));
      }

  pub has-room : (w : ℕ) (m : Message) (log : Log) → me < n → 1 ≤ w → IsTrue (is_chapter n w me (ms ++ m ∷ [])) → IsTrue (is_kept keeps m.op) → IsPruned keeps covers n me ms m log
      → log.room ≡ n * w → length log.entries < log.room
  has-room w m log inside some chapter kept stands room =
      let pruned = filter (λ x. not (is_covered_by covers x.op m.op && happened_before x m)) (kept_log keeps covers n me ms) in
      let bound = log_has_room keeps covers n w me ms m inside some chapter in
      let more = ap (λ xs. length (pruned ++ xs)) (cond-true (is_kept keeps m.op) (m ∷ []) [] kept) ∙ length-append pruned (m ∷ []) in
      let same = sym (length-map message_of log.entries) ∙ ap length stands.holds in
      omega (arith, bound, more, same, room)

  module _ (m : Message) where
    -- the next is handed out
    pub next-handed-out : (k : ℕ) (log : Log) (e : Entry) (rest : List Entry) → log.stripped ≡ e ∷ rest → IsStripped keeps covers n me ms m k log
        → HandsOut keeps covers n me ms m k (Some e) (with_stripped log rest)
    next-handed-out k log e rest waits stands =
        let next = next-of-rest k (stripped_log keeps covers n me ms m) (message_of e) (map message_of rest) (sym stands.waiting ∙ ap (map message_of) waits) in
        (next.0, record { of_store = stands.of_store; holds = stands.holds; few = stands.few; within = next.1; waiting = sym next.2 })

    -- or all were
    pub all-handed-out : (k : ℕ) (log : Log) → log.stripped ≡ [] → IsStripped keeps covers n me ms m k log → HandsOut keeps covers n me ms m k None log
    all-handed-out k log gone stands =
        let none : 0 ≡ length (drop k (stripped_log keeps covers n me ms m)) = sym (ap (λ es. length (map message_of es)) gone) ∙ ap length stands.waiting in
        let within = stands.within in (
          omega (arith, none, within, length-drop k (stripped_log keeps covers n me ms m)),
          record {
            of_store = stands.of_store;
            holds = stands.holds;
            few = omega (arith, stands.few, length-append ms (m ∷ []));
            handed_out = gone;
          },
        )

    module _ (log : Log) (stable : List ℕ) (stands : IsStripping keeps covers n me ms m stable log) where
      taken-is : IsStripping keeps covers n me ms m stable (with_entries log (without_first (is_stable_entry stable) log.entries))
      taken-is =
          let stays : Message → Bool = λ e. not (is_stable stable e) in
          record {
            of_store = stands.of_store;
            holds = sym (map-filter message_of stays (without_first (is_stable_entry stable) log.entries)) ∙ ap (map message_of) (others-left (is_stable_entry stable) log.entries)
                ∙ map-filter message_of stays log.entries ∙ stands.holds;
            few = stands.few;
            handed_out = stands.handed_out;
          }

      all-taken-is : find (is_stable_entry stable) log.entries ≡ None → IsLogOf keeps covers n me (ms ++ m ∷ []) (with_entries log (without_first (is_stable_entry stable) log.entries))
      all-taken-is none =
          let left = all-left (is_stable_entry stable) log.entries none in
          let few = stands.few in
          record {
            of_store = stands.of_store;
            holds = ap (map message_of) (left.0 ∙ sym left.1) ∙ map-filter message_of (λ e. not (is_stable stable e)) log.entries ∙ stands.holds;
            few = omega (arith, few, length-append ms (m ∷ []));
            handed_out = stands.handed_out;
          }

  -- an object's entries are those of the object in the log of messages
  pub of-object-is : (object : ObjectId) (log : Log) → IsLogOf keeps covers n me ms log → map message_of (filter (is_of object) log.entries) ≡ filter (is_on object) (kept_log keeps covers n me ms)
  of-object-is object log stands =
      ap (map message_of) (filter_agree (is_of object) (λ e. is_on object (message_of e)) (λ e. sym (and-true (is_of object e))) log.entries)
      ∙ map-filter message_of (is_on object) log.entries ∙ ap (filter (is_on object)) stands.holds

-- the first that is stable is taken out
pub keeps-stripping : (stable : List ℕ) (next : Option Entry) (old new : Log) → next ≡ find (is_stable_entry stable) old.entries
    → new ≡ with_entries old (without_first (is_stable_entry stable) old.entries) → KeepsStripping stable next old new
keeps-stripping stable next old new taken others keeps covers n me ms m stands = (
  subst (IsStripping keeps covers n me ms m stable) (sym others) (taken-is keeps covers n me ms m old stable stands),
  λ none. subst (IsLogOf keeps covers n me (ms ++ m ∷ [])) (sym others) (all-taken-is keeps covers n me ms m old stable stands (sym taken ∙ none)),
)
