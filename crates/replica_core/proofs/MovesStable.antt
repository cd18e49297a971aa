-- What is stable, while it is moved from the log into items and lists.
use Rattle.std.proofs.Common.{◌≡◌, ℕ, ◌+◌, ◌<◌, Bool, true, false, not, ◌&&◌, IsTrue, List, [], ◌∷◌, ◌++◌, length, All, if◌then◌else◌, refl, sym, ap, subst, ◌∙◌, length-append, arith}
use Rattle.std.specs.List.{filter}
use Rattle.std.proofs.lemmas.Bool.{and_parts, not-true, not_from_false}
use Rattle.std.proofs.lemmas.List.Elements.{All-append, All-cons, All-nil, All-filter, All-weaker, filter_passes}
use Rattle.std.proofs.lemmas.List.FromFn.{length-map-range_with_len}
use Rattle.std.proofs.lemmas.List.Filters.{length-filter_both}
use Rattle.op_base.specs.Timestamp.{covers}
use Rattle.op_base.specs.declared.message.Message.{Message}
use Rattle.op_base.specs.declared.tag.MessageId.{MessageId}
use Rattle.causal_model.specs.Log.{pruned_log, stripped_log, stripped_of, is_kept, is_covered_by, is_uncovered, kept_log}
use Rattle.causal_model.specs.Chapter.{is_chapter}
use Rattle.causal_model.specs.Covering.{store_keeps, store_covers}
use Rattle.causal_model.specs.History.{History, with_message}
use Rattle.causal_model.specs.Order.{happened_before}
use Rattle.causal_model.specs.Stability.{stable_count, stable_vector, is_stable}
use Rattle.causal_model.proofs.Events.Histories.{IsHistory-from_test}
use Rattle.causal_model.proofs.Cells.ItemMaps.{filter_all_of}
use Rattle.causal_model.proofs.Theory.Lists.{filter_none}
use Rattle.causal_model.proofs.Delivery.Logs.{kept_log-push}
use Rattle.causal_model.proofs.Delivery.Settling.{last_is_next}
use Rattle.polog.specs.Standing.{IsLogOf, IsLogged, KeepsStripped}
use Rattle.polog.specs.Value.{Log, without_stable, is_stable_entry}
use Rattle.stable_state.specs.Shelf.{Shelved}
use Rattle.stable_state.specs.Standing.{AreAbsorbed}
use Rattle.list_type.specs.Listed.{Listed, AreListsMoved}
use Rattle.replica_core.specs.Settling.{AreLogged, AreWaiting}

-- what is stripped leaves as many entries less
pub parted_entries : (stable : List ℕ) (log stripped : Log) → stripped ≡ without_stable log stable → length stripped.stripped + length stripped.entries ≡ length log.entries
parted_entries stable log stripped taken =
    let parted = length-filter_both (is_stable_entry stable) (λ e. not (is_stable_entry stable e)) (λ e. refl) log.entries in
    let gone : length stripped.stripped ≡ length (filter (is_stable_entry stable) log.entries) = ap (λ (l : Log). length l.stripped) taken in
    let stay : length stripped.entries ≡ length (filter (λ e. not (is_stable_entry stable e)) log.entries) = ap (λ (l : Log). length l.entries) taken in
    omega arith

-- ---- where nothing becomes stable

-- what holds of an item holds of the list that has it or nothing
one_if : {A : Type 0} (P : A → Type 0) (b : Bool) (x : A) → P x → All P (if b then x ∷ [] else [])
one_if P true x p = All-cons P x [] p (All-nil P)
one_if P false x p = All-nil P

module _ (n w me : ℕ) (messages : List Message) (m : Message) (chapter : IsTrue (is_chapter n w me (messages ++ m ∷ []))) where
  module _ (same : stable_vector n me (messages ++ m ∷ []) ≡ stable_vector n me messages) (unstable : is_stable (stable_vector n me (messages ++ m ∷ [])) m ≡ false) where
    -- where the stable counts stay and a message isn't stable, no entry is
    none_is_stable : All (λ e. is_stable (stable_vector n me (messages ++ m ∷ [])) e ≡ false) (pruned_log store_keeps store_covers n me messages m)
    none_is_stable =
        let stable = stable_vector n me messages in
        let Unstable : Message → Type 0 = λ e. is_stable (stable_vector n me (messages ++ m ∷ [])) e ≡ false in
        let kept : Message → Bool = λ e. is_kept store_keeps e.op && is_uncovered store_covers messages e && not (is_stable stable e) in
        let were : All Unstable (kept_log store_keeps store_covers n me messages) = All-weaker (λ e. kept e ≡ true) Unstable
        (λ e is. ap (λ counts. is_stable counts e) same ∙ not-true (is_stable stable e) (and_parts (is_kept store_keeps e.op && is_uncovered store_covers messages e) (not (is_stable stable e)) is).1)
        (kept_log store_keeps store_covers n me messages) (filter_passes kept messages) in
        All-append Unstable (filter (λ e. not (is_covered_by store_covers e.op m.op && happened_before e m)) (kept_log store_keeps store_covers n me messages)) (if is_kept store_keeps m.op then m ∷ [] else [])
        (All-filter (λ e. not (is_covered_by store_covers e.op m.op && happened_before e m)) Unstable (kept_log store_keeps store_covers n me messages) were)
        (one_if Unstable (is_kept store_keeps m.op) m unstable)

    -- so none is stripped
    pub none_is_stripped : stripped_log store_keeps store_covers n me messages m ≡ []
    none_is_stripped = filter_none (is_stable (stable_vector n me (messages ++ m ∷ []))) (pruned_log store_keeps store_covers n me messages m) none_is_stable

    -- and all are kept
    all_are_kept : kept_log store_keeps store_covers n me (messages ++ m ∷ []) ≡ pruned_log store_keeps store_covers n me messages m
    all_are_kept =
        let stable = stable_vector n me (messages ++ m ∷ []) in
        kept_log-push store_keeps store_covers n w me messages m chapter
        ∙ filter_all_of (λ e. not (is_stable stable e)) (pruned_log store_keeps store_covers n me messages m)
        (All-weaker (λ e. is_stable stable e ≡ false) (λ e. not (is_stable stable e) ≡ true) (λ e no. not_from_false (is_stable stable e) no) (pruned_log store_keeps store_covers n me messages m) none_is_stable)

    -- so a log that has the message is that of the messages with it
    pub logged_is_log : (log : Log) → IsLogged store_keeps store_covers n me messages m log → IsLogOf store_keeps store_covers n me (messages ++ m ∷ []) log
    logged_is_log log is =
        let few = is.few in
        record {
          of_store = is.of_store;
          holds = is.holds ∙ sym all_are_kept;
          few = omega (arith, length-append messages (m ∷ []));
          handed_out = is.handed_out;
        }

-- ---- where something may

module _ {w limit : ℕ} {h : History} {m : Message} {log : Log} {items : Shelved} {lists : Listed} {epoch : ℕ} {id : MessageId} {moved : Bool} {stable : List ℕ} (ready : AreLogged w limit h m log items lists epoch id moved stable) where
  -- the messages are a chapter, and the stable counts one number a member
  chapter_of : IsTrue (is_chapter h.present.n w h.present.me (h.present.messages ++ m ∷ []))
  chapter_of = (IsHistory-from_test w (with_message h m) ready.of_history).chapter

  length-stable : length stable ≡ h.present.n
  length-stable = ap length ready.counts ∙ length-map-range_with_len (stable_count h.present.n h.present.me (with_message h m).present.messages) 0 h.present.n

  pub stable_is_tag : length stable ≡ log.n
  stable_is_tag = length-stable ∙ sym ready.is_logged.of_store

  pub origin_is_within : id.origin < length stable
  origin_is_within =
      let origin : id.origin ≡ m.origin = ap (λ (i : MessageId). i.origin) ready.of_message in
      omega (arith, length-stable, (last_is_next h.present.n w h.present.me h.present.messages m chapter_of).1.member)

  -- where the counts stay and don't cover the id, log, items and lists are done
  module _ (unmoved : moved ≡ false) (covered : covers stable id ≡ false) where
    same_counts : stable_vector h.present.n h.present.me (with_message h m).present.messages ≡ stable_vector h.present.n h.present.me h.present.messages
    same_counts = sym ready.counts ∙ ready.stays unmoved

    is_unstable : is_stable (stable_vector h.present.n h.present.me (with_message h m).present.messages) m ≡ false
    is_unstable = (λ i. covers (sym ready.counts i) (sym ready.of_message i)) ∙ covered

    nothing_goes : stripped_of h m ≡ []
    nothing_goes = none_is_stripped h.present.n w h.present.me h.present.messages m chapter_of same_counts is_unstable

    pub all_are_absorbed_already : AreAbsorbed h m (length (stripped_of h m)) items
    all_are_absorbed_already = subst (λ es. AreAbsorbed h m (length es) items) (sym nothing_goes) ready.are_absorbed

    pub all_are_moved_already : AreListsMoved h m (length (stripped_of h m)) lists
    all_are_moved_already = subst (λ es. AreListsMoved h m (length es) lists) (sym nothing_goes) ready.are_lists

    pub is_log_already : IsLogOf store_keeps store_covers h.present.n h.present.me (with_message h m).present.messages log
    is_log_already = logged_is_log h.present.n w h.present.me h.present.messages m chapter_of same_counts is_unstable log ready.is_logged

  -- otherwise what is stripped waits
  pub are_waiting : {stripped : Log} → KeepsStripped stable log stripped → AreWaiting w limit h m 0 stripped items lists epoch
  are_waiting keeps = record {
    few = ready.few;
    of_history = ready.of_history;
    of_limit = ready.of_limit;
    is_stripped = keeps store_keeps store_covers h.present.n w h.present.me h.present.messages m chapter_of ready.counts ready.is_logged;
    are_absorbed = ready.are_absorbed;
    in_epoch = ready.in_epoch;
    are_lists = ready.are_lists;
  }
