-- Log, items and lists, while a history's next message is put into them.
use Rattle.std.proofs.Common.{◌≡◌, ℕ, ◌+◌, ◌*◌, ◌^◌, ◌<◌, ◌≤◌, Bool, true, false, not, ◌&&◌, inl, inr, IsTrue, All, Some, None, List, [], ◌∷◌, ◌++◌, length, if◌then◌else◌, refl, sym, ap, subst, ◌∙◌, length-append, append-nil, mul-le-mul, arith}
use Rattle.std.specs.List.{filter}
use denote.Struct.Props.{props}
use Rattle.std.proofs.Math.Dec.{T_prop}
use Rattle.std.specs.Option.{is_some}
use Rattle.std.proofs.lemmas.Bool.{cond-true, cond-false, cases_Bool, false≢true}
use Rattle.std.proofs.lemmas.List.Filters.{length-filter_both}
use Rattle.op_base.specs.Message.{fits, id_of, number}
use Rattle.op_base.specs.declared.message.Entry.{Entry}
use Rattle.op_base.specs.declared.message.Message.{Message}
use Rattle.op_base.specs.declared.name.Kind.{Kind}
use Rattle.op_base.specs.declared.name.Kind.TheVariants.{AwSet, RwSet, EwFlag, DwFlag, MvReg, Counter, RCounter}
use Rattle.op_base.specs.declared.name.Kind.TheVariants as kinds
use Rattle.op_base.specs.declared.operation.Op.{Op}
use Rattle.op_base.specs.declared.operation.Op.TheVariants as op
use Rattle.op_base.specs.declared.operation.Update.{Update}
use Rattle.op_base.specs.declared.tag.MessageId.{MessageId}
use Rattle.causal_model.specs.Acts.{value_of}
use Rattle.causal_model.specs.CellSteps.{is_counter, cell_uncovered, cell_absorbed, cell_moved}
use Rattle.causal_model.specs.Elements.{same_element, element_of}
use Rattle.causal_model.specs.Laws.Events.{present_event}
use Rattle.causal_model.specs.Log.{stripped_of, is_kept, is_covered_by, kept_log}
use Rattle.causal_model.specs.Chapter.{is_chapter}
use Rattle.causal_model.specs.Covering.{store_keeps, store_covers}
use Rattle.causal_model.specs.History.{History, with_message}
use Rattle.causal_model.specs.Items.{cell_in}
use Rattle.causal_model.specs.Order.{happened_before}
use Rattle.causal_model.proofs.Events.Histories.{IsHistory-from_test, IsLimited-from_test}
use Rattle.causal_model.proofs.Lists.KeptOfOneMore.{new_id_is_fresh}
use Rattle.causal_model.proofs.Delivery.Lengths.{chapter_is_bounded}
use Rattle.causal_model.proofs.Cells.MovedCells.{counter_is_not_kept}
use Rattle.causal_model.proofs.Cells.MovedSums.{moved_sums_are_bounded}
use Rattle.causal_model.proofs.Delivery.Settling.{last_is_next}
use Rattle.polog.specs.Standing.{IsPruned, IsLogged}
use Rattle.polog.specs.Value.{Log, with_entry, without_covered, stays}
use Rattle.polog.proofs.Standing.{pruned-is, logged-is, has-room}
use Rattle.stable_state.specs.Laws.{HasRange}
use Rattle.stable_state.specs.Shelf.{Shelved}
use Rattle.stable_state.specs.Standing.{AreSettledOf, AreAbsorbed, AreMoved}
use Rattle.stable_state.proofs.Moves.{covered_is_absorbed, all_are_moved, not_applied, moved_at_once, sum_fits}
use Rattle.list_type.specs.Listed.{Listed, AreListsMoved, AreWithin}
use Rattle.list_type.specs.Putting.{IsFresh}
use Rattle.replica_core.specs.Insertions.{is_insertion, element_room, entry_put, CanBePut}
use Rattle.replica_core.specs.Settling.{AreReady, AreLogged, with_logged, applied_of, room_of, CanBeApplied}
use Rattle.replica_core.proofs.Steps.{last_fits}

-- ---- operations

-- what is no update is the no-op
pub is_noop : (o : Op) → ((u : Update) → o ≡ op.Update u → ⊥) → o ≡ op.NoOp
is_noop op.NoOp other = refl
is_noop (op.Update u) other = absurd (other u refl)

-- a no-op covers nothing
pub noop_covers_nothing : (h : History) (m : Message) (items : Shelved) → m.op ≡ op.NoOp → AreSettledOf h items → AreAbsorbed h m 0 items
noop_covers_nothing h m items is of = covered_is_absorbed h m items items of (λ object value. sym (ap (λ o. cell_uncovered object value o (cell_in items.items object value)) is))

-- what is counted alone is a counter
is_counter-true : (kind : Kind) → is_counter kind ≡ true → kind ≡ Counter
is_counter-true AwSet e = cc
is_counter-true RwSet e = cc
is_counter-true EwFlag e = cc
is_counter-true DwFlag e = cc
is_counter-true MvReg e = cc
is_counter-true Counter e = refl
is_counter-true RCounter e = cc
is_counter-true kinds.List e = cc

-- it is a proposition that an update can be put into items
pub range_is_prop : (items : Shelved) (u : Update) → IsProp (HasRange items u)
range_is_prop items u = hlevel (T_prop)

-- what is applied at once can be, where there is room and its sum fits
pub can_be_applied : (o : Op) (items : Shelved) → ((u : Update) → o ≡ op.Update u → u.object.kind ≡ Counter → HasRange items u) → room_of (applied_of o) ≤ items.spare → CanBeApplied (applied_of o) items
can_be_applied op.NoOp items range = λ room. tt
can_be_applied (op.Update u) items range = by (is_counter u.object.kind) refl where
  by : (counter : Bool) → is_counter u.object.kind ≡ counter → room_of (if counter then Some u else None) ≤ items.spare → CanBeApplied (if counter then Some u else None) items
  by true counts room = let kind = is_counter-true u.object.kind counts in (kind, room, range u refl kind)
  by false counts room = tt

-- what is applied is the update
pub is_applied : (o : Op) (u : Update) → applied_of o ≡ Some u → o ≡ op.Update u
is_applied op.NoOp u is = cc
is_applied (op.Update v) u is = by (is_counter v.object.kind) is where
  by : (counter : Bool) → (if counter then Some v else None) ≡ Some u → op.Update v ≡ op.Update u
  by true same = ap op.Update (let one : v ≡ u = cc in one)
  by false same = cc

-- and of an update that is applied at once it is what is applied
pub applied_is : (o : Op) (u : Update) → o ≡ op.Update u → is_some (applied_of o) ≡ true → applied_of o ≡ Some u
applied_is o u is some = subst (λ x. is_some (applied_of x) ≡ true → applied_of x ≡ Some u) (sym is) (by (is_counter u.object.kind)) some where
  by : (counter : Bool) → is_some (if counter then Some u else None) ≡ true → (if counter then Some u else None) ≡ Some u
  by true some = refl
  by false some = absurd (false≢true some)

-- what is applied is an update
pub noop_is_not_applied : (o : Op) → ((u : Update) → o ≡ op.Update u → ⊥) → is_some (applied_of o) ≡ true → ⊥
noop_is_not_applied op.NoOp none some = false≢true some
noop_is_not_applied (op.Update u) none some = none u refl

-- and where none is, all are moved once they are absorbed
pub none_is_applied : (h : History) (m : Message) (items : Shelved) → ((u : Update) → applied_of m.op ≡ Some u → ⊥) → AreAbsorbed h m (length (stripped_of h m)) items → AreMoved h m items
none_is_applied h m items none of = all_are_moved h m items of (not_applied m.op (λ u is kind. none u (ap applied_of is ∙ cond-true (is_counter u.object.kind) (Some u) None (ap is_counter kind))))

-- ---- an element that is put in

-- it can be put in where there is room for it and it is new
pub can_be_put : (epoch origin : ℕ) (tag : List ℕ) (o : Op) (lists : Listed) → ((u : Update) → IsFresh epoch (record { origin = origin; tag = tag; update = u }) lists) → AreWithin (2 ^ 63) lists → element_room o ≤ lists.spare
    → CanBePut epoch (entry_put origin tag o) lists
can_be_put epoch origin tag op.NoOp lists fresh deep = λ room. tt
can_be_put epoch origin tag (op.Update u) lists fresh deep = by (is_insertion (op.Update u)) where
  by : (puts : Bool) → (if puts then 1 else 0) ≤ lists.spare → CanBePut epoch (if puts then Some (record { origin = origin; tag = tag; update = u }) else None) lists
  by true room = (room, fresh u, deep)
  by false room = tt

-- so its entry can, where it is an insertion
pub entry_is_put : (epoch origin : ℕ) (tag : List ℕ) (o : Op) (u : Update) (lists : Listed) → o ≡ op.Update u → is_insertion o ≡ true → CanBePut epoch (entry_put origin tag o) lists
    → CanBePut epoch (Some (record { origin = origin; tag = tag; update = u })) lists
entry_is_put epoch origin tag o u lists is puts =
    subst (λ e. CanBePut epoch e lists) (ap (entry_put origin tag) is ∙ cond-true (is_insertion (op.Update u)) (Some (record { origin = origin; tag = tag; update = u })) None (ap is_insertion (sym is) ∙ puts))

-- it is a proposition that it is new
pub fresh_is_prop : (epoch : ℕ) (entry : Entry) (lists : Listed) → IsProp (IsFresh epoch entry lists)
fresh_is_prop epoch entry lists = hlevel props

-- ---- how many entries there are

-- an update goes to the log, or is applied, or neither
one_more_at_most : (keeps counter : Bool) (u : Update) (e : Entry) (log : Log) → (counter ≡ true → keeps ≡ false)
    → length (if keeps then with_entry log e else log).entries + room_of (if counter then Some u else None) ≤ length log.entries + 1
one_more_at_most true true u e log apart = let no : true ≡ false = apart refl in absurd (cc)
one_more_at_most true false u e log apart = omega (arith, length-append log.entries (e ∷ []))
one_more_at_most false true u e log apart = omega arith
one_more_at_most false false u e log apart = omega arith

-- so a log with a message's update, and what is applied of the message, is no more than one more
logged_is_one_more : (origin : ℕ) (tag : List ℕ) (o : Op) (log : Log) → length (with_logged origin tag o log).entries + room_of (applied_of o) ≤ length log.entries + 1
logged_is_one_more origin tag op.NoOp log = omega arith
logged_is_one_more origin tag (op.Update u) log =
    one_more_at_most (store_keeps u) (is_counter u.object.kind) u (record { origin = origin; tag = tag; update = u }) log (λ counter. counter_is_not_kept u (is_counter-true u.object.kind counter))

-- of a log that was pruned and a message, no more is logged and applied than came
pub no_more_than_came : (m : Message) (old logged : Log) → logged ≡ with_logged m.origin m.tag m.op (without_covered old store_covers m)
    → length logged.entries + room_of (applied_of m.op) ≤ length old.entries + 1
no_more_than_came m old logged put =
    let passes = stays store_covers m in
    let pruned = without_covered old store_covers m in
    let few = length-filter_both passes (λ e. not (passes e)) (λ e. refl) old.entries in
    let more = logged_is_one_more m.origin m.tag m.op pruned in
    let all : length logged.entries ≡ length (with_logged m.origin m.tag m.op pruned).entries = ap (λ (l : Log). length l.entries) put in
    omega arith

-- ---- the log

module _ (n me : ℕ) (messages : List Message) where
  -- a message that isn't kept leaves the pruned log
  unkept_is_logged : (m : Message) (log : Log) → is_kept store_keeps m.op ≡ false → IsPruned store_keeps store_covers n me messages m log → IsLogged store_keeps store_covers n me messages m log
  unkept_is_logged m log unkept is =
      let few = is.few in
      record {
        of_store = is.of_store;
        holds = is.holds ∙ sym (ap (λ kept. filter (λ e. not (is_covered_by store_covers e.op m.op && happened_before e m)) (kept_log store_keeps store_covers n me messages) ++ kept) (cond-false (is_kept store_keeps m.op) (m ∷ []) [] unkept) ∙ append-nil _);
        few = omega arith;
        handed_out = is.handed_out;
      }

  -- a pruned log, with the message where its kind is logged
  pub with_logged_is : (origin : ℕ) (tag : List ℕ) (o : Op) (log : Log) → IsPruned store_keeps store_covers n me messages (record { origin = origin; tag = tag; op = o }) log
      → IsLogged store_keeps store_covers n me messages (record { origin = origin; tag = tag; op = o }) (with_logged origin tag o log)
  with_logged_is origin tag op.NoOp log is = unkept_is_logged _ log refl is
  with_logged_is origin tag (op.Update u) log is =
      let m : Message = record { origin = origin; tag = tag; op = op.Update u } in
      let e : Entry = record { origin = origin; tag = tag; update = u } in
      elim (cases_Bool (store_keeps u)) [
        | inl kept ↦ subst (IsLogged store_keeps store_covers n me messages m) (sym (cond-true (store_keeps u) (with_entry log e) log kept)) (logged-is store_keeps store_covers n me messages m log e refl kept is)
        | inr unkept ↦ subst (IsLogged store_keeps store_covers n me messages m) (sym (cond-false (store_keeps u) (with_entry log e) log unkept)) (unkept_is_logged m log unkept is)
      ]

-- ---- what the calls ask for

module _ {w limit : ℕ} {h : History} {log : Log} {items : Shelved} {lists : Listed} {epoch : ℕ} {m : Message} {moved : Bool} {stable : List ℕ} (ready : AreReady w limit h log items lists epoch m moved stable) where
  -- the messages are a chapter with the next one, which fits the store
  chapter_of : IsTrue (is_chapter h.present.n w h.present.me (h.present.messages ++ m ∷ []))
  chapter_of = (IsHistory-from_test w (with_message h m) ready.of_history).chapter

  next_fits : IsTrue (fits h.present.n m)
  next_fits = last_fits h.present.n w h.present.me h.present.messages m chapter_of

  pub origin_of : m.origin < length m.tag
  origin_of =
      let next = (last_is_next h.present.n w h.present.me h.present.messages m chapter_of).1 in
      omega (arith, next.member, next.entries)

  pub fits_of : IsTrue (fits log.n m)
  fits_of = subst (λ n. IsTrue (fits n m)) (sym ready.are_of.is_log.of_store) next_fits

  -- the log, step by step
  pub pruned_of : IsPruned store_keeps store_covers h.present.n h.present.me h.present.messages m (without_covered log store_covers m)
  pruned_of = pruned-is store_keeps store_covers h.present.n h.present.me h.present.messages m log ready.are_of.is_log

  pub logged_of : {pruned logged : Log} → IsPruned store_keeps store_covers h.present.n h.present.me h.present.messages m pruned → logged ≡ with_logged m.origin m.tag m.op pruned
      → IsLogged store_keeps store_covers h.present.n h.present.me h.present.messages m logged
  logged_of is put = subst (IsLogged store_keeps store_covers h.present.n h.present.me h.present.messages m) (sym put) (with_logged_is h.present.n h.present.me h.present.messages m.origin m.tag m.op _ is)

  -- the pruned log can take the message in
  module _ {pruned : Log} (is : IsPruned store_keeps store_covers h.present.n h.present.me h.present.messages m pruned) where
    pub pruned_has_room : pruned.room ≡ log.room → IsTrue (is_kept store_keeps m.op) → length pruned.entries < pruned.room
    pruned_has_room same kept =
        has-room store_keeps store_covers h.present.n h.present.me h.present.messages w m pruned (IsHistory-from_test w (with_message h m) ready.of_history).member ready.wide chapter_of kept is (same ∙ ready.room)

    pub pruned_is_numbered : pruned.pushed + 1 < 2 ^ 64
    pruned_is_numbered =
        let numbers = IsHistory-from_test w (with_message h m) ready.of_history in
        let carried = (IsLimited-from_test limit (with_message h m) ready.of_limit).present in
        let bounded = chapter_is_bounded h.present.n w h.present.me limit (h.present.messages ++ m ∷ []) chapter_of carried in
        let small : h.present.n * limit ≤ 16 * 1000000 = mul-le-mul numbers.few ready.few in
        let few = is.few in
        omega (arith, length-append h.present.messages (m ∷ []))

  -- what is stable can be moved once the message is logged
  pub are_logged : {logged : Log} {covered : Shelved} {put : Listed} → IsLogged store_keeps store_covers h.present.n h.present.me h.present.messages m logged → AreAbsorbed h m 0 covered → AreListsMoved h m 0 put
      → (id : MessageId) → id ≡ id_of m → AreLogged w limit h m logged covered put epoch id moved stable
  are_logged is absorbed lists_put id same = record {
    few = ready.few;
    of_history = ready.of_history;
    of_limit = ready.of_limit;
    is_logged = is;
    are_absorbed = absorbed;
    in_epoch = ready.in_epoch;
    are_lists = lists_put;
    of_message = same;
    stays = ready.stays;
    counts = ready.counts;
  }

  -- no element has the id of the one that the message puts in
  pub fresh_of : (u : Update) → IsFresh epoch (record { origin = m.origin; tag = m.tag; update = u }) lists
  fresh_of u object is_list =
      subst (λ k. All (λ e. same_element e.id (record { epoch = k; origin = m.origin; seq = number m }) ≡ false) (lists.kept object)) (sym ready.in_epoch)
      (subst (All (λ e. same_element e.id (element_of (present_event h m)) ≡ false)) (sym (ready.are_of.are_lists object is_list)) (new_id_is_fresh w h m object ready.of_history))

  -- the sum of what is applied at once fits
  pub applied_has_range : (u : Update) (absorbed : Shelved) → m.op ≡ op.Update u → u.object.kind ≡ Counter → AreAbsorbed h m (length (stripped_of h m)) absorbed → HasRange absorbed u
  applied_has_range u absorbed is kind of =
      let object = u.object in
      let value = value_of u.act in
      sum_fits absorbed.items u (cell_absorbed h m (length (stripped_of h m)) object value) (of.cells object value) (cell_moved h m object value) (moved_at_once h m object value u is kind)
      (moved_sums_are_bounded w limit h m object value ready.of_history ready.of_limit ready.few).1
