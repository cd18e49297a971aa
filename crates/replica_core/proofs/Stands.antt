-- What is true of fields that stand for a state.
use Rattle.std.proofs.Common.{◌≡◌, ℕ, ◌+◌, ◌*◌, ◌^◌, ◌<◌, ◌≤◌, IsTrue, All, List, [], length, refl, sym, ap, subst, ◌∙◌, mul-le-mul, arith}
use Rattle.std.proofs.lemmas.List.Elements.{All-nil, All-weaker}
use Rattle.std.proofs.lemmas.List.FromFn.{length-map-range_with_len}
use denote.Struct.Props.{props}
use Rattle.std.proofs.Math.Logic.{∥∥₁_elim, ∥∥₁_map}
use Rattle.op_base.specs.Timestamp.{entry}
use Rattle.op_base.specs.declared.message.Message.{Message}
use Rattle.op_base.specs.declared.name.Kind.TheVariants as kinds
use Rattle.op_base.specs.declared.name.ObjectId.{ObjectId}
use Rattle.causal_model.specs.Chapter.{is_chapter}
use Rattle.causal_model.specs.Counts.{count_of, counts, are_carried}
use Rattle.causal_model.specs.State.{State}
use Rattle.causal_model.specs.Stability.{known_vector}
use Rattle.causal_model.proofs.Delivery.Counts.{length-counts, entry-counts}
use Rattle.causal_model.specs.KeptElements.{KeptElement}
use Rattle.causal_model.proofs.Events.Histories.{IsHistory-from_test, IsLimited-from_test}
use Rattle.causal_model.proofs.Delivery.Lengths.{chapter_is_bounded}
use Rattle.stable_state.specs.Shelf.{Shelved}
use Rattle.causal_model.specs.States.{IsState}
use Rattle.causal_buffer.specs.Buffer.{Buffer, AreAhead, AreNear}
use Rattle.causal_buffer.specs.Standing.{IsBufferOf}
use Rattle.causal_buffer.proofs.Standing.{early_are_ahead, early_are_near}
use Rattle.list_type.specs.Listed.{Listed, AreWithin}
use Rattle.list_type.specs.Shown.{shown as lists_shown}
use Rattle.stable_state.specs.Shown.{shown}
use Rattle.stable_state.proofs.Moves.{same_are_settled}
use Rattle.replica_core.specs.Insertions.{insertions}
use Rattle.replica_core.specs.Standing.{Fields, Standing, StandsForSome}
use Rattle.replica_core.specs.Rules.{fields_of, StandsFor, SameSettings, Unchanged}
use Rattle.replica_core.specs.declared.replica.Replica.{Replica}
use Rattle.replica_core.proofs.KeptLists.{lists_of, depths_of}

-- lists none of whose elements stands deeper than so many have none that stands deeper than more
pub within_more : (few more : ℕ) (lists : Listed) → few ≤ more → AreWithin few lists → AreWithin more lists
within_more few more lists le within object is = All-weaker (λ e. e.depth ≤ few) (λ e. e.depth ≤ more) (λ e l. omega (arith, l, le)) (lists.kept object) (within object is)

-- where nothing is kept, no depth is too small
pub within_none : (most : ℕ) (lists : Listed) → ((object : ObjectId) → lists.kept object ≡ []) → AreWithin most lists
within_none most lists none object is = subst (All (λ e. e.depth ≤ most)) (sym (none object)) (All-nil (λ e. e.depth ≤ most))

-- so have lists with the same elements
pub within_same : (most : ℕ) (old new : Listed) → new.kept ≡ old.kept → AreWithin most old → AreWithin most new
within_same most old new same = subst (λ (kept : ObjectId → List KeptElement). (object : ObjectId) → object.kind ≡ kinds.List → All (λ e. e.depth ≤ most) (kept object)) (sym same)

module _ (f : Fields) (s : State) (stands : Standing f s) where
  pub member_of : f.me < f.n
  member_of = omega (arith, (IsHistory-from_test f.w s.history stands.is_state.is_history).member, stands.of_member, stands.of_store)

  -- the messages are a chapter of the member, and each can be carried
  pub chapter_of : IsTrue (is_chapter f.n f.w f.me s.history.present.messages)
  chapter_of = subst (λ n. IsTrue (is_chapter n f.w f.me s.history.present.messages)) stands.of_store
      (subst (λ me. IsTrue (is_chapter s.history.present.n f.w me s.history.present.messages)) stands.of_member (IsHistory-from_test f.w s.history stands.is_state.is_history).chapter)

  pub carried_of : IsTrue (are_carried f.limit s.history.present.messages)
  carried_of = (IsLimited-from_test f.limit s.history stands.is_state.is_limited).present

  pub counts_of : f.counts ≡ counts f.n s.history.present.messages
  counts_of = stands.counts ∙ ap (λ n. counts n s.history.present.messages) stands.of_store

  pub length-counts_of : length f.counts ≡ f.n
  length-counts_of = ap length counts_of ∙ length-counts f.n s.history.present.messages

  pub own_count_of : entry f.counts f.me ≡ count_of s.history.present.messages f.me
  own_count_of = ap (λ c. entry c f.me) counts_of ∙ entry-counts f.n s.history.present.messages f.me member_of

  pub length-rows_of : length f.matrix.rows ≡ f.n
  length-rows_of = ap length stands.matrix.known ∙ length-map-range_with_len (known_vector f.n f.me s.history.present.messages) 0 f.n

  pub length-held_of : length f.window.held ≡ f.n
  length-held_of = stands.window.entries

  pub buffer_n_of : f.buffer.n ≡ f.n
  buffer_n_of = stands.buffer.members ∙ stands.of_store

  -- an epoch has fewer messages than 2 ^ 24
  pub few_messages_of : f.limit ≤ 1000000 → length s.history.present.messages < 2 ^ 24
  few_messages_of few =
      let bounded = chapter_is_bounded f.n f.w f.me f.limit s.history.present.messages chapter_of carried_of in
      let members : f.n ≤ 16 = omega (arith, (IsHistory-from_test f.w s.history stands.is_state.is_history).few, stands.of_store) in
      let small : f.n * f.limit ≤ 16 * 1000000 = mul-le-mul members few in
      omega (arith, bounded, small)

  -- no element of a list stands too deep for its number
  pub within_of : f.limit ≤ 1000000 → AreWithin (2 ^ 63) f.lists
  within_of few =
      let early = (IsLimited-from_test f.limit s.history stands.is_state.is_limited).epochs in
      let deepest = f.epoch * 2 ^ 24 + length s.history.present.messages in
      within_more deepest (2 ^ 63) f.lists (omega (arith, early, stands.in_epoch, few_messages_of few)) (depths_of f s stands)

  -- With a buffer of other early messages, and other items and lists that are the same, they stand for the state with those,
  -- where items and lists have room for what then is early.
  with_parts : (early : List Message) (buffer : Buffer) (items : Shelved) (lists : Listed) → IsState f.w f.limit (record { history = s.history; early = early }) → IsBufferOf f.w (record { history = s.history; early = early }) buffer
      → items.items ≡ f.items.items → length f.log.entries + length buffer.early ≤ items.spare → lists.kept ≡ f.lists.kept → insertions buffer.early ≤ lists.spare
      → Standing (record f { buffer = buffer; items = items; lists = lists }) (record { history = s.history; early = early })
  with_parts early buffer items lists is of same room same_lists elements = record {
    is_state = is;
    of_member = stands.of_member;
    of_store = stands.of_store;
    in_epoch = stands.in_epoch;
    counts = stands.counts;
    matrix = stands.matrix;
    window = stands.window;
    buffer = of;
    log = stands.log;
    log_room = stands.log_room;
    items = same_are_settled s.history f.items items same stands.items;
    items_room = room;
    lists = ∣ (λ object is_list. ap (λ (kept : ObjectId → List KeptElement). kept object) same_lists ∙ lists_of f s stands object is_list, within_same (f.epoch * 2 ^ 24 + length s.history.present.messages) f.lists lists same_lists (depths_of f s stands)) ∣₁;
    lists_room = elements;
    outbox = stands.outbox;
    due = stands.due;
  }

  -- with more room for items and elements
  pub with_room : (items : Shelved) (lists : Listed) → items.items ≡ f.items.items → f.items.spare ≤ items.spare → lists.kept ≡ f.lists.kept → f.lists.spare ≤ lists.spare
      → Standing (record f { items = items; lists = lists }) s
  with_room items lists same more same_lists more_elements =
      with_parts s.early f.buffer items lists stands.is_state stands.buffer same (omega (arith, more, stands.items_room)) same_lists (omega (arith, more_elements, stands.lists_room))

  pub with_buffer : (early : List Message) (buffer : Buffer) → IsState f.w f.limit (record { history = s.history; early = early }) → IsBufferOf f.w (record { history = s.history; early = early }) buffer
      → length f.log.entries + length buffer.early ≤ f.items.spare → insertions buffer.early ≤ f.lists.spare → Standing (record f { buffer = buffer }) (record { history = s.history; early = early })
  with_buffer early buffer is of room = with_parts early buffer f.items f.lists is of refl room refl

-- what is true of fields that stand for some state, where it is a proposition
module _ (f : Fields) (some : ∥ StandsForSome f ∥₁) where
  pub member_in : f.me < f.n
  member_in = ∥∥₁_elim some (search props) (λ x. member_of f x.0 x.1)

  pub length-counts_in : length f.counts ≡ f.n
  length-counts_in = ∥∥₁_elim some (search props) (λ x. length-counts_of f x.0 x.1)

  pub length-rows_in : length f.matrix.rows ≡ f.n
  length-rows_in = ∥∥₁_elim some (search props) (λ x. length-rows_of f x.0 x.1)

  pub length-held_in : length f.window.held ≡ f.n
  length-held_in = ∥∥₁_elim some (search props) (λ x. length-held_of f x.0 x.1)

  pub of_me_in : f.matrix.me ≡ f.me
  of_me_in = ∥∥₁_elim some (search props) (λ x. x.1.matrix.of_me)

  pub buffer_n_in : f.buffer.n ≡ f.n
  buffer_n_in = ∥∥₁_elim some (search props) (λ x. buffer_n_of f x.0 x.1)

  pub ahead_in : AreAhead f.counts f.buffer.early
  ahead_in = λ k d l. ∥∥₁_elim some (search props) (λ x. early_are_ahead f.w f.limit f.counts x.0 f.buffer x.1.is_state x.1.buffer x.1.counts k d l)

  pub near_in : AreNear f.buffer.n f.buffer.w f.counts f.buffer.early
  near_in = λ k d l. ∥∥₁_elim some (search props) (λ x. early_are_near f.w f.limit f.counts x.0 f.buffer x.1.is_state x.1.buffer x.1.counts k d l)

  pub items_room_in : length f.log.entries + length f.buffer.early ≤ f.items.spare
  items_room_in = ∥∥₁_elim some (search props) (λ x. x.1.items_room)

  pub lists_room_in : insertions f.buffer.early ≤ f.lists.spare
  lists_room_in = ∥∥₁_elim some (search props) (λ x. x.1.lists_room)

  pub within_in : f.limit ≤ 1000000 → AreWithin (2 ^ 63) f.lists
  within_in few = ∥∥₁_elim some (hlevel props) (λ x. within_of f x.0 x.1 few)

  pub with_room_in : (items : Shelved) (lists : Listed) → items.items ≡ f.items.items → f.items.spare ≤ items.spare → lists.kept ≡ f.lists.kept → f.lists.spare ≤ lists.spare
      → ∥ StandsForSome (record f { items = items; lists = lists }) ∥₁
  with_room_in items lists same more same_lists more_elements = ∥∥₁_map some (λ x. (x.0, with_room f x.0 x.1 items lists same more same_lists more_elements))

-- a replica in which nothing changed stands for what it stood for
pub unchanged_stands : (old new : Replica) (s : State) → Unchanged old new → StandsFor old s → StandsFor new s
unchanged_stands old new s same stands =
    let items = shown new.items in
    let lists = lists_shown new.lists in
    let fields : fields_of new ≡ record (fields_of old) { items = items; lists = lists }
    = λ i. record { me = same.settings.me i; n = same.settings.n i; w = same.settings.w i; limit = same.settings.limit i; epoch = same.settings.epoch i; counts = same.counts i; matrix = same.matrix i; window = same.window i; buffer = same.buffer i; log = same.log i; items = items; lists = lists; outbox = same.outbox i; due = same.due i } in
    subst (λ f. Standing f s) (sym fields) (with_room (fields_of old) s stands items lists same.items same.spare same.lists same.lists_spare)

-- two replicas are of the same settings where each is of those of one between them
pub same_settings_after : (old now new : Replica) → SameSettings old now → SameSettings now new → SameSettings old new
same_settings_after old now new first next = record {
  me = next.me ∙ first.me;
  n = next.n ∙ first.n;
  w = next.w ∙ first.w;
  limit = next.limit ∙ first.limit;
  epoch = next.epoch ∙ first.epoch;
}

-- nothing changed where nothing did up to a replica on the way, and nothing after it
pub unchanged_after : (old now new : Replica) → Unchanged old now → Unchanged now new → Unchanged old new
unchanged_after old now new first next = record {
  settings = same_settings_after old now new first.settings next.settings;
  counts = next.counts ∙ first.counts;
  matrix = next.matrix ∙ first.matrix;
  window = next.window ∙ first.window;
  buffer = next.buffer ∙ first.buffer;
  log = next.log ∙ first.log;
  items = next.items ∙ first.items;
  spare = omega (arith, first.spare, next.spare);
  lists = next.lists ∙ first.lists;
  lists_spare = omega (arith, first.lists_spare, next.lists_spare);
  outbox = next.outbox ∙ first.outbox;
  due = next.due ∙ first.due;
}
