-- What one message more makes of each part of a replica, each by the part's own clause.
use Rattle.std.proofs.Common.{◌≡◌, ℕ, ◌+◌, ◌*◌, ◌^◌, ◌<◌, ◌≤◌, ◌==◌, Bool, true, false, IsTrue, List, [], ◌∷◌, ◌++◌, length, length-append, slice_set, All, if◌then◌else◌, sym, ap, ap₂, subst, ◌∙◌, arith}
use denote.Struct.Props.{props}
use Rattle.std.proofs.Math.Logic.{∥∥₁_elim}
use Rattle.std.proofs.lemmas.Bool.{eq-eqb, ne_eqb}
use Rattle.op_base.specs.Message.{fits}
use Rattle.op_base.specs.Timestamp.{entry}
use Rattle.op_base.specs.declared.message.Message.{Message}
use Rattle.causal_model.specs.Chapter.{is_chapter}
use Rattle.causal_model.specs.Covering.{store_keeps, store_covers}
use Rattle.causal_model.specs.History.{History, with_message}
use Rattle.causal_model.specs.State.{with_own, State, counted}
use Rattle.causal_model.specs.Sending.{outbox_of, is_noop_due}
use Rattle.causal_model.specs.Stability.{stable_vector, noop_window}
use Rattle.causal_model.specs.States.{IsState}
use Rattle.causal_model.proofs.Delivery.Chapters.{IsNext}
use Rattle.causal_model.proofs.Delivery.Counts.{counts-push}
use Rattle.causal_model.proofs.Events.Histories.{IsHistory-from_test}
use Rattle.causal_model.proofs.Delivery.Sends.{is_noop_due-push}
use Rattle.causal_model.proofs.Delivery.Settling.{last_is_next}
use Rattle.stability_matrix.specs.Rows.{Known}
use Rattle.stability_matrix.specs.Standing.{IsMatrixOf}
use Rattle.tag_window.specs.Window.{Window, held_of, IsNextNumber}
use Rattle.tag_window.specs.History.{IsWindowOf, IsWindowWith}
use Rattle.tag_window.proofs.Nexts.{next_has_room}
use Rattle.polog.specs.Value.{Log}
use Rattle.polog.specs.Standing.{IsLogOf}
use Rattle.stable_state.specs.Shelf.{Shelved}
use Rattle.outbox.specs.Sent.{Sent, ComesAfter, room_of}
use Rattle.outbox.specs.Standing.{IsBeforeDrop}
use Rattle.outbox.proofs.Drops.{drops_after}
use Rattle.outbox.proofs.Nexts.{next_is_pushed}
use Rattle.list_type.specs.Listed.{Listed, AreWithin}
use Rattle.replica_core.specs.Insertions.{insertions, element_room}
use Rattle.replica_core.specs.Settling.{AreOf, AreReady}
use Rattle.replica_core.specs.Standing.{Fields, Standing}
use Rattle.replica_core.specs.Steps.{KeepsMatrix, is_due_after, with_own_sent, with_own_in, left_unstable}
use Rattle.replica_core.proofs.KeptLists.{lists_of, depths_of}
use Rattle.replica_core.proofs.Stands.{member_of, within_more}
use Rattle.replica_core.proofs.Steps.{last_fits}

-- these are the stable counts of all messages that a matrix is of
abbrev pub TellsStable : Known → List ℕ → Type 0
TellsStable matrix stable = (n me : ℕ) (messages : List Message) → IsMatrixOf n me messages matrix → stable ≡ stable_vector n me messages

-- what a window's drop of what is stable says: where it had a message beside a member's unstable ones, it is of the unstable
-- ones after the message
abbrev pub DropsHeld : List ℕ → Window → Window → Type 0
DropsHeld stable old new = (n w me : ℕ) (messages : List Message) (m : Message) → me < n → IsTrue (is_chapter n w me (messages ++ m ∷ [])) → stable ≡ stable_vector n me (messages ++ m ∷ [])
    → IsWindowWith n w me messages m old → IsWindowOf n w me (messages ++ m ∷ []) new

-- fields stand for a state, and a message is its next
module _ (f : Fields) (s : State) (m : Message) (stands : Standing f s) (is : IsState f.w f.limit (with_own s m)) where
  chapter_with : IsTrue (is_chapter f.n f.w f.me (s.history.present.messages ++ m ∷ []))
  chapter_with = subst (λ n. IsTrue (is_chapter n f.w f.me (s.history.present.messages ++ m ∷ []))) stands.of_store
      (subst (λ me. IsTrue (is_chapter s.history.present.n f.w me (s.history.present.messages ++ m ∷ []))) stands.of_member (IsHistory-from_test f.w (with_message s.history m) is.is_history).chapter)

  next_with : IsNext f.n f.w f.me s.history.present.messages m
  next_with = (last_is_next f.n f.w f.me s.history.present.messages m chapter_with).1

  origin_of : m.origin < f.n
  origin_of = next_with.member

  length-tag_of : length m.tag ≡ f.n
  length-tag_of = next_with.entries

  fits_of : IsTrue (fits f.n m)
  fits_of = last_fits f.n f.w f.me s.history.present.messages m chapter_with

  -- counts
  counts_with : slice_set f.counts m.origin (entry m.tag m.origin) ≡ counted (with_message s.history m)
  counts_with = ap₂ (λ c k. slice_set c m.origin k) stands.counts next_with.counted ∙ sym (counts-push s.history.present.n s.history.present.messages m)

  -- whether a no-op is due
  due_with : is_due_after f.me f.due m ≡ is_noop_due f.me (s.history.present.messages ++ m ∷ [])
  due_with = ap (λ due. is_due_after f.me due m) stands.due ∙ sym (is_noop_due-push f.me s.history.present.messages m)

  -- the matrix, and its stable counts
  matrix_with : (new : Known) → KeepsMatrix m f.matrix new → IsMatrixOf f.n f.me (s.history.present.messages ++ m ∷ []) new
  matrix_with new keeps = keeps f.n f.w f.me s.history.present.messages chapter_with stands.matrix

  pub stable_with : (matrix : Known) (stable : List ℕ) → KeepsMatrix m f.matrix matrix → TellsStable matrix stable
      → stable ≡ stable_vector f.n f.me (s.history.present.messages ++ m ∷ [])
  stable_with matrix stable keeps tells = tells f.n f.me (s.history.present.messages ++ m ∷ []) (matrix_with matrix keeps)

  -- the window
  window_room_of : 1 ≤ f.w → length (held_of f.window m.origin) < f.window.w + noop_window (length f.window.held) f.window.w
  window_room_of wide =
      let held = length (held_of f.window m.origin) in
      let room = (next_has_room f.n f.w f.me s.history.present.messages m f.window (member_of f s stands) wide chapter_with stands.window).0 in
      subst (λ w. held < w + noop_window (length f.window.held) w) (sym stands.window.bound) (subst (λ n. held < f.w + noop_window n f.w) (sym stands.window.entries) room)

  window_next_of : 1 ≤ f.w → IsNextNumber m.origin (held_of f.window m.origin) m.tag
  window_next_of wide = (next_has_room f.n f.w f.me s.history.present.messages m f.window (member_of f s stands) wide chapter_with stands.window).1

  window_with : (pushed new : Window) (stable : List ℕ) → stable ≡ stable_vector f.n f.me (s.history.present.messages ++ m ∷ [])
      → (IsWindowOf f.n f.w f.me s.history.present.messages f.window → IsWindowWith f.n f.w f.me s.history.present.messages m pushed)
      → DropsHeld stable pushed new → IsWindowOf f.n f.w f.me (s.history.present.messages ++ m ∷ []) new
  window_with pushed new stable counts pushes drops = drops f.n f.w f.me s.history.present.messages m (member_of f s stands) chapter_with counts (pushes stands.window)

  -- the outbox
  outbox_room_of : 1 ≤ f.w → m.origin ≡ f.me → length f.outbox.messages < room_of f.outbox.n f.outbox.w
  outbox_room_of wide own =
      subst (λ (o : Sent). length o.messages < room_of o.n o.w) (sym stands.outbox)
      (next_is_pushed f.n f.w f.me s.history.present.messages m (member_of f s stands) wide chapter_with own).0

  outbox_next_of : 1 ≤ f.w → m.origin ≡ f.me → All (λ e. ComesAfter e m) f.outbox.messages
  outbox_next_of wide own =
      subst (λ (o : Sent). All (λ e. ComesAfter e m) o.messages) (sym stands.outbox)
      (next_is_pushed f.n f.w f.me s.history.present.messages m (member_of f s stands) wide chapter_with own).1

  outbox_before_drop : IsBeforeDrop f.n f.me s.history.present.messages m (with_own_sent f.me m f.outbox.messages)
  outbox_before_drop =
      let before = outbox_of f.n f.me s.history.present.messages in
      let pushed : (own : Bool) → (m.origin == f.me) ≡ own → with_own_sent f.me m f.outbox.messages ≡ (if own then before ++ m ∷ [] else before)
      = λ own e. ap₂ (λ (o : Sent) own. if own then o.messages ++ m ∷ [] else o.messages) stands.outbox e in
      (λ own. pushed true (eq-eqb m.origin f.me own), λ other. pushed false (ne_eqb m.origin f.me other))

  outbox_with : (pushed new : Sent) (stable : List ℕ) → stable ≡ stable_vector f.n f.me (s.history.present.messages ++ m ∷ [])
      → left_unstable stable pushed ≡ left_unstable stable (with_own_in f.matrix.me m f.outbox) → new ≡ left_unstable stable pushed
      → new ≡ record { n = f.n; w = f.w; messages = outbox_of f.n f.me (s.history.present.messages ++ m ∷ []) }
  outbox_with pushed new stable counts is_pushed is_new =
      let held : Sent = record { n = f.n; w = f.w; messages = with_own_sent f.me m f.outbox.messages } in
      let is_held : with_own_in f.matrix.me m f.outbox ≡ held = ap₂ (λ (o : Sent) me. record { n = o.n; w = o.w; messages = with_own_sent me m f.outbox.messages }) stands.outbox stands.matrix.of_me in
      let dropped : new ≡ left_unstable stable held = is_new ∙ is_pushed ∙ ap (left_unstable stable) is_held in
      let left : new.messages ≡ outbox_of f.n f.me (s.history.present.messages ++ m ∷ [])
      = drops_after stable held new (ap (λ (o : Sent). o.messages) dropped) f.w f.me s.history.present.messages m (member_of f s stands) chapter_with outbox_before_drop counts in
      dropped ∙ ap (λ messages. record { n = f.n; w = f.w; messages = messages }) (sym (ap (λ (o : Sent). o.messages) dropped) ∙ left)

  -- log, items and lists
  pub ready_with : 1 ≤ f.w → f.limit ≤ 1000000 → (moved : Bool) (stable : List ℕ) → (moved ≡ false → TellsStable f.matrix stable) → stable ≡ stable_vector f.n f.me (s.history.present.messages ++ m ∷ [])
      → AreReady f.w f.limit s.history f.log f.items f.lists f.epoch m moved stable
  ready_with wide few moved stable tells counts = record {
    wide = wide;
    few = few;
    of_history = is.is_history;
    of_limit = is.is_limited;
    in_epoch = sym stands.in_epoch;
    are_of = record {
      is_log = subst (λ n. IsLogOf store_keeps store_covers n s.history.present.me s.history.present.messages f.log) (sym stands.of_store)
          (subst (λ me. IsLogOf store_keeps store_covers f.n me s.history.present.messages f.log) (sym stands.of_member) stands.log);
      are_settled = stands.items;
      are_lists = lists_of f s stands;
    };
    room = stands.log_room ∙ ap (λ n. n * f.w) (sym stands.of_store);
    stays = λ unmoved. tells unmoved f.n f.me s.history.present.messages stands.matrix ∙ ap₂ (λ n me. stable_vector n me s.history.present.messages) (sym stands.of_store) (sym stands.of_member);
    counts = counts ∙ ap₂ (λ n me. stable_vector n me (s.history.present.messages ++ m ∷ [])) (sym stands.of_store) (sym stands.of_member);
  }

  -- all together
  standing_with : (counts : List ℕ) (matrix : Known) (window : Window) (log : Log) (items : Shelved) (lists : Listed) (outbox : Sent) (due : Bool)
      → counts ≡ slice_set f.counts m.origin (entry m.tag m.origin) → IsMatrixOf f.n f.me (s.history.present.messages ++ m ∷ []) matrix
      → IsWindowOf f.n f.w f.me (s.history.present.messages ++ m ∷ []) window → AreOf (with_message s.history m) log items lists → log.room ≡ f.log.room
      → length log.entries + length f.buffer.early ≤ items.spare → insertions f.buffer.early ≤ lists.spare
      → AreWithin (f.epoch * 2 ^ 24 + length s.history.present.messages + 1) lists
      → outbox ≡ record { n = f.n; w = f.w; messages = outbox_of f.n f.me (s.history.present.messages ++ m ∷ []) }
      → due ≡ is_due_after f.me f.due m
      → Standing (record f { counts = counts; matrix = matrix; window = window; log = log; items = items; lists = lists; outbox = outbox; due = due }) (with_own s m)
  standing_with counts matrix window log items lists outbox due is_counts of_matrix of_window of_parts room spare elements deep sent is_due = record {
    is_state = is;
    of_member = stands.of_member;
    of_store = stands.of_store;
    in_epoch = stands.in_epoch;
    counts = is_counts ∙ counts_with;
    matrix = of_matrix;
    window = of_window;
    buffer = record { members = stands.buffer.members; window = stands.buffer.window; early = stands.buffer.early };
    log = subst (λ n. IsLogOf store_keeps store_covers n f.me (s.history.present.messages ++ m ∷ []) log) stands.of_store
        (subst (λ me. IsLogOf store_keeps store_covers s.history.present.n me (s.history.present.messages ++ m ∷ []) log) stands.of_member of_parts.is_log);
    log_room = room ∙ stands.log_room;
    items = of_parts.are_settled;
    items_room = spare;
    lists =
        let messages = s.history.present.messages in
        ∣ (of_parts.are_lists, within_more (f.epoch * 2 ^ 24 + length messages + 1) (f.epoch * 2 ^ 24 + length (messages ++ m ∷ [])) lists (omega (arith, length-append messages (m ∷ []))) deep) ∣₁;
    lists_room = elements;
    outbox = sent;
    due = is_due ∙ due_with;
  }

-- All parts after the message, by their clauses: the fields stand for the state with it.
module _ (f : Fields) (m : Message) (wide : 1 ≤ f.w) (few : f.limit ≤ 1000000) (moved : Bool) (counts stable : List ℕ) (matrix : Known) (pushed window : Window) (held outbox : Sent) (log : Log) (items : Shelved) (lists : Listed) (due : Bool)
    (is_counts : counts ≡ slice_set f.counts m.origin (entry m.tag m.origin))
    (keeps : KeepsMatrix m f.matrix matrix) (told : moved ≡ false → TellsStable f.matrix stable) (tells : TellsStable matrix stable)
    (pushes : (messages : List Message) → IsWindowOf f.n f.w f.me messages f.window → IsWindowWith f.n f.w f.me messages m pushed) (drops : DropsHeld stable pushed window)
    (is_held : left_unstable stable held ≡ left_unstable stable (with_own_in f.matrix.me m f.outbox)) (is_outbox : outbox ≡ left_unstable stable held)
    (settles : (h : History) → AreReady f.w f.limit h f.log f.items f.lists f.epoch m moved stable → AreOf (with_message h m) log items lists) (room : log.room ≡ f.log.room)
    (had_room : length f.log.entries + length f.buffer.early + 1 ≤ f.items.spare) (spare : f.items.spare + length log.entries ≤ items.spare + (length f.log.entries + 1))
    (had_elements : insertions f.buffer.early + element_room m.op ≤ f.lists.spare) (elements : f.lists.spare ≤ lists.spare + element_room m.op) (deep : (most : ℕ) → AreWithin most f.lists → AreWithin (most + 1) lists)
    (is_due : due ≡ is_due_after f.me f.due m) where
  pub all_stand : (s : State) → Standing f s → IsState f.w f.limit (with_own s m)
      → Standing (record f { counts = counts; matrix = matrix; window = window; log = log; items = items; lists = lists; outbox = outbox; due = due }) (with_own s m)
  all_stand s stands is =
      let messages = s.history.present.messages in
      let after = stable_with f s m stands is matrix stable keeps tells in
      standing_with f s m stands is counts matrix window log items lists outbox due is_counts (matrix_with f s m stands is matrix keeps)
      (window_with f s m stands is pushed window stable after (pushes messages) drops) (settles s.history (ready_with f s m stands is wide few moved stable told after)) room (omega (arith, had_room, spare)) (omega (arith, had_elements, elements))
      (deep (f.epoch * 2 ^ 24 + length messages) (depths_of f s stands))
      (outbox_with f s m stands is held outbox stable after is_held is_outbox) is_due

-- what is true of the next message of fields that stand for some state, where it is a proposition
module _ (f : Fields) (m : Message) (next : ∥ ((s : State) × Standing f s × IsState f.w f.limit (with_own s m)) ∥₁) where
  pub origin_in : m.origin < f.n
  origin_in = ∥∥₁_elim next (search props) (λ x. origin_of f x.0 m x.1 x.2)

  pub length-tag_in : length m.tag ≡ f.n
  length-tag_in = ∥∥₁_elim next (search props) (λ x. length-tag_of f x.0 m x.1 x.2)

  pub window_room_in : 1 ≤ f.w → length (held_of f.window m.origin) < f.window.w + noop_window (length f.window.held) f.window.w
  window_room_in wide = ∥∥₁_elim next (search props) (λ x. window_room_of f x.0 m x.1 x.2 wide)

  pub outbox_n_in : f.outbox.n ≡ f.n
  outbox_n_in = ∥∥₁_elim next (search props) (λ x. ap (λ (o : Sent). o.n) x.1.outbox)

  pub window_next_in : 1 ≤ f.w → IsNextNumber m.origin (held_of f.window m.origin) m.tag
  window_next_in wide = ∥∥₁_elim next (hlevel props) (λ x. window_next_of f x.0 m x.1 x.2 wide)

  -- of an own message: the outbox has room for it
  pub outbox_room_in : 1 ≤ f.w → m.origin ≡ f.matrix.me → length f.outbox.messages < room_of f.outbox.n f.outbox.w
  outbox_room_in wide own = ∥∥₁_elim next (search props) (λ x. outbox_room_of f x.0 m x.1 x.2 wide (own ∙ x.1.matrix.of_me))

  pub outbox_fits_in : IsTrue (fits f.outbox.n m)
  outbox_fits_in = ∥∥₁_elim next (search props) (λ x. subst (λ (o : Sent). IsTrue (fits o.n m)) (sym x.1.outbox) (fits_of f x.0 m x.1 x.2))

  pub outbox_next_in : 1 ≤ f.w → m.origin ≡ f.matrix.me → All (λ e. ComesAfter e m) f.outbox.messages
  outbox_next_in wide own = ∥∥₁_elim next (hlevel props) (λ x. outbox_next_of f x.0 m x.1 x.2 wide (own ∙ x.1.matrix.of_me))
