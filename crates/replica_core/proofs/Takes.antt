-- The next early message of a state: how it is taken out of the buffer of fields that stand for the state, and what becomes of it.
use Rattle.std.proofs.Common.{◌≡◌, ◌≢◌, ℕ, ◌+◌, ◌<◌, ◌≤◌, Bool, true, false, not, ◌&&◌, ◌==◌, nat_lt, IsTrue, List, [], ◌∷◌, ◌++◌, length, refl, sym, ap, ap₂, subst, ◌∙◌, Option, Some, None, Result, Ok, Err, if◌then◌else◌, arith}
use Rattle.std.proofs.lemmas.Bool.{and_parts, eqb-true, ne_eqb}
use Rattle.std.specs.List.{Contains}
use Rattle.std.proofs.lemmas.List.FromFn.{length-map-range_with_len}
use Rattle.std.proofs.lemmas.List.Elements.{All-contains, All-filter}
use Rattle.std.proofs.lemmas.List.Filters.{length-filter_both}
use Rattle.std.proofs.lemmas.List.Kept.{AllPairs-filter}
use denote.Struct.Props.{props}
use Rattle.std.proofs.Math.Logic.{∥∥₁_elim, ∥∥₁_map}
use Rattle.op_base.specs.Message.{number, fits, id_of}
use Rattle.op_base.specs.declared.message.Message.{Message}
use Rattle.op_base.specs.declared.outcome.Crook.{Crook}
use Rattle.op_base.specs.declared.outcome.Step.TheVariants as step
use Rattle.op_base.specs.declared.tag.MessageId.{MessageId}
use Rattle.causal_model.specs.Chapter.{is_chapter}
use Rattle.causal_model.specs.Counts.{counts, is_deliverable, is_carried}
use Rattle.causal_model.specs.Crook.{crook_of}
use Rattle.causal_model.specs.History.{with_messages}
use Rattle.causal_model.specs.State.{with_own, State, counted}
use Rattle.causal_model.specs.Receiving.{next_of, next_early, is_old, is_far, crook_after, step_of, messages_with, state_with}
use Rattle.causal_model.specs.Early.{has_id, without}
use Rattle.causal_model.specs.Stability.{last_tag, known_vector, stable_count, stable_vector}
use Rattle.causal_model.specs.States.{IsState}
use Rattle.causal_model.proofs.States.Early.{StandsBefore, IsNew-from_test, fits_member}
use Rattle.causal_model.proofs.Theory.Finds.{found, fewer_pass}
use Rattle.causal_model.proofs.States.States.{step_keeps_state}
use Rattle.causal_model.proofs.States.Steps.{has_own_id}
use Rattle.stability_matrix.specs.Standing.{IsMatrixOf, StableAfter}
use Rattle.tag_window.specs.Check.{verdict}
use Rattle.tag_window.specs.History.{IsWindowOf}
use Rattle.causal_buffer.specs.Buffer.{Buffer, with_messages as with_early_messages}
use Rattle.replica_core.specs.Rules.{StandsFor, fields_of}
use Rattle.replica_core.specs.Insertions.{insertions, element_room}
use Rattle.replica_core.specs.Standing.{Fields, Standing, StandsForSome}
use Rattle.replica_core.specs.Steps.{state_without, IsNextOf, IsStepOf}
use Rattle.replica_core.specs.declared.replica.Replica.{Replica}
use Rattle.replica_core.proofs.Insertions.{insertions_without, taken_insertion}
use Rattle.replica_core.proofs.Stands.{member_of, chapter_of, with_buffer}

without_is_state : (w limit : ℕ) (id : MessageId) (s : State) → IsState w limit s → IsState w limit (state_without id s)
without_is_state w limit id s is =
    let n = s.history.present.n in
    let me = s.history.present.me in
    let stays = λ (m : Message). not (has_id id m) in
    record {
      is_history = is.is_history;
      is_limited = is.is_limited;
      are_early = record {
        rise = AllPairs-filter StandsBefore stays s.early is.are_early.rise;
        fit = All-filter stays (λ m. IsTrue (fits n m)) s.early is.are_early.fit;
        carried = All-filter stays (λ m. IsTrue (is_carried limit m)) s.early is.are_early.carried;
        new = All-filter stays (λ m. is_old me (counted s.history) m ≡ false) s.early is.are_early.new;
        near = All-filter stays (λ m. is_far n w me (counted s.history) m ≡ false) s.early is.are_early.near;
      };
    }

fits_entries : (n : ℕ) (m : Message) → IsTrue (fits n m) → length m.tag ≡ n
fits_entries n m t =
    let formed = and_parts (length m.tag == n && nat_lt m.origin n) (nat_lt 0 (number m)) t in
    eqb-true (length m.tag) n (and_parts (length m.tag == n) (nat_lt m.origin n) formed.0).0

-- the verdict on a message is whether and why it is crooked
pub not_crooked : (o : Option Crook) (u : Unit {0}) → Ok u ≡ verdict o → o ≡ None
not_crooked None u e = refl
not_crooked (Some crook) u e = cc

pub is_crooked : (o : Option Crook) (crook : Crook) → Err crook ≡ verdict o → o ≡ Some crook
is_crooked None crook e = cc
is_crooked (Some other) crook e = cc

-- ---- the next early message is taken out

module _ (f : Fields) (s : State) (stands : Standing f s) where
  -- without the early message of an id the fields stand for the state without it
  pub without_stands : (id : MessageId) (buffer : Buffer) → buffer ≡ with_early_messages f.buffer (without id f.buffer.early) → Standing (record f { buffer = buffer }) (state_without id s)
  without_stands id buffer is =
      with_buffer f s stands (without id s.early) buffer (without_is_state f.w f.limit id s stands.is_state) (record {
        members = ap (λ (b : Buffer). b.n) is ∙ stands.buffer.members;
        window = ap (λ (b : Buffer). b.w) is ∙ stands.buffer.window;
        early = ap (λ (b : Buffer). b.early) is ∙ ap (without id) stands.buffer.early;
      })
      (omega (arith, stands.items_room, ap (λ (b : Buffer). length b.early) is, length-filter_both (λ m. not (has_id id m)) (λ m. not (not (has_id id m))) (λ m. refl) f.buffer.early))
      (omega (arith, stands.lists_room, ap (λ (b : Buffer). insertions b.early) is, insertions_without id f.buffer.early))

  -- what is taken next is the next of the state
  pub taken_is_next : (m : Message) → Some m ≡ next_of s → (new : Replica) (buffer : Buffer) → buffer ≡ with_early_messages f.buffer (without (id_of m) f.buffer.early) → fields_of new ≡ record f { buffer = buffer } → IsNextOf new m s
  taken_is_next m next new buffer left is = record {
    is_state = subst (λ (g : Fields). IsState g.w g.limit s) (sym is) stands.is_state;
    next = sym next;
    left = subst (λ g. Standing g (state_without (id_of m) s)) (sym is) (without_stands (id_of m) buffer left);
  }

-- so they stand for some state whether one was taken or not
pub taken_or_not_in : (f : Fields) (some : ∥ StandsForSome f ∥₁) (taken : Bool) (id : MessageId) (buffer : Buffer) → buffer ≡ (if taken then with_early_messages f.buffer (without id f.buffer.early) else f.buffer)
    → ∥ StandsForSome (record f { buffer = buffer }) ∥₁
taken_or_not_in f some true id buffer left = ∥∥₁_map some (λ x. (state_without id x.0, without_stands f x.0 x.1 id buffer left))
taken_or_not_in f some false id buffer same = subst (λ b. ∥ StandsForSome (record f { buffer = b }) ∥₁) (sym same) some

-- there are fewer then, and it puts in no more than one element, of those that there is room for
module _ (n : ℕ) (counted : List ℕ) (early : List Message) (m : Message) (next : Some m ≡ next_early n counted early) where
  pub fewer_are_left : length (without (id_of m) early) < length early
  fewer_are_left = fewer_pass (λ (y : Message). not (has_id (id_of m) y)) early m (found (is_deliverable n counted) early m (sym next)).0 (ap not (has_own_id m))

  pub elements_are_left : insertions (without (id_of m) early) + element_room m.op ≤ insertions early
  elements_are_left = taken_insertion (id_of m) early m (found (is_deliverable n counted) early m (sym next)).0 (has_own_id m)

absurd_is_alone : (a b : ⊥) → a ≡ b
absurd_is_alone a b = absurd a

-- ---- the next message of a state, which is early no more

module _ (r : Replica) (m : Message) (s : State) (is : IsNextOf r m s) where
  is_found : Contains s.early m × IsTrue (is_deliverable s.history.present.n (counted s.history) m)
  is_found = found (is_deliverable s.history.present.n (counted s.history)) s.early m is.next

  next_fits : IsTrue (fits r.n m)
  next_fits = subst (λ n. IsTrue (fits n m)) is.left.of_store (All-contains (λ y. IsTrue (fits s.history.present.n y)) s.early m is.is_state.are_early.fit is_found.0)

  next_is_of_other : m.origin ≢ r.me
  next_is_of_other =
      subst (λ me. m.origin ≢ me) is.left.of_member
      (IsNew-from_test s.history.present.me (counted s.history) m (All-contains (λ y. is_old s.history.present.me (counted s.history) y ≡ false) s.early m is.is_state.are_early.new is_found.0)).other

  next_is_deliverable : IsTrue (is_deliverable r.n (counts r.n s.history.present.messages) m)
  next_is_deliverable = subst (λ n. IsTrue (is_deliverable n (counts n s.history.present.messages) m)) is.left.of_store is_found.1

  -- the stable counts after the message
  stable_is : (stable : List ℕ) → StableAfter m.origin m.tag r.matrix stable → stable ≡ stable_vector r.n r.me (s.history.present.messages ++ m ∷ [])
  stable_is stable after = after r.n r.me s.history.present.messages m is.left.matrix (record { of_origin = refl; with_tag = refl; deliverable = next_is_deliverable })

  length-stable_after : (stable : List ℕ) → StableAfter m.origin m.tag r.matrix stable → length stable ≡ r.n
  length-stable_after stable after = ap length (stable_is stable after) ∙ length-map-range_with_len (stable_count r.n r.me (s.history.present.messages ++ m ∷ [])) 0 r.n

  -- what a check with the sender's last timestamp and the stable counts after the message tells
  pub check_tells : (result : Result (Unit {0}) Crook) (last stable : List ℕ)
      → ((n me : ℕ) (messages : List Message) → IsMatrixOf n me messages r.matrix → last ≡ known_vector n me messages m.origin) → StableAfter m.origin m.tag r.matrix stable
      → ((n w me : ℕ) (ms : List Message) → me < n → IsTrue (is_chapter n w me ms) → IsWindowOf n w me ms r.window → IsTrue (is_deliverable n (counts n ms) m) → m.origin ≢ me → last ≡ last_tag n ms m.origin
      → stable ≡ stable_vector n me (ms ++ m ∷ []) → result ≡ verdict (crook_of n w me ms m))
      → result ≡ verdict (crook_after r.w s.history m)
  check_tells result last stable row after told =
      let f = fields_of r in
      let messages = s.history.present.messages in
      let from_row : last ≡ last_tag r.n messages m.origin
      = row r.n r.me messages is.left.matrix ∙ ap (λ own. if own then counts r.n messages else last_tag r.n messages m.origin) (ne_eqb m.origin r.me next_is_of_other) in
      told r.n r.w r.me messages (member_of f (state_without (id_of m) s) is.left) (chapter_of f (state_without (id_of m) s) is.left) is.left.window next_is_deliverable next_is_of_other from_row
      (stable_is stable after)
      ∙ ap₂ (λ n me. verdict (crook_of n r.w me messages m)) (sym is.left.of_store) (sym is.left.of_member)

  -- where it isn't crooked it is delivered
  module _ (right : crook_after r.w s.history m ≡ None) where
    delivered : with_own (state_without (id_of m) s) m ≡ state_with r.w s m
    delivered = ap (λ o. record { history = with_messages s.history (messages_with s.history.present.messages m o); early = without (id_of m) s.early }) (sym right)

    pub delivered_is_state : IsState r.w r.limit (with_own (state_without (id_of m) s) m)
    delivered_is_state = subst (IsState r.w r.limit) (sym delivered) (step_keeps_state r.w r.limit s m is.is_state is.next)

    pub is_step_of_delivered : (new : Replica) → StandsFor new (with_own (state_without (id_of m) s) m) → IsStepOf r.w s (step.Took (id_of m)) new
    is_step_of_delivered new stays = record {
      message = m;
      next = is.next;
      is = ap (step_of m) (sym right);
      stands = subst (StandsFor new) delivered stays;
    }

  -- and dropped where it is
  pub is_step_of_dropped : (crook : Crook) → crook_after r.w s.history m ≡ Some crook → IsStepOf r.w s (step.Crook (id_of m) crook) r
  is_step_of_dropped crook wrong = record {
    message = m;
    next = is.next;
    is = ap (step_of m) (sym wrong);
    stands = subst (StandsFor r) (ap (λ o. record { history = with_messages s.history (messages_with s.history.present.messages m o); early = without (id_of m) s.early }) (sym wrong)) is.left;
  }

-- what is true of it, where it is the next of some state, and what is true is a proposition
module _ (r : Replica) (m : Message) (some : ∥ ((s : State) × IsNextOf r m s) ∥₁) where
  pub next_fits_in : IsTrue (fits r.n m)
  next_fits_in = ∥∥₁_elim some (search props) (λ x. next_fits r m x.0 x.1)

  pub next_entries_in : length m.tag ≡ r.n
  next_entries_in = fits_entries r.n m next_fits_in

  pub next_member_in : m.origin < r.n
  next_member_in = fits_member r.n m next_fits_in

  pub next_is_of_other_in : m.origin ≢ r.me
  next_is_of_other_in own = ∥∥₁_elim {P = ⊥} some absurd_is_alone (λ (x : (s : State) × IsNextOf r m s). next_is_of_other r m x.0 x.1 own)

  pub length-stable_in : (stable : List ℕ) → StableAfter m.origin m.tag r.matrix stable → length stable ≡ r.n
  length-stable_in stable after = ∥∥₁_elim some (search props) (λ x. length-stable_after r m x.0 x.1 stable after)
