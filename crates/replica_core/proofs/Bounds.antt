-- What a replica keeps is bounded by the numbers of its store.
use Rattle.std.proofs.Common.{ℕ, ◌+◌, ◌*◌, ◌<◌, ◌≤◌, not, IsTrue, List, length, map, sum, [], All, refl, ap, subst, mul-le-mul_right, arith}
use denote.Struct.Props.{props}
use Rattle.std.proofs.Math.Logic.{∥∥₁_elim}
use Rattle.std.proofs.lemmas.List.{get_or_default, length-map}
use Rattle.std.proofs.lemmas.List.Sums.{sum-map, sum_by-le}
use Rattle.std.proofs.lemmas.List.Filters.{length-filter_both}
use Rattle.op_base.specs.declared.message.Message.{Message}
use Rattle.causal_model.specs.Chapter.{is_chapter}
use Rattle.causal_model.specs.Covering.{store_keeps, store_covers}
use Rattle.causal_model.specs.Log.{message_of}
use Rattle.causal_model.specs.State.{State}
use Rattle.causal_model.specs.Stability.{carries_operation, unstable_of, noop_window}
use Rattle.causal_model.proofs.States.Early.{all_early_is_bounded}
use Rattle.causal_model.proofs.Delivery.Logs.{log_is_bounded}
use Rattle.causal_model.proofs.Delivery.Settling.{few_are_unstable}
use Rattle.causal_buffer.proofs.Kept.{most_is_small}
use Rattle.tag_window.specs.History.{held_message}
use Rattle.tag_window.specs.declared.held.Held.{Held}
use Rattle.replica_core.specs.Standing.{Fields, Standing}
use Rattle.replica_core.specs.Rules.{IsBounded, fields_of}
use Rattle.replica_core.specs.declared.replica.Replica.{Replica}
use Rattle.replica_core.proofs.Ranges.{AreNumbers-from_test}
use Rattle.replica_core.proofs.Stands.{chapter_of}

-- a member has at most the two windows' number of unstable messages
unstable_is_bounded : (n w me x : ℕ) (messages : List Message) → IsTrue (is_chapter n w me messages) → length (unstable_of n me messages x) ≤ w + noop_window n w
unstable_is_bounded n w me x messages chapter =
    let few = few_are_unstable n w me x messages chapter in
    omega (arith, few.0, few.1, length-filter_both (λ (m : Message). carries_operation m.op) (λ m. not (carries_operation m.op)) (λ m. refl) (unstable_of n me messages x))

module _ (f : Fields) (s : State) (stands : Standing f s) where
  log_of_bounded : length f.log.entries ≤ f.n * f.w
  log_of_bounded =
      let kept = log_is_bounded store_keeps store_covers f.n f.w f.me s.history.present.messages (chapter_of f s stands) in
      omega (arith, kept, ap length stands.log.holds, length-map f.log.entries message_of)

  early_of_bounded : length f.buffer.early ≤ f.n * (f.w + noop_window f.n f.w)
  early_of_bounded =
      let held : length s.early ≤ f.n * (f.w + noop_window f.n f.w)
      = subst (λ n. length s.early ≤ n * (f.w + noop_window n f.w)) stands.of_store
      (all_early_is_bounded s.history.present.n f.w f.limit s.history.present.me _ s.early stands.is_state.are_early) in
      omega (arith, held, ap length stands.buffer.early)

  held_of_bounded : sum (map length f.window.held) ≤ f.n * (f.w + noop_window f.n f.w)
  held_of_bounded =
      let most = f.w + noop_window f.n f.w in
      let each : All (λ held. length held ≤ most) f.window.held = λ k d l.
      let member : k < f.n = omega (arith, l, stands.window.entries) in
      let few = unstable_is_bounded f.n f.w f.me k s.history.present.messages (chapter_of f s stands) in
      omega (arith, few, ap length (stands.window.holds k member), length-map (unstable_of f.n f.me s.history.present.messages k) held_message, ap length (get_or_default f.window.held k d [] l)) in
      subst (λ n. sum (map length f.window.held) ≤ n * most) stands.window.entries (omega (arith, sum-map {X = List Held} length f.window.held, sum_by-le {X = List Held} length most f.window.held each))

  outbox_of_bounded : length f.outbox.messages ≤ f.w + noop_window f.n f.w
  outbox_of_bounded = omega (arith, unstable_is_bounded f.n f.w f.me f.me s.history.present.messages (chapter_of f s stands), ap (λ (o : _). length o.messages) stands.outbox)

pub is_bounded : (r : Replica) → IsBounded r
is_bounded r =
    let f = fields_of r in
    record {
      log = ∥∥₁_elim r.stands (search props) (λ x. log_of_bounded f x.0 x.1);
      early = ∥∥₁_elim r.stands (search props) (λ x. early_of_bounded f x.0 x.1);
      timestamps = ∥∥₁_elim r.stands (search props) (λ x. held_of_bounded f x.0 x.1);
      outbox = ∥∥₁_elim r.stands (search props) (λ x. outbox_of_bounded f x.0 x.1);
    }

-- in numbers
pub few_logged : (r : Replica) → length r.log.entries ≤ 1024
few_logged r =
    let numbers = AreNumbers-from_test r.me r.n r.w r.limit r.numbers in
    let less : r.n * r.w ≤ 16 * r.w = mul-le-mul_right r.w numbers.few in
    omega (arith, (is_bounded r).log, less, numbers.narrow)

pub few_early : (r : Replica) → length r.buffer.early ≤ 31760
few_early r =
    let numbers = AreNumbers-from_test r.me r.n r.w r.limit r.numbers in
    let most = r.w + noop_window r.n r.w in
    let less : r.n * most ≤ 16 * most = mul-le-mul_right most numbers.few in
    omega (arith, (is_bounded r).early, less, most_is_small r.n r.w numbers.some numbers.few numbers.narrow)
