-- What delays a replica: a member lags exactly where an own message is unstable, and it is another member.
use Rattle.std.proofs.Common.{◌≡◌, ◌≢◌, ℕ, zero, suc, ◌+◌, ◌-◌, ◌<◌, ◌≤◌, Bool, false, nat_lt, All, IsTrue, List, [], ◌∷◌, length, map, refl, sym, ap, subst, ◌∙◌, Some, None, arith}
use Rattle.std.specs.List.{range_with_len}
use Rattle.std.proofs.lemmas.Bool.{ltb-true, ltb-false, cond-true, eq-eqb}
use Rattle.std.proofs.lemmas.List.Elements.{All-head, All-tail, All-weaker}
use Rattle.std.proofs.lemmas.List.FromFn.{length-range_with_len, get_or-range_with_len}
use Rattle.op_base.specs.Message.{number}
use Rattle.op_base.specs.Timestamp.{entry}
use Rattle.op_base.specs.declared.message.Message.{Message}
use Rattle.causal_model.specs.Chapter.{is_chapter}
use Rattle.causal_model.specs.Counts.{members, count_of, counts}
use Rattle.causal_model.specs.Sending.{outbox_of}
use Rattle.causal_model.specs.Stability.{last_tag, known_vector, minimum, stable_count}
use Rattle.causal_model.proofs.Delivery.Counts.{entry-counts}
use Rattle.causal_model.proofs.Theory.Finds.{found, none_passes}
use Rattle.causal_model.proofs.Events.Histories.{IsHistory-from_test}
use Rattle.causal_model.proofs.Delivery.Numbered.{unstable_are_numbered}
use Rattle.world_model.specs.Laws.{NoneLagsIsAllStable, LaggingIsAnother}
use Rattle.world_model.specs.Showing.{lagging}
use Rattle.world_model.specs.World.{replica_of}

-- the least number is at least what each is
minimum_at_least : (f : ℕ → ℕ) (k : ℕ) (xs : List ℕ) → 0 < length xs → All (λ x. k ≤ f x) xs → k ≤ minimum (map f xs)
minimum_at_least f k [] some each = absurd (omega (arith, some))
minimum_at_least f k (x ∷ []) some each = All-head (λ y. k ≤ f y) x [] each
minimum_at_least f k (x ∷ y ∷ xs) some each =
    omega (arith, All-head (λ z. k ≤ f z) x (y ∷ xs) each, minimum_at_least f k (y ∷ xs) (omega arith) (All-tail (λ z. k ≤ f z) x (y ∷ xs) each))

-- the first of numbers that follow one another
first_number : (x : ℕ) (xs : List ℕ) (a count : ℕ) → x ∷ xs ≡ range_with_len a count → (x ≡ a) × (0 < count)
first_number x xs a zero e = cc
first_number x xs a (suc count) e = (cc, omega arith)

module _ (n w me : ℕ) (h : List Message) (l : me < n) (t : IsTrue (is_chapter n w me h)) where
  -- whether a member isn't known to have a message of me
  abbrev behind : Message → ℕ → Bool
  behind oldest q = nat_lt (entry (known_vector n me h q) me) (number oldest)

  -- the oldest unstable own message is the one behind the stable ones
  oldest_number : (oldest : Message) (others : List Message) → outbox_of n me h ≡ oldest ∷ others
      → (number oldest ≡ stable_count n me h me + 1) × (stable_count n me h me < count_of h me)
  oldest_number oldest others e =
      let k = stable_count n me h me in
      let first = first_number (number oldest) (map number others) (k + 1) (count_of h me - k) (ap (map number) (sym e) ∙ unstable_are_numbered n w me me h l t) in
      (first.0, omega (arith, first.1))

  -- where each member has it, it is stable
  none_behind : (ms : List Message) → outbox_of n me h ≡ ms → lagging n me h ms ≡ None → ms ≡ []
  none_behind [] e none = refl
  none_behind (oldest ∷ others) e none =
      let known : ℕ → ℕ = λ q. entry (known_vector n me h q) me in
      let each = All-weaker (λ q. behind oldest q ≡ false) (λ q. number oldest ≤ known q) (λ q passed. ltb-false (known q) (number oldest) passed) (members n) (none_passes (behind oldest) (members n) none) in
      let least = minimum_at_least known (number oldest) (members n) (omega (arith, l, length-range_with_len 0 n)) each in
      absurd (omega (arith, least, (oldest_number oldest others e).0))

  -- one that hasn't is another member
  one_behind : (q : ℕ) (ms : List Message) → outbox_of n me h ≡ ms → lagging n me h ms ≡ Some q → (q < n) × (q ≢ me)
  one_behind q [] e some = cc
  one_behind q (oldest ∷ others) e some =
      let is = found (behind oldest) (members n) q some in
      let at = is.0.0 in
      let within : at < n = omega (arith, is.0.1, length-range_with_len 0 n) in
      let low = ltb-true (entry (known_vector n me h q) me) (number oldest) is.1 in
      let numbered = oldest_number oldest others e in (
        omega (arith, within, is.0.2, get_or-range_with_len 0 n at q within),
        λ same.
            let own : known_vector n me h q ≡ counts n h = cond-true _ (counts n h) (last_tag n h q) (eq-eqb q me same) in
            omega (arith, low, numbered.0, numbered.1, ap (λ v. entry v me) own, entry-counts n h me l),
      )

pub none_lags_is_all_stable : NoneLagsIsAllStable
none_lags_is_all_stable world r is l =
    let s = replica_of world r in
    let p = s.history.present in
    let replica = is.replicas r l in
    let chapter = (IsHistory-from_test world.w s.history replica.is_state.is_history).chapter in
    let member : p.me < p.n = omega (arith, l, replica.of_store, replica.of_member) in (
      none_behind p.n world.w p.me p.messages member chapter (outbox_of p.n p.me p.messages) refl,
      λ e. subst (λ ms. lagging p.n p.me p.messages ms ≡ None) (sym e) refl,
    )

pub lagging_is_another : LaggingIsAnother
lagging_is_another world r q is l some =
    let s = replica_of world r in
    let p = s.history.present in
    let replica = is.replicas r l in
    let chapter = (IsHistory-from_test world.w s.history replica.is_state.is_history).chapter in
    let member : p.me < p.n = omega (arith, l, replica.of_store, replica.of_member) in
    let other = one_behind p.n world.w p.me p.messages member chapter q (outbox_of p.n p.me p.messages) refl some in
    (omega (arith, other.0, replica.of_store), λ same. other.1 (same ∙ sym replica.of_member))
