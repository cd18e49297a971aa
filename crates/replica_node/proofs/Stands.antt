-- What is true of fields that stand for a state.
use Rattle.std.proofs.Common.{ℕ, ◌+◌, ◌*◌, ◌≤◌, ◌&&◌, nat_lt, IsTrue, length, ap, mul-le-mul_right, arith}
use Rattle.std.proofs.lemmas.Bool.{and_parts, leb-true}
use Rattle.causal_model.specs.State.{State, counted}
use Rattle.causal_model.specs.Stability.{noop_window}
use Rattle.causal_model.proofs.States.Early.{all_early_is_bounded}
use Rattle.causal_model.proofs.Events.Histories.{IsHistory-from_test}
use Rattle.replica_core.specs.Numbers.{is_from_to, are_numbers}
use Rattle.replica_core.specs.Standing.{Fields, Standing}

-- the window of a replica's numbers
pub narrow_by_test : (me n w limit : ℕ) → IsTrue (are_numbers me n w limit) → w ≤ 64
narrow_by_test me n w limit t =
    let three = and_parts (is_from_to 1 16 n && is_from_to 1 64 w && is_from_to 1 1000000 limit) (nat_lt me n) t in
    let two = and_parts (is_from_to 1 16 n && is_from_to 1 64 w) (is_from_to 1 1000000 limit) three.0 in
    leb-true w 64 (and_parts _ _ (and_parts _ _ two.0).1).1

-- all that can be early at once of one member
most_is_small : (n w : ℕ) → n ≤ 16 → w ≤ 64 → w + noop_window n w ≤ 1985
most_is_small n w few narrow = grind arith

-- there are few early messages
pub early_are_few : (f : Fields) (s : State) → Standing f s → f.w ≤ 64 → length f.buffer.early ≤ 32000
early_are_few f s stands narrow =
    let h = s.history.present in
    let all = all_early_is_bounded h.n f.w f.limit h.me (counted s.history) s.early stands.is_state.are_early in
    let few = (IsHistory-from_test f.w s.history stands.is_state.is_history).few in
    let most = f.w + noop_window h.n f.w in
    let less : h.n * most ≤ 16 * most = mul-le-mul_right most few in
    omega (arith, all, less, most_is_small h.n f.w few narrow, ap length stands.buffer.early)
