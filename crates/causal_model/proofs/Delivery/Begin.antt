-- What is computed of no message.
use Rattle.std.proofs.Common.{◌≡◌, ℕ, ◌<◌, true, false, ◌==◌, [], map, refl, sym, subst, ◌∙◌, if◌then◌else◌, arith}
use Rattle.std.proofs.lemmas.Grind.{same_number_lists}
use Rattle.std.proofs.lemmas.List.{get_or-replicate, length-replicate}
use Rattle.std.proofs.lemmas.List.FromFn.{length-map-range_with_len, get_or-map-range_with_len}
use Rattle.op_base.specs.Timestamp.{entry, zero_tag}
use Rattle.causal_model.specs.Counts.{members, count_of, counts}
use Rattle.causal_model.specs.Stability.{known_vector, stable_count, stable_vector}
use Rattle.causal_model.proofs.Delivery.Settling.{stable_count-le-known}
use Rattle.causal_model.proofs.Delivery.Timestamps.{entry-zero_tag}

-- a list of a number for each member, each of which is 0
zeros : (n : ℕ) (f : ℕ → ℕ) → ((x : ℕ) → x < n → f x ≡ 0) → map f (members n) ≡ zero_tag n
zeros n f each = same_number_lists (map f (members n)) (zero_tag n) (length-map-range_with_len f 0 n ∙ sym (length-replicate {A = ℕ} n 0)) (λ x l.
    let k : x < n = omega (arith, l, length-map-range_with_len f 0 n) in
    get_or-map-range_with_len f 0 n x x 0 k (omega arith) ∙ each x k ∙ sym (get_or-replicate n x 0 0 k))

pub counts-none : (n : ℕ) → counts n [] ≡ zero_tag n
counts-none n = zeros n (count_of []) (λ x l. refl)

pub known_vector-none : (n me y : ℕ) → known_vector n me [] y ≡ zero_tag n
known_vector-none n me y = elim (y == me) as (λ own. (if own then counts n [] else zero_tag n) ≡ zero_tag n) [ true ↦ counts-none n | false ↦ refl ]

pub stable_vector-none : (n me : ℕ) → stable_vector n me [] ≡ zero_tag n
stable_vector-none n me = zeros n (stable_count n me []) (λ x l.
    let known : entry (known_vector n me [] 0) x ≡ 0 = subst (λ tag. entry tag x ≡ 0) (sym (known_vector-none n me 0)) (entry-zero_tag n x) in
    omega (arith, stable_count-le-known n me [] x 0 (omega (arith, l)), known))
