-- How large sums of amounts are.
use Rattle.std.proofs.Common.{◌≡◌, ℕ, ◌+◌, ◌-◌, ◌*◌, ◌^◌, ◌<◌, ◌≤◌, Bool, true, false, IsTrue, All, List, [], ◌∷◌, length, map, zero, suc, arith, if◌then◌else◌}
use Rattle.std.specs.Prelude.{ℤ, pos, neg_ℤ, ◌+ℤ◌}
use Rattle.std.specs.List.{filter, fold}
use Rattle.std.specs.Int.Signed.{lt_z_yes}
use Rattle.std.proofs.Math.Dec.{ltb, lt→ltb}
use Rattle.std.proofs.Math.IntN.{negsuc, nat_abs, sub_ℕ}
use Rattle.std.proofs.lemmas.Bool.{and_parts, cond_both, ltb-true}
use Rattle.std.proofs.lemmas.List.{length-map}
use Rattle.std.proofs.lemmas.List.Elements.{All-head, All-tail, All-map, All-filter, All-weaker}
use Rattle.std.proofs.lemmas.List.Sums.{length-filter, count_by-le-length}
use Rattle.op_base.specs.Name.{is_key}
use Rattle.op_base.specs.Object.{same_object}
use Rattle.op_base.specs.Valid.{is_valid, is_valid_act}
use Rattle.op_base.specs.declared.name.ObjectId.{ObjectId}
use Rattle.op_base.specs.declared.operation.Act.{Act}
use Rattle.op_base.specs.declared.operation.Act.TheVariants.{Add, Rmv, Clear, Enable, Disable, Write, Inc, Dec, Ins, Del}
use Rattle.op_base.specs.declared.operation.Op.{Op}
use Rattle.op_base.specs.declared.operation.Op.TheVariants as op
use Rattle.causal_model.specs.Counts.{is_carried}
use Rattle.causal_model.specs.History.{History, Event, events, is_history, is_limited}
use Rattle.causal_model.specs.Query.{counter_sum, IsWithin}
use Rattle.causal_model.specs.Acts.{amount_of, share_of}
use Rattle.causal_model.proofs.Delivery.Lengths.{events_are_carried, history_is_bounded}

-- ---- magnitudes

abs_of_difference : (a b : ℕ) → nat_abs (sub_ℕ a b) ≤ a + b
abs_of_difference a b = cond_both (ltb a b) (negsuc (b - suc a)) (pos (a - b)) (λ z. nat_abs z ≤ a + b) (λ t. let l = ltb-true a b t in omega (arith, l)) (λ _. omega arith)

pub abs_of_sum : (m k : ℤ) → nat_abs (m +ℤ k) ≤ nat_abs m + nat_abs k
abs_of_sum (pos a) (pos b) = omega arith
abs_of_sum (pos a) (negsuc b) = abs_of_difference a (suc b)
abs_of_sum (negsuc a) (pos b) = omega (arith, abs_of_difference b (suc a))
abs_of_sum (negsuc a) (negsuc b) = omega arith

-- a number is between those of a magnitude above its own
pub between : (s : ℤ) (most : ℕ) → nat_abs s < most → IsWithin most s
between s zero l = absurd (omega arith)
between (pos n) (suc most) l = (lt_z_yes tt, lt_z_yes (lt→ltb n (suc most) l))
between (negsuc n) (suc most) l = (lt_z_yes (lt→ltb n most (omega (arith, l))), lt_z_yes tt)

-- a sum of numbers of bounded magnitudes
abs_of_fold : {X : Type 0} (f : X → ℤ) (most : ℕ) (s : ℤ) (xs : List X) → All (λ x. nat_abs (f x) ≤ most) xs → nat_abs (fold (λ sum x. sum +ℤ f x) s xs) ≤ nat_abs s + length xs * most
abs_of_fold f most s [] each = omega arith
abs_of_fold f most s (x ∷ xs) each =
    omega (arith, abs_of_fold f most (s +ℤ f x) xs (All-tail (λ y. nat_abs (f y) ≤ most) x xs each), abs_of_sum s (f x), All-head (λ y. nat_abs (f y) ≤ most) x xs each)

-- ---- shares

abs_of_pos : (a : ℕ) → nat_abs (neg_ℤ (pos a)) ≤ a
abs_of_pos zero = omega arith
abs_of_pos (suc a) = omega arith

pub amount_is_small : (act : Act) → is_valid_act act ≡ true → nat_abs (amount_of act) ≤ 4294967296
amount_is_small (Add v) t = omega arith
amount_is_small (Rmv v) t = omega arith
amount_is_small Clear t = omega arith
amount_is_small Enable t = omega arith
amount_is_small Disable t = omega arith
amount_is_small (Write v) t = omega arith
amount_is_small (Inc a) t = let l = ltb-true a 4294967296 t in omega (arith, l)
amount_is_small (Ins v p) t = omega arith
amount_is_small (Del x) t = omega arith
amount_is_small (Dec a) t = let l = ltb-true a 4294967296 t in omega (arith, l, abs_of_pos a)

share_is_small : (object : ObjectId) (o : Op) → is_valid o ≡ true → nat_abs (share_of object o) ≤ 4294967296
share_is_small object op.NoOp t = omega arith
share_is_small object (op.Update u) t = same (same_object u.object object) where
  same : (b : Bool) → nat_abs (if b then amount_of u.act else pos 0) ≤ 4294967296
  same true = amount_is_small u.act (and_parts (is_key u.object.key) (is_valid_act u.act) t).1
  same false = omega arith

-- ---- sums over events of a history

shares_are_small : (w limit : ℕ) (h : History) (object : ObjectId) (passes : Event → Bool) → IsTrue (is_history w h) → IsTrue (is_limited limit h)
    → All (λ o. nat_abs (share_of object o) ≤ 4294967296) (map (λ e. e.message.op) (filter passes (events h)))
shares_are_small w limit h object passes t limited =
    All-map (λ o. nat_abs (share_of object o) ≤ 4294967296) (λ (e : Event). e.message.op) (filter passes (events h))
    (All-weaker (λ e. is_carried limit e.message ≡ true) (λ e. nat_abs (share_of object e.message.op) ≤ 4294967296) (λ e carried. share_is_small object e.message.op (and_parts _ _ carried).1) (filter passes (events h))
    (All-filter passes (λ e. is_carried limit e.message ≡ true) (events h) (events_are_carried w limit h t limited)))

pub sum_is_small : (w limit : ℕ) (h : History) (object : ObjectId) (passes : Event → Bool) → IsTrue (is_history w h) → IsTrue (is_limited limit h) → limit ≤ 1000000
    → nat_abs (counter_sum object (filter passes (events h))) < 2 ^ 80
sum_is_small w limit h object passes t limited few =
    let ops : List Op = map (λ e. e.message.op) (filter passes (events h)) in
    omega (arith, abs_of_fold (share_of object) 4294967296 (pos 0) ops (shares_are_small w limit h object passes t limited), length-map (filter passes (events h)) (λ e. e.message.op), length-filter passes (events h), count_by-le-length passes (events h), history_is_bounded w limit h t limited, few)

pub sums_are_bounded : (w limit : ℕ) (h : History) (object : ObjectId) (passes : Event → Bool) → IsTrue (is_history w h) → IsTrue (is_limited limit h) → limit ≤ 1000000
    → IsWithin (2 ^ 80) (counter_sum object (filter passes (events h)))
sums_are_bounded w limit h object passes t limited few = between (counter_sum object (filter passes (events h))) (2 ^ 80) (sum_is_small w limit h object passes t limited few)
