-- Items side by side are in the one order as all are: what a view of them owes, and so it stands here and not
-- among the proofs.
use Rattle.std.specs.Prelude.{◌≡◌, ℕ, ◌+◌, ◌-◌, ◌≤◌, List, length}
use Rattle.std.specs.List.{between}
use Rattle.std.specs.declared.cmp.Ordering.TheVariants.{Less}
use Rattle.std.proofs.Common.{get_or, sym, subst, arith}
use Rattle.std.proofs.lemmas.List.Edits.{length-between, get_or-between}
use Rattle.op_base.specs.Order.{item_cmp}
use Rattle.op_base.specs.declared.outcome.Item.{Item}
use Rattle.causal_model.specs.Items.{Rise}

-- they rise
pub rise_between : (items : List Item) (from to : ℕ) → from ≤ to → to ≤ length items → Rise items → Rise (between from to items)
rise_between items from to ordered within rise = λ i j d lt l.
    let len : length (between from to items) ≡ to - from = length-between items from to within in
    let Before : Item → Item → Type 0 = λ a b. item_cmp a.object a.value b.object b.value ≡ Less in
    let first = get_or-between items from to i d (omega (arith, lt, l, len)) in
    let second = get_or-between items from to j d (omega (arith, l, len)) in
    subst (λ (a : Item). Before a (get_or (between from to items) j d)) (sym first)
    (subst (λ (b : Item). Before (get_or items (from + i) d) b) (sym second) (rise (from + i) (from + j) d (omega (arith, lt)) (omega (arith, l, len))))
