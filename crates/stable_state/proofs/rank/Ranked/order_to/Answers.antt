use Rattle.std.proofs.Common.{◌≡◌, length, ltb-true, Equal, sym, subst, ◌∙◌}
use Rattle.std.specs.Prelude.{option_copied}
use Rattle.op_base.specs.Order.{item_cmp}
use Rattle.stable_state.specs.Ranks.{item_text, rank_cmp}
use Rattle.stable_state.proofs.Ranks.{ranks_decide, ranks_tie}
use Rattle.stable_state.proofs.rank.Ranked.order_to.Goals as goal

pub returns-in_default : goal.returns-in_default
returns-in_default c =
    let item = c.self.inside.item in
    let sought = c.args.sought.now in
    let value = option_copied sought.value in
    subst (λ shown. c.rank_order.result ≡ item_cmp shown.object shown.value sought.object.now value) c.self.view_is
    (ranks_decide item.object item.value sought.object.now value c.self.invariant.named sought.named c.rank_order.result
    (c.rank_order.ensures ∙ (λ i. rank_cmp (c.self.invariant.rank i) (sought.ranked i))) c.in_default.not-Equal)

pub returns-in-Equal : goal.returns-in-Equal
returns-in-Equal c =
    let item = c.self.inside.item in
    let sought = c.args.sought.now in
    let value = option_copied sought.value in
    let tied = (λ i. rank_cmp (sym c.self.invariant.rank i) (sym sought.ranked i)) ∙ sym c.in-Equal.ensures in
    let short = ltb-true (length (item_text sought.object.now value)) 32 (sym c.is_short.ensures ∙ c.if-is_short.true) in
    subst (λ shown. Equal ≡ item_cmp shown.object shown.value sought.object.now value) c.self.view_is
    (sym (ranks_tie item.object item.value sought.object.now value c.self.invariant.named sought.named tied short))
