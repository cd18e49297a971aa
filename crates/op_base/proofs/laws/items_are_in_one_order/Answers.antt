use Rattle.std.proofs.lemmas.Cmp.{on_total, then_total, nat_cmp_total, nat_list_cmp_total}
use Rattle.std.specs.Cmp.Lexicographic.{options_total}
use Rattle.op_base.specs.Object.{kind_place}
use Rattle.op_base.proofs.Orders.{items_tied}
use Rattle.op_base.proofs.laws.items_are_in_one_order.Goals as goal

pub returns : goal.returns
returns c = record {
  total = then_total (then_total (on_total (λ item. kind_place item.0.kind) nat_cmp_total) (on_total (λ item. item.0.key) nat_list_cmp_total)) (on_total (λ item. item.1) (options_total nat_list_cmp_total));
  tied = items_tied;
}
