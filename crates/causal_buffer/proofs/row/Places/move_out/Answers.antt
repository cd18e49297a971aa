use Rattle.std.proofs.Common.{◌≡◌, ◌+◌, drop, set, None, ap, subst, ◌∙◌}
use Rattle.std.proofs.lemmas.List.{drop-set-add}
use Rattle.causal_buffer.specs.Row.{Row}
use Rattle.causal_buffer.proofs.row.Places.move_out.Goals as goal

pub returns-clause-left : goal.returns-clause-left
returns-clause-left c =
    let block = c.self.inside.block in
    let room = c.self.inside.room in
    let start = c.self.inside.start in
    let after : Row = record { room = room; items = drop start (set block.items (start + c.args.place) c.move_out.new.place) } in
    let left = ap (λ o. drop start (set block.items (start + c.args.place) o)) c.move_out.ensures.empty ∙ drop-set-add start block.items c.args.place None in
    subst (λ (r : Row). after ≡ record r { items = set r.items c.args.place None }) c.self.view_is (λ i. record { room = room; items = left i })
