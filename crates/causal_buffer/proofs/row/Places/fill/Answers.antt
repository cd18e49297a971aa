use Rattle.std.proofs.Common.{◌≡◌, ◌+◌, drop, set, Some, ap, subst, ◌∙◌}
use Rattle.std.proofs.lemmas.List.{drop-set-add}
use Rattle.causal_buffer.specs.Row.{Row}
use Rattle.causal_buffer.proofs.row.Places.fill.Goals as goal

pub returns : goal.returns
returns c =
    let block = c.self.inside.block in
    let room = c.self.inside.room in
    let start = c.self.inside.start in
    let after : Row = record { room = room; items = drop start (set block.items (start + c.args.place) c.fill.new.place) } in
    let left = ap (λ o. drop start (set block.items (start + c.args.place) o)) c.fill.ensures ∙ drop-set-add start block.items c.args.place (Some c.args.message) in
    subst (λ (r : Row). after ≡ record r { items = set r.items c.args.place (Some c.args.message) }) c.self.view_is (λ i. record { room = room; items = left i })
