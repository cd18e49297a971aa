use Rattle.std.proofs.Common.{◌≡◌, ◌<◌, None, length, get_or, [], sym, ap, subst, ◌∙◌, arith}
use Rattle.std.proofs.lemmas.List.{length-map}
use Rattle.op_base.specs.Timestamp.{entry, zero_tag}
use Rattle.tag_window.specs.Queue.{Line, tag_held}
use Rattle.tag_window.specs.Window.{Window}
use Rattle.tag_window.specs.Check.{unclosed_in}
use Rattle.tag_window.proofs.Lines.{held_by, not_found}
use Rattle.tag_window.proofs.Told.{closed_where_none}
use Rattle.tag_window.proofs.window.TagWindow.unclosed_at.Goals as goal

pub returns-in_err-had : goal.returns-in_err-had
returns-in_err-had c =
    let lines = c.self.inside.queues.items in
    let x = c.args.x in
    let m = c.args.message.now in
    let member : x < length lines = omega (arith, c.requires.member, ap (λ (v : Window). length v.held) c.self.view_is, length-map lines (λ (q : Line). q.held)) in
    let none : tag_held (length (held_by lines)) x (get_or (held_by lines) x []) (entry m.tag x) ≡ zero_tag (length (held_by lines)) =
    ap (tag_held (length (held_by lines)) x (get_or (held_by lines) x [])) (sym c.at-seq.ensures) ∙ not_found c.self.inside.w c.self.inside.z lines x c.index-queue.result.now c.at-seq.result c.self.invariant.are_queues member c.index-queue.ensures c.in_err-had.ensures.none in
    c.from_residual.ensures ∙ sym (subst (λ (v : Window). unclosed_in (length v.held) v m c.args.last.now x ≡ None) c.self.view_is (closed_where_none (length (held_by lines)) (record { w = c.self.inside.w; held = held_by lines }) m c.args.last.now x none))
