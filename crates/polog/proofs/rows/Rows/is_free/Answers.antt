use Rattle.std.proofs.Common.{◌<◌, nat_eq, length, sym, ap, ◌∙◌, arith}
use Rattle.std.proofs.lemmas.List.{get_or_read}
use Rattle.polog.specs.Rows.{free_number}
use Rattle.polog.specs.declared.marks.Stamp.{Stamp}
use Rattle.polog.proofs.Orders.{not-not}
use Rattle.polog.proofs.Tables.{as_many, row-seen}
use Rattle.polog.proofs.rows.Rows.is_free.Goals as goal

pub index-requires : goal.index-requires
index-requires c =
    let inside = c.self.inside in
    let many = as_many inside.room inside.stamps.items inside.entries.items c.args.self.now c.self.invariant.0 c.self.view_is in
    omega (arith, many, c.requires, c.self.invariant.0, inside.stamps.ok.0)

pub returns : goal.returns
returns c d =
    let inside = c.self.inside in
    let there : c.args.at < length inside.stamps.items = omega (arith, as_many inside.room inside.stamps.items inside.entries.items c.args.self.now c.self.invariant.0 c.self.view_is, c.requires, c.self.invariant.0) in
    let s : Stamp = record { number = d.0; mark = 0 } in
    ap (λ (s : Stamp). nat_eq s.number free_number) (get_or_read inside.stamps.items c.args.at c.index.result.now there c.index.ensures s)
    ∙ sym (ap (λ r. nat_eq r.0 free_number) (row-seen inside.room inside.stamps.items inside.entries.items c.args.self.now c.args.at s d.1 c.self.invariant.0 c.self.view_is))
    ∙ sym (not-not _)
