use Rattle.std.proofs.Common.{refl, ap, sym, ◌∙◌, arith}
use Rattle.std.proofs.lemmas.Option.{slice_get_read}
use Rattle.list_type.specs.Deletions.{is_in}
use Rattle.list_type.proofs.LinkedDeletions.{none_more, one_more}
use Rattle.list_type.proofs.deletions.Deletions.take_in.Goals as goal

pub returns-in-Some : goal.returns-in-Some
returns-in-Some c =
    let entries = c.args.entries.now in
    let item = c.index-entries-k.result in
    one_more c.args.self.now entries c.args.k item (slice_get_read entries _ c.args.k item refl c.requires.k c.index-entries-k.is) c.group.result
    (λ g. ap (λ e. is_in g e.update.act) c.index-entries-k.is ∙ ap (is_in g) (sym c.act.ensures) ∙ c.group.ensures.is g) c.requires.linked
    _ c.in-Some.group c.in-Some.is c.in-Some.ensures.within refl refl (omega arith) (omega arith) c.requires.few

pub returns-in_default : goal.returns-in_default
returns-in_default c =
    let entries = c.args.entries.now in
    let item = c.index-entries-k.result in
    none_more c.args.self.now entries c.args.k item (slice_get_read entries _ c.args.k item refl c.requires.k c.index-entries-k.is) c.group.result
    (λ g. ap (λ e. is_in g e.update.act) c.index-entries-k.is ∙ ap (is_in g) (sym c.act.ensures) ∙ c.group.ensures.is g) c.requires.linked
    c.in_default.is
