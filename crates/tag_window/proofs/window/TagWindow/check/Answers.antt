use Rattle.std.proofs.Common.{IsTrue, ap, subst, ◌∙◌}
use Rattle.op_base.specs.Message.{fits}
use Rattle.tag_window.specs.Check.{verdict, crook_in}
use Rattle.tag_window.proofs.Told.{crook_told, fits_member}
use Rattle.tag_window.proofs.window.TagWindow.check.Goals as goal

pub returns-in-Some-clause-told : goal.returns-in-Some-clause-told
returns-in-Some-clause-told c = λ n w me ms k t of deliverable other last stable.
    let m = c.args.message.now in
    let fit = subst (λ z. IsTrue (fits z m)) of.entries c.requires.fits in
    ap verdict (c.in-Some.ensures ∙ (λ i. crook_in c.args.self.now m (last i) (stable i)) ∙ crook_told n w me ms m c.args.self.now k t of fit deliverable other (fits_member n m fit))

pub returns-in-None-clause-told : goal.returns-in-None-clause-told
returns-in-None-clause-told c = λ n w me ms k t of deliverable other last stable.
    let m = c.args.message.now in
    let fit = subst (λ z. IsTrue (fits z m)) of.entries c.requires.fits in
    ap verdict (c.in-None.ensures ∙ (λ i. crook_in c.args.self.now m (last i) (stable i)) ∙ crook_told n w me ms m c.args.self.now k t of fit deliverable other (fits_member n m fit))
