use Rattle.std.proofs.Common.{[], ◌∷◌, ◌++◌, All, length, ap, sym, subst, ◌∙◌, arith, length-append, append-nil}
use Rattle.std.specs.List.{concat}
use Rattle.std.proofs.lemmas.List.Folds.{concat-append}
use Rattle.std.proofs.lemmas.List.Elements.{All-push}
use Rattle.stable_state.specs.OrderFields.{excess_of, IsOpen}
use Rattle.stable_state.proofs.Joined.{excess_append}
use Rattle.stable_state.proofs.order.Order.append.Goals as goal

pub invariant_of-self : goal.invariant_of-self
invariant_of-self c =
    let parts = c.self.inside.chunks.parts in
    let slots = c.args.slots.now in
    let excess = ap excess_of c.append.ensures.parts ∙ excess_append parts (slots ∷ []) in
    record {
      open_parts = subst (All IsOpen) (sym c.append.ensures.parts) (All-push IsOpen parts slots c.self.invariant.open_parts (record { some = c.requires.some; short = c.requires.short }));
      excess = omega (arith, excess, c.saturating_sub.ensures, c.self.invariant.excess);
      paid = omega (arith, c.append.ensures.free, c.saturating_sub.ensures, c.self.invariant.paid, c.requires.spare, c.requires.short, ap (λ v. v.spare) c.self.view_is, ap length c.append.ensures.parts, length-append parts (slots ∷ []));
    }

pub returns : goal.returns
returns c =
    let parts = c.self.inside.chunks.parts in
    let slots = c.args.slots.now in
    ap concat c.append.ensures.parts ∙ concat-append parts (slots ∷ []) ∙ ap (λ xs. concat parts ++ xs) (append-nil slots) ∙ ap (λ v. v.items ++ slots) c.self.view_is
