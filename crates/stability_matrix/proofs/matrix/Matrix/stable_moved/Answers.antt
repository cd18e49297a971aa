use Rattle.std.proofs.Common.{◌≡◌, not, ap, sym, ◌∙◌}
use Rattle.stability_matrix.specs.Rows.{stable_of, noted}
use Rattle.stability_matrix.proofs.Standing.{stable_noted}
use Rattle.stability_matrix.proofs.Entries.{same_numbers, told_apart}
use Rattle.stability_matrix.proofs.Kept.{stable-kept_of}
use Rattle.stability_matrix.proofs.matrix.Matrix.stable_moved.Goals as goal
use Rattle.stability_matrix.proofs.matrix.Matrix.stable_moved.Goals.{After-eq, Then-eq}

-- the computed counts are those with the message
least_is : (c : After-eq) → c.least_with-least.result ≡ stable_of (noted c.args.self.now.me c.args.origin c.args.tag.now c.args.self.now.rows)
least_is c = c.least_with-least.ensures ∙ ap (λ known. stable_of (noted known.me c.args.origin c.args.tag.now known.rows)) c.self.view_is

-- and where they are the kept ones, those without it
stays : (c : Then-eq) → stable_of c.args.self.now.rows ≡ stable_of (noted c.args.self.now.me c.args.origin c.args.tag.now c.args.self.now.rows)
stays c =
    sym (stable-kept_of c.self.inside c.self.invariant _ c.self.view_is) ∙ sym (same_numbers c.least_with-least.result c.self.inside.stable _ _ (sym c.eq.ensures ∙ c.if-eq.true))
    ∙ least_is (goal.at-Then-eq c).After-eq

pub returns-then-keeps_least-clause-known : goal.returns-then-keeps_least-clause-known
returns-then-keeps_least-clause-known c =
    stable_noted c.args.origin c.args.tag.now c.args.self.now _ c.requires.origin c.requires.other (sym (c.keeps_least.ensures c.if-keeps_least.true))

pub returns-then-eq-clause-least : goal.returns-then-eq-clause-least
returns-then-eq-clause-least c = stays c

pub returns-then-eq-clause-known : goal.returns-then-eq-clause-known
returns-then-eq-clause-known c = stable_noted c.args.origin c.args.tag.now c.args.self.now _ c.requires.origin c.requires.other (stays c)

pub returns-else-eq-clause-known : goal.returns-else-eq-clause-known
returns-else-eq-clause-known c = stable_noted c.args.origin c.args.tag.now c.args.self.now _ c.requires.origin c.requires.other (least_is (goal.at.returns-else-eq-clause-known c).After-eq)

pub returns-else-eq-clause-moved : goal.returns-else-eq-clause-moved
returns-else-eq-clause-moved c =
    λ same. (told_apart c.least_with-least.result c.self.inside.stable (not c.eq.result) (ap not c.eq.ensures)).0 (ap not c.if-eq.false) (same ∙ sym (stable-kept_of c.self.inside c.self.invariant _ c.self.view_is))
