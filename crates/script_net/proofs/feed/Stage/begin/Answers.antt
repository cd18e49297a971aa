use Rattle.std.proofs.Common.{◌∙◌, ◌++◌, ◌∷◌, [], sym}
use Rattle.script_net.proofs.Standing.{at_stage, still_opening, opening_text, refused_here, opens_here, opens_text}
use Rattle.script_net.proofs.feed.Stage.begin.Goals as goal

pub returns-then-is_passed_over-clause-stands : goal.returns-then-is_passed_over-clause-stands
returns-then-is_passed_over-clause-stands c = λ done stands.
    at_stage _ _ (done ++ c.args.line.now ∷ []) (sym c.requires.opening)
    (still_opening done c.args.line.now (at_stage _ _ done c.requires.opening stands) (sym c.is_passed_over.ensures ∙ c.if-is_passed_over.true))

pub returns-then-is_passed_over-clause-text : goal.returns-then-is_passed_over-clause-text
returns-then-is_passed_over-clause-text c = λ done text stands is.
    is ∙ opening_text done c.args.line.now (at_stage _ _ done c.requires.opening stands) (sym c.is_passed_over.ensures ∙ c.if-is_passed_over.true)

pub returns-in-Err-clause-bad_header : goal.returns-in-Err-clause-bad_header
returns-in-Err-clause-bad_header c = λ done stands bad.
    refused_here done c.args.line.now (at_stage _ _ done c.requires.opening stands) (sym c.is_passed_over.ensures ∙ c.if-is_passed_over.false) (c.in-Err.ensures.refuses bad)

pub returns-in-Ok-clause-stands : goal.returns-in-Ok-clause-stands
returns-in-Ok-clause-stands c = λ done stands.
    let opens = c.in-Ok.ensures.opens in
    opens_here done c.args.line.now (at_stage _ _ done c.requires.opening stands) c.in-Ok.runner opens.0 (sym c.is_passed_over.ensures ∙ c.if-is_passed_over.false) opens.1 opens.2

pub returns-in-Ok-clause-text : goal.returns-in-Ok-clause-text
returns-in-Ok-clause-text c = λ done text stands is.
    let opens = c.in-Ok.ensures.opens in
    is ∙ opens_text done c.args.line.now (at_stage _ _ done c.requires.opening stands) opens.0 (sym c.is_passed_over.ensures ∙ c.if-is_passed_over.false) opens.1
