use Rattle.std.proofs.Common.{◌≡◌, ◌∙◌, ◌++◌, ◌∷◌, [], List, ℕ, sym, subst}
use Rattle.script_net.proofs.Standing.{still_opening}
use Rattle.store_program.specs.declared.live_feed.LiveStage.{LiveStage}
use Rattle.store_program.specs.LiveFeeding.{LiveStandsAt, IsAsked}
use Rattle.store_program.proofs.LiveLines.{asked_more, asked_first, live_refused}
use Rattle.store_program.proofs.live_feed.LiveStage.take_line.Goals as goal

-- what stands at a stage stands at an equal one
at_stage : (a b : LiveStage) (done : List (List ℕ)) → a ≡ b → LiveStandsAt a done → LiveStandsAt b done
at_stage a b done e stands = subst (λ (s : LiveStage). LiveStandsAt s done) e stands

pub returns-in-Opening-clause-stands : goal.returns-in-Opening-clause-stands
returns-in-Opening-clause-stands c = λ done stands number.
    at_stage _ _ (done ++ c.args.line.now ∷ []) (sym c.in-Opening.is)
    (still_opening done c.args.line.now (at_stage _ _ done c.in-Opening.is stands) (sym c.is_passed_over.ensures ∙ c.if-is_passed_over.true))

pub returns-in-Ok-clause-stands : goal.returns-in-Ok-clause-stands
returns-in-Ok-clause-stands c = λ done stands number.
    let opens = c.in-Ok.ensures in
    asked_first c.in-Ok.input done c.args.line.now (at_stage _ _ done c.in-Opening-2.is stands) (sym c.is_passed_over.ensures ∙ c.if-is_passed_over.false) opens.opens opens.in_range opens.empty

pub returns-in-Err-clause-bad_header : goal.returns-in-Err-clause-bad_header
returns-in-Err-clause-bad_header c = λ done stands bad.
    live_refused done c.args.line.now (at_stage _ _ done c.in-Opening-2.is stands) (sym c.is_passed_over.ensures ∙ c.if-is_passed_over.false) (c.in-Err.ensures.refuses bad)

pub returns-in-Behind-clause-stands : goal.returns-in-Behind-clause-stands
returns-in-Behind-clause-stands c = λ done stands number.
    let asked : IsAsked c.in-Behind.input done = at_stage _ _ done c.in-Behind.is stands in
    asked_more c.push_line.result done c.args.line.now _ _ _ _ _ c.args.number c.in-Behind.input.lines.items c.push_line.new.lines.items asked number c.push_line.ensures.lines
    (c.push_line.ensures.within asked.within)
