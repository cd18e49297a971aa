use Rattle.std.proofs.Common.{◌≡◌, ◌∙◌, rules, ap₂, codes}
use Rattle.std.proofs.lemmas.Result.{IfOk-weaker}
use Rattle.clap.specs.Words.{app_of, rule_of, with_rule}
use Rattle.store_program.specs.Words.{mode_rule, option_rule, bare_app}
use Rattle.store_program.proofs.words.command.Goals as goal

pub returns : goal.returns
returns c =
    let mode_is : rule_of c.required.result ≡ mode_rule = search rules in
    let one : app_of c.in_ok-arg.field-0 ≡ with_rule bare_app mode_rule = c.in_ok-arg.ensures.shape (search rules) ∙ ap₂ with_rule c.bare.ensures mode_is in
    let two : app_of c.in_ok-arg-2.field-0 ≡ with_rule (with_rule bare_app mode_rule) (option_rule (codes "seed") (codes "1"))
    = c.in_ok-arg-2.ensures.shape c.option.ensures.local ∙ ap₂ with_rule one c.option.ensures.rule in
    let three : app_of c.in_ok-arg-3.field-0 ≡ with_rule (with_rule (with_rule bare_app mode_rule) (option_rule (codes "seed") (codes "1"))) (option_rule (codes "count") (codes "1000"))
    = c.in_ok-arg-3.ensures.shape c.option-2.ensures.local ∙ ap₂ with_rule two c.option-2.ensures.rule in
    let four : app_of c.in_ok-arg-4.field-0 ≡ with_rule (with_rule (with_rule (with_rule bare_app mode_rule) (option_rule (codes "seed") (codes "1"))) (option_rule (codes "count") (codes "1000"))) (option_rule (codes "members") (codes "3"))
    = c.in_ok-arg-4.ensures.shape c.option-3.ensures.local ∙ ap₂ with_rule three c.option-3.ensures.rule in
    IfOk-weaker c.arg-5.result _ _ (λ r h. h.shape c.option-4.ensures.local ∙ ap₂ with_rule four c.option-4.ensures.rule) c.arg-5.ensures
