use Rattle.std.proofs.Common.{◌≡◌, ◌∙◌, ap, sym, List, true, None, []}
use Rattle.std.specs.Prelude.{map, length, ◌==◌, if◌then◌else◌}
use Rattle.std.specs.String.{string_bytes}
use Rattle.clap.specs.Words.{App, Text, app_of, found_of, first_of, rows_of, is_simple, is_simple_and_free, matches_of, fault_of}
use Rattle.clap.specs.declared.error.kind.ErrorKind.{ErrorKind}
use Rattle.store_program.specs.Words.{store_app, are_taken, asked_for}
use Rattle.store_program.proofs.WordLemmas.{command_is_simple, command_is_free, said_by_rows}
use Rattle.store_program.proofs.words.request_of.Goals as goal

pub returns-in-Ok-clause-request : goal.returns-in-Ok-clause-request
returns-in-Ok-clause-request c =
    let words : List Text = map string_bytes c.args.words.now in
    let app_is : app_of c.in_ok-command.field-0 ≡ store_app = c.in_ok-command.ensures in
    let rows : rows_of (found_of c.in-Ok.matches) ≡ matches_of store_app words = (c.in-Ok.ensures.matches (ap is_simple app_is ∙ command_is_simple)).0 ∙ ap (λ (app : App). matches_of app words) app_is in
    let none : fault_of store_app words ≡ [] = sym (ap (λ (app : App). fault_of app words) app_is) ∙ c.in-Ok.ensures.kinds (ap is_simple_and_free app_is ∙ command_is_free) in
    let taken : are_taken words ≡ true = ap (λ (kinds : List ErrorKind). length kinds == 0) none in
    c.asked_for.ensures.request ∙ (said_by_rows (found_of c.in-Ok.matches) _ rows
    ∙ sym (ap (λ t. if t then asked_for (λ name. first_of name (matches_of store_app words)) else None) taken))
