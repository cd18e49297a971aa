use Rattle.std.proofs.Common.{rules, ◌≡◌, ◌∙◌, arith}
use Rattle.std.proofs.lemmas.Grind.{common_steps}
use Rattle.tag_window.specs.Window.{held_count}
use Rattle.tag_window.proofs.Told.{held_count-is}
use Rattle.tag_window.proofs.window.TagWindow.own_unstable.Goals as goal

pub returns-then-noop-clause-of : goal.returns-then-noop-clause-of
returns-then-noop-clause-of c = λ n w x ms of.
    let held : c.noops.result ≡ held_count c.args.self.now c.args.me c.args.noop = first_of (search rules, grind (arith, common_steps)) in
    held ∙ held_count-is c.args.noop n w x ms c.args.self.now c.args.me (omega (arith, c.requires, of.entries)) of

pub returns-else-noop-clause-of : goal.returns-else-noop-clause-of
returns-else-noop-clause-of c = λ n w x ms of.
    let held : c.operations.result ≡ held_count c.args.self.now c.args.me c.args.noop = first_of (search rules, grind (arith, common_steps)) in
    held ∙ held_count-is c.args.noop n w x ms c.args.self.now c.args.me (omega (arith, c.requires, of.entries)) of
