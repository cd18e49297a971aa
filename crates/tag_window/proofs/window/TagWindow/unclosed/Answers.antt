use Rattle.std.proofs.Common.{◌≡◌, ◌≢◌, ◌≤◌, ◌==◌, ◌||◌, ℕ, Bool, true, false, List, Option, None, length, inl, inr, refl, sym, ap, ◌∙◌, arith}
use Rattle.std.specs.Prelude.{is_some, nat_le, if◌then◌else◌}
use Rattle.std.proofs.lemmas.Bool.{cases_eq, eq-eqb}
use Rattle.std.proofs.lemmas.Bool.Decides.{nat_tests}
use Rattle.op_base.specs.Timestamp.{entry}
use Rattle.op_base.specs.declared.message.Message.{Message}
use Rattle.op_base.specs.declared.outcome.Crook.{Crook}
use Rattle.tag_window.specs.Window.{Window}
use Rattle.tag_window.specs.Check.{unclosed_in}
use Rattle.tag_window.proofs.Lines.{first_told, none_told}
use Rattle.tag_window.proofs.window.TagWindow.unclosed.Goals as goal

-- where the sender had seen what a message has seen of a member, it isn't unclosed at that
seen_before : (n : ℕ) (window : Window) (m : Message) (last : List ℕ) (x : ℕ) → (x ≢ m.origin → entry m.tag x ≤ entry last x) → unclosed_in n window m last x ≡ None
seen_before n window m last x seen = elim (cases_eq x m.origin) [
  | inl e ↦ let own : (x == m.origin) ≡ true = eq-eqb x m.origin e in rw own refl
  | inr ne ↦ let at_most = seen ne in let old : nat_le (entry m.tag x) (entry last x) ≡ true = grind (arith, nat_tests, at_most) in rw old (either (x == m.origin) _)
]
  where
    either : (own : Bool) (o : Option Crook) → (if own || true then None else o) ≡ None
    either true o = refl
    either false o = refl

pub returns-then-is_some : goal.returns-then-is_some
returns-then-is_some c =
    let n = length c.args.self.now.held in
    c.unclosed_at-crook.ensures
    ∙ sym (first_told (unclosed_in n c.args.self.now c.args.message.now c.args.last.now) n c.loop-x.x (omega arith) c.loop-x.invariant (ap is_some (sym c.unclosed_at-crook.ensures) ∙ sym c.is_some.ensures ∙ c.if-is_some.true))

pub returns : goal.returns
returns c =
    let n = length c.args.self.now.held in
    sym (none_told (unclosed_in n c.args.self.now c.args.message.now c.args.last.now) n (λ y l. c.loop-x.invariant y (omega (arith, l))))

pub returns-then-has_seen_no_more : goal.returns-then-has_seen_no_more
returns-then-has_seen_no_more c =
    let n = length c.args.self.now.held in
    sym (none_told (unclosed_in n c.args.self.now c.args.message.now c.args.last.now) n (λ y l. seen_before n c.args.self.now c.args.message.now c.args.last.now y (c.has_seen_no_more.ensures c.if-has_seen_no_more.true y)))
