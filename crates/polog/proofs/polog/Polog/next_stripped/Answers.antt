use Rattle.std.proofs.Common.{◌≡◌, ℕ, ◌++◌, ◌∷◌, [], Bool, List, reverse, Option, Some, None, sym, ap, subst, ◌∙◌}
use Rattle.std.specs.Prelude.{IfNone, IfSome}
use Rattle.op_base.specs.declared.message.Entry.{Entry}
use Rattle.op_base.specs.declared.message.Message.{Message}
use Rattle.op_base.specs.declared.operation.Update.{Update}
use Rattle.polog.specs.Order.{items_of}
use Rattle.polog.specs.Standing.{IsStripped, HandsOut}
use Rattle.polog.specs.Value.{Log, with_stripped}
use Rattle.polog.proofs.Strips.{first-waits}
use Rattle.polog.proofs.Standing.{next-handed-out, all-handed-out}
use Rattle.polog.proofs.polog.Polog.next_stripped.Goals as goal

module _ (keeps : Update → Bool) (covers : Update → Update → Bool) (n me : ℕ) (ms : List Message) (m : Message) (k : ℕ) (log : Log) where
  handed-out : (old new : List (ℕ × Entry)) (r : Option Entry) → reverse (items_of old) ≡ log.stripped → IfNone r (old ≡ []) → IfNone r (new ≡ [])
      → IfSome r (λ e. items_of old ≡ items_of new ++ e ∷ []) → IsStripped keeps covers n me ms m k log → HandsOut keeps covers n me ms m k r (with_stripped log (reverse (items_of new)))
  handed-out old new None seen none gone last stands =
      let left : log.stripped ≡ [] = sym seen ∙ ap (λ rs. reverse (items_of rs)) none in
      subst (λ es. HandsOut keeps covers n me ms m k None (with_stripped log es)) (left ∙ sym (ap (λ rs. reverse (items_of rs)) gone)) (all-handed-out keeps covers n me ms m k log left stands)
  handed-out old new (Some e) seen none gone last stands =
      next-handed-out keeps covers n me ms m k log e (reverse (items_of new)) (sym seen ∙ first-waits old new e last) stands

pub returns-clause-of : goal.returns-clause-of
returns-clause-of c keeps covers n me ms m k stands =
    let new = c.pop.new.self.rows in
    subst (HandsOut keeps covers n me ms m k c.pop.result) (sym (ap (λ log. with_stripped log (reverse (items_of new))) c.self.view_is))
    (handed-out keeps covers n me ms m k c.args.self.now c.self.inside.leaving.rows new c.pop.result (ap (λ log. log.stripped) c.self.view_is) c.pop.ensures.none c.pop.ensures.still c.pop.ensures.last stands)
