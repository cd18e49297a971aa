-- What sending is ruled by, with one message more.
use Rattle.std.proofs.Common.{◌≡◌, ℕ, false, not, ◌&&◌, ◌||◌, ◌==◌, List, [], ◌∷◌, ◌++◌}
use Rattle.std.proofs.lemmas.List.Sums.{fold_push}
use Rattle.op_base.specs.declared.message.Message.{Message}
use Rattle.causal_model.specs.Stability.{carries_operation}
use Rattle.causal_model.specs.Sending.{is_noop_due}

pub is_noop_due-push : (me : ℕ) (h : List Message) (m : Message) → is_noop_due me (h ++ m ∷ []) ≡ (not (m.origin == me) && (is_noop_due me h || carries_operation m.op))
is_noop_due-push me h m = fold_push (λ due y. not (y.origin == me) && (due || carries_operation y.op)) false h m
