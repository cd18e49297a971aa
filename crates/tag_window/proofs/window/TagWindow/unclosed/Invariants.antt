use Rattle.std.proofs.Common.{◌≡◌, ℕ, ◌<◌, None, length}
use Rattle.tag_window.specs.Check.{unclosed_in}
use Rattle.tag_window.proofs.window.TagWindow.unclosed.Given as goal

abbrev pub invariant-loop-x : goal.invariant-loop-x
invariant-loop-x l = (y : ℕ) → y < l.x → unclosed_in (length l.self.held) l.self l.message l.last y ≡ None
