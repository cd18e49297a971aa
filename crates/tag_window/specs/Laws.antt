-- What a window needs of the messages that a member delivers. The statement is the contract of a function of laws.rt.
use Rattle.std.specs.Prelude.{ℕ, ◌+◌, ◌<◌, ◌≤◌, List, [], ◌∷◌, ◌++◌, length, IsTrue}
use Rattle.op_base.specs.declared.message.Message.{Message}
use Rattle.causal_model.specs.Chapter.{is_chapter}
use Rattle.causal_model.specs.Stability.{noop_window}
use Rattle.tag_window.specs.Window.{Window, held_of, IsNextNumber}
use Rattle.tag_window.specs.History.{IsWindowOf}

-- a window of a member's unstable messages has room for the next message, whose number is behind the last of its origin
abbrev pub NextHasRoom : Type 0
NextHasRoom = (n w me : ℕ) (ms : List Message) (m : Message) (window : Window) → me < n → 1 ≤ w → IsTrue (is_chapter n w me (ms ++ m ∷ []))
    → IsWindowOf n w me ms window → (length (held_of window m.origin) < w + noop_window n w) × IsNextNumber m.origin (held_of window m.origin) m.tag
