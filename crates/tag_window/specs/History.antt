-- Of which messages a window is.
use Rattle.std.specs.Prelude.{◌≡◌, ℕ, ◌<◌, not, ◌==◌, List, [], ◌∷◌, ◌++◌, length, map, filter}
use Rattle.op_base.specs.declared.message.Message.{Message}
use Rattle.causal_model.specs.Stability.{carries_operation, unstable_messages, unstable_of}
use Rattle.tag_window.specs.declared.held.Held.{Held}
use Rattle.tag_window.specs.Window.{Window, held_of}

-- a message, as it is held
abbrev pub held_message : Message → Held
held_message m = record { tag = m.tag; noop = not (carries_operation m.op) }

-- a window w of n members holds exactly the unstable messages of those that member me delivered
pub record IsWindowOf (n w me : ℕ) (messages : List Message) (window : Window) : Type 0 where
  pub entries : length window.held ≡ n
  pub bound : window.w ≡ w
  pub holds : (x : ℕ) → x < n → held_of window x ≡ map held_message (unstable_of n me messages x)

-- it holds those that were unstable before a message, and the message
pub record IsWindowWith (n w me : ℕ) (messages : List Message) (m : Message) (window : Window) : Type 0 where
  pub entries : length window.held ≡ n
  pub bound : window.w ≡ w
  pub holds : (x : ℕ) → x < n → held_of window x ≡ map held_message (filter (λ e. e.origin == x) (unstable_messages n me messages ++ m ∷ []))
