-- What holds of each command that is read.
use Rattle.std.specs.Prelude.{◌≡◌, ℕ, ◌<◌, ◌≤◌}
use Rattle.op_base.specs.declared.name.Kind.TheVariants as kinds
use Rattle.script_lang.specs.declared.command.Command.{Command}
use Rattle.script_lang.specs.declared.command.Command.TheVariants as command
use Rattle.script_lang.specs.declared.live.LiveCommand.{LiveCommand}
use Rattle.script_lang.specs.declared.live.LiveCommand.TheVariants as live
use Rattle.script_lang.specs.declared.line.LineOf.{LineOf}
use Rattle.script_lang.specs.Lines.{OfCommand}

-- each member that a command names is below n, it asks for 1 to 16 members, and for the ids and tombs of a list alone
abbrev pub IsWithin : ℕ → Command → Type 0
IsWithin n (command.Do r update) = r < n
IsWithin n (command.Ask r object) = r < n
IsWithin n (command.Ids r object) = (r < n) × (object.kind ≡ kinds.List)
IsWithin n (command.Tombs r object) = (r < n) × (object.kind ≡ kinds.List)
IsWithin n (command.Beat r) = r < n
IsWithin n (command.Give r k s) = (r < n) × (k < n)
IsWithin n (command.Resend r k) = (r < n) × (k < n)
IsWithin n (command.Raw r bytes) = r < n
IsWithin n command.Settle = Unit {0}
IsWithin n (command.Members m) = (1 ≤ m) × (m ≤ 16)
IsWithin n (command.Log r) = r < n
IsWithin n (command.Size r) = r < n
IsWithin n (command.Stable r) = r < n
IsWithin n (command.Seen r) = r < n
IsWithin n (command.Noops r) = r < n
IsWithin n (command.Lags r) = r < n
IsWithin n (command.Stop r b) = r < n

abbrev pub LineIsWithin : ℕ → LineOf Command → Type 0
LineIsWithin n line = OfCommand (IsWithin n) line

-- each client that a command names is below clients, each member below n
abbrev pub IsLiveWithin : ℕ → ℕ → LiveCommand → Type 0
IsLiveWithin n clients (live.Client c r) = (c < clients) × (r < n)
IsLiveWithin n clients (live.Do c update) = c < clients
IsLiveWithin n clients (live.Ask c object) = c < clients

abbrev pub LiveLineIsWithin : ℕ → ℕ → LineOf LiveCommand → Type 0
LiveLineIsWithin n clients line = OfCommand (IsLiveWithin n clients) line
