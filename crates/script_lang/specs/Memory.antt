-- What a reader answers where memory may run out, and of which lines it tells that.
use Rattle.std.specs.Prelude.{◌≡◌, ◌≢◌, ℕ, Bool, true, false, IsTrue, nat_lt, List, length, Result, Ok, Err, MatchResult, IfErr}
use Rattle.op_base.specs.declared.name.TheConstants.{VALUE_BYTES_IN_PLACE}
use Rattle.op_base.specs.declared.operation.Act.{Act}
use Rattle.op_base.specs.declared.operation.Act.TheVariants as acts
use Rattle.script_lang.specs.declared.fault.Fault.{Fault}
use Rattle.script_lang.specs.declared.fault.Fault.TheVariants.{TooLong, Keyword, Words, Member, Object, Operation, Value, Number, NoMemory}
use Rattle.script_lang.specs.declared.command.Command.{Command}
use Rattle.script_lang.specs.declared.command.Command.TheVariants as command
use Rattle.script_lang.specs.declared.live.LiveCommand.{LiveCommand}
use Rattle.script_lang.specs.declared.live.LiveCommand.TheVariants as live

-- a reader answers what is to be read, or its fault, unless memory runs out
abbrev pub Reads : {A : Type 0} → Result A Fault → Result A Fault → Type 0
Reads wanted result = MatchResult result (λ x. wanted ≡ Ok x) (λ e. e ≢ NoMemory → wanted ≡ Err e)

-- Whether memory may be taken before a fault is found. An object's name takes none, nor does an operation; of `ins` the value is
-- copied before the place is read.
abbrev pub is_late : Fault → Bool
is_late TooLong = false
is_late Keyword = false
is_late Words = false
is_late Member = false
is_late Object = false
is_late Operation = false
is_late Value = true
is_late Number = true
is_late NoMemory = true

-- whether memory may run out where this is to be read, for things of which some take memory
abbrev pub takes_memory : {A : Type 0} → (A → Bool) → Result A Fault → Bool
takes_memory keeps (Ok x) = keeps x
takes_memory keeps (Err fault) = is_late fault

-- a reader tells want of memory only where it takes memory
abbrev pub IsAmple : {A : Type 0} → (A → Bool) → Result A Fault → Result A Fault → Type 0
IsAmple keeps wanted result = IfErr result (λ e. e ≡ NoMemory → IsTrue (takes_memory keeps wanted))

-- whether a value has more bytes than stand in place, so that it takes memory
abbrev pub is_long : List ℕ → Bool
is_long value = nat_lt VALUE_BYTES_IN_PLACE (length value)

-- whether an act has such a value
abbrev pub has_long_value : Act → Bool
has_long_value (acts.Add value) = is_long value
has_long_value (acts.Rmv value) = is_long value
has_long_value acts.Clear = false
has_long_value acts.Enable = false
has_long_value acts.Disable = false
has_long_value (acts.Write value) = is_long value
has_long_value (acts.Inc amount) = false
has_long_value (acts.Dec amount) = false
has_long_value (acts.Ins value place) = is_long value
has_long_value (acts.Del id) = false

-- whether a command keeps what takes memory: an update's value of more than 24 bytes, or the bytes of a frame
abbrev pub keeps : Command → Bool
keeps (command.Do r update) = has_long_value update.act
keeps (command.Ask r object) = false
keeps (command.Ids r object) = false
keeps (command.Tombs r object) = false
keeps (command.Beat r) = false
keeps (command.Give r k s) = false
keeps (command.Resend r k) = false
keeps (command.Raw r bytes) = true
keeps command.Settle = false
keeps (command.Members n) = false
keeps (command.Log r) = false
keeps (command.Size r) = false
keeps (command.Stable r) = false
keeps (command.Seen r) = false
keeps (command.Noops r) = false
keeps (command.Lags r) = false
keeps (command.Stop r b) = false

-- whether a live command keeps a value of more than 24 bytes
abbrev pub live_keeps : LiveCommand → Bool
live_keeps (live.Client c r) = false
live_keeps (live.Do c update) = has_long_value update.act
live_keeps (live.Ask c object) = false
