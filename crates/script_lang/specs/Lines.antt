-- What a line is, whatever its commands are.
use Rattle.std.specs.Prelude.{◌≡◌, ◌⊎◌, ℕ, Bool, true, false, nat_le, Result, Ok, Err, Option, Some, None}
use Rattle.script_lang.specs.Fault.{number_of_fault}
use Rattle.script_lang.specs.declared.fault.Fault.{Fault}
use Rattle.script_lang.specs.declared.line.LineOf.{LineOf}
use Rattle.script_lang.specs.declared.line.LineOf.TheVariants.{Skip, Run, Bad, NoMemory}

-- a line that is no command, by the number of its fault
abbrev pub bad_line : {C : Type 0} → Option ℕ → LineOf C
bad_line (Some code) = Bad code
bad_line None = NoMemory

-- the line of a command, or of a fault
abbrev pub run_or_bad : {C : Type 0} → Result C Fault → LineOf C
run_or_bad (Ok command) = Run command
run_or_bad (Err fault) = bad_line (number_of_fault fault)

-- a line was read as this, unless memory ran out
abbrev pub IsLineOrNoMemory : {C : Type 0} → LineOf C → LineOf C → Type 0
IsLineOrNoMemory line result = (result ≡ line) ⊎ (result ≡ NoMemory)

-- a fact of a line's command, where it is one
abbrev pub OfCommand : {C : Type 0} → (C → Type 0) → LineOf C → Type 0
OfCommand P Skip = Unit {0}
OfCommand P (Run command) = P command
OfCommand P (Bad code) = Unit {0}
OfCommand P NoMemory = Unit {0}

-- whether memory may run out at a line: at a command that keeps what takes memory, and at one whose fault is 7 or 8
abbrev pub may_lack : {C : Type 0} → (C → Bool) → LineOf C → Bool
may_lack keeps Skip = false
may_lack keeps (Run command) = keeps command
may_lack keeps (Bad code) = nat_le 7 code
may_lack keeps NoMemory = true
