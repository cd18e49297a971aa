-- Why a line is no command, and how its parts are read one behind another.
use Rattle.std.specs.Prelude.{ℕ, Result, Ok, Err, Option, Some, None}
use Rattle.script_lang.specs.declared.fault.Fault.{Fault}
use Rattle.script_lang.specs.declared.fault.Fault.TheVariants.{TooLong, Keyword, Words, Member, Object, Operation, Value, Number, NoMemory}

-- a command line, and a header, has at most so many bytes
abbrev pub most_line_bytes : ℕ
most_line_bytes = 16384

-- the number of a fault; want of memory is no fault of the line and has none
abbrev pub number_of_fault : Fault → Option ℕ
number_of_fault TooLong = Some 1
number_of_fault Keyword = Some 2
number_of_fault Words = Some 3
number_of_fault Member = Some 4
number_of_fault Object = Some 5
number_of_fault Operation = Some 6
number_of_fault Value = Some 7
number_of_fault Number = Some 8
number_of_fault NoMemory = None

-- one part behind another: the first fault is told
infixl 10 ◌>>=◌
abbrev pub ◌>>=◌ : {A B : Type 0} → Result A Fault → (A → Result B Fault) → Result B Fault
Ok x >>= f = f x
Err fault >>= f = Err fault
