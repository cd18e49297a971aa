-- The statuses' numbers, which the program ends with.
use Rattle.std.specs.Prelude.{ℕ}
use Rattle.draw_program.specs.declared.run.Status.{Status}
use Rattle.draw_program.specs.declared.run.Status.TheVariants.{Fine, BadWords, BadHeader, TooLong, ReadFault, WriteFault, NoMemory}

-- the number of a status
abbrev pub number_of_status : Status → ℕ
number_of_status Fine = 0
number_of_status BadWords = 1
number_of_status BadHeader = 2
number_of_status TooLong = 3
number_of_status ReadFault = 4
number_of_status WriteFault = 5
number_of_status NoMemory = 6
