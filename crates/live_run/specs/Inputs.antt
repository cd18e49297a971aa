-- What the lines of a live input ask for.
use Rattle.std.specs.Prelude.{◌≡◌, ℕ, ◌%◌, Bool, false, ◌==◌, List, [], ◌∷◌, ◌++◌, filter, fold, if◌then◌else◌}
use Rattle.std.specs.List.{flat_map, AllPairs}
use Rattle.std.specs.Ordering.{is_lt, is_eq}
use Rattle.std.specs.declared.cmp.Ordering.TheVariants.{Less}
use Rattle.op_base.specs.Name.{kind_word}
use Rattle.op_base.specs.Order.{text_cmp}
use Rattle.op_base.specs.declared.name.ObjectId.{ObjectId}
use Rattle.script_lang.specs.declared.live.LiveCommand.{LiveCommand}
use Rattle.script_lang.specs.declared.live.LiveCommand.TheVariants.{Client, Do, Ask}
use Rattle.script_lang.specs.declared.line.LineOf.{LineOf}
use Rattle.script_lang.specs.declared.line.LineOf.TheVariants.{Skip, Run, Bad, NoMemory}
use Rattle.live_run.specs.declared.input.NumberedLine.{NumberedLine}

-- the commands among lines, in order
abbrev pub command_in : LineOf LiveCommand → List LiveCommand
command_in (Run command) = command ∷ []
command_in Skip = []
command_in (Bad code) = []
command_in NoMemory = []

abbrev pub commands_in : List NumberedLine → List LiveCommand
commands_in lines = flat_map (λ l. command_in l.line) lines

-- those that client c makes
abbrev pub is_made_by : ℕ → LiveCommand → Bool
is_made_by c (Client k r) = false
is_made_by c (Do k update) = k == c
is_made_by c (Ask k object) = k == c

abbrev pub commands_of : ℕ → List LiveCommand → List LiveCommand
commands_of c commands = filter (is_made_by c) commands

-- the replica at which client c works: that of the last line that says so, and else the one of its number, round and round
abbrev pub works_at : ℕ → ℕ → LiveCommand → ℕ
works_at c r (Client k q) = if k == c then q else r
works_at c r (Do k update) = r
works_at c r (Ask k object) = r

abbrev pub replica_of_client : ℕ → List LiveCommand → ℕ → ℕ
replica_of_client n commands c = fold (works_at c) (c % n) commands

-- the text of an object
abbrev pub object_text : ObjectId → List ℕ
object_text object = kind_word object.kind ++ 58 ∷ object.key

-- an object put into a list in byte order of texts, once
abbrev pub put_object : ObjectId → List ObjectId → List ObjectId
put_object object [] = object ∷ []
put_object object (o ∷ os) =
    if is_lt (text_cmp (object_text object) (object_text o)) then object ∷ o ∷ os
    else if is_eq (text_cmp (object_text object) (object_text o)) then o ∷ os
    else o ∷ put_object object os

abbrev pub put_object_of : List ObjectId → LiveCommand → List ObjectId
put_object_of objects (Client c r) = objects
put_object_of objects (Do c update) = put_object update.object objects
put_object_of objects (Ask c object) = put_object object objects

-- that a line names, where it is a command
abbrev pub put_object_of_line : List ObjectId → LineOf LiveCommand → List ObjectId
put_object_of_line objects line = fold put_object_of objects (command_in line)

-- objects in byte order of their texts, none twice
abbrev pub ObjectsRise : List ObjectId → Type 0
ObjectsRise objects = AllPairs (λ a b. text_cmp (object_text a) (object_text b) ≡ Less) objects

-- the objects that commands name, in byte order of their texts and each once
abbrev pub objects_in : List LiveCommand → List ObjectId
objects_in commands = fold put_object_of [] commands
