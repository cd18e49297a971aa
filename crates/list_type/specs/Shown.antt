-- What contracts see of lists.
use Rattle.op_base.specs.Object.{same_object}
use Rattle.std.specs.HashMap.{get}
use Rattle.list_type.specs.Listed.{Listed}
use Rattle.list_type.specs.ListFields.{elements_of_row, spare_of}
use Rattle.list_type.specs.declared.lists.Lists.{Lists}

-- the elements of each list, and how many more there is room for
abbrev pub shown : Lists → Listed
shown lists = record {
  kept = λ object. elements_of_row lists.chains.rows (get same_object lists.rows object);
  spare = spare_of lists.rows lists.slots lists.chains;
}
