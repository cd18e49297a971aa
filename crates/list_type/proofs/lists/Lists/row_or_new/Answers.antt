use Rattle.std.proofs.Common.{Some, sym}
use Rattle.list_type.proofs.Listings.{noted_at_each}
use Rattle.list_type.proofs.AddedRows.{row_is_listed, row_is_empty}
use Rattle.list_type.proofs.lists.Lists.row_or_new.Goals as goal

pub invariant_of-self : goal.invariant_of-self
invariant_of-self c =
    let old = c.args.self.now in
    let noted = noted_at_each old.rows c.note.new.map c.args.object (Some c.add_row-row.result) c.note.ensures.updates.0 in
    record {
      listed = row_is_listed old.rows c.note.new.map old.slots old.chains c.add_row-row.new.self c.args.object old.listed c.requires.kind (sym c.in_default.ensures)
          c.add_row-row.result c.add_row-row.ensures.row noted c.add_row-row.ensures.rows;
    }

pub returns-clause-kept : goal.returns-clause-kept
returns-clause-kept c =
    let old = c.args.self.now in
    let noted = noted_at_each old.rows c.note.new.map c.args.object (Some c.add_row-row.result) c.note.ensures.updates.0 in
    row_is_empty old.rows c.note.new.map old.slots old.chains c.add_row-row.new.self c.args.object old.listed c.requires.kind (sym c.in_default.ensures)
    c.add_row-row.result c.add_row-row.ensures.row noted c.add_row-row.ensures.rows
