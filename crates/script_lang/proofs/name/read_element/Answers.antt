use Rattle.std.proofs.Common.{sym}
use Rattle.script_lang.proofs.Ids.{four_parts}
use Rattle.script_lang.proofs.name.read_element.Goals as goal

pub returns-in-Some-split_point-2 : goal.returns-in-Some-split_point-2
returns-in-Some-split_point-2 c =
    let more = c.in-Some-split_point-2.field-0 in
    sym (four_parts c.args.word.now c.in-Some.rest.now c.in-Some-split_point.seq.now more.1.now c.in-Some.epoch.now c.in-Some-split_point.origin.now more.0.now c.in-Some.ensures c.in-Some-split_point.ensures c.in-Some-split_point-2.ensures)
