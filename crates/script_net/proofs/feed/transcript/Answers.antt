use Rattle.std.proofs.Common.{◌∙◌, [], ◌∷◌, ◌++◌, sym, ap}
use Rattle.std.specs.Str.Lines.{strip_carriage_return}
use Rattle.std.proofs.lemmas.List.{append-nil}
use Rattle.script_net.specs.Lines.{lines_of}
use Rattle.script_net.specs.Transcript.{transcript_of}
use Rattle.script_net.proofs.Splits.{lines_done}
use Rattle.script_net.proofs.Whole.{next_done, all_done, silent_script}
use Rattle.script_net.proofs.feed.transcript.Goals as goal

pub lines-preserved : goal.lines-preserved
lines-preserved c =
    let inv = c.lines.invariant in
    record {
      done = inv.done ++ strip_carriage_return (c.lines.feed.part ++ c.in-Some.line.now) ∷ [];
      cut = next_done c.args.script.now inv.done _ _ inv.part inv.cut c.in-Some.line.now c.in-Some.after.now c.in-Some.ensures.parts;
      part = c.in-Ok.ensures.part;
      stands = c.in-Ok.ensures.stands inv.done inv.stands;
      text = c.in-Ok.ensures.text inv.done [] inv.stands inv.text;
    }

pub returns-in-Err-BadHeader : goal.returns-in-Err-BadHeader
returns-in-Err-BadHeader c =
    let inv = c.lines.invariant in
    let next = next_done c.args.script.now inv.done _ _ inv.part inv.cut c.in-Some.line.now c.in-Some.after.now c.in-Some.ensures.parts in
    let lacks = c.in-Err-BadHeader.ensures.bad_header inv.done inv.stands c.in-Err-BadHeader.field-0-is in
    c.in-Err-BadHeader.ensures.err
    ∙ (inv.text ∙ silent_script c.args.script.now inv.done (lines_of c.in-Some.after.now) (strip_carriage_return (c.lines.feed.part ++ c.in-Some.line.now)) (sym (lines_done c.args.script.now _ _ next)) lacks)

pub returns-in-Ok-end_line : goal.returns-in-Ok-end_line
returns-in-Ok-end_line c =
    let inv = c.lines.invariant in
    c.in-Ok-end_line.ensures.text inv.done [] inv.stands inv.text
    ∙ ap transcript_of (all_done c.args.script.now inv.done _ _ inv.part inv.cut c.in_default.ensures.parts)

pub returns-in-Err-BadHeader-end_line : goal.returns-in-Err-BadHeader-end_line
returns-in-Err-BadHeader-end_line c =
    let inv = c.lines.invariant in
    let lacks = c.in-Err-BadHeader-end_line.ensures.bad_header inv.done inv.stands c.in-Err-BadHeader-end_line.field-0-is in
    c.in-Err-BadHeader-end_line.ensures.err
    ∙ (inv.text ∙ silent_script c.args.script.now inv.done [] (strip_carriage_return (c.lines.feed.part ++ c.lines.rest.now)) (append-nil _ ∙ all_done c.args.script.now inv.done _ _ inv.part inv.cut c.in_default.ensures.parts) lacks)
