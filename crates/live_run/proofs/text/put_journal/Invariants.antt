use Rattle.std.proofs.Common.{◌≡◌, [], ◌∷◌, ◌++◌, length, take}
use Rattle.std.specs.Prelude.{codes}
use Rattle.std.specs.Fmt.{decimal}
use Rattle.std.specs.List.{flat_map}
use Rattle.script_lang.specs.Notes.{note_line}
use Rattle.live_run.specs.Texts.{line_with}
use Rattle.live_run.proofs.text.put_journal.Given as goal

abbrev pub invariant-loop-note : goal.invariant-loop-note
invariant-loop-note l =
    l.out ≡ l.fn.out ++ (line_with (codes "journal" ∷ decimal l.fn.r ∷ decimal (length l.notes) ∷ []) ++ flat_map (note_line l.n) (take l.note-index l.notes))
