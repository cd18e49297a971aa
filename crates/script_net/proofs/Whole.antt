-- Lemmas on the transcript of a whole script.
use Rattle.std.proofs.Common.{◌≡◌, ℕ, true, false, List, [], ◌∷◌, ◌++◌, refl, sym, ap, subst, ◌∙◌}
use Rattle.std.specs.List.{slice_split}
use Rattle.std.specs.Str.Lines.{strip_carriage_return}
use Rattle.std.proofs.lemmas.List.{append-nil}
use Rattle.script_net.specs.Lines.{is_newline, lines_of, from_command}
use Rattle.script_net.specs.Transcript.{is_no_script, lacks_header, transcript_of, transcript}
use Rattle.script_net.specs.Feeding.{IsDone, IsPart}
use Rattle.script_net.proofs.Begun.{lacks_more, lacks_silent}
use Rattle.script_net.proofs.Splits.{done_line, lines_part}

module _ (script : List ℕ) (done : List (List ℕ)) (part rest : List ℕ) (none : part ≡ []) (cut : IsDone script done rest) where
  -- the next line is done too
  pub next_done : (front behind : List ℕ) → slice_split is_newline rest ≡ front ∷ slice_split is_newline behind
      → IsDone script (done ++ strip_carriage_return (part ++ front) ∷ []) behind
  next_done front behind there =
      subst (λ (part : List ℕ). IsDone script (done ++ strip_carriage_return (part ++ front) ∷ []) behind) (sym none)
      (done_line script done [] rest front behind refl there cut)

  -- what has no newline is the last line
  pub all_done : IsPart rest → done ++ strip_carriage_return (part ++ rest) ∷ [] ≡ lines_of script
  all_done last =
      ap (λ (part : List ℕ). done ++ strip_carriage_return (part ++ rest) ∷ []) none ∙ sym (lines_part script done rest last cut)

-- a script whose first lines lack a header has no replies, and they had none
pub silent_script : (script : List ℕ) (done more : List (List ℕ)) (line : List ℕ) → (done ++ line ∷ []) ++ more ≡ lines_of script
    → lacks_header is_no_script false (from_command (done ++ line ∷ [])) ≡ true → transcript_of done ≡ transcript script
silent_script script done more line are lacks =
    let lines : List (List ℕ) = (done ++ line ∷ []) ++ more in
    lacks_silent done (line ∷ []) lacks
    ∙ sym (ap transcript_of (sym are)
    ∙ lacks_silent lines [] (ap (λ (ls : List (List ℕ)). lacks_header is_no_script false (from_command ls)) (append-nil lines) ∙ lacks_more is_no_script false (done ++ line ∷ []) more lacks))
