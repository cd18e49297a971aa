-- Lemmas on where a script stands after one line more.
use Rattle.std.proofs.Common.{◌≡◌, ℕ, true, false, Some, None, Option, List, [], ◌∷◌, ◌++◌, sym, ap, subst, ◌∙◌, append_assoc}
use Rattle.std.specs.Prelude.{is_none}
use Rattle.script_lang.specs.Words.{is_passed_over}
use Rattle.script_lang.specs.Headers.{header_of}
use Rattle.script_net.specs.Feeding.{StandsBehind, StandsAt}
use Rattle.script_net.specs.Lines.{from_command}
use Rattle.script_net.specs.Runs.{RunsIn}
use Rattle.script_net.specs.Transcript.{AnyPlain, opened, is_no_script, lacks_header, replies_to, replies_behind, world_after, world_of_line, text_of_line, transcript_from, transcript_of}
use Rattle.script_net.specs.declared.feed.Stage.{Stage}
use Rattle.script_net.specs.declared.runner.Runner.{Runner}
use Rattle.script_net.proofs.Begun.{from_command-none, from_command-more, from_command-passed, from_command-first}
use Rattle.script_net.proofs.Transcripts.{one_line_more_replies, one_line_more_leaves}

-- what stands at a stage stands at an equal one
pub at_stage : (a b : Stage) (done : List (List ℕ)) → a ≡ b → StandsAt a done → StandsAt b done
at_stage a b done e stands = subst (λ (s : Stage). StandsAt s done) e stands

-- ---- before the header

module _ (done : List (List ℕ)) (line : List ℕ) (none : from_command done ≡ []) where
  pub still_opening : is_passed_over line ≡ true → from_command (done ++ line ∷ []) ≡ []
  still_opening passed = from_command-none done (line ∷ []) none ∙ from_command-passed line passed

  pub opening_text : is_passed_over line ≡ true → transcript_of done ≡ transcript_of (done ++ line ∷ [])
  opening_text passed = ap transcript_from none ∙ sym (ap transcript_from (still_opening passed))

  pub begins_here : is_passed_over line ≡ false → from_command (done ++ line ∷ []) ≡ line ∷ []
  begins_here command = from_command-none done (line ∷ []) none ∙ from_command-first line command

  pub refused_here : is_passed_over line ≡ false → opened (header_of line) ≡ None → lacks_header is_no_script false (from_command (done ++ line ∷ [])) ≡ true
  refused_here command refused = ap (lacks_header is_no_script false) (begins_here command) ∙ ap is_none refused

  pub opens_here : (runner : Runner) (plain : AnyPlain) → is_passed_over line ≡ false → opened (header_of line) ≡ Some plain → RunsIn runner plain → StandsBehind runner (done ++ line ∷ [])
  opens_here runner plain command opens runs = record { header = line; behind = []; plain = plain; begins = begins_here command; opens = opens; runs = runs }

  pub opens_text : (plain : AnyPlain) → is_passed_over line ≡ false → opened (header_of line) ≡ Some plain → transcript_of done ≡ transcript_of (done ++ line ∷ [])
  opens_text plain command opens = ap transcript_from none ∙ sym (ap transcript_from (begins_here command) ∙ ap (λ (o : Option AnyPlain). replies_behind o []) opens)

-- ---- behind the header

-- the transcript of lines with a header is the replies to those behind it
replies_are : (lines : List (List ℕ)) (header : List ℕ) (behind : List (List ℕ)) (plain : AnyPlain) → from_command lines ≡ header ∷ behind → opened (header_of header) ≡ Some plain
    → transcript_of lines ≡ replies_to plain behind
replies_are lines header behind plain begins opens = ap transcript_from begins ∙ ap (λ (o : Option AnyPlain). replies_behind o behind) opens

module _ (done : List (List ℕ)) (line : List ℕ) (old : Runner) (stands : StandsBehind old done) where
  pub runs_on : (new : Runner) → RunsIn new (world_of_line (world_after stands.plain stands.behind) line) → StandsBehind new (done ++ line ∷ [])
  runs_on new runs = record {
    header = stands.header;
    behind = stands.behind ++ line ∷ [];
    plain = stands.plain;
    begins = from_command-more done (line ∷ []) stands.header stands.behind stands.begins;
    opens = stands.opens;
    runs = subst (λ (world : AnyPlain). RunsIn new world) (sym (one_line_more_leaves stands.plain stands.behind line)) runs;
  }

  pub runs_text : (written before after : List ℕ) → written ++ before ≡ transcript_of done → after ≡ before ++ text_of_line (world_after stands.plain stands.behind) line
      → written ++ after ≡ transcript_of (done ++ line ∷ [])
  runs_text written before after so_far grown =
      let reply : List ℕ = text_of_line (world_after stands.plain stands.behind) line in
      ap (λ (text : List ℕ). written ++ text) grown
      ∙ (sym (append_assoc written before reply)
      ∙ (ap (λ (text : List ℕ). text ++ reply) (so_far ∙ replies_are done stands.header stands.behind stands.plain stands.begins stands.opens)
      ∙ (sym (one_line_more_replies stands.plain stands.behind line)
      ∙ sym (replies_are (done ++ line ∷ []) stands.header (stands.behind ++ line ∷ []) stands.plain (from_command-more done (line ∷ []) stands.header stands.behind stands.begins) stands.opens))))
