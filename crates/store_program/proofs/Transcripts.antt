-- Lemmas on the transcript of more lines.
use Rattle.std.proofs.Common.{◌≡◌, ℕ, Bool, true, false, cond, Some, None, Option, List, [], ◌∷◌, ◌++◌, refl, sym, ap, ◌∙◌, append_assoc}
use Rattle.std.specs.Prelude.{is_none}
use Rattle.script_lang.specs.Words.{is_passed_over}
use Rattle.script_lang.specs.Headers.{header_of}
use Rattle.script_net.specs.Lines.{from_command}
use Rattle.script_net.specs.Transcript.{AnyPlain, opened, is_no_script, lacks_header, replies_to, replies_behind, world_after, transcript_from, transcript_of}
use Rattle.script_net.proofs.Transcripts.{replies-append}
use Rattle.store_program.specs.Run.{TookFront}

-- a text is the front of another
pub record IsFront (front text : List ℕ) : Type 0 where
  pub behind : List ℕ
  pub parts : front ++ behind ≡ text

behind_header : (o : Option AnyPlain) (lines more : List (List ℕ)) → IsFront (replies_behind o lines) (replies_behind o (lines ++ more))
behind_header None lines more = record { behind = []; parts = refl }
behind_header (Some world) lines more = record { behind = replies_to (world_after world lines) more; parts = sym (replies-append world lines more) }

-- the transcript of lines is a front of the transcript of more
pub transcript_grows : (done more : List (List ℕ)) → IsFront (transcript_of done) (transcript_of (done ++ more))
transcript_grows [] more = record { behind = transcript_of more; parts = refl }
transcript_grows (x ∷ xs) more = elim (is_passed_over x) as (λ v. IsFront (transcript_from (cond v (from_command xs) (x ∷ xs))) (transcript_from (cond v (from_command (xs ++ more)) (x ∷ (xs ++ more))))) [
  | true ↦ transcript_grows xs more
  | false ↦ behind_header (opened (header_of x)) xs more
]

-- what is a front of a text is a front of a longer one
pub front_grows : (old new : Option (List ℕ)) (text longer : List ℕ) → IsFront text longer → TookFront old new text → TookFront old new longer
front_grows old new text longer f t = record {
  front = t.front;
  behind = t.behind ++ f.behind;
  parts = sym (append_assoc t.front t.behind f.behind) ∙ (ap (λ (xs : List ℕ). xs ++ f.behind) t.parts ∙ f.parts);
  took = t.took;
}

header_behind : (o : Option AnyPlain) (lines : List (List ℕ)) → (replies_behind o lines ≡ [] → ⊥) → is_none o ≡ false
header_behind None lines some = absurd (some refl)
header_behind (Some world) lines some = refl

-- lines with a reply have a header
pub replies_have_header : (ended : Bool) (lines : List (List ℕ)) → (transcript_of lines ≡ [] → ⊥) → lacks_header is_no_script ended (from_command lines) ≡ false
replies_have_header ended [] = λ some. absurd (some refl)
replies_have_header ended (x ∷ xs) = elim (is_passed_over x) as (λ v. (transcript_from (cond v (from_command xs) (x ∷ xs)) ≡ [] → ⊥) → lacks_header is_no_script ended (cond v (from_command xs) (x ∷ xs)) ≡ false) [
  | true ↦ replies_have_header ended xs
  | false ↦ λ some. header_behind (opened (header_of x)) xs some
]
