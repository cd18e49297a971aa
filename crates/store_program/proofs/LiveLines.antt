-- Lemmas on how the reading of a live input comes on.
use Rattle.std.proofs.Common.{◌≡◌, ℕ, ◌+◌, true, false, Some, List, [], ◌∷◌, ◌++◌, length, refl, sym, ap, subst, ◌∙◌, append_assoc, arith, length-append}
use Rattle.std.specs.Prelude.{All, IsTrue, Result, Ok, Err, OnOk}
use Rattle.std.specs.List.{slice_split}
use Rattle.std.specs.Str.Lines.{strip_carriage_return}
use Rattle.std.proofs.lemmas.List.{append-nil}
use Rattle.std.proofs.lemmas.List.Elements.{All-nil}
use Rattle.script_lang.specs.Words.{is_passed_over}
use Rattle.script_lang.specs.Headers.{header_of, is_in_range}
use Rattle.script_lang.specs.LiveCommands.{live_line_of}
use Rattle.script_lang.specs.Ranges.{LiveLineIsWithin}
use Rattle.script_lang.specs.declared.header.Header.TheVariants as header
use Rattle.script_net.specs.Lines.{is_newline, ended_lines_of, from_command}
use Rattle.script_net.specs.Feeding.{IsDone, IsPart}
use Rattle.script_net.specs.Transcript.{lacks_header}
use Rattle.script_net.specs.declared.feed.Stop.{Stop}
use Rattle.script_net.proofs.Splits.{done_more, done_line, ended_done, ended_part, part_more}
use Rattle.script_net.proofs.Standing.{begins_here}
use Rattle.script_net.proofs.Begun.{from_command-more, lacks_more}
use Rattle.live_run.specs.declared.input.NumberedLine.{NumberedLine}
use Rattle.store_program.specs.declared.live_feed.LiveFeed.{LiveFeed}
use Rattle.store_program.specs.declared.live_feed.LiveInput.{LiveInput}
use Rattle.store_program.specs.declared.live_feed.LiveStage.{LiveStage}
use Rattle.store_program.specs.declared.live_feed.LiveStage.TheVariants.{Opening, Behind}
use Rattle.store_program.specs.Run.{is_no_live}
use Rattle.store_program.specs.Live.{numbered, numbered_from, AsksFor}
use Rattle.store_program.specs.LiveFeeding.{Asks, IsAsked, LiveStandsAt, IsTaken}

-- ---- one line more

numbered_more : (n clients number : ℕ) (lines : List (List ℕ)) (line : List ℕ) (last : ℕ) → last ≡ number + length lines
    → numbered_from n clients number (lines ++ line ∷ []) ≡ numbered_from n clients number lines ++ numbered last (live_line_of n clients line)
numbered_more n clients number [] line last is =
    let same : number ≡ last = omega (arith, is) in
    append-nil (numbered number (live_line_of n clients line)) ∙ ap (λ (k : ℕ). numbered k (live_line_of n clients line)) same
numbered_more n clients number (x ∷ xs) line last is =
    let first : List NumberedLine = numbered number (live_line_of n clients x) in
    ap (λ (rest : List NumberedLine). first ++ rest) (numbered_more n clients (number + 1) xs line last (omega (arith, is)))
    ∙ sym (append_assoc first (numbered_from n clients (number + 1) xs) (numbered last (live_line_of n clients line)))

-- behind the header
pub asks_more : (done : List (List ℕ)) (line : List ℕ) (n w clients turns loss number : ℕ) (asked : List NumberedLine) → AsksFor done n w clients turns loss asked → number ≡ length done + 1
    → AsksFor (done ++ line ∷ []) n w clients turns loss (asked ++ numbered number (live_line_of n clients line))
asks_more done line n w clients turns loss number asked a is = record {
  before = a.before;
  header = a.header;
  behind = a.behind ++ line ∷ [];
  parts = ap (λ (lines : List (List ℕ)). lines ++ line ∷ []) a.parts ∙ append_assoc a.before (a.header ∷ a.behind) (line ∷ []);
  first = from_command-more done (line ∷ []) a.header a.behind a.first;
  opens = a.opens;
  numbers =
      ap (λ (lines : List NumberedLine). lines ++ numbered number (live_line_of n clients line)) a.numbers
      ∙ sym (numbered_more n clients (length a.before + 2) a.behind line number (omega (arith, is, ap length a.parts, length-append a.before (a.header ∷ a.behind))));
}

-- the header
pub asked_first : (input : LiveInput) (done : List (List ℕ)) (line : List ℕ) → from_command done ≡ [] → is_passed_over line ≡ false
    → header_of line ≡ Some (header.Live input.n input.w input.clients input.turns input.loss)
    → IsTrue (is_in_range (header.Live input.n input.w input.clients input.turns input.loss)) → input.lines.items ≡ [] → IsAsked input (done ++ line ∷ [])
asked_first input done line none command opens in_range empty = record {
  asks = record { before = done; header = line; behind = []; parts = refl; first = begins_here done line none command; opens = opens; numbers = empty };
  in_range = in_range;
  within = subst (λ (ls : List NumberedLine). All (λ l. LiveLineIsWithin input.n input.clients l.line) ls) (sym empty) (All-nil (λ (l : NumberedLine). LiveLineIsWithin input.n input.clients l.line));
}

-- a line behind the header is read, unless memory ran out
pub asked_more : (r : Result (Unit {0}) Stop) (done : List (List ℕ)) (line : List ℕ) (n w clients turns loss number : ℕ) (asked more : List NumberedLine) → Asks n w clients turns loss asked done → number ≡ length done + 1
    → OnOk r (more ≡ asked ++ numbered number (live_line_of n clients line)) → OnOk r (All (λ l. LiveLineIsWithin n clients l.line) more)
    → OnOk r (Asks n w clients turns loss more (done ++ line ∷ []))
asked_more (Ok x) done line n w clients turns loss number asked more a is grown within = record {
  asks = subst (λ (ls : List NumberedLine). AsksFor (done ++ line ∷ []) n w clients turns loss ls) (sym grown) (asks_more done line n w clients turns loss number asked a.asks is);
  in_range = a.in_range;
  within = within;
}
asked_more (Err s) done line n w clients turns loss number asked more a is grown within = tt

-- the first command line is no header
pub live_refused : (done : List (List ℕ)) (line : List ℕ) → from_command done ≡ [] → is_passed_over line ≡ false → is_no_live (header_of line) ≡ true
    → lacks_header is_no_live false (from_command (done ++ line ∷ [])) ≡ true
live_refused done line none command refused = ap (lacks_header is_no_live false) (begins_here done line none command) ∙ refused

-- where a live input stands no header is lacking so far
pub live_stands_well : (stage : LiveStage) (lines : List (List ℕ)) → LiveStandsAt stage lines → lacks_header is_no_live false (from_command lines) ≡ false
live_stands_well Opening lines s = ap (lacks_header is_no_live false) s
live_stands_well (Behind input) lines s = ap (lacks_header is_no_live false) s.asks.first ∙ ap is_no_live s.asks.opens

-- ---- a text of which a rest is left

pub taken_begins : (feed : LiveFeed) (bytes piece : List ℕ) → IsTaken feed bytes [] → IsTaken feed (bytes ++ piece) piece
taken_begins feed bytes piece t = record {
  done = t.done;
  part = t.part;
  cut = subst (λ (part : List ℕ). IsDone (bytes ++ piece) t.done (part ++ piece)) (append-nil feed.part) (done_more bytes t.done (feed.part ++ []) piece t.cut);
  count = t.count;
  stands = t.stands;
}

module _ (feed : LiveFeed) (text rest : List ℕ) (t : IsTaken feed text rest) where
  module _ (front behind : List ℕ) (there : slice_split is_newline rest ≡ front ∷ slice_split is_newline behind) where
    -- the lines that are done after the next
    abbrev next_done : List (List ℕ)
    next_done = t.done ++ strip_carriage_return (feed.part ++ front) ∷ []

    next_cut : IsDone text next_done behind
    next_cut = done_line text t.done feed.part rest front behind t.part there t.cut

    pub taken_line : (next : LiveFeed) → next.part ≡ [] → next.count ≡ feed.count + 1 → LiveStandsAt next.stage (t.done ++ strip_carriage_return (feed.part ++ front) ∷ []) → IsTaken next text behind
    taken_line next empty counted stands = record {
      done = next_done;
      part = subst (λ (part : List ℕ). IsPart part) (sym empty) refl;
      cut = subst (λ (part : List ℕ). IsDone text next_done (part ++ behind)) (sym empty) next_cut;
      count = omega (arith, counted, t.count, length-append t.done (strip_carriage_return (feed.part ++ front) ∷ []));
      stands = stands;
    }

    pub taken_headless : lacks_header is_no_live false (from_command (t.done ++ strip_carriage_return (feed.part ++ front) ∷ [])) ≡ true
        → lacks_header is_no_live false (from_command (ended_lines_of text)) ≡ true
    taken_headless lacks =
        ap (λ (lines : List (List ℕ)). lacks_header is_no_live false (from_command lines)) (ended_done text next_done behind next_cut)
        ∙ lacks_more is_no_live false next_done (ended_lines_of behind) lacks

  pub taken_kept : IsPart rest → (next : LiveFeed) → next.part ≡ feed.part ++ rest → next.count ≡ feed.count → next.stage ≡ feed.stage → IsTaken next text []
  taken_kept none next part count stage = record {
    done = t.done;
    part = subst (λ (part : List ℕ). IsPart part) (sym part) (part_more feed.part rest t.part none);
    cut = subst (λ (part : List ℕ). IsDone text t.done part) (sym (append-nil next.part ∙ part)) t.cut;
    count = count ∙ t.count;
    stands = subst (λ (stage : LiveStage). LiveStandsAt stage t.done) (sym stage) t.stands;
  }

module _ (feed : LiveFeed) (text : List ℕ) (t : IsTaken feed text []) where
  all_cut : IsDone text t.done feed.part
  all_cut = subst (λ (part : List ℕ). IsDone text t.done part) (append-nil feed.part) t.cut

  -- the lines that have ended are done
  pub taken_ended : ended_lines_of text ≡ t.done
  taken_ended = ended_part text t.done feed.part t.part all_cut

  pub taken_well : lacks_header is_no_live false (from_command (ended_lines_of text)) ≡ false
  taken_well = ap (λ (lines : List (List ℕ)). lacks_header is_no_live false (from_command lines)) taken_ended ∙ live_stands_well feed.stage t.done t.stands
