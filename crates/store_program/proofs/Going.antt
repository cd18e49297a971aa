-- Lemmas on the run of one line more, and of one piece more.
use Rattle.std.proofs.Common.{◌≡◌, ℕ, ◌<◌, true, false, Some, None, Option, List, [], ◌∷◌, ◌++◌, take, drop, refl, sym, ap, subst, ◌∙◌, append_assoc, arith}
use Rattle.std.proofs.lemmas.List.{append-nil, take-append-drop}
use Rattle.std.specs.List.{slice_split}
use Rattle.std.specs.Prelude.{Result, Ok, Err, OnOk, OnErr, IfErr, MatchResult}
use Rattle.std.specs.Str.Lines.{strip_carriage_return}
use Rattle.store_io.specs.Bytes.{Took, TookPrefix}
use Rattle.store_io.proofs.BytesLemmas.{Took-append}
use Rattle.script_net.specs.Lines.{is_newline, ended_lines_of, from_command}
use Rattle.script_net.specs.Transcript.{is_no_script, lacks_header, transcript_of}
use Rattle.script_net.specs.Feeding.{IsDone, IsPart}
use Rattle.script_net.specs.declared.feed.Feed.{Feed}
use Rattle.script_net.specs.declared.feed.Stage.{Stage}
use Rattle.script_net.proofs.Splits.{done_more, done_line, ended_done, ended_part, part_more}
use Rattle.script_net.proofs.Begun.{lacks_more, lacks_silent}
use Rattle.store_program.specs.declared.run.Status.{Status}
use Rattle.store_program.specs.declared.run.Status.TheVariants as status
use Rattle.store_program.specs.Feeding.{GoesOn, StopsAs, IsFed}
use Rattle.store_program.specs.Run.{TookFront}
use Rattle.store_program.proofs.Transcripts.{front_grows, transcript_grows}

-- ---- what a sink took

-- a sink that took nothing is as before
pub took_nothing : (old new : Option (List ℕ)) (bytes : List ℕ) → bytes ≡ [] → Took old new bytes → new ≡ old
took_nothing None new bytes none e = e
took_nothing (Some held) new bytes none e = e ∙ ap (λ (all : List ℕ). Some all) (ap (λ (behind : List ℕ). held ++ behind) none ∙ append-nil held)

-- what a sink took of a text is a front of it
pub front_taken : (old new : Option (List ℕ)) (text : List ℕ) → TookPrefix old new text → TookFront old new text
front_taken old new text p = record { front = take p.0 text; behind = drop p.0 text; parts = take-append-drop p.0 text; took = p.2 }

-- what a sink took of a text behind what it took is a front of both
pub took_front : (old between new : Option (List ℕ)) (first then : List ℕ) → Took old between first → TookPrefix between new then → TookFront old new (first ++ then)
took_front old between new first then e p = record {
  front = first ++ take p.0 then;
  behind = drop p.0 then;
  parts = append_assoc first (take p.0 then) (drop p.0 then) ∙ ap (λ (text : List ℕ). first ++ text) (take-append-drop p.0 then);
  took = Took-append old between new first (take p.0 then) e p.2;
}

-- a list that has nothing in front has no front
pub front_empty : (xs ys : List ℕ) → xs ++ ys ≡ [] → xs ≡ []
front_empty [] ys e = refl
front_empty (x ∷ xs) ys e = absurd cc

back_empty : (xs ys : List ℕ) → xs ++ ys ≡ [] → ys ≡ []
back_empty [] ys e = e
back_empty (x ∷ xs) ys e = absurd cc

-- ---- one line more

-- replies that are held are written
pub goes_flushed : (stage : Stage) (done : List (List ℕ)) (out : List ℕ) (old mid new : Option (List ℕ)) (before between after : ℕ)
    → (g : GoesOn stage done out old mid before between) → Took old new (g.written ++ out) → after ≡ between → GoesOn stage done [] old new before after
goes_flushed stage done out old mid new before between after g took steady = record {
  stands = g.stands;
  written = g.written ++ out;
  took = took;
  steady = steady ∙ g.steady;
  text = append-nil (g.written ++ out) ∙ g.text;
}

-- a write of replies that are held failed
pub goes_unwritten : (stage : Stage) (done : List (List ℕ)) (out : List ℕ) (old mid new : Option (List ℕ)) (before between after : ℕ) (s : Status)
    → s ≡ status.WriteFault → (g : GoesOn stage done out old mid before between) → (out ≡ [] → ⊥) → TookFront old new (g.written ++ out) → between < after → StopsAs s done old new before after
goes_unwritten stage done out old mid new before between after s is g some front fault =
    subst (λ (s : Status). StopsAs s done old new before after) (sym is)
    (omega (arith, g.steady, fault), λ none. some (back_empty g.written out (g.text ∙ none)), subst (λ (text : List ℕ). TookFront old new text) g.text front)

-- what comes of a write of replies that are held
pub goes_written : (r : Result (Unit {0}) Status) (stage : Stage) (done : List (List ℕ)) (out held : List ℕ) (old mid new : Option (List ℕ)) (before between after : ℕ)
    → (g : GoesOn stage done out old mid before between) → held ≡ [] → OnOk r (Took old new (g.written ++ out)) → OnErr r (TookFront old new (g.written ++ out)) → OnErr r (out ≡ [] → ⊥)
    → OnOk r (after ≡ between) → OnErr r (between < after) → IfErr r (λ s. s ≡ status.WriteFault)
    → MatchResult r (λ _. GoesOn stage done held old new before after) (λ s. StopsAs s done old new before after)
goes_written (Ok x) stage done out held old mid new before between after g none ok front some steady fault is =
    subst (λ (held : List ℕ). GoesOn stage done held old new before after) (sym none) (goes_flushed stage done out old mid new before between after g ok steady)
goes_written (Err s) stage done out held old mid new before between after g none ok front some steady fault is = goes_unwritten stage done out old mid new before between after s is g some front fault

-- there was no memory for one line more
pub goes_without_memory : (stage : Stage) (done more : List (List ℕ)) (out : List ℕ) (old mid new : Option (List ℕ)) (before between after : ℕ) (s : Status)
    → s ≡ status.NoMemory → (g : GoesOn stage done out old mid before between) → TookFront old new (g.written ++ out) → StopsAs s (done ++ more) old new before after
goes_without_memory stage done more out old mid new before between after s is g front =
    subst (λ (s : Status). StopsAs s (done ++ more) old new before after) (sym is)
    (front_grows old new (transcript_of done) (transcript_of (done ++ more)) (transcript_grows done more) (subst (λ (text : List ℕ). TookFront old new text) g.text front))

-- the first command line is no header
pub goes_headless : (stage : Stage) (done more : List (List ℕ)) (out : List ℕ) (old mid : Option (List ℕ)) (before between : ℕ)
    → GoesOn stage done out old mid before between → lacks_header is_no_script false (from_command (done ++ more)) ≡ true → StopsAs status.BadHeader (done ++ more) old mid before between
goes_headless stage done more out old mid before between g lacks =
    (lacks, took_nothing old mid g.written (front_empty g.written out (g.text ∙ lacks_silent done more lacks)) g.took)

-- why a run of lines stopped it stops with more lines too
pub stops_more : (s : Status) (done more : List (List ℕ)) (old new : Option (List ℕ)) (before after : ℕ) → StopsAs s done old new before after → StopsAs s (done ++ more) old new before after
stops_more status.BadHeader done more old new before after h = (lacks_more is_no_script false done more h.0, h.1)
stops_more status.WriteFault done more old new before after h =
    let grows = transcript_grows done more in
    (h.0, λ none. h.1 (front_empty (transcript_of done) grows.behind (grows.parts ∙ none)), front_grows old new (transcript_of done) (transcript_of (done ++ more)) grows h.2)
stops_more status.NoMemory done more old new before after h = front_grows old new (transcript_of done) (transcript_of (done ++ more)) (transcript_grows done more) h
stops_more status.Fine done more old new before after h = absurd h
stops_more status.BadWords done more old new before after h = absurd h
stops_more status.TooLong done more old new before after h = absurd h
stops_more status.ReadFault done more old new before after h = absurd h

-- ---- a piece

-- In the midst of a piece: some lines of the text are done, and what is left of it is the part that waits and the rest of
-- the piece.
pub record InPiece (feed : Feed) (text rest out : List ℕ) (old new : Option (List ℕ)) (before after : ℕ) : Type 0 where
  pub done : List (List ℕ)
  pub part : IsPart feed.part
  pub cut : IsDone text done (feed.part ++ rest)
  pub goes : GoesOn feed.stage done out old new before after

pub piece_begins : (feed : Feed) (bytes piece out : List ℕ) (old new : Option (List ℕ)) (before after : ℕ) → IsFed feed bytes out old new before after → InPiece feed (bytes ++ piece) piece out old new before after
piece_begins feed bytes piece out old new before after f = record {
  done = ended_lines_of bytes;
  part = f.part;
  cut = done_more bytes (ended_lines_of bytes) feed.part piece f.done;
  goes = f.goes;
}

module _ (feed : Feed) (text rest out : List ℕ) (old mid : Option (List ℕ)) (before between : ℕ) (p : InPiece feed text rest out old mid before between) where
  module _ (front behind : List ℕ) (there : slice_split is_newline rest ≡ front ∷ slice_split is_newline behind) where
    -- the lines that are done after the next
    abbrev next_done : List (List ℕ)
    next_done = p.done ++ strip_carriage_return (feed.part ++ front) ∷ []

    next_cut : IsDone text next_done behind
    next_cut = done_line text p.done feed.part rest front behind p.part there p.cut

    pub piece_goes : (next : Feed) (held : List ℕ) (new : Option (List ℕ)) (after : ℕ) → next.part ≡ []
        → GoesOn next.stage (p.done ++ strip_carriage_return (feed.part ++ front) ∷ []) held old new before after → InPiece next text behind held old new before after
    piece_goes next held new after empty g = record {
      done = next_done;
      part = subst (λ (part : List ℕ). IsPart part) (sym empty) refl;
      cut = subst (λ (part : List ℕ). IsDone text next_done (part ++ behind)) (sym empty) next_cut;
      goes = g;
    }

    pub piece_stops : (s : Status) (new : Option (List ℕ)) (after : ℕ)
        → StopsAs s (p.done ++ strip_carriage_return (feed.part ++ front) ∷ []) old new before after → StopsAs s (ended_lines_of text) old new before after
    piece_stops s new after h =
        subst (λ (all : List (List ℕ)). StopsAs s all old new before after) (sym (ended_done text next_done behind next_cut))
        (stops_more s next_done (ended_lines_of behind) old new before after h)

  -- what is left has no newline: all lines that have ended are done
  pub piece_ended : IsPart rest → ended_lines_of text ≡ p.done
  piece_ended none = ended_part text p.done (feed.part ++ rest) (part_more feed.part rest p.part none) p.cut

  pub piece_ends : IsPart rest → (next : Feed) → next.part ≡ feed.part ++ rest → next.stage ≡ feed.stage → (new : Option (List ℕ)) (after : ℕ)
      → Took old new (p.goes.written ++ out) → after ≡ between → IsFed next text [] old new before after
  piece_ends none next part stage new after took steady =
      let ended = piece_ended none in
      record {
        part = subst (λ (part : List ℕ). IsPart part) (sym part) (part_more feed.part rest p.part none);
        done = subst (λ (part : List ℕ). IsDone text (ended_lines_of text) part) (sym part) (subst (λ (done : List (List ℕ)). IsDone text done (feed.part ++ rest)) (sym ended) p.cut);
        goes = subst (λ (stage : Stage). GoesOn stage (ended_lines_of text) [] old new before after) (sym stage)
            (subst (λ (done : List (List ℕ)). GoesOn feed.stage done [] old new before after) (sym ended) (goes_flushed feed.stage p.done out old mid new before between after p.goes took steady));
      }

  -- what comes of a write of the replies that are held then
  pub piece_written : IsPart rest → (r : Result (Unit {0}) Status) (next : Feed) → next.part ≡ feed.part ++ rest → next.stage ≡ feed.stage → (new : Option (List ℕ)) (after : ℕ)
      → OnOk r (Took old new (p.goes.written ++ out)) → OnErr r (TookFront old new (p.goes.written ++ out)) → OnErr r (out ≡ [] → ⊥)
      → OnOk r (after ≡ between) → OnErr r (between < after) → IfErr r (λ s. s ≡ status.WriteFault)
      → MatchResult r (λ _. IsFed next text [] old new before after) (λ s. StopsAs s (ended_lines_of text) old new before after)
  piece_written none (Ok x) next part stage new after ok front some steady fault is = piece_ends none next part stage new after ok steady
  piece_written none (Err s) next part stage new after ok front some steady fault is =
      subst (λ (all : List (List ℕ)). StopsAs s all old new before after) (sym (piece_ended none))
      (goes_unwritten feed.stage p.done out old mid new before between after s is p.goes some front fault)

  pub piece_without_memory : IsPart rest → (s : Status) (new : Option (List ℕ)) (after : ℕ) → s ≡ status.NoMemory → TookFront old new (p.goes.written ++ out)
      → StopsAs s (ended_lines_of text) old new before after
  piece_without_memory none s new after is front =
      subst (λ (all : List (List ℕ)). StopsAs s all old new before after) (append-nil p.done ∙ sym (piece_ended none))
      (goes_without_memory feed.stage p.done [] out old mid new before between after s is p.goes front)
