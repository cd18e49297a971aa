-- Lemmas on how a run ends.
use Rattle.std.proofs.Common.{◌≡◌, ◌⊎◌, ℕ, ◌<◌, ◌≤◌, Bool, true, false, Some, None, Option, List, [], ◌∷◌, ◌++◌, length, take, refl, sym, ap, subst, ◌∙◌, inl, inr, append_assoc, arith, take_all, length-append}
use Rattle.std.specs.Option.{option_map}
use Rattle.std.proofs.lemmas.List.{append-nil}
use Rattle.std.proofs.Math.Seq.{take-append_seam}
use Rattle.std.proofs.lemmas.Bool.{false≢true}
use Rattle.std.specs.Str.Lines.{strip_carriage_return}
use Rattle.store_io.specs.Bytes.{Gave, Ended, Took}
use Rattle.script_lang.specs.declared.header.Header.{Header}
use Rattle.script_net.specs.Honest.{is_unforged}
use Rattle.script_net.specs.Lines.{lines_of, ended_lines_of, whole_lines_of, from_command}
use Rattle.script_net.specs.Transcript.{is_no_script, lacks_header, transcript_of, transcript}
use Rattle.script_net.specs.Feeding.{StandsAt, is_opening}
use Rattle.script_net.specs.declared.feed.Feed.{Feed}
use Rattle.script_net.specs.declared.feed.Stage.{Stage}
use Rattle.script_net.specs.declared.feed.Stage.TheVariants.{Opening, Running}
use Rattle.script_net.proofs.Honest.{transcripts_are_fair}
use Rattle.script_net.proofs.Splits.{lines_part, ended_begin}
use Rattle.script_net.proofs.Begun.{lacks_more}
use Rattle.store_program.specs.declared.run.Status.{Status}
use Rattle.store_program.specs.declared.run.Status.TheVariants as status
use Rattle.store_program.specs.Feeding.{GoesOn, StopsAs, IsFed, Concludes}
use Rattle.store_program.specs.Run.{SourceSeen, SinkSeen, TookFair, EndsFine, EndsHeadless, EndsTooLong, most_input, is_headless, TookFront, Ends, AnswersInput, AnswersMade, made_summary}
use Rattle.store_program.specs.declared.words.Request.{Request}
use Rattle.store_program.specs.declared.words.Request.TheVariants.{Script, Live, Make}
use Rattle.store_program.proofs.Standing.{stands_well, behind_header}
use Rattle.store_program.proofs.Transcripts.{IsFront, front_grows, transcript_grows, replies_have_header}
use Rattle.store_program.proofs.Going.{front_empty, goes_unwritten, took_nothing}

-- ---- the last line

-- the part that waits is the last line
pub all_lines : (feed : Feed) (bytes out : List ℕ) (old new : Option (List ℕ)) (before after : ℕ) → IsFed feed bytes out old new before after
    → ended_lines_of bytes ++ strip_carriage_return (feed.part ++ []) ∷ [] ≡ lines_of bytes
all_lines feed bytes out old new before after f =
    ap (λ (part : List ℕ). ended_lines_of bytes ++ strip_carriage_return part ∷ []) (append-nil feed.part)
    ∙ sym (lines_part bytes (ended_lines_of bytes) feed.part f.part f.done)

-- the run of the last line stopped
pub concludes_stopped : (s : Status) (bytes : List ℕ) (lines : List (List ℕ)) (old new : Option (List ℕ)) (before after : ℕ) → lines ≡ lines_of bytes → StopsAs s lines old new before after
    → Concludes s bytes old new before after
concludes_stopped status.BadHeader bytes lines old new before after all h =
    (ap (λ (ls : List (List ℕ)). lacks_header is_no_script true (from_command ls)) (sym (append-nil lines ∙ all)) ∙ lacks_more is_no_script true lines [] h.0, h.1)
concludes_stopped status.WriteFault bytes lines old new before after all h = subst (λ (ls : List (List ℕ)). StopsAs status.WriteFault ls old new before after) all h
concludes_stopped status.NoMemory bytes lines old new before after all h = subst (λ (ls : List (List ℕ)). StopsAs status.NoMemory ls old new before after) all h
concludes_stopped status.Fine bytes lines old new before after all h = absurd h
concludes_stopped status.BadWords bytes lines old new before after all h = absurd h
concludes_stopped status.TooLong bytes lines old new before after all h = absurd h
concludes_stopped status.ReadFault bytes lines old new before after all h = absurd h

module _ (bytes : List ℕ) (lines : List (List ℕ)) (all : lines ≡ lines_of bytes) (out : List ℕ) (old mid new : Option (List ℕ)) (before between after : ℕ) where
  -- there was no command line
  pub concludes_opening : (stage : Stage) → GoesOn stage lines out old mid before between → is_opening stage ≡ true → Concludes status.BadHeader bytes old mid before between
  concludes_opening Opening g opening =
      let none : from_command (lines_of bytes) ≡ [] = ap from_command (sym all) ∙ g.stands in
      (ap (lacks_header is_no_script true) none, took_nothing old mid g.written (front_empty g.written out (g.text ∙ ap (λ (ls : List (List ℕ)). transcript_of ls) all ∙ silent none)) g.took)
    where
      silent : from_command (lines_of bytes) ≡ [] → transcript_of (lines_of bytes) ≡ []
      silent none = rw none refl
  concludes_opening (Running runner) g opening = absurd (false≢true opening)

  headed : (stage : Stage) → StandsAt stage lines → is_opening stage ≡ false → lacks_header is_no_script true (from_command lines) ≡ false
  headed Opening stands opening = absurd (false≢true (sym opening))
  headed (Running runner) stands opening = behind_header true runner lines stands

  -- all was written
  pub concludes_fine : (stage : Stage) → (g : GoesOn stage lines out old mid before between) → is_opening stage ≡ false → Took old new (g.written ++ out) → Concludes status.Fine bytes old new before after
  concludes_fine stage g opening took = (
    ap (λ (ls : List (List ℕ)). lacks_header is_no_script true (from_command ls)) (sym all) ∙ headed stage g.stands opening,
    subst (λ (text : List ℕ). Took old new text) (g.text ∙ ap transcript_of all) took,
  )

  -- the last write failed
  pub concludes_unwritten : (stage : Stage) (s : Status) → s ≡ status.WriteFault → (g : GoesOn stage lines out old mid before between) → (out ≡ [] → ⊥) → TookFront old new (g.written ++ out) → between < after
      → Concludes s bytes old new before after
  concludes_unwritten stage s is g some front fault =
      concludes_stopped s bytes lines old new before after all (goes_unwritten stage lines out old mid new before between after s is g some front fault)

-- ---- what a source gave

-- what a source gave in two calls stood one behind the other
pub gave_both : (old between new : Option (List ℕ)) (first then : List ℕ) → Gave old between first → Gave between new then → Gave old new (first ++ then)
gave_both old between None first then e f = e ∙ ap (option_map (λ (rest : List ℕ). first ++ rest)) f
gave_both old between (Some rest) first then e f =
    e ∙ (ap (option_map (λ (rest : List ℕ). first ++ rest)) f ∙ ap (λ (all : List ℕ). Some all) (sym (append_assoc first then rest)))

-- a source that gave nothing is as before
gave_nothing : (old new : Option (List ℕ)) → Gave old new [] → new ≡ old
gave_nothing old None e = sym e
gave_nothing old (Some rest) e = sym e

-- a source that gave no more
pub gave_end : (old between new : Option (List ℕ)) (given buffer : List ℕ) (count : ℕ) → count ≡ 0 → Gave old between given → Gave between new (take count buffer) → Gave old new given
gave_end old between new given buffer count none e f =
    let same : new ≡ between = gave_nothing between new (subst (λ (n : ℕ). Gave between new (take n buffer)) none f) in
    subst (λ (left : Option (List ℕ)). Gave old left given) (sym same) e

-- nothing is held
pub fed_with : (feed : Feed) (bytes out : List ℕ) (old new : Option (List ℕ)) (before after : ℕ) → out ≡ [] → IsFed feed bytes [] old new before after → IsFed feed bytes out old new before after
fed_with feed bytes out old new before after empty f = subst (λ (out : List ℕ). IsFed feed bytes out old new before after) (sym empty) f

-- ---- answers

-- of an input that isn't too long all counts
pub headless_short : (is_none_of : Option Header → Bool) (ended : Bool) (given : List ℕ) → length given ≤ most_input
    → is_headless is_none_of ended given ≡ lacks_header is_none_of ended (from_command (whole_lines_of ended given))
headless_short is_none_of ended given short = ap (λ (bytes : List ℕ). lacks_header is_none_of ended (from_command (whole_lines_of ended bytes))) (take_all most_input given short)

-- the replies to the lines that ended are a front of the transcript
ended_front : (given : List ℕ) → IsFront (transcript_of (ended_lines_of given)) (transcript given)
ended_front given =
    let begins = ended_begin given [] in
    subst (λ (lines : List (List ℕ)). IsFront (transcript_of (ended_lines_of given)) (transcript_of lines))
    (sym begins.is ∙ ap lines_of (append-nil given)) (transcript_grows (ended_lines_of given) begins.more)

-- lines that ended lack no header where all lines don't
no_lack : (given : List ℕ) (b : Bool) → lacks_header is_no_script false (from_command (ended_lines_of given)) ≡ b → lacks_header is_no_script true (from_command (lines_of given)) ≡ false → b ≡ false
no_lack given false e whole = refl
no_lack given true e whole =
    let begins = ended_begin given [] in
    absurd (false≢true (sym whole ∙ (ap (λ (lines : List (List ℕ)). lacks_header is_no_script true (from_command lines)) (sym (ap lines_of (append-nil given)) ∙ begins.is)
    ∙ lacks_more is_no_script true (ended_lines_of given) begins.more e)))

front_of_short : (given : List ℕ) (old new : Option (List ℕ)) → length given ≤ most_input → TookFront old new (transcript given) → TookFront old new (transcript (take most_input given))
front_of_short given old new short front = subst (λ (bytes : List ℕ). TookFront old new (transcript bytes)) (sym (take_all most_input given short)) front

module _ (given : List ℕ) (source_old source_new : SourceSeen) (old new : SinkSeen) (short : length given ≤ most_input) where
  -- the run of a piece stopped
  pub ends_stopped : (s : Status) → StopsAs s (ended_lines_of given) old.held new.held old.faults new.faults → Ends s given source_old source_new old new
  ends_stopped status.BadHeader h = record { lacks = inl (headless_short is_no_script false given short ∙ h.0); wrote = h.1 }
  ends_stopped status.WriteFault h = record {
    fault = h.0;
    header = headless_short is_no_script false given short ∙ replies_have_header false (ended_lines_of given) h.1;
    wrote = front_of_short given old.held new.held short (front_grows old.held new.held _ _ (ended_front given) h.2);
  }
  ends_stopped status.NoMemory h = front_of_short given old.held new.held short (front_grows old.held new.held _ _ (ended_front given) h)
  ends_stopped status.Fine h = absurd h
  ends_stopped status.BadWords h = absurd h
  ends_stopped status.TooLong h = absurd h
  ends_stopped status.ReadFault h = absurd h

  -- the input ended
  pub ends_concluded : (s : Status) → Ended source_new.left → Concludes s given old.held new.held old.faults new.faults → Ends s given source_old source_new old new
  ends_concluded status.Fine ended h = record { ended = ended; short = short; header = headless_short is_no_script true given short ∙ h.0; wrote = h.1 }
  ends_concluded status.BadHeader ended h = record { lacks = inr (ended, short, headless_short is_no_script true given short ∙ h.0); wrote = h.1 }
  ends_concluded status.WriteFault ended h = record {
    fault = h.0;
    header = headless_short is_no_script false given short ∙ no_lack given _ refl (replies_have_header true (lines_of given) h.1);
    wrote = front_of_short given old.held new.held short h.2;
  }
  ends_concluded status.NoMemory ended h = front_of_short given old.held new.held short h
  ends_concluded status.BadWords ended h = absurd h
  ends_concluded status.TooLong ended h = absurd h
  ends_concluded status.ReadFault ended h = absurd h

  -- a read failed
  pub ends_broken : (feed : Feed) → IsFed feed given [] old.held new.held old.faults new.faults → source_old.faults < source_new.faults → Ends status.ReadFault given source_old source_new old new
  ends_broken feed f fault = record {
    fault = fault;
    short = short;
    header = headless_short is_no_script false given short ∙ stands_well feed.stage (ended_lines_of given) f.goes.stands;
    wrote = subst (λ (text : List ℕ). Took old.held new.held text) (sym (append-nil f.goes.written) ∙ f.goes.text) f.goes.took;
  }

-- one byte more came than an input may have
pub ends_too_long : (given more : List ℕ) (old new : SinkSeen) (feed : Feed) → length given ≡ most_input → length more ≡ 1
    → IsFed feed given [] old.held new.held old.faults new.faults → EndsTooLong (given ++ more) old new
ends_too_long given more old new feed full one f =
    let head : take most_input (given ++ more) ≡ given = ap (λ (n : ℕ). take n (given ++ more)) (sym full) ∙ take-append_seam given more in
    record {
      long = omega (arith, length-append given more, full, one);
      header = ap (λ (bytes : List ℕ). lacks_header is_no_script false (from_command (ended_lines_of bytes))) head ∙ stands_well feed.stage (ended_lines_of given) f.goes.stands;
      wrote = subst (λ (text : List ℕ). Took old.held new.held text) (sym (append-nil f.goes.written) ∙ (f.goes.text ∙ ap (λ (bytes : List ℕ). transcript_of (ended_lines_of bytes)) (sym head))) f.goes.took;
    }

-- ---- a good script

-- a source that told its bytes has some left
pub split_left : (given input : List ℕ) (left : Option (List ℕ)) → Some input ≡ option_map (λ rest. given ++ rest) left → (rest : List ℕ) × (left ≡ Some rest) × (input ≡ given ++ rest)
split_left given input None e = absurd cc
split_left given input (Some rest) e = (rest, refl, cc)

pub all_given : (given rest input : List ℕ) (left : Option (List ℕ)) → left ≡ Some rest → input ≡ given ++ rest → Ended left → given ≡ input
all_given given rest input left is parts ended =
    let none : rest ≡ [] = subst (λ (l : Option (List ℕ)). Ended l) is ended in
    sym (parts ∙ (ap (λ (rest : List ℕ). given ++ rest) none ∙ append-nil given))

-- where an input has a header, no part of it lacks one
pub never_headless : (is_none_of : Option Header → Bool) (given rest input : List ℕ) (source : SourceSeen) (old new : SinkSeen) → source.left ≡ Some rest → input ≡ given ++ rest → length input ≤ most_input
    → lacks_header is_none_of true (from_command (lines_of input)) ≡ false → EndsHeadless is_none_of given source old new → ⊥
never_headless is_none_of given rest input source old new is parts short header h =
    let few : length given ≤ most_input = omega (arith, short, ap length parts, length-append given rest) in
    elim h.lacks [
      | inl lacks ↦
          let begins = ended_begin given rest in
          false≢true (sym header ∙ (ap (λ (lines : List (List ℕ)). lacks_header is_none_of true (from_command lines)) (ap lines_of parts ∙ begins.is)
          ∙ lacks_more is_none_of true (ended_lines_of given) begins.more (sym (headless_short is_none_of false given few) ∙ lacks)))
      | inr all ↦
          false≢true (sym header ∙ (ap (λ (bytes : List ℕ). lacks_header is_none_of true (from_command (lines_of bytes))) (sym (all_given given rest input source.left is parts all.0))
          ∙ (sym (headless_short is_none_of true given few) ∙ all.2)))
    ]

module _ (source_old source_new : SourceSeen) (old new : SinkSeen) (input : List ℕ) (tells : source_old.left ≡ Some input)
    (short : length input ≤ most_input) (header : lacks_header is_no_script true (from_command (lines_of input)) ≡ false)
    (no_reads : source_new.faults ≡ source_old.faults) (no_writes : new.faults ≡ old.faults) where
  completes_given : (s : Status) (given rest : List ℕ) → source_new.left ≡ Some rest → input ≡ given ++ rest → Ends s given source_old source_new old new
      → (s ≡ status.NoMemory) ⊎ ((s ≡ status.Fine) × Took old.held new.held (transcript input))
  completes_given status.Fine given rest left parts h =
      inr (refl, subst (λ (bytes : List ℕ). Took old.held new.held (transcript bytes)) (all_given given rest input source_new.left left parts h.ended) h.wrote)
  completes_given status.BadHeader given rest left parts h = absurd (never_headless is_no_script given rest input source_new old new left parts short header h)
  completes_given status.TooLong given rest left parts h = absurd (omega (arith, short, h.long, ap length parts, length-append given rest))
  completes_given status.ReadFault given rest left parts h = absurd (omega (arith, h.fault, no_reads))
  completes_given status.WriteFault given rest left parts h = absurd (omega (arith, h.fault, no_writes))
  completes_given status.NoMemory given rest left parts h = inl refl
  completes_given status.BadWords given rest left parts h = absurd h

  pub completes : (s : Status) → AnswersInput s source_old source_new old new → (s ≡ status.NoMemory) ⊎ ((s ≡ status.Fine) × Took old.held new.held (transcript input))
  completes s a =
      let left = split_left a.given input source_new.left (sym tells ∙ a.gave) in
      completes_given s a.given left.0 left.1 left.2 a.ends

-- where all came and was answered, the whole transcript was written: fair replies, where no line offers bytes
pub fine_is_fair : (s : Status) (source_old source_new : SourceSeen) (old new : SinkSeen) (input : List ℕ) → source_old.left ≡ Some input
    → AnswersInput s source_old source_new old new → is_unforged input ≡ true → s ≡ status.Fine → TookFair input old.held new.held
fine_is_fair s source_old source_new old new input tells a plain fine =
    let left = split_left a.given input source_new.left (sym tells ∙ a.gave) in
    let ends : EndsFine a.given source_new old new = subst (λ x. Ends x a.given source_old source_new old new) fine a.ends in
    record {
      text = transcript input;
      fair = transcripts_are_fair input plain;
      took = subst (λ (bytes : List ℕ). Took old.held new.held (transcript bytes)) (all_given a.given left.0 input source_new.left left.1 left.2 ends.ended) ends.wrote;
    }

-- ---- a made script

-- the summary that a request asks for, and nothing where it asks for none
abbrev pub summary_for : Option Request → List ℕ
summary_for (Some (Make seed count n w)) = made_summary seed count n w
summary_for (Some Script) = []
summary_for (Some Live) = []
summary_for None = []

-- where no write failed the summary was written, or there was no memory
completes_made : (s : Status) (text : List ℕ) (old new : SinkSeen) → AnswersMade s text old new
    → new.faults ≡ old.faults → (s ≡ status.NoMemory) ⊎ ((s ≡ status.Fine) × Took old.held new.held text)
completes_made status.Fine text old new h steady = inr (refl, h)
completes_made status.WriteFault text old new h steady = absurd (omega (arith, h.0, steady))
completes_made status.NoMemory text old new h steady = inl refl
completes_made status.BadWords text old new h steady = absurd h
completes_made status.BadHeader text old new h steady = absurd h
completes_made status.TooLong text old new h steady = absurd h
completes_made status.ReadFault text old new h steady = absurd h

-- the same of the summary that was asked for
pub completes_asked : (s : Status) (asked given : Option Request) (old new : SinkSeen) → given ≡ asked
    → AnswersMade s (summary_for given) old new → new.faults ≡ old.faults → (s ≡ status.NoMemory) ⊎ ((s ≡ status.Fine) × Took old.held new.held (summary_for asked))
completes_asked s asked given old new is h steady =
    completes_made s (summary_for asked) old new (subst (λ (r : Option Request). AnswersMade s (summary_for r) old new) is h) steady
