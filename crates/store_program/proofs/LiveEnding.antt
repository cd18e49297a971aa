-- Lemmas on how a run in mode live ends.
use Rattle.std.proofs.Common.{◌≡◌, ◌⊎◌, ℕ, ◌<◌, ◌≤◌, true, false, Some, Option, List, [], ◌++◌, length, take, refl, sym, ap, subst, ◌∙◌, inl, inr, arith, length-append}
use Rattle.std.proofs.Math.Seq.{take-append_seam}
use Rattle.store_io.specs.Bytes.{Ended}
use Rattle.script_net.specs.Lines.{lines_of, ended_lines_of, from_command}
use Rattle.script_net.specs.Transcript.{lacks_header}
use Rattle.script_net.specs.declared.feed.Stop.{Stop}
use Rattle.script_net.specs.declared.feed.Stop.TheVariants as stop
use Rattle.live_run.specs.Runs.{IsLiveText}
use Rattle.store_program.specs.declared.live_feed.LiveFeed.{LiveFeed}
use Rattle.store_program.specs.declared.live_feed.LiveInput.{LiveInput}
use Rattle.store_program.specs.declared.run.Status.{Status}
use Rattle.store_program.specs.declared.run.Status.TheVariants as status
use Rattle.store_program.specs.Run.{most_input, is_no_live, SourceSeen, SinkSeen}
use Rattle.store_program.specs.Live.{IsLiveOutput, TookLive, EndsLiveTooLong, LiveEnds, AnswersLive}
use Rattle.store_program.specs.LiveFeeding.{IsAsked, IsTaken, status_of_stop}
use Rattle.store_program.proofs.Ending.{headless_short, split_left, all_given, never_headless}
use Rattle.store_program.proofs.LiveLines.{taken_well}

-- ---- why nothing is written

module _ (given : List ℕ) (source_old source_new : SourceSeen) (short : length given ≤ most_input) (sink : SinkSeen) where
  -- the lines of a piece stopped it
  pub live_stopped : (s : Stop) → (s ≡ stop.BadHeader → lacks_header is_no_live false (from_command (ended_lines_of given)) ≡ true)
      → LiveEnds (status_of_stop s) given source_old source_new sink sink
  live_stopped stop.BadHeader lacks = record { lacks = inl (headless_short is_no_live false given short ∙ lacks refl); wrote = refl }
  live_stopped stop.NoMemory lacks = refl

  -- the end of the input stopped it
  pub live_ended : Ended source_new.left → (s : Stop) → (s ≡ stop.BadHeader → lacks_header is_no_live true (from_command (lines_of given)) ≡ true)
      → LiveEnds (status_of_stop s) given source_old source_new sink sink
  live_ended ended stop.BadHeader lacks = record { lacks = inr (ended, short, headless_short is_no_live true given short ∙ lacks refl); wrote = refl }
  live_ended ended stop.NoMemory lacks = refl

  -- a read failed
  pub live_broken : (feed : LiveFeed) → IsTaken feed given [] → source_old.faults < source_new.faults → LiveEnds status.ReadFault given source_old source_new sink sink
  live_broken feed taken fault = record { fault = fault; short = short; header = headless_short is_no_live false given short ∙ taken_well feed given taken; wrote = refl }

-- one byte more came than an input may have
pub live_too_long : (given more : List ℕ) (sink : SinkSeen) (feed : LiveFeed) → length given ≡ most_input → length more ≡ 1 → IsTaken feed given [] → EndsLiveTooLong (given ++ more) sink sink
live_too_long given more sink feed full one taken =
    let head : take most_input (given ++ more) ≡ given = ap (λ (n : ℕ). take n (given ++ more)) (sym full) ∙ take-append_seam given more in
    record {
      long = omega (arith, length-append given more, full, one);
      header = ap (λ (bytes : List ℕ). lacks_header is_no_live false (from_command (ended_lines_of bytes))) head ∙ taken_well feed given taken;
      wrote = refl;
    }

-- ---- what a run of an input wrote

-- a text that is right for what an input asks for is right for the input
pub right_output : (input : LiveInput) (given text : List ℕ) → IsAsked input (lines_of given) → IsLiveText input.n input.w input.clients input.lines.items text → IsLiveOutput given text
right_output input given text asked right = record {
  n = input.n;
  w = input.w;
  clients = input.clients;
  turns = input.turns;
  loss = input.loss;
  asked = input.lines.items;
  asks = asked.asks;
  right = right;
}

-- ---- a good live input

module _ (source_old source_new : SourceSeen) (old new : SinkSeen) (input : List ℕ) (tells : source_old.left ≡ Some input)
    (short : length input ≤ most_input) (header : lacks_header is_no_live true (from_command (lines_of input)) ≡ false)
    (no_reads : source_new.faults ≡ source_old.faults) (no_writes : new.faults ≡ old.faults) where
  completes_given : (s : Status) (given rest : List ℕ) → source_new.left ≡ Some rest → input ≡ given ++ rest → LiveEnds s given source_old source_new old new
      → (s ≡ status.NoMemory) ⊎ ((s ≡ status.Fine) × TookLive input old.held new.held)
  completes_given status.Fine given rest left parts h =
      inr (refl, subst (λ (bytes : List ℕ). TookLive bytes old.held new.held) (all_given given rest input source_new.left left parts h.ended) h.wrote)
  completes_given status.BadHeader given rest left parts h = absurd (never_headless is_no_live given rest input source_new old new left parts short header h)
  completes_given status.TooLong given rest left parts h = absurd (omega (arith, short, h.long, ap length parts, length-append given rest))
  completes_given status.ReadFault given rest left parts h = absurd (omega (arith, h.fault, no_reads))
  completes_given status.WriteFault given rest left parts h = absurd (omega (arith, h.fault, no_writes))
  completes_given status.NoMemory given rest left parts h = inl refl
  completes_given status.BadWords given rest left parts h = absurd h

  pub completes_live : (s : Status) → AnswersLive s source_old source_new old new → (s ≡ status.NoMemory) ⊎ ((s ≡ status.Fine) × TookLive input old.held new.held)
  completes_live s a =
      let left = split_left a.given input source_new.left (sym tells ∙ a.gave) in
      completes_given s a.given left.0 left.1 left.2 a.ends
