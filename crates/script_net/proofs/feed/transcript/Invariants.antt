use Rattle.std.proofs.Common.{◌≡◌, ℕ, List, [], length}
use Rattle.script_net.specs.Transcript.{transcript_of}
use Rattle.script_net.specs.Feeding.{IsDone, StandsAt}
use Rattle.script_net.proofs.feed.transcript.Given as goal

-- some lines are done, and what is left has the others
abbrev pub invariant-lines : goal.invariant-lines
invariant-lines l = record {
  done : List (List ℕ);
  cut : IsDone l.script done l.rest;
  part : l.feed.part ≡ [];
  stands : StandsAt l.feed.stage done;
  text : l.out ≡ transcript_of done;
}

abbrev pub decreases-lines : goal.decreases-lines
decreases-lines l = length l.rest
