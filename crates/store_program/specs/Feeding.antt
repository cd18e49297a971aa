-- How far the run of a script has come, whose bytes come in pieces, and what of its replies is written.
use Rattle.std.specs.Prelude.{◌≡◌, ℕ, ◌<◌, true, false, List, [], ◌++◌, Option}
use Rattle.store_io.specs.Bytes.{Took}
use Rattle.script_net.specs.Feeding.{StandsAt, IsDone, IsPart}
use Rattle.script_net.specs.Lines.{lines_of, ended_lines_of, from_command}
use Rattle.script_net.specs.Transcript.{is_no_script, lacks_header, transcript_of, transcript}
use Rattle.script_net.specs.declared.feed.Feed.{Feed}
use Rattle.script_net.specs.declared.feed.Stage.{Stage}
use Rattle.store_program.specs.declared.run.Status.{Status}
use Rattle.store_program.specs.declared.run.Status.TheVariants.{Fine, BadHeader, WriteFault, NoMemory}
use Rattle.store_program.specs.Run.{TookFront}

-- After these lines: where the script stands, and what the sink took of their replies, and what is held of them. No
-- write failed.
pub record GoesOn (stage : Stage) (done : List (List ℕ)) (out : List ℕ) (old new : Option (List ℕ)) (before after : ℕ) : Type 0 where
  pub stands : StandsAt stage done
  pub written : List ℕ
  pub took : Took old new written
  pub steady : after ≡ before
  pub text : written ++ out ≡ transcript_of done

-- why the run of these lines stopped, and what the sink then took
abbrev pub StopsAs : Status → List (List ℕ) → (old new : Option (List ℕ)) (before after : ℕ) → Type 0
StopsAs BadHeader lines old new before after = (lacks_header is_no_script false (from_command lines) ≡ true) × (new ≡ old)
StopsAs WriteFault lines old new before after =
    (before < after) × (transcript_of lines ≡ [] → ⊥) × TookFront old new (transcript_of lines)
StopsAs NoMemory lines old new before after = TookFront old new (transcript_of lines)
StopsAs other lines old new before after = ⊥

-- A script whose first bytes these are has come so far: the part behind the last newline waits, and the lines that have
-- ended are done.
pub record IsFed (feed : Feed) (bytes : List ℕ) (out : List ℕ) (old new : Option (List ℕ)) (before after : ℕ) : Type 0 where
  pub part : IsPart feed.part
  pub done : IsDone bytes (ended_lines_of bytes) feed.part
  pub goes : GoesOn feed.stage (ended_lines_of bytes) out old new before after

-- how a script whose bytes have all come ends
abbrev pub Concludes : Status → List ℕ → (old new : Option (List ℕ)) (before after : ℕ) → Type 0
Concludes Fine bytes old new before after = (lacks_header is_no_script true (from_command (lines_of bytes)) ≡ false) × Took old new (transcript bytes)
Concludes BadHeader bytes old new before after = (lacks_header is_no_script true (from_command (lines_of bytes)) ≡ true) × (new ≡ old)
Concludes WriteFault bytes old new before after =
    (before < after) × (transcript bytes ≡ [] → ⊥) × TookFront old new (transcript bytes)
Concludes NoMemory bytes old new before after = TookFront old new (transcript bytes)
Concludes other bytes old new before after = ⊥
