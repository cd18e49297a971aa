-- Live runs: which texts are right for a live input.
use Rattle.std.specs.Prelude.{◌≡◌, ℕ, ◌<◌, ◌==◌, true, false, List, [], length, All, IsPermutation, if◌then◌else◌}
use Rattle.std.specs.List.{flat_map, slice_index_or}
use Rattle.causal_model.specs.Counts.{members}
use Rattle.causal_model.specs.declared.note.Note.{Note}
use Rattle.script_lang.specs.declared.live.LiveCommand.{LiveCommand}
use Rattle.world_model.specs.Settling.{round_of, is_quiescent}
use Rattle.live_run.specs.Inputs.{commands_in, commands_of, replica_of_client}
use Rattle.world_model.specs.Journals.{journal_of, world_of_journals, is_crook, AreJournals}
use Rattle.live_run.specs.Limits.{live_limit}
use Rattle.live_run.specs.Texts.{live_text}
use Rattle.live_run.specs.Told.{AreTold, PlacesRise, ok_numbers, sent_numbers}
use Rattle.live_run.specs.declared.input.NumberedLine.{NumberedLine}
use Rattle.live_run.specs.declared.told.Told.{Told}

-- what client c was told
abbrev pub told_to : List (List Told) → ℕ → List Told
told_to told c = slice_index_or told c []

-- the numbers that the clients at replica r were told, clients upwards
abbrev pub ok_numbers_at : ℕ → ℕ → List LiveCommand → List (List Told) → ℕ → List ℕ
ok_numbers_at n clients commands told r =
    flat_map (λ c. if replica_of_client n commands c == r then ok_numbers (told_to told c) else []) (members clients)

-- what clients were told, and the journals in the end: a run of the commands of a live input, at n members with a window w
pub record IsRun (n w clients : ℕ) (commands : List LiveCommand) (told : List (List Told)) (journals : List (List Note)) : Type 0 where
  pub of_each : length journals ≡ n
  pub to_each : length told ≡ clients
  -- each journal is legal and of one epoch, and what it kept stands as sent in the journal of its origin
  pub journals_are : ∥ AreJournals n w live_limit journals ∥₁
  -- nothing was crooked
  pub straight : (r : ℕ) → r < n → All (λ note. is_crook note ≡ false) (journal_of journals r)
  -- each command of each client has one reply, which is right at its place
  pub are_told : (c : ℕ) → c < clients
      → AreTold n w (replica_of_client n commands c) (journal_of journals (replica_of_client n commands c)) (commands_of c commands) (told_to told c)
  pub places_rise : (c : ℕ) → c < clients → PlacesRise (told_to told c)
  -- the notes that sent updates are one to one with the replies that say so
  pub one_to_one : (r : ℕ) → r < n → IsPermutation (sent_numbers (journal_of journals r)) (ok_numbers_at n clients commands told r)
  -- one more round of offers and beats delivers nothing and sends nothing, and all have delivered as many messages of each member
  pub still : (round_of (world_of_journals n w live_limit journals)).moved ≡ false
  pub settled : is_quiescent (world_of_journals n w live_limit journals) ≡ true

-- a text is right for lines, with n members, a window w and so many clients
pub record IsLiveText (n w clients : ℕ) (lines : List NumberedLine) (text : List ℕ) : Type 0 where
  pub told : List (List Told)
  pub journals : List (List Note)
  pub run : IsRun n w clients (commands_in lines) told journals
  pub is : text ≡ live_text n lines (world_of_journals n w live_limit journals) told journals
