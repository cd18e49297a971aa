-- What came of the workers of a run, once their passes are back and the nodes closed.
use Rattle.std.specs.Prelude.{◌≡◌, ℕ, ◌+◌, ◌<◌, ◌≤◌, true, false, List, [], length, map, All, IsPermutation}
use Rattle.std.specs.List.{slice_index_or}
use Rattle.causal_model.specs.Journal.{IsLegal}
use Rattle.causal_model.specs.declared.note.Note.{Note}
use Rattle.mailboxes.specs.declared.seen.Posted.{Posted}
use Rattle.replica_lock.specs.Turns.{NotedNode, notes_in}
use Rattle.replica_lock.specs.declared.pass.Settings.{Settings}
use Rattle.script_lang.specs.declared.live.LiveCommand.{LiveCommand}
use Rattle.turn_lock.specs.Turns.{LockState}
use Rattle.world_model.specs.Journals.{journal_of, world_of_journals, ends_epoch, AreJournals, HaveGrown}
use Rattle.world_model.specs.Settling.{round_of, is_quiescent}
use Rattle.live_run.specs.Inputs.{commands_of, replica_of_client}
use Rattle.live_run.specs.Joining.{HaveNoted}
use Rattle.live_run.specs.Limits.{live_limit}
use Rattle.live_run.specs.Mails.{SentBy, KeptWasPosted}
use Rattle.live_run.specs.Runs.{told_to, ok_numbers_at, IsRun}
use Rattle.live_run.specs.Told.{AreTold, PlacesRise, ok_numbers, sent_numbers}
use Rattle.live_run.specs.Workers.{IsSentNote, settings_of}
use Rattle.live_run.specs.declared.joining.Back.{Back}
use Rattle.live_run.specs.declared.letter.Letter.{Letter}
use Rattle.live_run.specs.declared.told.Told.{Told}

-- the pass of a client, which was told this
pub record IsClientBack (n w r : ℕ) (commands : List LiveCommand) (told : List Told) (back : Back) : Type 0 where
  pub at_its : back.at ≡ r
  pub are_told : AreTold n w r (notes_in back.pass.seen) commands told
  pub places_rise : PlacesRise told
  pub sent : sent_numbers (notes_in back.pass.own) ≡ ok_numbers told
  pub only_sent : All IsSentNote (notes_in back.pass.own)

-- the pass of a courier, to whose mailbox these letters were posted
pub record IsCourierBack (r : ℕ) (posted : List (Posted Letter)) (back : Back) : Type 0 where
  pub at_its : back.at ≡ r
  pub kept : All (KeptWasPosted posted) (notes_in back.pass.own)
  pub noops : sent_numbers (notes_in back.pass.own) ≡ []
  pub one_epoch : All (λ note. ends_epoch note ≡ false) (notes_in back.pass.own)

-- the passes of all, clients upwards and then couriers
pub record AreBack (n w clients : ℕ) (commands : List LiveCommand) (told : List (List Told)) (posted : ℕ → List (Posted Letter)) (backs : List Back) : Type 0 where
  pub all : length backs ≡ clients + n
  pub to_each : length told ≡ clients
  pub client : (c : ℕ) (d : Back) → c < clients
      → IsClientBack n w (replica_of_client n commands c) (commands_of c commands) (told_to told c) (slice_index_or backs c d)
  pub courier : (r : ℕ) (d : Back) → r < n → IsCourierBack r (posted r) (slice_index_or backs (clients + r) d)

-- the journals of nodes
abbrev pub notes_of_each : List NotedNode → List (List Note)
notes_of_each nodes = map (λ node. node.journal.notes) nodes

-- What was told and what journals have, before they settle: as in a run, but that more may be delivered
pub record HasRun (n w clients : ℕ) (commands : List LiveCommand) (told : List (List Told)) (journals : List (List Note)) : Type 0 where
  pub of_each : length journals ≡ n
  pub to_each : length told ≡ clients
  pub journals_are : ∥ AreJournals n w live_limit journals ∥₁
  pub are_told : (c : ℕ) → c < clients
      → AreTold n w (replica_of_client n commands c) (journal_of journals (replica_of_client n commands c)) (commands_of c commands) (told_to told c)
  pub places_rise : (c : ℕ) → c < clients → PlacesRise (told_to told c)
  pub one_to_one : (r : ℕ) → r < n → IsPermutation (sent_numbers (journal_of journals r)) (ok_numbers_at n clients commands told r)

-- the locks of a run's members, in their order
pub record AreLocks (n w : ℕ) (locks : List (LockState Settings)) : Type 0 where
  pub of_each : length locks ≡ n
  pub keys : (r : ℕ) (d : LockState Settings) → r < n → (slice_index_or locks r d).key ≡ settings_of n w r

-- So it is where the passes of all workers are back, every node has noted what they did, and what was posted was sent; clients
-- work at members.
abbrev pub WorkersHaveRun : Type 0
WorkersHaveRun = (n w clients : ℕ) (commands : List LiveCommand) (told : List (List Told)) (posted : ℕ → List (Posted Letter)) (locks : List (LockState Settings)) (backs : List Back) (nodes : List NotedNode)
    → n ≤ 16 → ((c : ℕ) → c < clients → replica_of_client n commands c < n) → AreLocks n w locks → AreBack n w clients commands told posted backs → HaveNoted locks backs nodes
    → ((r : ℕ) → r < n → All (λ p. SentBy (journal_of (notes_of_each nodes)) p.by p.item) (posted r))
    → HasRun n w clients commands told (notes_of_each nodes)

-- The journals settled, by notes that sent no update: now it is a run.
abbrev pub SettledIsRun : Type 0
SettledIsRun = (n w clients : ℕ) (commands : List LiveCommand) (told : List (List Told)) (old new : List (List Note))
    → 1 ≤ n → n ≤ 16 → 1 ≤ w → ((c : ℕ) → c < clients → replica_of_client n commands c < n)
    → HasRun n w clients commands told old → HaveGrown old new → ((r : ℕ) → r < n → ∥ IsLegal n w live_limit r (journal_of new r) ∥₁)
    → (round_of (world_of_journals n w live_limit new)).moved ≡ false → is_quiescent (world_of_journals n w live_limit new) ≡ true
    → IsRun n w clients commands told new

-- ---- nodes

-- a node is that of member r of n, in a live run
pub record IsMember (n w r : ℕ) (node : NotedNode) : Type 0 where
  pub first : node.first ≡ (r, n)
  pub window : node.inner.w ≡ w
  pub limit : node.inner.limit ≡ live_limit

-- nodes are those of the members of one store, in their order
pub record AreMembers (n w : ℕ) (nodes : List NotedNode) : Type 0 where
  pub of_each : length nodes ≡ n
  pub each : (r : ℕ) (f : NotedNode) → r < n → IsMember n w r (slice_index_or nodes r f)

-- what came of a run of workers: what was told and noted, by nodes of the members
pub record HasEnded (n w clients : ℕ) (commands : List LiveCommand) (told : List (List Told)) (nodes : List NotedNode) : Type 0 where
  pub run : HasRun n w clients commands told (notes_of_each nodes)
  pub members : AreMembers n w nodes

-- nodes are those of members, and what one kept another sent
pub record AreApartIn (n w : ℕ) (nodes : List NotedNode) : Type 0 where
  pub some : 1 ≤ n
  pub few : n ≤ 16
  pub wide : 1 ≤ w
  pub members : AreMembers n w nodes
  pub journals : ∥ AreJournals n w live_limit (notes_of_each nodes) ∥₁

-- a run that has settled, by nodes of the members
pub record IsRunOf (n w clients : ℕ) (commands : List LiveCommand) (told : List (List Told)) (nodes : List NotedNode) : Type 0 where
  pub run : IsRun n w clients commands told (notes_of_each nodes)
  pub members : AreMembers n w nodes

-- nodes have settled: one more round delivers nothing and sends nothing, and all have delivered as many messages of each member
pub record HaveSettled (n w : ℕ) (nodes : List NotedNode) : Type 0 where
  pub members : AreMembers n w nodes
  pub still : (round_of (world_of_journals n w live_limit (notes_of_each nodes))).moved ≡ false
  pub settled : is_quiescent (world_of_journals n w live_limit (notes_of_each nodes)) ≡ true
