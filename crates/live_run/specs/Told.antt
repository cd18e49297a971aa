-- What a client is told, by the journal of its replica: a reply at a place is what the rules answer after so many notes.
use Rattle.std.specs.Prelude.{◌≡◌, ℕ, ◌<◌, ◌≤◌, Bool, true, false, List, [], ◌∷◌, ◌++◌, length, take, AllPairs}
use Rattle.std.specs.List.{flat_map}
use Rattle.op_base.specs.Message.{number}
use Rattle.op_base.specs.declared.message.Message.{Message}
use Rattle.op_base.specs.declared.operation.Op.{Op}
use Rattle.op_base.specs.declared.operation.Op.TheVariants as op
use Rattle.op_base.specs.declared.operation.Update.{Update}
use Rattle.causal_model.specs.History.{events}
use Rattle.causal_model.specs.Journal.{IsLegal}
use Rattle.causal_model.specs.Query.{answer}
use Rattle.causal_model.specs.Sending.{local_rule}
use Rattle.causal_model.specs.declared.note.Note.{Note}
use Rattle.causal_model.specs.declared.note.Note.TheVariants as note
use Rattle.causal_model.specs.declared.outcome.Local.TheVariants as local
use Rattle.replica_node.specs.Nodes.{state_by}
use Rattle.script_lang.specs.declared.live.LiveCommand.{LiveCommand}
use Rattle.script_lang.specs.declared.live.LiveCommand.TheVariants.{Do, Ask}
use Rattle.script_lang.specs.declared.reply.Reply.{Reply}
use Rattle.script_lang.specs.declared.reply.Reply.TheVariants as reply
use Rattle.live_run.specs.Limits.{live_limit}
use Rattle.live_run.specs.declared.told.Told.{Told}

-- the last of these notes sends an update as message number
pub record EndsBySending (notes : List Note) (seq : ℕ) (update : Update) : Type 0 where
  pub earlier : List Note
  pub message : Message
  pub ends : notes ≡ earlier ++ note.Sent message ∷ []
  pub numbered : number message ≡ seq
  pub carries : message.op ≡ op.Update update

module _ (n w r : ℕ) where
  -- a reply to a command after these notes of replica r
  abbrev pub IsReplyAfter : List Note → LiveCommand → Reply → Type 0
  IsReplyAfter notes (Do c update) (reply.Sent seq) = EndsBySending notes seq update
  IsReplyAfter notes (Do c update) reply.Busy = (local_rule w live_limit update (state_by (r, n) notes)).0 ≡ local.Busy
  IsReplyAfter notes (Do c update) reply.End = (local_rule w live_limit update (state_by (r, n) notes)).0 ≡ local.End
  IsReplyAfter notes (Ask c object) (reply.Is a) = a ≡ answer object (events (state_by (r, n) notes).history)
  IsReplyAfter notes command other = ⊥

module _ (n w r : ℕ) (journal : List Note) where
  -- so many notes there are, and they are whole groups
  pub record IsTold (command : LiveCommand) (told : Told) : Type 0 where
    pub within : told.place ≤ length journal
    pub whole : ∥ IsLegal n w live_limit r (take told.place journal) ∥₁
    pub is : IsReplyAfter n w r (take told.place journal) command told.reply

  -- each command has one reply
  abbrev pub AreTold : List LiveCommand → List Told → Type 0
  AreTold [] [] = Unit {0}
  AreTold (command ∷ commands) (t ∷ ts) = IsTold command t × AreTold commands ts
  AreTold [] (t ∷ ts) = ⊥
  AreTold (command ∷ commands) [] = ⊥

-- whether a reply says that an update was sent
abbrev pub is_ok : Reply → Bool
is_ok (reply.Sent seq) = true
is_ok other = false

-- a client's places never go back, and where an update was sent the place has risen
pub record ComesAfter (earlier later : Told) : Type 0 where
  pub stays : earlier.place ≤ later.place
  pub rises : is_ok later.reply ≡ true → earlier.place < later.place

abbrev pub PlacesRise : List Told → Type 0
PlacesRise told = AllPairs ComesAfter told

-- the numbers that replies say, and those of the updates that notes sent
abbrev pub ok_number : Reply → List ℕ
ok_number (reply.Sent seq) = seq ∷ []
ok_number other = []

abbrev pub ok_numbers : List Told → List ℕ
ok_numbers told = flat_map (λ t. ok_number t.reply) told

abbrev pub carried_number : ℕ → Op → List ℕ
carried_number seq op.NoOp = []
carried_number seq (op.Update update) = seq ∷ []

abbrev pub sent_number : Note → List ℕ
sent_number (note.Sent m) = carried_number (number m) m.op
sent_number other = []

abbrev pub sent_numbers : List Note → List ℕ
sent_numbers notes = flat_map sent_number notes
