-- The text of a live run.
use Rattle.std.specs.Prelude.{ℕ, ◌+◌, List, [], ◌∷◌, ◌++◌, length, map, codes}
use Rattle.std.specs.List.{flat_map, slice_index_or}
use Rattle.std.specs.Fmt.{decimal}
use Rattle.op_base.specs.declared.name.ObjectId.{ObjectId}
use Rattle.op_base.specs.declared.outcome.Answer.{Answer}
use Rattle.causal_model.specs.Counts.{members}
use Rattle.causal_model.specs.History.{events}
use Rattle.causal_model.specs.Query.{answer}
use Rattle.causal_model.specs.State.{State, start}
use Rattle.causal_model.specs.declared.note.Note.{Note}
use Rattle.replica_node.specs.Nodes.{state_by}
use Rattle.replica_node.specs.Notes.{Notes}
use Rattle.replica_node.specs.contracts.journal.JournalRecorder.TheImpl.{ghosts}
use Rattle.replica_node.specs.declared.node.Node.{Node}
use Rattle.script_lang.specs.Notes.{note_line}
use Rattle.script_lang.specs.Replies.{joined, reply_words}
use Rattle.script_lang.specs.declared.live.LiveCommand.{LiveCommand}
use Rattle.script_lang.specs.declared.line.LineOf.{LineOf}
use Rattle.script_lang.specs.declared.line.LineOf.TheVariants.{Skip, Run, Bad, NoMemory}
use Rattle.script_lang.specs.declared.reply.Reply.{Reply}
use Rattle.script_lang.specs.declared.reply.Reply.TheVariants as reply
use Rattle.world_model.specs.World.{PlainWorld}
use Rattle.live_run.specs.Inputs.{commands_in, objects_in, object_text}
use Rattle.world_model.specs.Journals.{journal_of}
use Rattle.live_run.specs.declared.input.NumberedLine.{NumberedLine}
use Rattle.live_run.specs.declared.told.Told.{Told}

-- words as a line
abbrev pub line_with : List (List ℕ) → List ℕ
line_with words = joined words ++ 10 ∷ []

-- a line that is no command, and the number of its fault
abbrev pub bad_words : ℕ → LineOf LiveCommand → List ℕ
bad_words number (Bad code) = line_with (codes "bad" ∷ codes "line" ∷ decimal number ∷ decimal code ∷ [])
bad_words number (Run command) = []
bad_words number Skip = []
bad_words number NoMemory = []

abbrev pub bad_lines : List NumberedLine → List ℕ
bad_lines lines = flat_map (λ l. bad_words l.number l.line) lines

-- what client c was told of its command i
abbrev pub told_line : ℕ → ℕ → Told → List ℕ
told_line c i t = line_with (codes "reply" ∷ decimal c ∷ decimal i ∷ decimal t.place ∷ reply_words t.reply)

-- what client c was told, from its command i on
abbrev pub told_lines : ℕ → ℕ → List Told → List ℕ
told_lines c i [] = []
told_lines c i (t ∷ ts) = told_line c i t ++ told_lines c (i + 1) ts

-- what the clients from c on were told
abbrev pub reply_lines : ℕ → List (List Told) → List ℕ
reply_lines c [] = []
reply_lines c (ts ∷ later) = told_lines c 1 ts ++ reply_lines (c + 1) later

-- the journal of replica r of n
abbrev pub journal_lines : ℕ → ℕ → List Note → List ℕ
journal_lines n r notes = line_with (codes "journal" ∷ decimal r ∷ decimal (length notes) ∷ []) ++ flat_map (note_line n) notes

-- the journal of replica r among those of n members
abbrev pub journals_lines : ℕ → List (List Note) → ℕ → List ℕ
journals_lines n journals r = journal_lines n r (journal_of journals r)

-- what an object is at a state
abbrev pub answer_of : ObjectId → State → Answer
answer_of object state = answer object (events state.history)

-- what an object is at replica r, of those with these states
abbrev pub final_line : List State → ℕ → ObjectId → List ℕ
final_line states r object = line_with (codes "final" ∷ decimal r ∷ object_text object ∷ reply_words (reply.Is (answer_of object (slice_index_or states r (start 0 0)))))

-- what an object is at each replica, and what each object is that lines name
abbrev pub final_lines : ℕ → List State → ObjectId → List ℕ
final_lines n states object = flat_map (λ r. final_line states r object) (members n)

abbrev pub finals : ℕ → List NumberedLine → List State → List ℕ
finals n lines states = flat_map (final_lines n states) (objects_in (commands_in lines))

-- the text: the lines that are no commands, the replies, that all has settled, the journals, and what each object is at each
-- replica in the end
abbrev pub live_text : ℕ → List NumberedLine → PlainWorld → List (List Told) → List (List Note) → List ℕ
live_text n lines world told journals =
    bad_lines lines ++ (reply_lines 0 told ++ (line_with (codes "settled" ∷ [])
    ++ (flat_map (journals_lines n journals) (members n) ++ finals n lines world.replicas)))

-- a reply that a client can be told
abbrev pub IsClientReply : Reply → Type 0
IsClientReply (reply.Sent seq) = Unit {0}
IsClientReply reply.Busy = Unit {0}
IsClientReply reply.End = Unit {0}
IsClientReply (reply.Is answer) = Unit {0}
IsClientReply other = ⊥

-- the states that the journals of nodes give
abbrev pub states_of : List (Node Notes ghosts) → List State
states_of nodes = map (λ node. state_by node.first node.journal.notes) nodes
