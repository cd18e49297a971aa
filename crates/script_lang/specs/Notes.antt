-- The texts of notes, one line each.
use Rattle.std.specs.Prelude.{ℕ, IsTrue, List, [], ◌∷◌, ◌++◌, codes}
use Rattle.hex.specs.Hex.{encode_lower}
use Rattle.op_base.specs.Message.{fits}
use Rattle.op_base.specs.declared.message.Message.{Message}
use Rattle.frame_codec.specs.Grammar.{frame_of}
use Rattle.frame_codec.specs.declared.version.Version.TheVariants.{Two}
use Rattle.causal_model.specs.declared.note.Note.{Note}
use Rattle.causal_model.specs.declared.note.Note.TheVariants.{Sent, Kept, Took, Crook, Regroup}
use Rattle.script_lang.specs.Replies.{joined, id_word}

-- the frame that is written of a message of epoch 0, in hexadecimal with letters in lower case
abbrev pub frame_word : ℕ → Message → List ℕ
frame_word n message = encode_lower (frame_of Two n 0 message)

-- What a note says, of a replica of n members. The end of an epoch has no line.
abbrev pub note_words : ℕ → Note → List (List ℕ)
note_words n (Sent message) = codes "sent" ∷ frame_word n message ∷ []
note_words n (Kept message) = codes "kept" ∷ frame_word n message ∷ []
note_words n (Took id) = codes "took" ∷ id_word id ∷ []
note_words n (Crook id) = codes "crook" ∷ id_word id ∷ []
note_words n (Regroup epoch members me) = []

-- the line of a note
abbrev pub note_line : ℕ → Note → List ℕ
note_line n note = joined (note_words n note) ++ 10 ∷ []

-- the note has a line: its message, where it has one, is one of a store of n members
abbrev pub HasLine : ℕ → Note → Type 0
HasLine n (Sent message) = IsTrue (fits n message)
HasLine n (Kept message) = IsTrue (fits n message)
HasLine n (Took id) = Unit {0}
HasLine n (Crook id) = Unit {0}
HasLine n (Regroup epoch members me) = ⊥
