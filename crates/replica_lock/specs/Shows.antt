-- The node shows what the last turn noted: what the rule of the lock asks of a story.
use Rattle.std.proofs.Common.{◌≡◌, ℕ, List, [], ◌∷◌, ◌++◌, refl, sym, ap, ◌∙◌}
use Rattle.std.proofs.lemmas.List.{append-nil, append_assoc, append_cancel_left}
use Rattle.causal_model.specs.declared.note.Note.{Note}
use Rattle.turn_lock.specs.Turns.{turn}
use Rattle.replica_lock.specs.Turns.{NotedNode, NotedTurn, Fits, notes_in}
use Rattle.replica_lock.specs.declared.pass.Settings.{Settings}

pub notes_append : (xs ys : List NotedTurn) → notes_in (xs ++ ys) ≡ notes_in xs ++ notes_in ys
notes_append [] ys = refl
notes_append (t ∷ xs) ys = ap (λ rest. t.what ++ rest) (notes_append xs ys) ∙ sym (append_assoc t.what (notes_in xs) (notes_in ys))

pub notes_with_turn : (xs : List NotedTurn) (by : ℕ) (what : List Note) → notes_in (xs ++ turn by what ∷ []) ≡ notes_in xs ++ what
notes_with_turn xs by what = notes_append xs (turn by what ∷ []) ∙ ap (λ rest. notes_in xs ++ rest) (append-nil what)

-- the node shows what the last turn noted
pub shows_notes : (key : Settings) (turns : List NotedTurn) (by : ℕ) (a b : List Note) (x : NotedNode) → Fits key (turns ++ turn by a ∷ []) x → Fits key (turns ++ turn by b ∷ []) x → a ≡ b
shows_notes key turns by a b x p q = append_cancel_left (notes_in turns) a b (sym (notes_with_turn turns by a) ∙ sym p.notes ∙ q.notes ∙ notes_with_turn turns by b)
