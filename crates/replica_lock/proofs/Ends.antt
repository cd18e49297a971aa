-- The end of a turn, by what its call noted.
use Rattle.std.proofs.Common.{◌≡◌, ℕ, ◌+◌, ◌<◌, ◌≤◌, List, [], ◌∷◌, ◌++◌, length, sym, ap, ◌∙◌, arith}
use Rattle.std.proofs.lemmas.List.{append-nil, length-append}
use Rattle.causal_model.specs.declared.note.Note.{Note}
use Rattle.turn_lock.specs.Turns.{turn, PassState, after_turn}
use Rattle.replica_lock.specs.Shows.{notes_with_turn}
use Rattle.replica_lock.specs.Turns.{NotedNode, NotedTurn, Fits, IsNodeOf, notes_in, turn_with}
use Rattle.replica_lock.specs.declared.pass.Settings.{Settings}

pub notes_with : (seen : List NotedTurn) (by : ℕ) (what : List Note) → notes_in (seen ++ turn_with by what) ≡ notes_in seen ++ what
notes_with seen by [] = ap notes_in (append-nil seen) ∙ sym (append-nil (notes_in seen))
notes_with seen by (note ∷ notes) = notes_with_turn seen by (note ∷ notes)

module _ (key : Settings) (seen : List NotedTurn) (by : ℕ) (node : NotedNode) (is : IsNodeOf key node) where
  -- a node that has noted this more fits the turns with one more
  pub fits_with : (what : List Note) → node.journal.notes ≡ notes_in seen ++ what → Fits key (seen ++ turn by what ∷ []) node
  fits_with what notes = record { is_node = is; notes = notes ∙ sym (notes_with_turn seen by what) }

  module _ (before place : ℕ) (counted : before ≡ length (notes_in seen)) (places : place ≡ length node.journal.notes) where
    noted_more : (what : List Note) → node.journal.notes ≡ notes_in seen ++ what → place ≡ before + length what
    noted_more what notes = places ∙ ap length notes ∙ length-append (notes_in seen) what ∙ ap (λ n. n + length what) (sym counted)

    module _ (old new : PassState (List Note) Settings) where
      -- a turn that noted something was recorded
      pub acted : before < place → ((e : List Note) → Fits key (seen ++ turn by e ∷ []) node → new ≡ after_turn (turn by e ∷ []) old)
          → (what : List Note) → node.journal.notes ≡ notes_in seen ++ what → new ≡ after_turn (turn_with by what) old
      acted more told [] notes = absurd (omega (arith, more, noted_more [] notes))
      acted more told (note ∷ rest) notes = told (note ∷ rest) (fits_with (note ∷ rest) notes)

      -- one that noted nothing was not
      pub left : place ≤ before → new ≡ after_turn [] old → (what : List Note) → node.journal.notes ≡ notes_in seen ++ what → new ≡ after_turn (turn_with by what) old
      left few told [] notes = told
      left few told (note ∷ rest) notes = absurd (omega (arith, few, noted_more (note ∷ rest) notes))
