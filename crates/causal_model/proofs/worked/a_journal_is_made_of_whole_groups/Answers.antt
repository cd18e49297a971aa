use Rattle.std.proofs.Common.{ℕ, List, [], ◌∷◌, ◌++◌, refl, sym, subst}
use Rattle.causal_model.specs.declared.note.Note.{Note}
use Rattle.causal_model.specs.declared.note.Note.TheVariants.{Sent, Kept, Took, Crook, Regroup}
use Rattle.causal_model.specs.State.{State, start}
use Rattle.causal_model.specs.Journal.{IsGroup, sent, beaten, received, regrouped_as, AreGroups, notes_of, IsLegal}
use Rattle.causal_model.specs.Worked.{inc_1, noop, numbered, id}
use Rattle.causal_model.proofs.worked.a_journal_is_made_of_whole_groups.Goals as goal

-- notes begin with no message that is taken or dropped
abbrev Opens : List Note → Type 0
Opens [] = Unit {0}
Opens (Sent m ∷ later) = Unit {0}
Opens (Kept m ∷ later) = Unit {0}
Opens (Took id ∷ later) = ⊥
Opens (Crook id ∷ later) = ⊥
Opens (Regroup epoch n me ∷ later) = Unit {0}

group_opens : (w limit : ℕ) (s : State) (group later : List Note) → IsGroup w limit s group → Opens (group ++ later)
group_opens w limit s _ later (sent update m _ _) = tt
group_opens w limit s _ later (beaten m _) = tt
group_opens w limit s _ later (received m _ _ _) = tt
group_opens w limit s _ later (regrouped_as n me _ _ _ _) = tt

groups_open : (w limit : ℕ) (s : State) (groups : List (List Note)) → AreGroups w limit s groups → Opens (notes_of groups)
groups_open w limit s [] are = tt
groups_open w limit s (group ∷ later) are = group_opens w limit s group (notes_of later) are.0

legal_opens : (n w limit me : ℕ) (notes : List Note) → IsLegal n w limit me notes → Opens notes
legal_opens n w limit me notes legal = subst Opens (sym legal.are_theirs) (groups_open w limit (start n me) legal.groups legal.are_groups)

pub returns : goal.returns
returns c = record {
  legal = record {
    groups = (Sent (numbered 1) ∷ []) ∷ (Kept (noop 1 (1 ∷ 1 ∷ [])) ∷ Took (id 1 1) ∷ []) ∷ [];
    are_groups = (sent inc_1 (numbered 1) refl refl, (received (noop 1 (1 ∷ 1 ∷ [])) refl refl refl, tt));
    are_theirs = refl;
  };
  untaken = λ n w limit me first later legal. legal_opens n w limit me (Took first ∷ later) legal;
  undropped = λ n w limit me first later legal. legal_opens n w limit me (Crook first ∷ later) legal;
}
