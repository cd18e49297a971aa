-- What was told by a front of a journal is told by the journal.
use Rattle.std.proofs.Common.{◌≡◌, ℕ, zero, suc, ◌≤◌, List, [], ◌∷◌, ◌++◌, length, take, refl, sym, ap, subst, arith}
use Rattle.std.proofs.lemmas.List.{length-append}
use Rattle.causal_model.specs.Journal.{IsLegal}
use Rattle.causal_model.specs.declared.note.Note.{Note}
use Rattle.script_lang.specs.declared.live.LiveCommand.{LiveCommand}
use Rattle.live_run.specs.Limits.{live_limit}
use Rattle.live_run.specs.Told.{IsReplyAfter, IsTold, AreTold}
use Rattle.live_run.specs.declared.told.Told.{Told}

take_front : {X : Type 0} (p : ℕ) (xs ys : List X) → p ≤ length xs → take p (xs ++ ys) ≡ take p xs
take_front zero xs ys l = refl
take_front (suc p) [] ys l = let no : ⊥ = omega (arith, l) in absurd no
take_front (suc p) (x ∷ xs) ys l = ap (λ rest. x ∷ rest) (take_front p xs ys (omega (arith, l)))

module _ (n w r : ℕ) (notes more : List Note) where
  told_longer : (command : LiveCommand) (told : Told) → IsTold n w r notes command told → IsTold n w r (notes ++ more) command told
  told_longer command told is =
      let same = sym (take_front told.place notes more is.within) in
      record {
        within = omega (arith, is.within, length-append notes more);
        whole = subst (λ l. ∥ IsLegal n w live_limit r l ∥₁) same is.whole;
        is = subst (λ l. IsReplyAfter n w r l command told.reply) same is.is;
      }

  pub are_told_longer : (commands : List LiveCommand) (told : List Told) → AreTold n w r notes commands told → AreTold n w r (notes ++ more) commands told
  are_told_longer [] [] are = tt
  are_told_longer [] (t ∷ ts) are = absurd are
  are_told_longer (c ∷ cs) [] are = absurd are
  are_told_longer (c ∷ cs) (t ∷ ts) are = (told_longer c t are.0, are_told_longer cs ts are.1)
